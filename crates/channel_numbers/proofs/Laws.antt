-- The number at a place moves by what joined its queue and what left it.
-- Assumes nothing.
use Prim.Native.Nat.{ℕ, zero, suc, ◌+◌, ◌-◌, ◌*◌, ◌/◌, ◌%◌, ◌^◌, ◌≤◌, ◌<◌}
use mathlib.Core.Path.{◌≡◌, refl, ap, ap₂, sym, subst, ◌∙◌}
use mathlib.Core.Bool.{Bool, true, false, not, ◌&&◌, ◌||◌}
use mathlib.Core.List.{List, [], ◌∷◌, ◌++◌, map, append-nil}
use native.Mathlib.Nat.{add-zero, zero-add, div-div-eq-div-mul, pow-suc}
use native.Mathlib.Omega.{arith}
use lib.Dec.{T, eqb, eqb→eq}
use lib.ListN.{length, get_or, set, take, drop, replicate, length-append, length-map, get_or-map}
use lib.Seq.{drop-cons, take-suc, take_all, length-take-le, get_or-append-add}
use Rattle.store.specs.machine.Numbers.{ADCMD_ALLOCATE}
use Rattle.std.specs.Prelude.{if◌then◌else◌}
use Rattle.store.specs.machine.Lists.{any, keep, among, distinct}
use Rattle.store.specs.machine.State.{Write, Channel as ChannelM, Lock, Request, State as StateM, free}
use Rattle.store.specs.machine.Maps.{odd, half}
use Rattle.display.specs.machine_laws.Sound.{Parts}
use Rattle.channel.specs.declared.Channel.{Channel}
use Rattle.channel.specs.Channel.{channel_of}
use Rattle.channel.proofs.Laws.{Few}
use Rattle.store.proofs.machine.Tests.{and_left, and_right, by_test, test_true, test_false, nor_right}
use Rattle.table.specs.memory.Splice.{splice, block}
use Rattle.table.proofs.memory.Splice.{splice_none, splice_snoc, splice_then}
use Rattle.table.specs.Entry.{write_entry, span_entry, wait_entry}
use Rattle.queue.specs.declared.Queue.{Queue}
use Rattle.queue.specs.Queue.{list_of}
use Rattle.store.specs.declared.State.{State}
use Rattle.store.specs.Store.{Item, write_item, lock_item, waiter_item, wait_item, write_items, items, keys, Each, lookup, request_in, state_in, Held}
use Rattle.store.proofs.Store.{parts_long, block_table_of, apart-items, held_parts, held_waiting, waiting-count, writes_few}
use Rattle.display.specs.machine_laws.Keeping.{wait_ids}
use Rattle.display.specs.Display.{names, naming, writes_on, number, corrected}
use Rattle.display.proofs.Acting.{waiting-apart}
use Rattle.lanes.specs.Lanes.{lane, Balanced}
use Rattle.lanes.proofs.Laws.{balanced_lane}
use Rattle.channel_numbers.specs.ChannelNumbers.{count_at, moved, Moves}
use Rattle.shifting.specs.Shifting.{shifted}

-- ---- the lengths of the queues

pub lengths_each : (cs : List Channel) (ns : List ℕ) → length ns ≡ length cs
    → ((i : ℕ) → i < length cs → get_or ns i 0 ≡ (get_or cs i (channel_of free)).writes.n) → ns ≡ map (λ x. x.writes.n) cs
lengths_each [] [] e f = refl
lengths_each [] (n ∷ ns) e f = absurd (omega arith)
lengths_each (c ∷ cs) [] e f = absurd (omega arith)
lengths_each (c ∷ cs) (n ∷ ns) e f = ap₂ ◌∷◌ (f 0 (omega arith)) (lengths_each cs ns (omega arith) (λ i h. f (suc i) (omega arith)))

-- ---- a byte of the display

moved-append : (m l : ℕ → ℕ) (j : ℕ) (xs ys : List ℕ) → moved m l j (xs ++ ys) ≡ moved m l j xs ++ moved m l (j + length xs) ys
unfolding moved
moved-append m l j [] ys = ap (λ (k : ℕ). moved m l k ys) (sym (add-zero j))
moved-append m l j (x ∷ xs) ys =
    let e : suc j + length xs ≡ j + length (x ∷ xs) = omega arith in
    ap (λ (zs : List ℕ). shifted x (m j) (l j) ∷ zs) (moved-append m l (suc j) xs ys ∙ ap (λ (k : ℕ). moved m l (suc j) xs ++ moved m l k ys) e)

pub length_moved : (m l : ℕ → ℕ) (j : ℕ) (xs : List ℕ) → length (moved m l j xs) ≡ length xs
unfolding moved
length_moved m l j [] = refl
length_moved m l j (x ∷ xs) = ap suc (length_moved m l (suc j) xs)

-- what joined and what left move a count as far as the count itself has moved
shifted_is : (b m l before after : ℕ) → l ≤ 256 → after + l ≡ before + m → shifted b m l ≡ (b + after + 255 * before) % 256
shifted_is b m l before after h e = omega (arith, h, e)

get_d_splice : (l vs : List ℕ) (j : ℕ) → length vs ≡ j → j < length l → get_or (splice l 0 vs) j 0 ≡ get_or l j 0
unfolding splice
get_d_splice l vs j a h =
    let e : j ≡ length vs + 0 = omega (arith, a) in
    ap (λ (k : ℕ). get_or (vs ++ drop (0 + length vs) l) k 0) e
    ∙ (get_or-append-add vs (drop (0 + length vs) l) 0 0
    ∙ (ap (λ (k : ℕ). get_or (drop k l) 0 0) (zero-add (length vs) ∙ a) ∙ ap (λ (x : List ℕ). get_or x 0 0) (drop-cons l j 0 h)))

module _ (m l : ℕ → ℕ) (d₀ : List ℕ) (j : ℕ) (h : j < length d₀) where
  pub moved_turn : (d : List ℕ) → d ≡ splice d₀ 0 (moved m l 0 (take j d₀)) → splice d j (shifted (get_or d j 0) (m j) (l j) ∷ []) ≡ splice d₀ 0 (moved m l 0 (take (j + 1) d₀))
  unfolding moved splice
  moved_turn d e =
      let vs = moved m l 0 (take j d₀) in
      let a : length vs ≡ j = length_moved m l 0 (take j d₀) ∙ length-take-le j d₀ (omega arith) in
      let b : get_or d j 0 ≡ get_or d₀ j 0 = ap (λ (x : List ℕ). get_or x j 0) e ∙ get_d_splice d₀ vs j a h in
      let y : ℕ = shifted (get_or d₀ j 0) (m j) (l j) in
      let u : shifted (get_or d j 0) (m j) (l j) ≡ y = ap (λ (x : ℕ). shifted x (m j) (l j)) b in
      let k : j + 1 ≡ suc j = omega arith in
      let w : moved m l 0 (take (j + 1) d₀) ≡ vs ++ y ∷ [] =
      ap (λ (x : ℕ). moved m l 0 (take x d₀)) k
      ∙ (ap (moved m l 0) (take-suc d₀ j 0 h) ∙ (moved-append m l 0 (take j d₀) (get_or d₀ j 0 ∷ [])
      ∙ ap (λ (x : ℕ). vs ++ shifted (get_or d₀ j 0) (m x) (l x) ∷ []) (zero-add (length (take j d₀)) ∙ length-take-le j d₀ (omega arith)))) in
      ap₂ (λ (x : List ℕ) (v : ℕ). splice x j (v ∷ [])) e u ∙ (splice_then d₀ 0 vs (y ∷ []) j (omega arith) (omega arith) ∙ ap (splice d₀ 0) (sym w))

-- ---- what is counted for a place

pub count_even : (ns : List ℕ) (w c : ℕ) → count_at ns w (2 * c) ≡ get_or ns c 0
unfolding odd half
count_even ns w c =
    let e : 2 * c % 2 ≡ 0 = omega arith in
    let f : 2 * c / 2 ≡ c = omega arith in
    rw (e, f) refl

pub count-odd : (ns : List ℕ) (w c : ℕ) → count_at ns w (2 * c + 1) ≡ lane c w
unfolding odd half
count-odd ns w c =
    let e : (2 * c + 1) % 2 ≡ 1 = omega arith in
    let f : (2 * c + 1) / 2 ≡ c = omega arith in
    rw (e, f) refl

-- a place is a channel's first or second
by_place : (P : ℕ → Type 0) → ((c : ℕ) → c < 8 → P (2 * c)) → ((c : ℕ) → c < 8 → P (2 * c + 1)) → (j : ℕ) → j < 16 → P j
by_place P even odd' j h = go (j % 2) refl
  where
    go : (r : ℕ) → j % 2 ≡ r → P j
    go zero e = subst P (let f : 2 * (j / 2) ≡ j = omega (arith, e) in f) (even (j / 2) (omega (arith, h)))
    go (suc r) e = subst P (let f : 2 * (j / 2) + 1 ≡ j = omega (arith, e) in f) (odd' (j / 2) (omega (arith, h)))

-- ---- the number at a place

even_is : (c : ℕ) (s : StateM) → number (2 * c) s ≡ writes_on c s
unfolding number odd half
even_is c s =
    let e : 2 * c % 2 ≡ 0 = omega arith in
    let f : 2 * c / 2 ≡ c = omega arith in
    rw (e, f) refl

odd_is : (c : ℕ) (s : StateM) → number (2 * c + 1) s ≡ naming c s
unfolding number odd half
odd_is c s =
    let e : (2 * c + 1) % 2 ≡ 1 = omega arith in
    let f : (2 * c + 1) / 2 ≡ c = omega arith in
    rw (e, f) refl

-- a queue knows its length
pub writes_are : {st : State} {tb : List ℕ} → Held st tb → (c : ℕ) → get_or (map (λ x. x.writes.n) st.channels) c 0 ≡ writes_on c (state_in st tb)
unfolding writes_on
writes_are {st} {tb} h c =
    let s = state_in st tb in
    ap (λ (x : State). get_or (map (λ y. y.writes.n) x.channels) c 0) h.struct ∙ (ap (λ (x : List ℕ). get_or x c 0) (lengths_of s.channels) ∙ get_or-map (λ (x : ChannelM). length x.writes) s.channels c free)
  where
    lengths_of : (cs : List ChannelM) → map (λ y. y.writes.n) (map channel_of cs) ≡ map (λ (x : ChannelM). length x.writes) cs
    lengths_of [] = refl
    lengths_of (x ∷ cs) = ap₂ ◌∷◌ (length-map x.writes (λ (w : Write). w.id)) (lengths_of cs)

module _ {st st' : State} {tb tb' : List ℕ} (h : Held st tb) (h' : Held st' tb') (c : ℕ) where
  pub writes_move : {o n : ℕ} → o ≡ get_or (map (λ x. x.writes.n) st.channels) c 0 → n ≡ get_or (map (λ x. x.writes.n) st'.channels) c 0
      → number (2 * c) (state_in st' tb') + o ≡ number (2 * c) (state_in st tb) + n
  writes_move a b = omega (arith, a, b, writes_are h c, writes_are h' c, even_is c (state_in st tb), even_is c (state_in st' tb'))

  pub naming_move : {l j : ℕ} → Balanced (state_in st tb).waiting (state_in st' tb').waiting l j → c < 8
      → number (2 * c + 1) (state_in st' tb') + lane c l ≡ number (2 * c + 1) (state_in st tb) + lane c j
  unfolding naming
  naming_move {l} {j} b k =
      let s = state_in st tb in
      let t = state_in st' tb' in
      let n : length s.waiting ≤ 64 = omega (arith, length-map (list_of st.waiting) (request_in tb), (waiting-count h).0, (waiting-count h).1) in
      omega (arith, odd_is c s, odd_is c t, balanced_lane b n c k)

-- ---- the loop over the channels

abbrev pub Corrected : List ℕ → List ℕ → ℕ → ℕ → List ℕ → List ℕ → ℕ → Type 0
Corrected old new left joined d₀ d c = d ≡ splice d₀ 0 (moved (count_at new joined) (count_at old left) 0 (take (2 * c) d₀))

module _ (old new : List ℕ) (left joined : ℕ) (d₀ : List ℕ) where
  pub corrected_start : Corrected old new left joined d₀ d₀ 0
  unfolding moved
  corrected_start = sym (splice_none d₀ 0)

  pub corrected_two : {d d₁ d₂ : List ℕ} (c j g : ℕ) → Corrected old new left joined d₀ d c → 2 * c + 1 < length d₀
      → d₁ ≡ splice d (2 * c) (shifted (get_or d (2 * c) 0) (get_or new c 0) (get_or old c 0) ∷ [])
      → d₂ ≡ splice d₁ (2 * c + 1) (shifted (get_or d₁ (2 * c + 1) 0) j g ∷ [])
      → j ≡ lane c joined → g ≡ lane c left → Corrected old new left joined d₀ d₂ (c + 1)
  corrected_two {d} {d₁} {d₂} c j g i h e f x y =
      let m = count_at new joined in
      let l = count_at old left in
      let p : d₁ ≡ splice d (2 * c) (shifted (get_or d (2 * c) 0) (m (2 * c)) (l (2 * c)) ∷ []) =
      e ∙ ap₂ (λ (v w : ℕ). splice d (2 * c) (shifted (get_or d (2 * c) 0) v w ∷ [])) (sym (count_even new joined c)) (sym (count_even old left c)) in
      let a = p ∙ moved_turn m l d₀ (2 * c) (omega (arith, h)) d i in
      let q : d₂ ≡ splice d₁ (2 * c + 1) (shifted (get_or d₁ (2 * c + 1) 0) (m (2 * c + 1)) (l (2 * c + 1)) ∷ []) =
      f ∙ ap₂ (λ (v w : ℕ). splice d₁ (2 * c + 1) (shifted (get_or d₁ (2 * c + 1) 0) v w ∷ [])) (x ∙ sym (count-odd new joined c)) (y ∙ sym (count-odd old left c)) in
      let k : 2 * c + 1 + 1 ≡ 2 * (c + 1) = omega arith in
      q ∙ (moved_turn m l d₀ (2 * c + 1) h d₁ a ∙ ap (λ (n : ℕ). splice d₀ 0 (moved m l 0 (take n d₀))) k)

-- the lanes from c on
pub lanes_next : (w x c : ℕ) → x ≡ w / 256 ^ c → x / 256 ≡ w / 256 ^ (c + 1)
lanes_next w x c e =
    let k : c + 1 ≡ suc c = omega arith in
    ap (λ (y : ℕ). y / 256) e ∙ (div-div-eq-div-mul w (256 ^ c) 256 ∙ ap (λ (y : ℕ). w / y) (sym (pow-suc 256 c) ∙ ap (λ (n : ℕ). 256 ^ n) (sym k)))

few_at : (cs : List ChannelM) → Few cs → (c : ℕ) → length (get_or cs c free).writes ≤ 64
few_at [] f c = omega arith
few_at (x ∷ cs) f zero = f.0
few_at (x ∷ cs) f (suc c) = few_at cs f.1 c

few_on : (s : StateM) → Parts s → (c : ℕ) → writes_on c s ≤ 64
unfolding writes_on
few_on s p c = few_at s.channels (writes_few s p) c

pub moves_held : {st st' : State} {tb tb' : List ℕ} {l j : ℕ} → Held st tb → Held st' tb' → Balanced (state_in st tb).waiting (state_in st' tb').waiting l j
    → Moves (state_in st tb) (state_in st' tb') (count_at (map (λ x. x.writes.n) st'.channels) j) (count_at (map (λ x. x.writes.n) st.channels) l)
moves_held {st} {st'} {tb} {tb'} {l} {j} h h' b =
    let old = map (λ (x : Channel). x.writes.n) st.channels in
    let new = map (λ (x : Channel). x.writes.n) st'.channels in
    let s = state_in st tb in
    let t = state_in st' tb' in
    record {
      few = by_place (λ i. count_at old l i ≤ 256)
          (λ c k. omega (arith, count_even old l c, writes_are h c, few_on s (held_parts h) c))
          (λ c k. omega (arith, count-odd old l c));
      by = by_place (λ i. number i t + count_at old l i ≡ number i s + count_at new j i)
          (λ c k. writes_move h h' c (count_even old l c) (count_even new j c))
          (λ c k. omega (arith, count-odd old l c, count-odd new j c, naming_move h h' c b k));
    }

-- where each count moves so, the numbers that are moved are those that are corrected
pub moved-corrected : {s t : StateM} {m l : ℕ → ℕ} → Moves s t m l → (j : ℕ) (bs : List ℕ) → j + length bs ≤ 16 → moved m l j bs ≡ corrected s t j bs
unfolding moved corrected
moved-corrected v j [] h = refl
moved-corrected {s} {t} {m} {l} v j (b ∷ bs) h =
    let k : j < 16 = omega arith in
    ap₂ ◌∷◌ (shifted_is b (m j) (l j) (number j s) (number j t) (v.few j k) (v.by j k)) (moved-corrected v (suc j) bs (omega arith))
