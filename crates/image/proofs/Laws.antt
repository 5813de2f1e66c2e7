-- A struct and its bytes: what the stores leave, and that each is read back from the other. Assumes nothing.
use Prim.Native.Nat.{ℕ, zero, suc, ◌+◌, ◌*◌, ◌≤◌, ◌<◌}
use mathlib.Core.Path.{◌≡◌, refl, ap, sym, ◌∙◌}
use mathlib.Core.Bool.{Bool, true, false, ◌&&◌}
use mathlib.Core.List.{List, [], ◌∷◌, ◌++◌, append_assoc, append-nil}
use native.Mathlib.Omega.{arith}
use native.Mathlib.Numerals.{add-one}
use lib.Dec.{eqb, eqb→eq}
use lib.ListN.{length, get_or, take, drop, set, length-append, drop_of_length-le}
use lib.Seq.{take-suc, take_all}
use borrow.Author.Tests.{lt-ltb, eq-eqb, ne_eqb}
use mir.Val.{bool_byte}
use Rattle.memory.specs.Splice.{splice}
use Rattle.memory.proofs.Splice.{splice_none, set-splice, splice-append, splice_then, splice_snoc, length-splice}
use Rattle.open_keys.specs.machine.Lists.{all}
use Rattle.open_keys.proofs.machine.Tests.{and_left}
use Rattle.open_keys.specs.machine.InBytes.{mark_of, two_bytes}
use Rattle.open_keys.specs.queue.declared.Queue.{Queue}
use Rattle.open_keys.specs.declared.Keys.{Keys}
use Rattle.board.specs.channel.declared.Channel.{Channel}
use Rattle.board.specs.declared.Board.{Board}
use Rattle.image.specs.Image.{keys_bytes, open_bytes, queue_bytes, channel_bytes, channels_bytes, image_of, key_at, open_at, queue_at, channel_at, channels_at, state_of, is_byte, all_marks, is_whole, Whole, Filled, AllFilled, Wrote, Entered}

-- ---- the test

and_on : (b : Bool) → (b && true) ≡ b
and_on true = refl
and_on false = refl

-- what stands in a lent slice are bytes
pub bytes_all : (bs : List ℕ) → ((i : ℕ) → get_or bs i 0 < 256) → all is_byte bs ≡ true
unfolding all
bytes_all [] h = refl
bytes_all (b ∷ bs) h = rw (lt-ltb b 256 (h 0)) (bytes_all bs (λ i. h (suc i)))

module _ (bs : List ℕ) where
  pub not_long : (length bs ≡ 823 → ⊥) → false ≡ is_whole bs
  unfolding is_whole
  not_long n = rw (ne_eqb (length bs) 823 n)

  pub whole_long : Whole bs → length bs ≡ 823
  unfolding is_whole
  whole_long w = eqb→eq (length bs) 823 (and_left (eqb (length bs) 823) _ w)

  pub the_marks : length bs ≡ 823 → ((i : ℕ) → get_or bs i 0 < 256) → all_marks 8 bs 0 ≡ is_whole bs
  unfolding is_whole
  the_marks l h = rw (eq-eqb (length bs) 823 l, bytes_all bs h) (sym (and_on (all_marks 8 bs 0)))

-- ---- a mark

-- as the standard library makes a byte of a truth value
pub byte_mark : (b : Bool) → bool_byte b ≡ mark_of b
byte_mark true = refl
byte_mark false = refl

-- ---- splice

-- a run over all of a list is the list
pub splice_whole : (l vs : List ℕ) → length vs ≡ length l → splice l 0 vs ≡ vs
unfolding splice
splice_whole l vs h =
    let z : 0 + length vs ≡ length l = omega arith in
    let e : drop (0 + length vs) l ≡ [] = drop_of_length-le l {i = 0 + length vs} (omega arith) in
    ap (λ (x : List ℕ). vs ++ x) e ∙ append-nil vs

pub wrote-length : {l : List ℕ} {at : ℕ} {vs : List ℕ} {n : ℕ} {l' : List ℕ} → Wrote l at vs n l' → at + n ≤ length l → length l' ≡ length l
wrote-length {l} {at} {vs} w h = let e = w.size in ap length w.bytes ∙ length-splice l at vs (omega arith)

-- ---- a queue

pub queue-wrote : (l : List ℕ) (at n : ℕ) (ids : List ℕ) → length ids ≡ 64 → at + 65 ≤ length l
    → Wrote l at (n ∷ ids) 65 (splice (set l at n) (at + 1) ids)
queue-wrote l at n ids h g =
    record {
      bytes = rw (set-splice l at n (omega arith)) (splice-append l at (n ∷ []) ids (omega arith));
      size = omega arith;
    }

pub queue-filled : {l : List ℕ} {at : ℕ} {q : Queue} {l' : List ℕ} → Wrote l at (queue_bytes q) 65 l' → Filled q
queue-filled w = let e = w.size in omega arith

-- ---- channels

pub channel_read : (bs : List ℕ) (at : ℕ) {k p : ℕ} {l s : Bool} {q : Queue} → k ≡ key_at bs at → p ≡ get_or bs (at + 2) 0 → l ≡ eqb (get_or bs (at + 3) 0) 1
    → s ≡ eqb (get_or bs (at + 4) 0) 1 → q ≡ queue_at bs (at + 5)
    → ◌≡◌ {A = Channel} (record { key = k; prec = p; locked = l; stopped = s; writes = q }) (channel_at bs at)
unfolding channel_at
channel_read bs at k p l s q i = record { key = k i; prec = p i; locked = l i; stopped = s i; writes = q i }

pub channel-wrote : (l : List ℕ) (at : ℕ) (c : Channel) {m₁ m₂ : ℕ} {l₁ l₂ : List ℕ} → at + 70 ≤ length l
    → l₁ ≡ splice l at (two_bytes c.key) → m₁ ≡ mark_of c.locked → m₂ ≡ mark_of c.stopped
    → Wrote (set (set (set l₁ (at + 2) c.prec) (at + 3) m₁) (at + 4) m₂) (at + 5) (queue_bytes c.writes) 65 l₂
    → Wrote l at (channel_bytes c) 70 l₂
unfolding channel_bytes
channel-wrote l at c h p a b w =
    let k = two_bytes c.key in
    record {
      bytes =
          w.bytes ∙ (rw (p, a, b, splice_snoc l at k c.prec (omega arith), splice_snoc l at (k ++ c.prec ∷ []) (mark_of c.locked) (omega arith), splice_snoc l at (k ++ c.prec ∷ mark_of c.locked ∷ []) (mark_of c.stopped) (omega arith))
          (splice-append l at (k ++ c.prec ∷ mark_of c.locked ∷ mark_of c.stopped ∷ []) (queue_bytes c.writes) (omega arith)));
      size = let e = w.size in omega arith;
    }

pub channels-append : (cs ds : List Channel) → channels_bytes (cs ++ ds) ≡ channels_bytes cs ++ channels_bytes ds
unfolding channels_bytes
channels-append [] ds = refl
channels-append (c ∷ cs) ds = ap (λ (x : List ℕ). channel_bytes c ++ x) (channels-append cs ds) ∙ sym (append_assoc (channel_bytes c) (channels_bytes cs) (channels_bytes ds))

pub channels_one : (c : Channel) → channels_bytes (c ∷ []) ≡ channel_bytes c
unfolding channels_bytes
channels_one c = append-nil (channel_bytes c)

pub channels_none : channels_bytes [] ≡ []
unfolding channels_bytes
channels_none = refl

pub channels_start : (l : List ℕ) (cs : List Channel) → Wrote l 0 (channels_bytes (take 0 cs)) 0 l
channels_start l cs = record { bytes = rw channels_none (sym (splice_none l 0)); size = rw channels_none refl }

-- one channel more
pub channels_turn : (l : List ℕ) (cs : List Channel) (i : ℕ) (d : Channel) {l₁ l₂ : List ℕ} → i < length cs → i * 70 ≤ length l
    → Wrote l 0 (channels_bytes (take i cs)) (i * 70) l₁ → Wrote l₁ (i * 70) (channel_bytes (get_or cs i d)) 70 l₂
    → Wrote l 0 (channels_bytes (take (i + 1) cs)) ((i + 1) * 70) l₂
channels_turn l cs i d h g p w =
    let c = get_or cs i d in
    let vs = channels_bytes (take i cs) in
    let e : channels_bytes (take (i + 1) cs) ≡ vs ++ channel_bytes c =
    rw (add-one, take-suc cs i d h) (channels-append (take i cs) (c ∷ []) ∙ ap (λ (x : List ℕ). vs ++ x) (channels_one c)) in
    let z = p.size in
    let y = w.size in
    record {
      bytes = w.bytes ∙ (rw (p.bytes, e) (splice_then l 0 vs (channel_bytes c) (i * 70) (omega arith) (omega arith)));
      size = rw (e, length-append) (omega arith);
    }

channel-filled : (c : Channel) → length (channel_bytes c) ≡ 70 → Filled c.writes
unfolding channel_bytes
channel-filled c h = omega arith

-- what holds of each of the first, and of the next one
each_more : (cs : List Channel) (i : ℕ) (d : Channel) → i < length cs → AllFilled (take i cs) → Filled (get_or cs i d).writes → AllFilled (take (suc i) cs)
each_more [] i d h a f = absurd (omega arith)
each_more (c ∷ cs) zero d h a f = (f, tt)
each_more (c ∷ cs) (suc i) d h a f = (a.0, each_more cs i d (omega arith) a.1 f)

pub filled_turn : (cs : List Channel) (i : ℕ) (d : Channel) {at : ℕ} {l₁ l₂ : List ℕ} → i < length cs → AllFilled (take i cs)
    → Wrote l₁ at (channel_bytes (get_or cs i d)) 70 l₂ → AllFilled (take (i + 1) cs)
filled_turn cs i d h a w = rw add-one (each_more cs i d h a (channel-filled (get_or cs i d) w.size))

pub channels-entered : (l : List ℕ) (cs : List Channel) {l₁ : List ℕ} → length cs ≡ 8 → AllFilled (take 8 cs) → Wrote l 0 (channels_bytes (take 8 cs)) 560 l₁
    → Entered l cs l₁
channels-entered l cs h a w = let e = take_all 8 cs (omega arith) in record { eight = h; filled = rw e at a; wrote = rw e at w }

-- ---- the open keys

keys-append : (js ks : List ℕ) → keys_bytes (js ++ ks) ≡ keys_bytes js ++ keys_bytes ks
unfolding keys_bytes
keys-append [] ks = refl
keys-append (j ∷ js) ks = ap (λ (x : List ℕ). two_bytes j ++ x) (keys-append js ks) ∙ sym (append_assoc (two_bytes j) (keys_bytes js) (keys_bytes ks))

keys_one : (k : ℕ) → keys_bytes (k ∷ []) ≡ two_bytes k
unfolding keys_bytes
keys_one k = refl

keys_none : keys_bytes [] ≡ []
unfolding keys_bytes
keys_none = refl

pub keys_start : (l : List ℕ) (at : ℕ) (ks : List ℕ) → Wrote l at (keys_bytes (take 0 ks)) 0 l
keys_start l at ks = record { bytes = rw keys_none (sym (splice_none l at)); size = rw keys_none refl }

-- one key more
pub keys_turn : (l : List ℕ) (at : ℕ) (ks : List ℕ) (i : ℕ) {l₁ l₂ : List ℕ} → i < length ks → at + i * 2 ≤ length l
    → Wrote l at (keys_bytes (take i ks)) (i * 2) l₁ → l₂ ≡ splice l₁ (at + 2 * i) (two_bytes (get_or ks i 0))
    → Wrote l at (keys_bytes (take (i + 1) ks)) ((i + 1) * 2) l₂
keys_turn l at ks i h g p w =
    let k = get_or ks i 0 in
    let vs = keys_bytes (take i ks) in
    let e : keys_bytes (take (i + 1) ks) ≡ vs ++ two_bytes k =
    rw (add-one, take-suc ks i 0 h) (keys-append (take i ks) (k ∷ []) ∙ ap (λ (x : List ℕ). vs ++ x) (keys_one k)) in
    let z = p.size in
    record {
      bytes = w ∙ (rw (p.bytes, e) (splice_then l at vs (two_bytes k) (at + 2 * i) (omega arith) (omega arith)));
      size = rw (e, length-append) (omega arith);
    }

pub keys_all : (l : List ℕ) (at : ℕ) (ks : List ℕ) {l₁ : List ℕ} → length ks ≡ 32 → Wrote l at (keys_bytes (take 32 ks)) 64 l₁ → Wrote l at (keys_bytes ks) 64 l₁
keys_all l at ks h w = rw (take_all 32 ks (omega arith)) at w

pub open_wrote : (l : List ℕ) (at : ℕ) (q : Keys) {l₂ : List ℕ} → at + 65 ≤ length l → Wrote (set l at q.n) (at + 1) (keys_bytes q.keys) 64 l₂ → Wrote l at (open_bytes q) 65 l₂
open_wrote l at q h w =
    record {
      bytes = w.bytes ∙ (rw (set-splice l at q.n (omega arith)) (splice-append l at (q.n ∷ []) (keys_bytes q.keys) (omega arith)));
      size = let e = w.size in omega arith;
    }

keys_twice : (ks : List ℕ) → length (keys_bytes ks) ≡ length ks * 2
unfolding keys_bytes
keys_twice [] = refl
keys_twice (k ∷ ks) = let h = keys_twice ks in omega arith

pub open_filled : {l : List ℕ} {at : ℕ} (q : Keys) {l' : List ℕ} → Wrote l at (open_bytes q) 65 l' → length q.keys ≡ 32
open_filled q w = let e = w.size in let k = keys_twice q.keys in omega arith

-- ---- the whole

regroup : (t u v w x y z : List ℕ) → (((((t ++ u) ++ v) ++ w) ++ x) ++ y) ++ z ≡ t ++ (u ++ (v ++ (w ++ (x ++ (y ++ z)))))
regroup t u v w x y z = simp append_assoc

module _ (l : List ℕ) (b : Board) (h : length l ≡ 823) where
  pub state-wrote : {l₁ l₂ l₃ l₄ l₅ l₆ : List ℕ} → Wrote l 0 (channels_bytes b.state.channels) 560 l₁ → Wrote l₁ 560 (queue_bytes b.state.locks) 65 l₂
      → Wrote l₂ 625 (queue_bytes b.state.waiters) 65 l₃ → Wrote l₃ 690 (queue_bytes b.state.waiting) 65 l₄ → Wrote l₄ 755 (open_bytes b.state.opens) 65 l₅
      → l₆ ≡ splice l₅ 820 (two_bytes b.state.last) → set l₆ 822 b.width ≡ image_of b
  unfolding image_of
  state-wrote {l₁} {l₂} {l₃} {l₄} {l₅} {l₆} a b' g c d e =
      let s = channels_bytes b.state.channels in
      let u = queue_bytes b.state.locks in
      let v = queue_bytes b.state.waiters in
      let w = queue_bytes b.state.waiting in
      let x = open_bytes b.state.opens in
      let y = two_bytes b.state.last in
      let p = a.size in
      let q = b'.size in
      let k = g.size in
      let r = c.size in
      let t = d.size in
      let su : length (s ++ u) ≡ 625 = rw length-append (omega arith) in
      let suv : length ((s ++ u) ++ v) ≡ 690 = rw length-append (omega arith) in
      let suvw : length (((s ++ u) ++ v) ++ w) ≡ 755 = rw length-append (omega arith) in
      let suvwx : length ((((s ++ u) ++ v) ++ w) ++ x) ≡ 820 = rw length-append (omega arith) in
      let suvwxy : length (((((s ++ u) ++ v) ++ w) ++ x) ++ y) ≡ 822 = rw length-append (omega arith) in
      let all : length ((((((s ++ u) ++ v) ++ w) ++ x) ++ y) ++ b.width ∷ []) ≡ 823 = rw length-append (omega arith) in
      ap (λ (k : List ℕ). set k 822 b.width) e ∙ (rw (d.bytes, c.bytes, g.bytes, b'.bytes, a.bytes)
      (rw (
        splice_then l 0 s u 560 (omega arith) (omega arith),
        splice_then l 0 (s ++ u) v 625 (omega arith) (omega arith),
        splice_then l 0 ((s ++ u) ++ v) w 690 (omega arith) (omega arith),
        splice_then l 0 (((s ++ u) ++ v) ++ w) x 755 (omega arith) (omega arith),
        splice_then l 0 ((((s ++ u) ++ v) ++ w) ++ x) y 820 (omega arith) (omega arith),
        last_byte (((((s ++ u) ++ v) ++ w) ++ x) ++ y) suvwxy,
        splice_whole l ((((((s ++ u) ++ v) ++ w) ++ x) ++ y) ++ b.width ∷ []) (omega arith),
      )
      (regroup s u v w x y (b.width ∷ []))))
    where
      last_byte : (vs : List ℕ) → length vs ≡ 822 → set (splice l 0 vs) 822 b.width ≡ splice l 0 (vs ++ b.width ∷ [])
      last_byte vs k = let z : 822 ≡ 0 + length vs = omega arith in ap (λ (n : ℕ). set (splice l 0 vs) n b.width) z ∙ splice_snoc l 0 vs b.width (omega arith)

pub state_parts : (bs : List ℕ) {cs : List Channel} {p r q : Queue} {m : Keys} {n : ℕ} → cs ≡ channels_at 8 bs 0
    → p ≡ queue_at bs 560 → r ≡ queue_at bs 625 → q ≡ queue_at bs 690 → m ≡ open_at bs 755 → n ≡ key_at bs 820
    → ◌≡◌ {A = Board} (record { width = get_or bs 822 0; state = record { channels = cs; locks = p; waiters = r; waiting = q; opens = m; last = n } }) (state_of bs)
unfolding state_of
state_parts bs e j r k m n i = record { width = get_or bs 822 0; state = record { channels = e i; locks = j i; waiters = r i; waiting = k i; opens = m i; last = n i } }
