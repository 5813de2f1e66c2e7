-- The open keys in the bytes: read, one more, one less. Assumes nothing.
use Prim.Native.Nat.{ℕ, zero, suc, ◌+◌, ◌-◌, ◌*◌, ◌/◌, ◌%◌, ◌≤◌, ◌<◌}
use mathlib.Core.Path.{◌≡◌, refl, ap, ap₂, sym, subst, ◌∙◌}
use mathlib.Core.List.{List, [], ◌∷◌, ◌++◌, append_assoc}
use native.Mathlib.Omega.{arith}
use native.Mathlib.Nat.{div-add-mod'}
use lib.Dec.{T}
use lib.ListN.{length, get_or, take, drop, set, replicate, length-append, length-take, length-drop, replicate-append-replicate}
use lib.Seq.{drop-cons, length-take-le, take-append_seam, drop-append_seam, drop-append-add, take_at, drop_at, drop-append-le, drop-drop, get_or-take}
use Rattle.std.specs.declared.option.Option.{Option}
use Rattle.std.specs.declared.option.Option.TheVariants.{Some, None}
use Rattle.memory.specs.Splice.{splice}
use Rattle.memory.proofs.Splice.{length-splice}
use Rattle.machine.specs.Commands.{closed}
use Rattle.machine.specs.InBytes.{two_bytes}
use Rattle.queue.specs.Queue.{remove_at}
use Rattle.queue.proofs.Laws.{found, missing}
use Rattle.open_keys.specs.declared.Keys.{Keys}
use Rattle.open_keys.specs.OpenKeys.{pad, keys_of, keys_in, Tidy, index_of, place_of}
use Rattle.open_keys.proofs.Laws.{length-pad, index_closed, index_absent, place_is}
use Rattle.image.specs.Image.{keys_bytes, open_bytes, key_at, keys_from, open_at, queue_at, state_of, all_marks}
use Rattle.image.proofs.Round.{keys_part}
use Rattle.lent_queues.specs.lent.Lent.{with_opens, PutOpens}
use Rattle.lent_queues.specs.Moves.{shut}
use Rattle.lent_queues.proofs.lent.Bytes.{Bytes, bytes_more, bytes-append, bytes_take, bytes_drop, bytes-zeros, bytes-splice}
use Rattle.lent_queues.proofs.lent.Frames.{byte_behind, byte_inside, key_behind, queue_before, channels_before, marks_kept}
use Rattle.lent_queues.proofs.lent.Puts.{whole_marks, whole_bytes, is_whole_lem, filled_at}
use Rattle.lent_queues.proofs.Moves.{shut_behind, shut_before, cut, counted, long, L, D}

-- ---- keys and their bytes

keys-append : (js ks : List ℕ) → keys_bytes (js ++ ks) ≡ keys_bytes js ++ keys_bytes ks
unfolding keys_bytes
keys-append [] ks = refl
keys-append (j ∷ js) ks = ap (λ (x : List ℕ). two_bytes j ++ x) (keys-append js ks)

keys-long : (ks : List ℕ) → length (keys_bytes ks) ≡ 2 * length ks
unfolding keys_bytes
keys-long [] = refl
keys-long (k ∷ ks) = let h = keys-long ks in omega arith

keys-take : (k : ℕ) (ks : List ℕ) → take (2 * k) (keys_bytes ks) ≡ keys_bytes (take k ks)
unfolding keys_bytes
keys-take zero ks = let e : 2 * 0 ≡ 0 = omega arith in ap (λ (x : ℕ). take x (keys_bytes ks)) e
keys-take (suc k) [] = let e : 2 * suc k ≡ suc (suc (2 * k)) = omega arith in ap (λ (x : ℕ). take x []) e
keys-take (suc k) (j ∷ ks) =
    let e : 2 * suc k ≡ suc (suc (2 * k)) = omega arith in
    ap (λ (x : ℕ). take x (two_bytes j ++ keys_bytes ks)) e ∙ ap (λ (x : List ℕ). two_bytes j ++ x) (keys-take k ks)

keys-drop : (k : ℕ) (ks : List ℕ) → drop (2 * k) (keys_bytes ks) ≡ keys_bytes (drop k ks)
unfolding keys_bytes
keys-drop zero ks = let e : 2 * 0 ≡ 0 = omega arith in ap (λ (x : ℕ). drop x (keys_bytes ks)) e
keys-drop (suc k) [] = let e : 2 * suc k ≡ suc (suc (2 * k)) = omega arith in ap (λ (x : ℕ). drop x []) e
keys-drop (suc k) (j ∷ ks) =
    let e : 2 * suc k ≡ suc (suc (2 * k)) = omega arith in
    ap (λ (x : ℕ). drop x (two_bytes j ++ keys_bytes ks)) e ∙ keys-drop k ks

key_zero : (ks : List ℕ) → keys_bytes (0 ∷ ks) ≡ 0 ∷ 0 ∷ keys_bytes ks
unfolding keys_bytes
key_zero ks = refl

key_one : (k : ℕ) → keys_bytes (k ∷ []) ≡ two_bytes k
unfolding keys_bytes
key_one k = refl

-- bytes of keys are read as these keys
keys_read : (ks m : List ℕ) (a : ℕ) → ((j : ℕ) → j < 2 * length ks → get_or m (a + j) 0 ≡ get_or (keys_bytes ks) j 0) → keys_from (length ks) m a ≡ ks
unfolding keys_from keys_bytes
keys_read [] m a h = refl
keys_read (k ∷ ks) m a h =
    let z : a + 0 ≡ a = omega arith in
    let e : key_at m a ≡ k =
    ap₂ (λ (x y : ℕ). x * 256 + y) (ap (λ (x : ℕ). get_or m x 0) (sym z) ∙ h 0 (omega arith)) (h 1 (omega arith)) ∙ div-add-mod' k 256 in
    ap₂ ◌∷◌ e (keys_read ks m (a + 2) (λ j g. let f : a + 2 + j ≡ a + (suc (suc j)) = omega arith in ap (λ (x : ℕ). get_or m x 0) f ∙ h (suc (suc j)) (omega arith)))

keys_at : (m : List ℕ) (n i a : ℕ) → i < n → get_or (keys_from n m a) i 0 ≡ key_at m (a + 2 * i)
unfolding keys_from
keys_at m zero i a h = absurd (omega arith)
keys_at m (suc n) zero a h = let e : a ≡ a + 2 * 0 = omega arith in ap (key_at m) e
keys_at m (suc n) (suc i) a h = let e : a + 2 + 2 * i ≡ a + 2 * suc i = omega arith in keys_at m n i (a + 2) (omega arith) ∙ ap (key_at m) e

from_long : (n : ℕ) (m : List ℕ) (a : ℕ) → length (keys_from n m a) ≡ n
unfolding keys_from
from_long zero m a = refl
from_long (suc n) m a = ap suc (from_long n m (a + 2))

-- ---- read

pub open_long : (l : List ℕ) → get_or l 755 0 ≤ 32 → length (keys_in (open_at l 755)) ≡ get_or l 755 0
unfolding open_at
open_long l h = length-take-le (get_or l 755 0) (keys_from 32 l 756) (omega (arith, from_long 32 l 756))

pub open_key : (l : List ℕ) (i : ℕ) → i < get_or l 755 0 → i < 32 → get_or (keys_in (open_at l 755)) i 0 ≡ key_at l (756 + 2 * i)
unfolding open_at
open_key l i h g = get_or-take (get_or l 755 0) (keys_from 32 l 756) i 0 h ∙ keys_at l 32 i 756 g

-- what the search answers
module _ (l : List ℕ) (key : ℕ) (h : get_or l 755 0 ≤ 32) {o : Option ℕ} (e : o ≡ place_of key (keys_in (open_at l 755))) where
  abbrev ks : List ℕ
  ks = keys_in (open_at l 755)

  pub placed : {k : ℕ} → o ≡ Some k → (k ≡ index_of key ks) × (k < get_or l 755 0)
  placed s = let f = found (index_of key ks) (length ks) (e ∙ place_is key ks) s in (f.0, omega (arith, f.1, open_long l h))

  pub unplaced : o ≡ None → get_or l 755 0 ≤ index_of key ks
  unplaced s = omega (arith, missing (index_of key ks) (length ks) (e ∙ place_is key ks) s, open_long l h)

pub open_there : (l : List ℕ) → (state_of l).state.opens ≡ open_at l 755
unfolding state_of
open_there l = refl

pub open_count : (l : List ℕ) → (state_of l).state.opens.n ≡ get_or l 755 0
unfolding state_of open_at
open_count l = refl

pub keys-full : (l : List ℕ) → length (open_at l 755).keys ≡ 32
unfolding open_at
keys-full l = from_long 32 l 756

-- ---- written

open_same : (l : List ℕ) (q : Keys) → length q.keys ≡ 32 → length l ≡ 823 → open_at (splice l 755 (open_bytes q)) 755 ≡ q
unfolding open_at
open_same l q f n =
    let vs = open_bytes q in
    let z = keys-long q.keys in
    let g : 755 + length vs ≤ length l = omega (arith, z, f, n) in
    let a : get_or (splice l 755 vs) 755 0 ≡ q.n = byte_inside l 755 vs g 0 (omega arith) in
    let k : keys_from 32 (splice l 755 vs) 756 ≡ q.keys =
    ap (λ (x : ℕ). keys_from x (splice l 755 vs) 756) (sym f)
    ∙ keys_read q.keys (splice l 755 vs) 756 (λ j h. let e : 756 + j ≡ 755 + suc j = omega arith in ap (λ (x : ℕ). get_or (splice l 755 vs) x 0) e ∙ byte_inside l 755 vs g (suc j) (omega (arith, z, h))) in
    λ i. record { n = a i; keys = k i }

open_board : (l : List ℕ) (q : Keys) → length q.keys ≡ 32 → length l ≡ 823 → state_of (splice l 755 (open_bytes q)) ≡ with_opens q (state_of l)
unfolding state_of
open_board l q f n =
    let vs = open_bytes q in
    let z = keys-long q.keys in
    let g : 755 + length vs ≤ length l = omega (arith, z, f, n) in
    let v = byte_behind l 755 vs g 822 (omega (arith, z, f)) in
    let c = channels_before l 755 vs g 8 0 (omega arith) in
    let a = queue_before l 755 vs g 560 (omega arith) in
    let b = queue_before l 755 vs g 625 (omega arith) in
    let w = queue_before l 755 vs g 690 (omega arith) in
    let o = open_same l q f n in
    let k = key_behind l 755 vs g 820 (omega (arith, z, f)) in
    λ i. record { width = v i; state = record { channels = c i; locks = a i; waiters = b i; waiting = w i; opens = o i; last = k i } }

put-opens : (l : List ℕ) (f : Keys → Keys) {l' : List ℕ} → length l ≡ 823 → length (f (open_at l 755)).keys ≡ 32
    → l' ≡ splice l 755 (open_bytes (f (open_at l 755))) → Bytes (open_bytes (f (open_at l 755))) → PutOpens l f l'
put-opens l f {l'} n z e y =
    let q = f (open_at l 755) in
    let vs = open_bytes q in
    let x = keys-long q.keys in
    let g : 755 + length vs ≤ length l = omega (arith, x, z, n) in
    record {
      bytes = e;
      long = ap length e ∙ length-splice l 755 vs g;
      holds = λ w.
          record {
            whole =
                is_whole_lem l' (ap length e ∙ length-splice l 755 vs g ∙ n) (subst Bytes (sym e) (bytes-splice l 755 vs (whole_bytes l w) y))
                (subst (λ (x : List ℕ). T (all_marks 8 x 0)) (sym e) (marks_kept l 755 vs g (omega arith) (whole_marks l w)));
            board = ap state_of e ∙ open_board l q z n ∙ ap (λ (k : Keys). with_opens (f k) (state_of l)) (sym (open_there l));
          };
    }

-- ---- of a table that is tidy

splice_at : (us : List ℕ) (a b : ℕ) (vs : List ℕ) (x y n : ℕ) → length us ≡ n → splice (us ++ a ∷ b ∷ vs) n (x ∷ y ∷ []) ≡ us ++ x ∷ y ∷ vs
unfolding splice
splice_at us a b vs x y n h =
    ap₂ (λ (p q : List ℕ). p ++ x ∷ y ∷ q) (take_at us (a ∷ b ∷ vs) n h) (ap (λ (m : ℕ). drop (m + 2) (us ++ a ∷ b ∷ vs)) (sym h) ∙ drop-append-add us (a ∷ b ∷ vs) 2)

-- a byte taken out twice at one place
remove_twice : (B : List ℕ) (j : ℕ) → j + 2 ≤ length B → remove_at (remove_at B j) j ≡ take j B ++ (drop (j + 2) B ++ 0 ∷ 0 ∷ [])
remove_twice B j h =
    let A = take j B in
    let R = drop (suc j) B in
    let n : length A ≡ j = length-take-le j B (omega arith) in
    let d : drop (suc j) (A ++ (R ++ 0 ∷ [])) ≡ drop (j + 2) B ++ 0 ∷ [] =
    let e : suc j ≡ length A + 1 = omega (arith, n) in
    let f : suc j + 1 ≡ j + 2 = omega arith in
    ap (λ (x : ℕ). drop x (A ++ (R ++ 0 ∷ []))) e ∙ (drop-append-add A (R ++ 0 ∷ []) 1
    ∙ (drop-append-le 1 R (0 ∷ []) (simp length-drop (omega arith)) ∙ ap (λ (x : List ℕ). x ++ 0 ∷ []) (drop-drop 1 (suc j) B ∙ ap (λ (x : ℕ). drop x B) f))) in
    ap₂ (λ (x y : List ℕ). x ++ (y ++ 0 ∷ [])) (take_at A (R ++ 0 ∷ []) j n) d ∙ ap (λ (x : List ℕ). A ++ x) (append_assoc (drop (j + 2) B) (0 ∷ []) (0 ∷ []))

one_less : (xs : List ℕ) (k : ℕ) → k < length xs → length (take k xs ++ drop (suc k) xs) ≡ length xs - 1
one_less xs k h = simp (length-append, length-take, length-drop) (omega arith)

shut_seam : (B Z : List ℕ) (j m : ℕ) → length B ≡ m → shut (B ++ Z) j m ≡ remove_at B j ++ Z
unfolding shut
shut_seam B Z j m h = ap₂ (λ (x y : List ℕ). remove_at x j ++ y) (take_at B Z m h) (drop_at B Z m h)

module _ (l : List ℕ) (y : Bytes l) (size : length l ≡ 823) (t : Tidy (open_at l 755)) where
  abbrev q : Keys
  q = open_at l 755

  abbrev xs : List ℕ
  xs = keys_in q

  abbrev B : List ℕ
  B = keys_bytes xs

  fits : 755 + 65 ≤ length l
  fits = omega (arith, size)

  abbrev W : List ℕ
  W = (queue_at l 755).ids

  tidy-n : q.n ≡ length xs
  tidy-n = ap (λ (x : Keys). x.n) t

  tidy-keys : q.keys ≡ pad xs
  tidy-keys = ap (λ (x : Keys). x.keys) t

  abbrev Z : List ℕ
  Z = keys_bytes (replicate (32 - length xs) 0)

  keys_there : keys_bytes q.keys ≡ W
  unfolding open_at queue_at
  keys_there = keys_part l y 32 756 (omega (arith, size))

  window : W ≡ B ++ Z
  window = sym keys_there ∙ (ap keys_bytes tidy-keys ∙ keys-append xs (replicate (32 - length xs) 0))

  wide : length W ≡ 64
  wide = filled_at l 755 fits

  window_bytes : Bytes W
  unfolding queue_at
  window_bytes = bytes_take 64 (drop 756 l) (bytes_drop 756 l y)

  key-bytes : Bytes B
  key-bytes = let e : take (length B) W ≡ B = ap (take (length B)) window ∙ take-append_seam B Z in subst Bytes e (bytes_take (length B) W window_bytes)

  zero_bytes : Bytes Z
  zero_bytes = let e : drop (length B) W ≡ Z = ap (drop (length B)) window ∙ drop-append_seam B Z in subst Bytes e (bytes_drop (length B) W window_bytes)

  padded : (ks : List ℕ) → length ks ≤ 32 → length (keys_bytes (pad ks)) ≡ 64
  padded ks h = keys-long (pad ks) ∙ ap (λ (n : ℕ). 2 * n) (length-pad ks h)

  -- one more
  module _ (key : ℕ) (room : q.n < 32) (b : key < 65536) where
    added : keys_bytes (pad (xs ++ key ∷ [])) ≡ B ++ (key / 256 ∷ key % 256 ∷ keys_bytes (replicate (31 - length xs) 0))
    added =
        let e : 32 - length (xs ++ key ∷ []) ≡ 31 - length xs = simp length-append (omega arith) in
        keys-append (xs ++ key ∷ []) (replicate (32 - length (xs ++ key ∷ [])) 0)
        ∙ (ap₂ (λ (u : List ℕ) (n : ℕ). u ++ keys_bytes (replicate n 0)) (keys-append xs (key ∷ []) ∙ ap (λ (u : List ℕ). B ++ u) (key_one key)) e
        ∙ append_assoc B (two_bytes key) (keys_bytes (replicate (31 - length xs) 0)))

    zeros : Z ≡ 0 ∷ 0 ∷ keys_bytes (replicate (31 - length xs) 0)
    zeros =
        let e : 32 - length xs ≡ 1 + (31 - length xs) = omega (arith, tidy-n, room) in
        ap (λ (n : ℕ). keys_bytes (replicate n 0)) e ∙ (ap keys_bytes (sym (replicate-append-replicate {A = ℕ} 1 (31 - length xs) 0)) ∙ key_zero (replicate (31 - length xs) 0))

    pub put_added : {l₁ : List ℕ} → l₁ ≡ splice l (756 + 2 * q.n) (two_bytes key) → PutOpens l (λ k. keys_of (keys_in k ++ key ∷ [])) (set l₁ 755 (q.n + 1))
    put_added {l₁} e =
        let R = keys_bytes (replicate (31 - length xs) 0) in
        let A = L l 755 fits in
        let E = D l 755 fits in
        let J = keys_bytes (pad (xs ++ key ∷ [])) in
        let n : length (xs ++ key ∷ []) ≡ q.n + 1 = length-append xs (key ∷ []) ∙ ap (λ (x : ℕ). x + 1) (sym tidy-n) in
        let u = long l 755 fits in
        let v = keys-long xs in
        let p : length (A ++ B) ≡ 756 + 2 * q.n = length-append A B ∙ omega (arith, u, v, tidy-n) in
        let c : l ≡ (A ++ B) ++ 0 ∷ 0 ∷ (R ++ E) =
        cut l 755 fits ∙ (ap (λ (x : List ℕ). A ++ (x ++ E)) (window ∙ ap (λ (x : List ℕ). B ++ x) zeros) ∙ (simp append_assoc)) in
        let s : l₁ ≡ A ++ (J ++ E) =
        e ∙ (ap (λ (x : List ℕ). splice x (756 + 2 * q.n) (two_bytes key)) c
        ∙ (splice_at (A ++ B) 0 0 (R ++ E) (key / 256) (key % 256) (756 + 2 * q.n) p
        ∙ (let g : (A ++ B) ++ key / 256 ∷ key % 256 ∷ (R ++ E) ≡ A ++ ((B ++ (key / 256 ∷ key % 256 ∷ R)) ++ E) = simp append_assoc in g ∙ ap (λ (x : List ℕ). A ++ (x ++ E)) (sym added)))) in
        let few : length (xs ++ key ∷ []) ≤ 32 = omega (arith, n, room) in
        put-opens l (λ k. keys_of (keys_in k ++ key ∷ [])) size (length-pad (xs ++ key ∷ []) few)
        (counted l 755 fits J l₁ (q.n + 1) (padded (xs ++ key ∷ []) few) s ∙ ap (λ (x : ℕ). splice l 755 (x ∷ J)) (sym n))
        (bytes_more (length (xs ++ key ∷ [])) J (omega (arith, n, room))
        (subst Bytes (sym added)
        (bytes-append B (key / 256 ∷ key % 256 ∷ R) key-bytes
        (bytes_more (key / 256) (key % 256 ∷ R) (omega (arith, b)) (bytes_more (key % 256) R (omega arith) (λ i. subst Bytes zeros zero_bytes (suc (suc i))))))))

  -- one less
  module _ (key k : ℕ) (few : q.n ≤ 32) (at : k ≡ index_of key xs) where
    pub put_same : q.n ≤ k → PutOpens l (λ k. keys_of (closed key (keys_in k))) l
    put_same h =
        let e : q ≡ keys_of (closed key xs) = t ∙ ap keys_of (sym (index_absent key xs (omega (arith, tidy-n, h, at)))) in
        let c : l ≡ splice l 755 (open_bytes q) =
        sym (lib.Seq.set-get_or l 755 0) ∙ (counted l 755 fits (keys_bytes q.keys) l (get_or l 755 0) (ap length keys_there ∙ wide) (cut l 755 fits ∙ ap (λ (x : List ℕ). L l 755 fits ++ (x ++ D l 755 fits)) (sym keys_there)) ∙ counts) in
        put-opens l (λ k. keys_of (closed key (keys_in k))) size (ap (λ (x : Keys). length x.keys) (sym e) ∙ keys-full l)
        (c ∙ ap (λ (x : Keys). splice l 755 (open_bytes x)) e)
        (subst (λ (x : Keys). Bytes (open_bytes x)) e (bytes_more q.n (keys_bytes q.keys) (omega (arith, few)) (subst Bytes (sym keys_there) window_bytes)))
      where
        counts : splice l 755 (get_or l 755 0 ∷ keys_bytes q.keys) ≡ splice l 755 (open_bytes q)
        counts = ap (λ (n : ℕ). splice l 755 (n ∷ keys_bytes q.keys)) (sym (open_count l) ∙ ap (λ (x : Keys). x.n) (open_there l))

    module _ (h : k < q.n) where
      left : keys_bytes (pad (closed key xs)) ≡ (take (2 * k) B ++ (drop (2 * k + 2) B ++ 0 ∷ 0 ∷ [])) ++ Z
      left =
          let c : closed key xs ≡ take k xs ++ drop (suc k) xs =
          index_closed key xs (omega (arith, tidy-n, h, at)) ∙ ap (λ (j : ℕ). take j xs ++ drop (suc j) xs) (sym at) in
          let ys = take k xs ++ drop (suc k) xs in
          let n : 32 - length ys ≡ 1 + (32 - length xs) = (let o = one_less xs k (omega (arith, tidy-n, h)) in omega (arith, o, tidy-n, h, few)) in
          let f : 2 * suc k ≡ 2 * k + 2 = omega arith in
          let z : keys_bytes (replicate (32 - length ys) 0) ≡ 0 ∷ 0 ∷ Z =
          ap (λ (n : ℕ). keys_bytes (replicate n 0)) n ∙ (ap keys_bytes (sym (replicate-append-replicate {A = ℕ} 1 (32 - length xs) 0)) ∙ key_zero (replicate (32 - length xs) 0)) in
          let p : keys_bytes ys ≡ take (2 * k) B ++ drop (2 * k + 2) B =
          keys-append (take k xs) (drop (suc k) xs) ∙ ap₂ (λ (u v : List ℕ). u ++ v) (sym (keys-take k xs)) (sym (keys-drop (suc k) xs) ∙ ap (λ (x : ℕ). drop x B) f) in
          ap (λ (x : List ℕ). keys_bytes (pad x)) c ∙ (keys-append ys (replicate (32 - length ys) 0) ∙ (ap₂ (λ (u v : List ℕ). u ++ v) p z ∙ (simp append_assoc)))

      pub put-closed : {l₁ l₂ : List ℕ} (many : ℕ) → many ≡ q.n → l₁ ≡ shut l (756 + 2 * k) (756 + 2 * many) → l₂ ≡ shut l₁ (756 + 2 * k) (756 + 2 * many)
          → PutOpens l (λ k. keys_of (closed key (keys_in k))) (set l₂ 755 (q.n - 1))
      put-closed {l₁} {l₂} many same e₁ e₂ =
          let A = L l 755 fits in
          let E = D l 755 fits in
          let j = 2 * k in
          let m = 2 * q.n in
          let u = long l 755 fits in
          let v : length B ≡ m = keys-long xs ∙ ap (λ (n : ℕ). 2 * n) (sym tidy-n) in
          let in_window : (vs : List ℕ) → m ≤ length vs → shut (A ++ (vs ++ E)) (756 + j) (756 + m) ≡ A ++ (shut vs j m ++ E) =
          λ vs g. ap (λ (x : ℕ). shut (A ++ (vs ++ E)) (x + j) (x + m)) (sym u) ∙ (shut_behind A (vs ++ E) j m ∙ ap (λ (x : List ℕ). A ++ x) (shut_before vs E j m g)) in
          let r : length (remove_at B j) ≡ m = simp (length-append, length-take, length-drop) (omega (arith, v, h)) in
          let s₁ : l₁ ≡ A ++ ((remove_at B j ++ Z) ++ E) =
          e₁ ∙ ap (λ (x : ℕ). shut l (756 + 2 * k) (756 + 2 * x)) same ∙ (ap (λ (x : List ℕ). shut x (756 + j) (756 + m)) (cut l 755 fits ∙ ap (λ (x : List ℕ). A ++ (x ++ E)) window)
          ∙ (in_window (B ++ Z) (simp length-append (omega (arith, v))) ∙ ap (λ (x : List ℕ). A ++ (x ++ E)) (shut_seam B Z j m v))) in
          let s₂ : l₂ ≡ A ++ ((remove_at (remove_at B j) j ++ Z) ++ E) =
          e₂ ∙ ap (λ (x : ℕ). shut l₁ (756 + 2 * k) (756 + 2 * x)) same ∙ (ap (λ (x : List ℕ). shut x (756 + j) (756 + m)) s₁
          ∙ (in_window (remove_at B j ++ Z) (omega (arith, r, length-append (remove_at B j) Z)) ∙ ap (λ (x : List ℕ). A ++ (x ++ E)) (shut_seam (remove_at B j) Z j m r))) in
          let J = keys_bytes (pad (closed key xs)) in
          let w : remove_at (remove_at B j) j ++ Z ≡ J = ap (λ (x : List ℕ). x ++ Z) (remove_twice B j (omega (arith, v, h))) ∙ sym left in
          let c : length (closed key xs) ≡ q.n - 1 =
          ap length (index_closed key xs (omega (arith, tidy-n, h, at))) ∙ (one_less xs (index_of key xs) (omega (arith, tidy-n, h, at)) ∙ ap (λ (x : ℕ). x - 1) (sym tidy-n)) in
          let f : length (closed key xs) ≤ 32 = omega (arith, c, few) in
          put-opens l (λ k. keys_of (closed key (keys_in k))) size (length-pad (closed key xs) f)
          (counted l 755 fits J l₂ (q.n - 1) (padded (closed key xs) f) (s₂ ∙ ap (λ (x : List ℕ). A ++ (x ++ E)) w) ∙ ap (λ (x : ℕ). splice l 755 (x ∷ J)) (sym c))
          (bytes_more (length (closed key xs)) J (omega (arith, c, few))
          (subst Bytes (sym left)
          (bytes-append (take j B ++ (drop (j + 2) B ++ 0 ∷ 0 ∷ [])) Z
          (bytes-append (take j B) (drop (j + 2) B ++ 0 ∷ 0 ∷ []) (bytes_take j B key-bytes) (bytes-append (drop (j + 2) B) (0 ∷ 0 ∷ []) (bytes_drop (j + 2) B key-bytes) (bytes-zeros 2)))
          zero_bytes)))
