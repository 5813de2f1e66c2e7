-- The records of a desk: how they grow by a record, and that those of replies are the replies to its ids. Assumes nothing.
use Prim.Native.Nat.{ℕ, zero, suc, ◌+◌, ◌-◌, ◌*◌, ◌≤◌, ◌<◌}
use mathlib.Core.Path.{◌≡◌, refl, ap, sym, ◌∙◌}
use mathlib.Core.Bool.{Bool, true, false}
use mathlib.Core.List.{List, [], ◌∷◌, ◌++◌, append_assoc, append-nil}
use native.Mathlib.Omega.{arith}
use native.Mathlib.Nat.{zero-add}
use lib.Dec.{eqb, eqb_refl}
use lib.ListN.{length, get_or, take, drop, length-append, length-drop}
use lib.Seq.{drop-drop, drop-length, get_or-drop, length-take-le, take-length}
use Rattle.memory.specs.Splice.{splice, block}
use Rattle.memory.proofs.Splice.{length-splice, splice_none, splice_then}
use Rattle.std.specs.Prelude.{if◌then◌else◌}
use Rattle.machine.specs.Lists.{keep}
use Rattle.machine.specs.State.{Reply}
use Rattle.machine.specs.Desks.{DESK_A, DESK_B, HALF, desk_of, replies_to, halves}
use Rattle.machine.proofs.Tests.{eqb_false, test_true}
use Rattle.reply.specs.Replies.{encode, encodes, sent}
use Rattle.reply.proofs.Laws.{length-encodes, encodes-append}
use Rattle.halves.specs.Halves.{one, picked, Laying, Laid, laid, in_order, Ordering}
use Rattle.halves.specs.declared.Halves.{Halves}

-- one record more
pub picked_more : (d i : ℕ) (l : List ℕ) → picked d (suc i) l ≡ picked d i l ++ one d l i
unfolding picked block
picked_more d zero l = append-nil _
picked_more d (suc i) l =
    let n : 6 + i * 6 ≡ suc i * 6 = omega arith in
    let e : drop (i * 6) (drop 6 l) ≡ drop (suc i * 6) l = drop-drop (i * 6) 6 l ∙ ap (λ (k : ℕ). drop k l) n in
    let f : get_or (drop 6 l) (i * 6) 0 ≡ get_or l (suc i * 6) 0 = get_or-drop 6 l (i * 6) 0 ∙ ap (λ (k : ℕ). get_or l k 0) n in
    ap (λ (x : List ℕ). (if eqb (desk_of (get_or l 0 0)) d then take 6 l else []) ++ x) (picked_more d i (drop 6 l)) ∙ rw (append_assoc, e, f) refl

pub picked_encoded : (d : ℕ) (rs : List Reply) (l : List ℕ) → picked d (length rs) (encodes rs ++ l) ≡ encodes (replies_to d rs)
unfolding picked replies_to keep
picked_encoded d [] l = refl
picked_encoded d (r ∷ rs) l = go (eqb (desk_of r.id) d) (picked_encoded d rs l)
  where
    go : (b : Bool) → picked d (length rs) (encodes rs ++ l) ≡ encodes (keep (λ (x : Reply). eqb (desk_of x.id) d) rs)
        → (if b then encode r else []) ++ picked d (length rs) (encodes rs ++ l) ≡ encodes (if b then r ∷ keep (λ (x : Reply). eqb (desk_of x.id) d) rs else keep (λ (x : Reply). eqb (desk_of x.id) d) rs)
    go true h = ap (λ (x : List ℕ). encode r ++ x) h
    go false h = h

pub picked-sent : (d : ℕ) (l : List ℕ) (rs : List Reply) → picked d (length rs) (sent l 0 rs) ≡ encodes (replies_to d rs)
unfolding splice
picked-sent d l rs = picked_encoded d rs _

-- ---- a record

pub one_mine : (d : ℕ) (l : List ℕ) (i : ℕ) → desk_of (get_or l (i * 6) 0) ≡ d → one d l i ≡ block 6 l i
one_mine d l i e = rw (test_true (eqb (desk_of (get_or l (i * 6) 0)) d) (rw e (eqb_refl d))) refl

pub one_other : (d : ℕ) (l : List ℕ) (i : ℕ) → (desk_of (get_or l (i * 6) 0) ≡ d → ⊥) → one d l i ≡ []
one_other d l i n = rw (eqb_false (desk_of (get_or l (i * 6) 0)) d n) refl

-- as the code lends it
pub part_six : (l : List ℕ) (i : ℕ) → take (i * 6 + 6 - i * 6) (drop (i * 6) l) ≡ block 6 l i
unfolding block
part_six l i = let e : i * 6 + 6 - i * 6 ≡ 6 = omega arith in rw e refl

pub length-six : (l : List ℕ) (i : ℕ) → i * 6 + 6 ≤ length l → length (block 6 l i) ≡ 6
unfolding block
length-six l i h = length-take-le 6 (drop (i * 6) l) (rw length-drop (omega arith))

module _ (half : List ℕ) (at d : ℕ) (l : List ℕ) (i : ℕ) where
  pub left_out : (desk_of (get_or l (i * 6) 0) ≡ d → ⊥) → (at * 6 ≡ at * 6 + length (one d l i)) × (half ≡ splice half (at * 6) (one d l i))
  left_out n = rw (one_other d l i n) (omega arith, sym (splice_none half (at * 6)))

  pub put_in : desk_of (get_or l (i * 6) 0) ≡ d → i * 6 + 6 ≤ length l → {half' : List ℕ} → half' ≡ splice half (at * 6) (take (i * 6 + 6 - i * 6) (drop (i * 6) l))
      → ((at + 1) * 6 ≡ at * 6 + length (one d l i)) × (half' ≡ splice half (at * 6) (one d l i))
  put_in e h q = let k = length-six l i h in rw (one_mine d l i e) (omega arith, q ∙ ap (splice half (at * 6)) (part_six l i))

-- ---- all of them

pub length_more : (d i : ℕ) (l : List ℕ) → length (picked d (suc i) l) ≡ length (picked d i l) + length (one d l i)
length_more d i l = ap length (picked_more d i l) ∙ length-append (picked d i l) (one d l i)

-- fewer records pick no more
pub picked_grows : (d : ℕ) (l : List ℕ) (i k : ℕ) → length (picked d i l) ≤ length (picked d (i + k) l)
picked_grows d l i zero = let f : i + 0 ≡ i = omega arith in rw f (omega arith)
picked_grows d l i (suc k) =
    let h = picked_grows d l i k in
    let e = length_more d (i + k) l in
    let f : i + suc k ≡ suc (i + k) = omega arith in
    rw f (omega arith)

pub room_left : (d : ℕ) (l : List ℕ) (n i at m : ℕ) → i < n → at * 6 ≡ length (picked d i l) → length (picked d n l) ≤ m → at * 6 + length (one d l i) ≤ m
room_left d l n i at m h e g =
    let f = length_more d i l in
    let k = picked_grows d l (suc i) (n - suc i) in
    let q : suc i + (n - suc i) ≡ n = omega arith in
    let r : length (picked d (suc i) l) ≤ length (picked d n l) = rw q at k in
    omega arith

pub turn : (half : List ℕ) (d : ℕ) (l : List ℕ) (i at : ℕ) → at * 6 ≡ length (picked d i l) → length (picked d i l) ≤ length half
    → splice (splice half 0 (picked d i l)) (at * 6) (one d l i) ≡ splice half 0 (picked d (i + 1) l)
turn half d l i at e h =
    let f : i + 1 ≡ suc i = omega arith in
    rw (f, picked_more d i l) (splice_then half 0 (picked d i l) (one d l i) (at * 6) (omega arith) (omega arith))

-- ---- the two halves

-- a part of a list up to its end, changed from its first byte on and put back
pub part_back : (l : List ℕ) (at : ℕ) (vs ws : List ℕ) → at ≤ length l → ws ≡ splice (take (length l - at) (drop at l)) 0 vs
    → take at l ++ (ws ++ drop (length l - at) (drop at l)) ≡ splice l at vs
unfolding splice
part_back l at vs ws h e =
    let n : length (drop at l) ≡ length l - at = length-drop at l in
    let none : drop (length l - at) (drop at l) ≡ [] = ap (λ (k : ℕ). drop k (drop at l)) (sym n) ∙ drop-length (drop at l) in
    let whole : take (length l - at) (drop at l) ≡ drop at l = ap (λ (k : ℕ). take k (drop at l)) (sym n) ∙ take-length (drop at l) in
    rw (none, append-nil ws, e, whole, zero-add (length vs)) (ap (λ (x : List ℕ). take at l ++ (vs ++ x)) (drop-drop (length vs) at l))

module _ {made : List ℕ} {n : ℕ} {l : List ℕ} (a : Laying made n l) where
  pub nothing-laid : n ≡ 0 → Laid made n l (record { a = 0; b = 0 }) l
  unfolding picked
  nothing-laid e =
      rw e (record { numbers = (refl, refl); list = sym (splice_none (splice l 0 []) 192 ∙ splice_none l 0) })

  -- the first half is filled
  pub first_fits : 0 < n → length (picked 0 n made) ≤ length l
  first_fits h = let g = a.room h in let k = a.fits.0 in omega arith

  module _ (h : 0 < n) {l₁ : List ℕ} (e : l₁ ≡ splice l 0 (picked 0 n made)) where
    pub still_long : 384 ≤ length l₁
    still_long =
        let g = a.room h in
        let k = a.fits.0 in
        let z = ap length e ∙ length-splice l 0 (picked 0 n made) (omega arith) in
        omega arith

    pub second_fits : length (picked 1 n made) ≤ length (take (length l₁ - 192) (drop 192 l₁))
    second_fits =
        let g = still_long in
        let k = a.fits.1 in
        let z : length (take (length l₁ - 192) (drop 192 l₁)) ≡ length l₁ - 192 = length-take-le (length l₁ - 192) (drop 192 l₁) (rw length-drop (omega arith)) in
        omega arith

    pub both_laid : {r : Halves} {ws : List ℕ} → r.a * 6 ≡ length (picked 0 n made) → r.b * 6 ≡ length (picked 1 n made)
        → ws ≡ splice (take (length l₁ - 192) (drop 192 l₁)) 0 (picked 1 n made)
        → Laid made n l r (take 192 l₁ ++ (ws ++ drop (length l₁ - 192) (drop 192 l₁)))
    both_laid {ws = ws} p q w =
        record {
          numbers = (p, q);
          list = part_back l₁ 192 (picked 1 n made) ws (let g = still_long in omega arith) w ∙ ap (λ (x : List ℕ). splice x 192 (picked 1 n made)) e;
        }

-- ---- of replies

-- the replies of a call, one behind the other, are laid as the machine's halves
pub laid-replies : (m : List ℕ) {l l' : List ℕ} {r : Halves} (rs : List Reply) {n : ℕ} → n ≡ length rs → Laid (sent m 0 rs) n l r l'
    → (r.a ≡ length (replies_to DESK_A rs)) × (r.b ≡ length (replies_to DESK_B rs)) × (l' ≡ laid l rs)
laid-replies m rs e d =
    let a : picked 0 (length rs) (sent m 0 rs) ≡ encodes (replies_to DESK_A rs) = picked-sent 0 m rs in
    let b : picked 1 (length rs) (sent m 0 rs) ≡ encodes (replies_to DESK_B rs) = picked-sent 1 m rs in
    let x = rw (e, a) at d.numbers.0 in
    let y = rw (e, b) at d.numbers.1 in
    let p = length-encodes (replies_to DESK_A rs) in
    let q = length-encodes (replies_to DESK_B rs) in
    (omega arith, omega arith, rw (e, a, b) at d.list)

-- and fit where each half has at most 32
pub laying_replies : (m : List ℕ) {l : List ℕ} (rs : List Reply) {n : ℕ} → n ≡ length rs → length rs ≤ 64 → (0 < length rs → 384 ≤ length l)
    → length (replies_to DESK_A rs) ≤ HALF → length (replies_to DESK_B rs) ≤ HALF → Laying (sent m 0 rs) n l
laying_replies m rs e k g h i =
    let p = length-encodes (replies_to DESK_A rs) in
    let q = length-encodes (replies_to DESK_B rs) in
    rw e (record { many = k; room = g; fits = rw (picked-sent 0 m rs, picked-sent 1 m rs) (omega arith, omega arith) })

-- no second layout fits
pub one_layout : {made : List ℕ} {n : ℕ} {l : List ℕ} {r s : Halves} {o p : List ℕ} → Laid made n l r o → Laid made n l s p → (r.a ≡ s.a) × (r.b ≡ s.b) × (o ≡ p)
one_layout d e =
    let x = d.numbers.0 in
    let y = e.numbers.0 in
    let z = d.numbers.1 in
    let w = e.numbers.1 in
    (omega arith, omega arith, d.list ∙ sym e.list)

-- ---- in order

module _ {made : List ℕ} {n : ℕ} {l : List ℕ} (a : Ordering made n l) where
  pub order_fits : length (picked 0 n made) ≤ length l
  order_fits = let h = a.room in let e = length-append (picked 0 n made) (picked 1 n made) in omega arith

  module _ {l₁ : List ℕ} (e : l₁ ≡ splice l 0 (picked 0 n made)) {k : ℕ} (q : k ≡ length (picked 0 n made)) where
    pub order-long : length l₁ ≡ length l
    order-long = ap length e ∙ length-splice l 0 (picked 0 n made) (let h = order_fits in omega arith)

    pub order-within : k ≤ length l₁
    order-within = let h = order_fits in let g = order-long in omega arith

    pub order-rest : length (picked 1 n made) ≤ length (take (length l₁ - k) (drop k l₁))
    order-rest =
        let h = a.room in
        let f = length-append (picked 0 n made) (picked 1 n made) in
        let g = order-long in
        let z : length (take (length l₁ - k) (drop k l₁)) ≡ length l₁ - k = length-take-le (length l₁ - k) (drop k l₁) (rw length-drop (omega arith)) in
        omega arith

    pub ordered : {ws : List ℕ} → ws ≡ splice (take (length l₁ - k) (drop k l₁)) 0 (picked 1 n made)
        → take k l₁ ++ (ws ++ drop (length l₁ - k) (drop k l₁)) ≡ splice l 0 (in_order n made)
    ordered {ws} w =
        part_back l₁ k (picked 1 n made) ws order-within w
        ∙ ap (λ (x : List ℕ). splice x k (picked 1 n made)) e
        ∙ splice_then l 0 (picked 0 n made) (picked 1 n made) k (omega arith) (let h = order_fits in omega arith)

-- the replies of a call, one behind the other, in the order of the log
pub order-replies : (m : List ℕ) (rs : List Reply) {n : ℕ} → n ≡ length rs → in_order n (sent m 0 rs) ≡ encodes (halves rs)
unfolding halves
order-replies m rs e = rw (e, picked-sent 0 m rs, picked-sent 1 m rs) (sym (encodes-append (replies_to DESK_A rs) (replies_to DESK_B rs)))
