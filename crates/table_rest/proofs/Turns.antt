-- The turns of the walks over the waiting requests, and over the idle ids. Assumes nothing.
use Prim.Native.Nat.{ℕ, zero, suc, ◌+◌, ◌*◌, ◌-◌, ◌≤◌, ◌<◌}
use mathlib.Core.Path.{◌≡◌, refl, ap, ap₂, sym, subst, ◌∙◌}
use mathlib.Core.Bool.{Bool, true, false, ◌&&◌}
use mathlib.Core.List.{List, [], ◌∷◌}
use native.Mathlib.Numerals.{add-one}
use native.Mathlib.Omega.{arith}
use borrow.Author.Tests.{ne_eqb, lt-leb, le-leb}
use lib.Bits.{bit_or}
use lib.Dec.{T, eqb, leb, eqb→eq, leb→le}
use lib.ListN.{length, take, drop, get_or, replicate, length-take, length-drop, drop_of_length-le}
use lib.Seq.{drop-cons, get_or-drop}
use Rattle.machine.proofs.Tests.{and_left, and_right}
use Rattle.words.specs.Words.{number, zeros}
use Rattle.words.proofs.Laws.{or_none, number_none, zeros_then}
use Rattle.table.specs.memory.Splice.{block}
use Rattle.table.specs.Entry.{idle}
use Rattle.placing.specs.store.Store.{request_in}
use Rattle.placing.specs.entries.Entries.{same}
use Rattle.table_rest.specs.TableRest.{falling, rest_idle}

-- ---- precedences

pub record Fell (tb ids : List ℕ) (last k : ℕ) : Type 0 where
  pub rest : falling tb last (drop k ids) ≡ falling tb 255 ids

module _ {tb ids : List ℕ} {last k : ℕ} (t : Fell tb ids last k) where
  pub fell_end : length ids ≤ k → true ≡ falling tb 255 ids
  unfolding falling
  fell_end h = rw (drop_of_length-le ids h) at t.rest

  module _ (h : k < length ids) (p : ℕ) (w : p ≡ (request_in tb (get_or ids k 0)).prec) where
    pub fell_stop : last < p → false ≡ falling tb 255 ids
    unfolding falling
    fell_stop e = rw (drop-cons ids k 0 h, ← w, lt-leb _ _ e) at t.rest

    pub fell_more : p ≤ last → Fell tb ids p (k + 1)
    unfolding falling
    fell_more e = record { rest = rw (add-one k) (rw (drop-cons ids k 0 h, ← w, le-leb _ _ e) at t.rest) }

-- ---- idle ids, from the last to the first

-- an entry like an idle id's is one of zeros
same_zeros : (xs : List ℕ) → same xs (replicate (length xs) 0) ≡ zeros xs
unfolding same zeros
same_zeros [] = refl
same_zeros (x ∷ xs) = ap (λ (b : Bool). eqb x 0 && b) (same_zeros xs)

long : (tb : List ℕ) (i : ℕ) → i < 64 → length tb ≡ 1472 → length (block 23 tb i) ≡ 23
unfolding block
long tb i h e = simp (length-take, length-drop) (omega (arith, e))

same_idle : (tb : List ℕ) (i : ℕ) → i < 64 → length tb ≡ 1472 → same (block 23 tb i) idle ≡ zeros (block 23 tb i)
same_idle tb i h e = ap (λ (n : ℕ). same (block 23 tb i) (replicate n 0)) (sym (long tb i h e)) ∙ same_zeros (block 23 tb i)

-- the middle byte of three words stands in two of them
twice : (a b m d : Bool) → ((a && (b && m)) && (m && d)) ≡ ((a && b) && (m && d))
twice true true m d = and_again m d
  where
    and_again : (m d : Bool) → (m && (m && d)) ≡ (m && d)
    and_again true d = refl
    and_again false d = refl
twice true false m d = refl
twice false b m d = refl

-- 23 bytes as three words
pub three : (tb : List ℕ) (i at a b c : ℕ) → at ≡ i * 23 → a ≡ number (take 8 (drop at tb)) → b ≡ number (take 8 (drop (at + 8) tb)) → c ≡ number (take 8 (drop (at + 15) tb))
    → eqb (bit_or (bit_or a b) c) 0 ≡ zeros (block 23 tb i)
unfolding block
three tb i at a b c e ea eb ec =
    let z : ℕ → ℕ → Bool = λ k n. zeros (take n (drop k tb)) in
    let f : eqb (bit_or (bit_or a b) c) 0 ≡ ((z at 8 && z (at + 8) 8) && z (at + 15) 8) =
    or_none (bit_or a b) c
    ∙ ap₂ ◌&&◌ (or_none a b ∙ ap₂ ◌&&◌ (ap (λ (x : ℕ). eqb x 0) ea ∙ number_none (take 8 (drop at tb))) (ap (λ (x : ℕ). eqb x 0) eb ∙ number_none (take 8 (drop (at + 8) tb))))
    (ap (λ (x : ℕ). eqb x 0) ec ∙ number_none (take 8 (drop (at + 15) tb))) in
    let p : at + 8 + 7 ≡ at + 15 = omega arith in
    let g : z (at + 8) 8 ≡ (z (at + 8) 7 && z (at + 15) 1) = zeros_then tb (at + 8) 7 1 ∙ ap (λ (x : ℕ). z (at + 8) 7 && z x 1) p in
    let h : z (at + 15) 8 ≡ (z (at + 15) 1 && z (at + 15 + 1) 7) = zeros_then tb (at + 15) 1 7 in
    let w : z at 23 ≡ ((z at 8 && z (at + 8) 7) && z (at + 15) 8) = zeros_then tb at 15 8 ∙ ap (λ (x : Bool). x && z (at + 15) 8) (zeros_then tb at 8 7) in
    f ∙ (ap₂ (λ (x y : Bool). (z at 8 && x) && y) g h ∙ (twice (z at 8) (z (at + 8) 7) (z (at + 15) 1) (z (at + 15 + 1) 7) ∙ (ap (λ (x : Bool). (z at 8 && z (at + 8) 7) && x) (sym h) ∙ (sym w ∙ ap (λ (x : ℕ). zeros (take 23 (drop x tb))) e))))

-- what a test that passed says
pub told : {r x : Bool} → r ≡ x → r ≡ true → T x
told e t = subst T (sym t ∙ e) tt

swap : (a b c : Bool) → (a && (b && c)) ≡ ((b && a) && c)
swap true true c = refl
swap true false c = refl
swap false true c = refl
swap false false c = refl

first_zero : (xs : List ℕ) → T (zeros (take 1 xs)) → get_or xs 0 0 ≡ 0
unfolding zeros
first_zero [] t = refl
first_zero (x ∷ xs) t = eqb→eq x 0 (and_left (eqb x 0) true t)

-- where n + 1 bytes are zeros, so are the first n, and the last is 0
run_last : (l : List ℕ) (n j : ℕ) → T (zeros (take (suc n) (drop j l))) → T (zeros (take n (drop j l))) × (get_or l (j + n) 0 ≡ 0)
run_last l n j t =
    let e : suc n ≡ n + 1 = omega arith in
    let i : j + n + 0 ≡ j + n = omega arith in
    let a = zeros (take n (drop j l)) in
    let b = zeros (take 1 (drop (j + n) l)) in
    let u : T (a && b) = subst T (ap (λ (x : ℕ). zeros (take x (drop j l))) e ∙ zeros_then l j n 1) t in
    (and_left a b u, ap (λ (x : ℕ). get_or l x 0) (sym i) ∙ (sym (get_or-drop (j + n) l 0 0) ∙ first_zero (drop (j + n) l) (and_right a b u)))

module _ (tb seen : List ℕ) (l : length tb ≡ 1472) where
  pub idle-seen : (i j : ℕ) → i ≡ suc j → (get_or seen j 0 ≡ 0 → ⊥) → rest_idle tb seen j ≡ rest_idle tb seen i
  unfolding rest_idle
  idle-seen i j e f = rw (e, ne_eqb _ _ f)

  -- one id that was not seen
  pub idle_one : (i j : ℕ) → i ≡ suc j → i ≤ 64 → get_or seen j 0 ≡ 0 → rest_idle tb seen i ≡ (zeros (block 23 tb j) && rest_idle tb seen j)
  unfolding rest_idle
  idle_one i j e h f = rw (e, f) (ap (λ (b : Bool). b && rest_idle tb seen j) (same_idle tb j (omega (arith, e, h)) l))

  -- n ids of which none was seen
  pub idle_run : (n j : ℕ) → j + n ≤ 64 → T (zeros (take n (drop j seen))) → rest_idle tb seen (j + n) ≡ (zeros (take (n * 23) (drop (j * 23) tb)) && rest_idle tb seen j)
  unfolding zeros block
  idle_run zero j h f = let e : j + 0 ≡ j = omega arith in rw e
  idle_run (suc n) j h f =
      let g = run_last seen n j f in
      let e : j + suc n ≡ suc (j + n) = omega arith in
      let m : suc n * 23 ≡ n * 23 + 23 = omega arith in
      let p : j * 23 + n * 23 ≡ (j + n) * 23 = omega arith in
      idle_one (j + suc n) (j + n) e h g.1
      ∙ (ap (λ (b : Bool). zeros (block 23 tb (j + n)) && b) (idle_run n j (omega (arith, h)) g.0)
      ∙ (swap (zeros (block 23 tb (j + n))) (zeros (take (n * 23) (drop (j * 23) tb))) (rest_idle tb seen j)
      ∙ ap (λ (b : Bool). b && rest_idle tb seen j)
      (sym (ap (λ (x : ℕ). zeros (take x (drop (j * 23) tb))) m ∙ (zeros_then tb (j * 23) (n * 23) 23 ∙ ap (λ (x : ℕ). zeros (take (n * 23) (drop (j * 23) tb)) && zeros (take 23 (drop x tb))) p)))))

  -- a turn over one id, and over eight
  module _ (i : ℕ) (h : i ≤ 64) where
    pub idle_stop : (j : ℕ) → i ≡ suc j → get_or seen j 0 ≡ 0 → zeros (block 23 tb j) ≡ false → false ≡ rest_idle tb seen i
    idle_stop j e f g = sym (idle_one i j e h f ∙ rw g refl)

    pub idle_more : (j : ℕ) → i ≡ suc j → get_or seen j 0 ≡ 0 → zeros (block 23 tb j) ≡ true → rest_idle tb seen j ≡ rest_idle tb seen i
    idle_more j e f g = sym (idle_one i j e h f ∙ rw g refl)

    module _ (t : T (leb 8 i && zeros (take 8 (drop (i - 8) seen)))) where
      pub eight-least : 8 ≤ i
      eight-least = leb→le 8 i (and_left (leb 8 i) _ t)

      eight_is : rest_idle tb seen i ≡ (zeros (take 184 (drop ((i - 8) * 23) tb)) && rest_idle tb seen (i - 8))
      eight_is =
          let e : i - 8 + 8 ≡ i = let l = eight-least in omega arith in
          ap (λ (x : ℕ). rest_idle tb seen x) (sym e) ∙ idle_run 8 (i - 8) (omega (arith, e)) (and_right (leb 8 i) _ t)

      pub eight_stop : zeros (take 184 (drop ((i - 8) * 23) tb)) ≡ false → false ≡ rest_idle tb seen i
      eight_stop g = sym (eight_is ∙ rw g refl)

      pub eight_more : zeros (take 184 (drop ((i - 8) * 23) tb)) ≡ true → rest_idle tb seen (i - 8) ≡ rest_idle tb seen i
      eight_more g = sym (eight_is ∙ rw g refl)
