-- Stores one behind the other: after i of them the first i records stand in front. Assumes nothing.
--
--   stored bs ys i     the structs ys after the stores at 0, 1, .. below i
use Prim.Native.Nat.{ℕ, zero, suc, ◌+◌, ◌<◌, ◌≤◌}
use mathlib.Core.Path.{◌≡◌, refl, ap, sym, ◌∙◌}
use mathlib.Core.List.{List, [], ◌∷◌, ◌++◌}
use native.Mathlib.Omega.{arith}
use native.Mathlib.Nat.{zero-add, add-zero}
use lib.ListN.{length, set, drop, length-set}
use Rattle.record_structs.specs.declared.Waiter.{Waiter}
use Rattle.record_structs.specs.RecordStructs.{waiter_at, waiters_from, written}

abbrev pub stored : List ℕ → List Waiter → ℕ → List Waiter
stored bs ys zero = ys
stored bs ys (suc i) = set (stored bs ys i) i (waiter_at bs i)

pub stored-length : (bs : List ℕ) (ys : List Waiter) (i : ℕ) → length (stored bs ys i) ≡ length ys
stored-length bs ys zero = refl
stored-length bs ys (suc i) = length-set (stored bs ys i) i (waiter_at bs i) ∙ stored-length bs ys i

-- one record more, in the place of the first struct that stayed
one_more : (bs : List ℕ) (j i : ℕ) (ys : List Waiter) → i < length ys
    → set (waiters_from bs j i ++ drop i ys) i (waiter_at bs (i + j)) ≡ waiters_from bs j (suc i) ++ drop (suc i) ys
unfolding waiters_from
one_more bs j i [] h = absurd (omega arith)
one_more bs j zero (y ∷ ys) h = ap (λ (k : ℕ). waiter_at bs k ∷ ys) (zero-add j)
one_more bs j (suc i) (y ∷ ys) h =
    let e : suc i + j ≡ i + suc j = omega arith in
    ap (λ (l : List Waiter). waiter_at bs j ∷ l)
    (ap (λ (k : ℕ). set (waiters_from bs (suc j) i ++ drop i ys) i (waiter_at bs k)) e ∙ one_more bs (suc j) i ys (omega arith))

pub stored-written : (bs : List ℕ) (ys : List Waiter) (i : ℕ) → i ≤ length ys → stored bs ys i ≡ written bs i ys
unfolding written waiters_from
stored-written bs ys zero h = refl
stored-written bs ys (suc i) h =
    ap (λ (l : List Waiter). set l i (waiter_at bs i)) (stored-written bs ys i (omega arith))
    ∙ (ap (λ (k : ℕ). set (waiters_from bs 0 i ++ drop i ys) i (waiter_at bs k)) (sym (add-zero i)) ∙ one_more bs 0 i ys h)
