-- What is said of lists: parts of one another, and how often a number stands in one. Laws: proofs/Lists.antt, proofs/Counting.antt.
-- Assumes nothing.
--
--   Sub xs ys     xs is ys with some elements left out, the others in their order
--   count i xs    how often i stands in xs
use Rattle.std.specs.Prelude.{ℕ, ◌+◌, List, [], ◌∷◌, eqb, if◌then◌else◌}

pub data Sub {ℓ} {A : Type ℓ} : List A → List A → Type ℓ where
  end : Sub [] []
  skip : {x : A} {xs ys : List A} → Sub xs ys → Sub xs (x ∷ ys)
  take : {x : A} {xs ys : List A} → Sub xs ys → Sub (x ∷ xs) (x ∷ ys)

unfoldable pub count : ℕ → List ℕ → ℕ
count i [] = 0
count i (x ∷ xs) = (if eqb i x then 1 else 0) + count i xs
