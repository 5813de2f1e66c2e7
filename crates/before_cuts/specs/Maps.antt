-- Channel maps as numbers: bit i of a map names channel i. A map is walked beside the list of channels, its lowest bit for
-- the head and its half for the tail, so every definition serves any number of channels.
-- Assumes nothing.
--
--   odd m, half m     the map names the first channel; what it names of the others
--   bit b m           the map with lowest bit b and the rest m
--   minus n m f       of the n lowest bits of m, those that f does not have
--   meets n m f       m and f share one of the n lowest bits
--   lowest n m        the lowest set bit of m alone, of n; 0 where there is none
--   named p m cs      each channel that m names passes the test p
--   change f m cs     the channels, f done to those that m names
--   at m cs           the channel that a map of one bit names; a free one where it names none
use Rattle.std.specs.Prelude.{ℕ, zero, suc, ◌+◌, ◌*◌, ◌/◌, ◌%◌, Bool, true, false, not, ◌&&◌, ◌||◌, List, [], ◌∷◌, eqb, if◌then◌else◌}
use Rattle.before_cuts.specs.State.{Channel, free}

unfoldable pub odd : ℕ → Bool
odd m = eqb (m % 2) 1

unfoldable pub half : ℕ → ℕ
half m = m / 2

unfoldable pub bit : Bool → ℕ → ℕ
bit b m = (if b then 1 else 0) + 2 * m

unfoldable pub minus : ℕ → ℕ → ℕ → ℕ
minus zero m f = 0
minus (suc n) m f = bit (odd m && not (odd f)) (minus n (half m) (half f))

unfoldable pub meets : ℕ → ℕ → ℕ → Bool
meets zero m f = false
meets (suc n) m f = odd m && odd f || meets n (half m) (half f)

unfoldable pub lowest : ℕ → ℕ → ℕ
lowest zero m = 0
lowest (suc n) m = if odd m then 1 else bit false (lowest n (half m))

unfoldable pub named : (Channel → Bool) → ℕ → List Channel → Bool
named p m [] = true
named p m (c ∷ cs) = (not (odd m) || p c) && named p (half m) cs

unfoldable pub change : (Channel → Channel) → ℕ → List Channel → List Channel
change f m [] = []
change f m (c ∷ cs) = (if odd m then f c else c) ∷ change f (half m) cs

unfoldable pub at : ℕ → List Channel → Channel
at m [] = free
at m (c ∷ cs) = if odd m then c else at (half m) cs
