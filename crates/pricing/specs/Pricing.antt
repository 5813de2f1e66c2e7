-- A cost as one number. Assumes nothing.
--
--   highest_of m ps        the highest of the numbers that the map m names
--   count_of m ps          how many it names
--   price m cs            the highest precedence and the number of channels stolen as one number: proofs/Laws.antt shows that
--                         the lower price is what costs less
--   Priced m cs r         r is the price of m
use Rattle.std.specs.Prelude.{ℕ, suc, ◌+◌, ◌*◌, ◌<◌, max, ◌≡◌, List, [], ◌∷◌, if◌then◌else◌}
use Rattle.machine.specs.State.{Channel}
use Rattle.machine.specs.Maps.{odd, half}
use Rattle.machine.specs.Choosing.{highest, stolen}

unfoldable pub highest_of : ℕ → List ℕ → ℕ
highest_of m [] = 0
highest_of m (p ∷ ps) = if odd m then max p (highest_of (half m) ps) else highest_of (half m) ps

unfoldable pub count_of : ℕ → List ℕ → ℕ
count_of m [] = 0
count_of m (p ∷ ps) = if odd m then suc (count_of (half m) ps) else count_of (half m) ps

unfoldable pub price : ℕ → List Channel → ℕ
price m cs = highest m cs * 256 + stolen m cs

pub record Priced (m : ℕ) (cs : List Channel) (r : ℕ) : Type 0 where
  pub is : r ≡ price m cs
  pub few : stolen m cs < 256
