-- Document 01, "How a combination is chosen", steps 1 to 4, with step 3 as document 02, #104, amends it, and the look at a
-- request. `Rule.antt` says the same as a reader would; machine_laws/proofs/Choosing.antt proves that the two agree.
-- Assumes nothing.
--
--   takeable prec c        the channel is free, or of precedence strictly below prec
--   eligible prec m cs     each channel that m names is takeable
--   all_free m cs           m names only free channels
--   highest m cs           the highest precedence among the allocated channels that m names
--   stolen m cs            how many allocated channels m names
--   costs_less m o cs       m costs less than o: a lower highest precedence, or the same and fewer channels stolen
--   first_free prec ms cs   step 2: the first eligible combination naming only free channels
--   cheapest prec ms cs    step 3: the eligible combination of least cost, the earliest on a tie
--   choose prec ms cs      the choice; `none` where nothing is eligible
--   look prec ms cs        what a request comes to: it fails, is held, or is granted a map
use Rattle.std.specs.Prelude.{ℕ, suc, max, Bool, true, false, not, ◌&&◌, ◌||◌, List, [], ◌∷◌, eqb, ltb, if◌then◌else◌}
use Rattle.before_cuts.specs.State.{Channel, is_free}
use Rattle.before_cuts.specs.Maps.{odd, half, named}

pub data Choice : Type 0 where
  none : Choice
  chosen : ℕ → Choice

-- 1. "A combination is eligible if each channel it names is free or has precedence strictly below the request's."
unfoldable pub takeable : ℕ → Channel → Bool
takeable prec c = is_free c || ltb c.prec prec

unfoldable pub eligible : ℕ → ℕ → List Channel → Bool
eligible prec m cs = named (takeable prec) m cs

unfoldable pub all_free : ℕ → List Channel → Bool
all_free m cs = named is_free m cs

-- 2. "The first eligible combination naming only free channels is chosen."
unfoldable pub first_free : ℕ → List ℕ → List Channel → Choice
first_free prec [] cs = none
first_free prec (m ∷ ms) cs = if eligible prec m cs && all_free m cs then chosen m else first_free prec ms cs

-- 3. "each eligible one costs the highest precedence among its allocated channels"
unfoldable pub highest : ℕ → List Channel → ℕ
highest m [] = 0
highest m (c ∷ cs) = if odd m && not (is_free c) then max c.prec (highest (half m) cs) else highest (half m) cs

-- #104: "stealing .. allocated channels": each that is named counts, one's own and a locked one too
unfoldable pub stolen : ℕ → List Channel → ℕ
stolen m [] = 0
stolen m (c ∷ cs) = if odd m && not (is_free c) then suc (stolen (half m) cs) else stolen (half m) cs

-- #104: "Where two combinations cost the same highest precedence, the one stealing fewer allocated channels now wins"
unfoldable pub costs_less : ℕ → ℕ → List Channel → Bool
costs_less m o cs = ltb (highest m cs) (highest o cs) || eqb (highest m cs) (highest o cs) && ltb (stolen m cs) (stolen o cs)

-- #104: "and only then the earliest": what the rest would choose gives way unless it costs less.
unfoldable pub cheaper : ℕ → Choice → List Channel → Choice
cheaper m none cs = chosen m
cheaper m (chosen o) cs = if costs_less o m cs then chosen o else chosen m

unfoldable pub cheapest : ℕ → List ℕ → List Channel → Choice
cheapest prec [] cs = none
cheapest prec (m ∷ ms) cs = if eligible prec m cs then cheaper m (cheapest prec ms cs) cs else cheapest prec ms cs

unfoldable pub or_else : Choice → Choice → Choice
or_else none b = b
or_else (chosen m) b = chosen m

-- 4. "The empty list is granted map 0."
unfoldable pub choose : ℕ → List ℕ → List Channel → Choice
choose prec [] cs = chosen 0
choose prec (m ∷ ms) cs = or_else (first_free prec (m ∷ ms) cs) (cheapest prec (m ∷ ms) cs)

-- "Locks play no part in the choice. If the chosen combination names a locked channel, the request is held."
pub data Look : Type 0 where
  fails : Look
  held : ℕ → Look
  grants : ℕ → Look

unfoldable pub standing : Choice → List Channel → Look
standing none cs = fails
standing (chosen m) cs = if named (λ c. not c.locked) m cs then grants m else held m

unfoldable pub look : ℕ → List ℕ → List Channel → Look
look prec ms cs = standing (choose prec ms cs) cs
