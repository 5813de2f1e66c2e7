-- How many requests name each channel, all eight in one number.
-- Assumes nothing.
--
--   lanes f         eight bytes: f of channel 0 to f of channel 7
--   lane c w        byte c of a number
--   word_of ms       a 1 in each lane whose channel one of the combinations names
--   counted c rs    how many of the requests name channel c
--   weights rs      the words of requests, added up
--   Balanced vs ts l j   the waiting requests vs became ts: the words of those who joined, 64 at most, add up to j, and the
--                        words of those who left to l
use Rattle.std.specs.Prelude.{ℕ, ◌+◌, ◌/◌, ◌%◌, ◌^◌, ◌≤◌, ◌≡◌, List, [], ◌∷◌, length, if◌then◌else◌}
use Rattle.machine.specs.Lists.{any, keep}
use Rattle.machine.specs.State.{Request}
use Rattle.machine.specs.Maps.{odd}
use Rattle.display.specs.Display.{names}
use Rattle.words.specs.Words.{number}

abbrev pub lanes : (ℕ → ℕ) → List ℕ
lanes f = f 0 ∷ f 1 ∷ f 2 ∷ f 3 ∷ f 4 ∷ f 5 ∷ f 6 ∷ f 7 ∷ []

abbrev pub lane : ℕ → ℕ → ℕ
lane c w = w / 256 ^ c % 256

unfoldable pub word_of : List ℕ → ℕ
word_of ms = number (lanes (λ c. if any (λ m. odd (m / 2 ^ c)) ms then 1 else 0))

abbrev pub counted : ℕ → List Request → ℕ
counted c rs = length (keep (names c) rs)

unfoldable pub weights : List Request → ℕ
weights [] = 0
weights (r ∷ rs) = word_of r.combos + weights rs

pub record Balanced (vs ts : List Request) (left joined : ℕ) : Type 0 where
  pub js : List Request
  pub few : length js ≤ 64
  pub joins : joined ≡ weights js
  pub less : (c : ℕ) → counted c ts ≤ counted c vs + counted c js
  pub balance : weights ts + left ≡ weights vs + joined
