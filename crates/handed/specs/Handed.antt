-- What is handed in as numbers, and what comes back as bytes.
-- Assumes nothing.
--
--   request_of desk op id ..    the request of the numbers that are handed in; the precedence is in two's complement
--   answer_bytes a m n          an answer: outstanding (1) or done (0), error, map, key (high byte first), extra, and how many replies
--                              desk A and desk B have
use Rattle.std.specs.Prelude.{ℕ, ◌+◌, ◌/◌, ◌%◌, List, [], ◌∷◌}
use Rattle.answers.specs.machine.InBytes.{mark_of}
use Rattle.answers.specs.declared.Request.{Request}
use Rattle.answers.specs.declared.Answer.{Answer}

abbrev pub request_of : ℕ → ℕ → ℕ → ℕ → ℕ → ℕ → ℕ → Request
request_of desk op id flags map prec key = record { desk = desk; command = op; id = id; flags = flags; map = map; prec = (prec + 128) % 256; key = key }

-- #109: "each half with its own number"
unfoldable pub answer_bytes : Answer → ℕ → ℕ → List ℕ
answer_bytes a m n = mark_of a.outstanding ∷ a.error ∷ a.map ∷ (a.key / 256) ∷ (a.key % 256) ∷ a.extra ∷ m ∷ n ∷ []
