-- Document 02, #109, the last rule, on the bytes that a program in C lends: "two sound states, neither with writes of both desks under
-- one key, alike in one desk's requests, .. give that desk's next call, under no key of the other's writes, the same answer and replies
-- in its half". Two calls of `qamhudeer_call`, by its promise and nothing else, each on bytes that hold one of the states. What the
-- reply lists and the rooms held before, and what the displays show, may be unlike. proofs/OneDesk.antt proves it as `one_desk-bytes`.
-- Assumes nothing.
--
--   Gets, gets d t       what desk d gets of a call: the answer's six bytes, its own number of replies, the records of its half. The
--                        other number, and the result, which is the sum of both, count the other desk's replies too: they are not its own
--   OneDeskBytes        two calls with room for their answers, and with the same numbers, combinations and number of records lent,
--                        give it the same
use Rattle.std.specs.Prelude.{ℕ, ◌+◌, ◌≡◌, List, T, get_or}
use Rattle.image.specs.board.Board.{state_in, Held}
use Rattle.image.specs.Image.{state_of, Whole}
use Rattle.one_desk.specs.OneDesk.{Premises}
use Rattle.c_runs.specs.CRuns.{Turn, asked, roomy, Took, spoken}
use Rattle.c_runs.specs.Desk.{half}

pub record Gets : Type 0 where
  pub answer : List ℕ
  pub number : ℕ
  pub records : List (List ℕ)

unfoldable pub gets : ℕ → Turn → Gets
gets d t = record { answer = spoken t; number = get_or t.answer (6 + d) 0; records = half d t }

-- for any d, as in crates/one_desk; of no third desk is there anything to read
abbrev pub OneDeskBytes : Type 0
OneDeskBytes =
    (d : ℕ) (st tb st₂ tb₂ : List ℕ) (t u : Turn) → Whole st → Held (state_of st) tb → Whole st₂ → Held (state_of st₂) tb₂
    → Took st tb t → Took st₂ tb₂ u → T (roomy t) → T (roomy u) → asked t ≡ asked u
    → Premises d (asked t) (state_in (state_of st) tb) (state_in (state_of st₂) tb₂) → gets d t ≡ gets d u
