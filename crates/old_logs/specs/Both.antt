-- Old logs with ids of both halves. #109 changes their output on purpose: "in the log an id byte of 32 or more means B, and A's replies are
-- written first." "READ answers 255 for the other desk's write." This is what the machine before #101 wrote, with just these two changes.
-- Assumes nothing.
--
--   in_halves rs       the replies to ids below 32 in their order, then the others in theirs
--   hidden i a        the answer to a command with the id i: its last byte is FF where it is an id of the other half; only READ's is an id
--   hides o i a       the same by operation: the last byte of ABORT is no id
--   both_told f o      the lines of a call, given the frame
--   both_run s ls      the output of lines in order, and the state after them
use Rattle.std.specs.Prelude.{ℕ, not, List, [], ◌∷◌, ◌++◌, eqb, ltb, if◌then◌else◌}
use Rattle.std.proofs.Math.Option.{Option, none, some}
use Rattle.machine.specs.Numbers.{NONE}
use Rattle.machine.specs.Lists.{keep}
use Rattle.machine.specs.Desks.{HALF, desk_of}
use Rattle.old_logs.specs.Old

unfoldable pub in_halves : List Old.Reply → List Old.Reply
in_halves rs = keep (λ r. ltb r.id HALF) rs ++ keep (λ r. not (ltb r.id HALF)) rs

unfoldable pub hidden : ℕ → Old.Answer → Old.Answer
hidden i a =
    record {
      outstanding = a.outstanding;
      error = a.error;
      map = a.map;
      key = a.key;
      extra = if eqb (desk_of a.extra) (desk_of i) then a.extra else NONE;
    }

unfoldable pub hides : Old.Op → ℕ → Old.Answer → Old.Answer
hides Old.OPEN i a = a
hides Old.CLOSE i a = a
hides Old.ABORT i a = a
hides Old.EVENT i a = a
hides (Old.COMMAND n) i a = hidden i a

unfoldable pub both_told : Option Old.Call → Old.Outcome → List ℕ
both_told none o = Old.told o
both_told (some c) o = Old.reply_lines (in_halves o.replies) ++ Old.answer_line (hides c.op c.id o.answer)

unfoldable pub both_run : Old.State → List (List ℕ) → Old.Fed
both_run s [] = record { output = []; next = s }
both_run s (l ∷ ls) =
    let f = Old.frame (Old.unhex l) in
    let o = Old.outcome_of s f in
    let r = both_run o.next ls in
    record { output = both_told f o ++ r.output; next = r.next }
