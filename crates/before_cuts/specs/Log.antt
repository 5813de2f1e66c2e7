-- Document 01, "The log": from the bytes of a log to the bytes of its output.
-- Assumes nothing.
--
--   LF                  10, which ends a line
--   lines bs            the lines of a log, without their LF; the last LF may be absent, and no bytes are no line
--   digit b             the value of an upper-case hexadecimal digit; `none` for any other byte
--   unhex bs            the bytes that a line spells, two digits each; `none` where it spells none
--   op_of b, frame bs    the operation of a byte; the call of a frame; `none` for anything that is no frame
--   hex_digit n, line bs a digit; a line of output: two digits a byte, then LF
--   reply_line r, answer_line a, told o   a reply's line, an answer's line, all the lines of one call
--   Fed, feed s l       what one line comes to: the output and the next state
--   run s ls            the same for lines in order; log bs: a whole log from the fresh device
use Rattle.std.specs.Prelude.{ℕ, ◌+◌, ◌-◌, ◌*◌, ◌/◌, ◌%◌, Bool, true, false, ◌&&◌, List, [], ◌∷◌, ◌++◌, eqb, leb, ltb, length, get_or, drop, if◌then◌else◌}
use Rattle.std.proofs.Math.Option.{Option, none, some}
use Rattle.before_cuts.specs.Numbers.{MALFORMED, NONE, REQUESTS}
use Rattle.before_cuts.specs.State.{State, Reply, Answer, Outcome, Call, Op, OPEN, CLOSE, ABORT, EVENT, COMMAND, fresh}
use Rattle.before_cuts.specs.Commands.{done, silent}
use Rattle.before_cuts.specs.Call.{call}

abbrev pub LF : ℕ
LF = 10

-- "one frame a line, ended by LF; the last LF may be absent, and a log of no bytes has no line"
unfoldable pub opened : ℕ → List (List ℕ) → List (List ℕ)
opened b [] = (b ∷ []) ∷ []
opened b (l ∷ ls) = (b ∷ l) ∷ ls

unfoldable pub lines : List ℕ → List (List ℕ)
lines [] = []
lines (b ∷ bs) = if eqb b LF then [] ∷ lines bs else opened b (lines bs)

-- "upper-case hexadecimal": 0 to 9 are the bytes 48 to 57, A to F the bytes 65 to 70
unfoldable pub digit : ℕ → Option ℕ
digit b =
    if leb 48 b && leb b 57 then some (b - 48)
    else if leb 65 b && leb b 70 then some (b - 55)
    else none

unfoldable pub joined : Option ℕ → Option ℕ → Option (List ℕ) → Option (List ℕ)
joined (some h) (some l) (some bs) = some ((16 * h + l) ∷ bs)
joined (some h) (some l) none = none
joined (some h) none bs = none
joined none l bs = none

unfoldable pub unhex : List ℕ → Option (List ℕ)
unhex [] = some []
unhex (h ∷ []) = none
unhex (h ∷ l ∷ bs) = joined (digit h) (digit l) (unhex bs)

-- "Operations F0 to F3 are OPEN, CLOSE, ABORT, event; others are the command number."
unfoldable pub op_of : ℕ → Op
op_of b =
    if eqb b 0xF0 then OPEN
    else if eqb b 0xF1 then CLOSE
    else if eqb b 0xF2 then ABORT
    else if eqb b 0xF3 then EVENT
    else COMMAND b

-- "Frame: operation, id, flags, map, precedence (two's complement), key (two bytes, high first), length n, then exactly n
-- combination bytes." Every call of a log lends a full reply list.
unfoldable pub call_of : List ℕ → Call
call_of bs =
    record {
      op = op_of (get_or bs 0 0);
      id = get_or bs 1 0;
      flags = get_or bs 2 0;
      map = get_or bs 3 0;
      prec = (get_or bs 4 0 + 128) % 256;
      key = 256 * get_or bs 5 0 + get_or bs 6 0;
      combos = drop 8 bs;
      room = REQUESTS;
    }

unfoldable pub frame : Option (List ℕ) → Option Call
frame none = none
frame (some bs) = if leb 8 (length bs) && eqb (length bs) (8 + get_or bs 7 0) then some (call_of bs) else none

unfoldable pub hex_digit : ℕ → ℕ
hex_digit n = if ltb n 10 then 48 + n else 55 + n

unfoldable pub line : List ℕ → List ℕ
line [] = LF ∷ []
line (b ∷ bs) = hex_digit (b / 16) ∷ hex_digit (b % 16) ∷ line bs

-- "the replies (C0, id, command, error, map, key)"
unfoldable pub reply_line : Reply → List ℕ
reply_line r = line (0xC0 ∷ r.id ∷ r.command ∷ r.error ∷ r.map ∷ (r.key / 256) ∷ (r.key % 256) ∷ [])

-- "then one answer: A0 done or A1 outstanding, error, map, key, last byte"
unfoldable pub answer_line : Answer → List ℕ
answer_line a = line ((if a.outstanding then 0xA1 else 0xA0) ∷ a.error ∷ a.map ∷ (a.key / 256) ∷ (a.key % 256) ∷ a.extra ∷ [])

unfoldable pub reply_lines : List Reply → List ℕ
reply_lines [] = []
reply_lines (r ∷ rs) = reply_line r ++ reply_lines rs

unfoldable pub told : Outcome → List ℕ
told o = reply_lines o.replies ++ answer_line o.answer

pub record Fed : Type 0 where
  pub output : List ℕ
  pub next : State

-- "Anything else is malformed, an empty line included; the next line is read as usual." "a malformed line has map 0, key 0"
unfoldable pub outcome_of : State → Option Call → Outcome
outcome_of s none = silent (done MALFORMED 0 0 NONE) [] s
outcome_of s (some c) = call s c

unfoldable pub feed : State → List ℕ → Fed
feed s l = let o = outcome_of s (frame (unhex l)) in record { output = told o; next = o.next }

unfoldable pub run : State → List (List ℕ) → Fed
run s [] = record { output = []; next = s }
run s (l ∷ ls) =
    let f = feed s l in
    let r = run f.next ls in
    record { output = f.output ++ r.output; next = r.next }

unfoldable pub log : List ℕ → List ℕ
log bs = (run fresh (lines bs)).output
