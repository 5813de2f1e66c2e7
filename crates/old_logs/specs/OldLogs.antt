-- Document 02, #102: "An old log without F4 and commands 11, 12 and 14, whose writes all have n 0, must give the same output as before
-- #101." Which logs are old, and since #109, which changes a log of both desks on purpose, which are of one desk. Assumes nothing.
--
--   old_command n ms   the command is none of 11, 12 and 14, and where it is a WRITE it has no combination bytes ms
--   old_op o ms        the operation is not F4, and where it is a command it is such a one
--   old_call c, old_line l   a call of such an operation; a line that is no frame, or the frame of such a call
--   OldLog bs         each line of the log is such a line
--   in_half d i        the id is desk d's, or above 63 and nobody's
--   half_op d o i      where the operation is a command, its id is such a one; an ABORT may name any id, since none of the other half is
--                     outstanding
--   half_call d c, half_line d l   a call of such an operation; a line that is no frame, or the frame of such a call
--   OneHalf d bs      each line of the log is such a line
use Rattle.std.specs.Prelude.{ℕ, Bool, true, false, not, ◌&&◌, ◌||◌, List, T, eqb, ltb, length}
use Rattle.std.proofs.Math.Option.{Option, none, some}
use Rattle.machine.specs.Desks.{desk_of}
use Rattle.machine.specs.Numbers.{CMD_WRITE, ADCMD_FINISH, ADCMD_PERVOL, ADCMD_WAITCYCLE}
use Rattle.machine.specs.Lists.{all}
use Rattle.machine.specs.State.{Call, Op, OPEN, CLOSE, ABORT, EVENT, CYCLE_ENDED, GAVE_UP, COMMAND}
use Rattle.machine.specs.Log.{lines, unhex, frame}

-- "commands 11, 12 and 14"; "whose writes all have n 0"
unfoldable pub old_command : ℕ → List ℕ → Bool
old_command n ms =
    not (eqb n ADCMD_FINISH)
    && not (eqb n ADCMD_PERVOL)
    && not (eqb n ADCMD_WAITCYCLE)
    && (not (eqb n CMD_WRITE) || eqb (length ms) 0)

unfoldable pub old_op : Op → List ℕ → Bool
old_op OPEN ms = true
old_op CLOSE ms = true
old_op ABORT ms = true
old_op (EVENT CYCLE_ENDED) ms = true
old_op (EVENT GAVE_UP) ms = false
old_op (COMMAND n) ms = old_command n ms

unfoldable pub old_call : Option Call → Bool
old_call none = true
old_call (some c) = old_op c.op c.combos

unfoldable pub old_line : List ℕ → Bool
old_line l = old_call (frame (unhex l))

abbrev pub OldLog : List ℕ → Type 0
OldLog bs = T (all old_line (lines bs))

-- #109: "Desk A has ids 0 to 31, desk B 32 to 63." An id above 63 gets 4 and no reply.
unfoldable pub in_half : ℕ → ℕ → Bool
in_half d i = eqb (desk_of i) d || ltb 63 i

unfoldable pub half_op : ℕ → Op → ℕ → Bool
half_op d OPEN i = true
half_op d CLOSE i = true
half_op d ABORT i = true
half_op d (EVENT v) i = true
half_op d (COMMAND n) i = in_half d i

unfoldable pub half_call : ℕ → Option Call → Bool
half_call d none = true
half_call d (some c) = half_op d c.op c.id

unfoldable pub half_line : ℕ → List ℕ → Bool
half_line d l = half_call d (frame (unhex l))

abbrev pub OneHalf : ℕ → List ℕ → Type 0
OneHalf d bs = T (all (half_line d) (lines bs))
