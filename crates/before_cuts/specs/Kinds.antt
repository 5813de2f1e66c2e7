-- Document 01, "What the arbiter covers": the twelve commands that are in, by their numbers.
-- Assumes nothing.
--
--   Kind, kind n    the command of a number; UNKNOWN for "any command number not listed above"
--   unknown k       the command is none of the twelve
--   allocates k     the command reads combinations and no map
use Rattle.std.specs.Prelude.{ℕ, Bool, true, false, eqb, if◌then◌else◌}
use Rattle.before_cuts.specs.Numbers.{CMD_RESET, CMD_READ, CMD_WRITE, CMD_UPDATE, CMD_CLEAR, CMD_STOP, CMD_START, CMD_FLUSH, ADCMD_FREE, ADCMD_SETPREC, ADCMD_LOCK, ADCMD_ALLOCATE}

pub data Kind : Type 0 where
  RESET READ WRITE UPDATE CLEAR STOP START FLUSH FREE SETPREC LOCK ALLOCATE UNKNOWN : Kind

unfoldable pub kind : ℕ → Kind
kind n =
    if eqb n CMD_RESET then RESET
    else if eqb n CMD_READ then READ
    else if eqb n CMD_WRITE then WRITE
    else if eqb n CMD_UPDATE then UPDATE
    else if eqb n CMD_CLEAR then CLEAR
    else if eqb n CMD_STOP then STOP
    else if eqb n CMD_START then START
    else if eqb n CMD_FLUSH then FLUSH
    else if eqb n ADCMD_FREE then FREE
    else if eqb n ADCMD_SETPREC then SETPREC
    else if eqb n ADCMD_LOCK then LOCK
    else if eqb n ADCMD_ALLOCATE then ALLOCATE
    else UNKNOWN

unfoldable pub unknown : Kind → Bool
unknown RESET = false
unknown READ = false
unknown WRITE = false
unknown UPDATE = false
unknown CLEAR = false
unknown STOP = false
unknown START = false
unknown FLUSH = false
unknown FREE = false
unknown SETPREC = false
unknown LOCK = false
unknown ALLOCATE = false
unknown UNKNOWN = true

unfoldable pub allocates : Kind → Bool
allocates RESET = false
allocates READ = false
allocates WRITE = false
allocates UPDATE = false
allocates CLEAR = false
allocates STOP = false
allocates START = false
allocates FLUSH = false
allocates FREE = false
allocates SETPREC = false
allocates LOCK = false
allocates ALLOCATE = true
allocates UNKNOWN = false
