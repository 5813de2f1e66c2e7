-- Document 01 as one function: a call on a state gives an answer, replies in order and the next state.
-- Assumes nothing.
--
--   perform k c s      what an accepted command does before settling
--   settling o         an outcome followed by settling
--   open_settling o     the same for OPEN, which settles nothing where it is answered -11
--   accept op c s      an accepted call
--   call s c           any call
--   inRange c          the call's precedence and key fit their bytes
use Rattle.std.specs.Prelude.{ℕ, Bool, true, false, ◌&&◌, List, [], ◌++◌, eqb, leb, if◌then◌else◌}
use Rattle.before_cuts.specs.Numbers.{NOCMD, ALLOCFAILED, NONE, CMD_RESET, CMD_UPDATE, CMD_CLEAR, CMD_STOP, CMD_START, CMD_FLUSH, ADCMD_SETPREC, KEYS}
use Rattle.before_cuts.specs.State.{State, Outcome, Call, Op, OPEN, CLOSE, ABORT, EVENT, COMMAND}
use Rattle.before_cuts.specs.Commands.{done, silent, reset, same, set_stop, flushed, set_prec, each_change, do_free, do_lock, do_read, do_write, do_event, do_close, do_abort}
use Rattle.before_cuts.specs.Allocating.{do_allocate, do_open}
use Rattle.before_cuts.specs.Settling.{settle}
use Rattle.before_cuts.specs.Kinds.{Kind, RESET, READ, WRITE, UPDATE, CLEAR, STOP, START, FLUSH, FREE, SETPREC, LOCK, ALLOCATE, UNKNOWN, kind}
use Rattle.before_cuts.specs.Refusals.{Refusal, accepted, refused, refusal, refuse}

-- an unknown command never comes here: it is refused with -3
unfoldable pub perform : Kind → Call → State → Outcome
perform RESET c s = each_change CMD_RESET reset true c s
perform READ c s = do_read c s
perform WRITE c s = do_write c s
perform UPDATE c s = each_change CMD_UPDATE same false c s
perform CLEAR c s = each_change CMD_CLEAR same false c s
perform STOP c s = each_change CMD_STOP (set_stop true) false c s
perform START c s = each_change CMD_START (set_stop false) false c s
perform FLUSH c s = each_change CMD_FLUSH flushed true c s
perform FREE c s = do_free c s
perform SETPREC c s = each_change ADCMD_SETPREC (set_prec c.prec) false c s
perform LOCK c s = do_lock c s
perform ALLOCATE c s = do_allocate c s
perform UNKNOWN c s = silent (done NOCMD 0 c.key NONE) [] s

-- "Whether a command is done or outstanding is settled before the walk"
unfoldable pub settling : Outcome → Outcome
settling o = let t = settle o.next in record { answer = o.answer; replies = o.replies ++ t.replies; next = t.state }

-- "After every call, except one answered 1 to 5, -1, -3, -4 or -5 and an OPEN answered -11, walk from the head."
unfoldable pub open_settling : Outcome → Outcome
open_settling o = if eqb o.answer.error ALLOCFAILED then o else settling o

unfoldable pub accept : Op → Call → State → Outcome
accept OPEN c s = open_settling (do_open c s)
accept CLOSE c s = settling (do_close c s)
accept ABORT c s = settling (do_abort c s)
accept EVENT c s = settling (do_event c s)
accept (COMMAND n) c s = settling (perform (kind n) c s)

unfoldable pub answering : Refusal → Call → State → Outcome
answering accepted c s = accept c.op c s
answering (refused e) c s = refuse c.op e c s

unfoldable pub call : State → Call → Outcome
call s c = answering (refusal c.op c s) c s

unfoldable pub in_range : Call → Bool
in_range c = leb c.prec 255 && leb c.key KEYS
