-- What the machine before #101 speaks of, as the present machine has it. Assumes nothing.
--
--   now_write i       a write of the id i with n 0: one cycle, period 124, volume 64, nothing remembered
--   now_channel .. now_reply   a channel whose writes are such; a lock, a request, a reply as they are
--   now s            the state: the same, and no WAITCYCLE
--   now_op o          the operation; the event is "a cycle ended"
--   now_call c        a call, of the desk of its id as a log has it
--   now_answer a, now_outcome o, now_fed f   an answer, an outcome and what a line comes to
use Rattle.std.specs.Prelude.{ℕ, false, [], map}
use Rattle.std.proofs.Math.Option.{none}
use Rattle.machine.specs.Numbers.{PERIOD_LEAST, VOLUME_MOST}
use Rattle.machine.specs.State.{Write, Channel, Lock, Request, State, Reply, Answer, Outcome, Call, Op, OPEN, CLOSE, ABORT, EVENT, CYCLE_ENDED, COMMAND}
use Rattle.machine.specs.Desks.{desk_of}
use Rattle.machine.specs.Log.{Fed}
use Rattle.old_logs.specs.Old

-- #101: "n 0 means 1, 124 and 64"
abbrev pub now_write : ℕ → Write
now_write i = record { id = i; cycles = 1; period = PERIOD_LEAST; volume = VOLUME_MOST; finish = false; pervol = none }

abbrev pub now_channel : Old.Channel → Channel
now_channel c = record { key = c.key; prec = c.prec; locked = c.locked; stopped = c.stopped; writes = map now_write c.writes }

abbrev pub now_lock : Old.Lock → Lock
now_lock l = record { id = l.id; key = l.key; map = l.map }

abbrev pub now_request : Old.Request → Request
now_request r = record { id = r.id; key = r.key; prec = r.prec; impatient = r.impatient; combos = r.combos }

abbrev pub now : Old.State → State
now s =
    record {
      channels = map now_channel s.channels;
      locks = map now_lock s.locks;
      waiters = [];
      waiting = map now_request s.waiting;
      opens = s.opens;
      last = s.last;
    }

abbrev pub now_reply : Old.Reply → Reply
now_reply r = record { id = r.id; command = r.command; error = r.error; map = r.map; key = r.key }

abbrev pub now_answer : Old.Answer → Answer
now_answer a = record { outstanding = a.outstanding; error = a.error; map = a.map; key = a.key; extra = a.extra }

abbrev pub now_outcome : Old.Outcome → Outcome
now_outcome o = record { answer = now_answer o.answer; replies = map now_reply o.replies; next = now o.next }

abbrev pub now_op : Old.Op → Op
now_op Old.OPEN = OPEN
now_op Old.CLOSE = CLOSE
now_op Old.ABORT = ABORT
now_op Old.EVENT = EVENT CYCLE_ENDED
now_op (Old.COMMAND n) = COMMAND n

-- #109: "in the log an id byte of 32 or more means B"
abbrev pub now_call : Old.Call → Call
now_call c =
    record { op = now_op c.op; desk = desk_of c.id; id = c.id; flags = c.flags; map = c.map; prec = c.prec; key = c.key; combos = c.combos; room = c.room }

abbrev pub now_fed : Old.Fed → Fed
now_fed f = record { output = f.output; next = now f.next }
