-- A channel by value: all of it but the ids of its writes, which stay in the lent bytes of a state. Assumes nothing.
--
--   head_in c                a channel by value: all but the ids of its writes
--   reset_head .. taken_head  what the methods do
--   kept n q                the queue when its number of writes is stored again: 0 leaves no id, another number leaves the ids
--   stored h c              the channel when its head is stored again
--   PutHead l i h l'        the head of channel i became h, and every other byte is as before
use Rattle.std.specs.Prelude.{ℕ, ◌*◌, ◌≡◌, Bool, true, false, List, [], eqb, length, if◌then◌else◌}
use Rattle.memory.specs.Splice.{splice}
use Rattle.machine.specs.State.{free}
use Rattle.queue.specs.declared.Queue.{Queue}
use Rattle.queue.specs.Queue.{queue_of}
use Rattle.channel.specs.declared.Channel.{Channel}
use Rattle.channel.specs.Channel.{channel_of}
use Rattle.image.specs.Image.{channel_bytes, channel_at, state_of, Whole}
use Rattle.lent.specs.Lent.{channel_on, with_channel, Holds}
use Rattle.lent_channels.specs.declared.Channel.{Channel as Head}

abbrev pub head_in : Channel → Head
head_in c = record { key = c.key; prec = c.prec; locked = c.locked; stopped = c.stopped; writes = c.writes.n }

abbrev pub unused_head : Head
unused_head = head_in (channel_of free)

abbrev pub reset_head : Head → Head
reset_head h = record { key = h.key; prec = h.prec; locked = h.locked; stopped = false; writes = 0 }

abbrev pub prec_head : ℕ → Head → Head
prec_head p h = record { key = h.key; prec = p; locked = h.locked; stopped = h.stopped; writes = h.writes }

abbrev pub flush_head : Head → Head
flush_head h = record { key = h.key; prec = h.prec; locked = h.locked; stopped = h.stopped; writes = 0 }

abbrev pub stop_head : Bool → Head → Head
stop_head b h = record { key = h.key; prec = h.prec; locked = h.locked; stopped = b; writes = h.writes }

abbrev pub lock_head : Head → Head
lock_head h = record { key = h.key; prec = h.prec; locked = true; stopped = h.stopped; writes = h.writes }

abbrev pub taken_head : ℕ → ℕ → Head → Head
taken_head k p h = record { key = k; prec = p; locked = h.locked; stopped = false; writes = 0 }

abbrev pub kept : ℕ → Queue → Queue
kept n q = if eqb n 0 then queue_of [] else (record { n = n; ids = q.ids })

abbrev pub stored : Head → Channel → Channel
stored h c = record { key = h.key; prec = h.prec; locked = h.locked; stopped = h.stopped; writes = kept h.writes c.writes }

pub record PutHead (l : List ℕ) (i : ℕ) (h : Head) (l' : List ℕ) : Type 0 where
  pub bytes : l' ≡ splice l (i * 70) (channel_bytes (stored h (channel_at l (i * 70))))
  pub long : length l' ≡ length l
  pub holds : Whole l → Holds (with_channel i (stored h (channel_on i (state_of l))) (state_of l)) l'
