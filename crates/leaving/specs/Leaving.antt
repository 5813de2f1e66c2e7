-- The words in which it is promised that an id's request goes.
-- Assumes nothing.
--
--   others i l      the ids of a list other than i
--   Tidy q          a queue that lies as its list says, with no id twice
--   struck i q      the queue without an id
--   cleaned i c     the channel without the write of an id
--   leaving i s     the struct without a write, a WAITCYCLE or a waiting request of an id: of the machine's state of that name
use Rattle.std.specs.Prelude.{ℕ, ◌≤◌, ◌≡◌, not, List, map, T, eqb}
use Rattle.store.specs.machine.Lists.{keep, distinct}
use Rattle.queue.specs.declared.Queue.{Queue}
use Rattle.queue.specs.Queue.{queue_of, list_of}
use Rattle.channel.specs.declared.Channel.{Channel}
use Rattle.channel.specs.Channel.{with_writes}
use Rattle.store.specs.declared.State.{State}

abbrev pub others : ℕ → List ℕ → List ℕ
others i l = keep (λ j. not (eqb i j)) l

pub record Tidy (q : Queue) : Type 0 where
  pub few : q.n ≤ 64
  pub lies : q ≡ queue_of (list_of q)
  pub apart : T (distinct (list_of q))

abbrev pub struck : ℕ → Queue → Queue
struck i q = queue_of (others i (list_of q))

abbrev pub cleaned : ℕ → Channel → Channel
cleaned i c = with_writes (struck i c.writes) c

abbrev pub leaving : ℕ → State → State
leaving i s =
    record {
      channels = map (cleaned i) s.channels;
      locks = s.locks;
      waiters = struck i s.waiters;
      waiting = struck i s.waiting;
      opens = s.opens;
      last = s.last;
    }
