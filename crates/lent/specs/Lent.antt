-- What a store into the lent bytes of a state makes of the board that they hold, and of which bytes it is one. Channels have their own file,
-- in crates/lent_channels.
-- Assumes nothing.
--
--   Tidy q                  zeros stand behind the ids of a queue
--   without i q             the queue without the first of an id; as it was where the id is not among them
--   channel_on i b           channel i of a board
--   with_channel .. with_last a board with one part replaced
--   Place at                `at` is the place of one of the eleven queues
--   queue_in p b             the queue of that place; with_queue p q b: the board with another one there
--   Holds b l               the bytes are whole, and hold the board b
--   struct_in l              the struct that the bytes of a state hold: what the promises of commands speak of
--   Kept l l'               the bytes are whole, and the board has as many channels as before
--   PutQueue l at f l'      the queue at `at` became f of what it was, and every other byte is as before
--   PutOpens l f l'         the same of the open keys; PutLast l k l' of the last key
--   PutFresh w l'           a fresh board
use Rattle.std.specs.Prelude.{ℕ, ◌+◌, ◌*◌, ◌<◌, ◌≡◌, cond, List, ltb, length, get_or, set}
use Rattle.memory.specs.Splice.{splice}
use Rattle.answers.specs.machine.State.{free}
use Rattle.answers.specs.machine.InBytes.{two_bytes}
use Rattle.open_keys.specs.queue.declared.Queue.{Queue}
use Rattle.open_keys.specs.queue.Queue.{queue_of, list_of, removed, index_of}
use Rattle.open_keys.specs.declared.Keys.{Keys}
use Rattle.channel.specs.declared.Channel.{Channel}
use Rattle.channel.specs.Channel.{channel_of, with_writes}
use Rattle.image.specs.store.declared.State.{State}
use Rattle.image.specs.board.declared.Board.{Board}
use Rattle.image.specs.board.Board.{fresh_board}
use Rattle.image.specs.Image.{queue_bytes, open_bytes, image_of, queue_at, open_at, state_of, Whole}

-- ---- queues

abbrev pub Tidy : Queue → Type 0
Tidy q = q ≡ queue_of (list_of q)

abbrev pub without : ℕ → Queue → Queue
without i q =
    let k = index_of i (list_of q) in
    cond (ltb k q.n) (removed q k) q

-- ---- a board with one part replaced

abbrev pub channel_on : ℕ → Board → Channel
channel_on i b = get_or b.state.channels i (channel_of free)

abbrev pub with_channel : ℕ → Channel → Board → Board
with_channel i c b =
    let s = b.state in
    record {
      width = b.width;
      state = record {
        channels = set s.channels i c;
        locks = s.locks;
        waiters = s.waiters;
        waiting = s.waiting;
        opens = s.opens;
        last = s.last;
      };
    }

abbrev pub with_locks : Queue → Board → Board
with_locks q b =
    let s = b.state in
    record {
      width = b.width;
      state = record { channels = s.channels; locks = q; waiters = s.waiters; waiting = s.waiting; opens = s.opens; last = s.last };
    }

abbrev pub with_waiters : Queue → Board → Board
with_waiters q b =
    let s = b.state in
    record {
      width = b.width;
      state = record { channels = s.channels; locks = s.locks; waiters = q; waiting = s.waiting; opens = s.opens; last = s.last };
    }

abbrev pub with_waiting : Queue → Board → Board
with_waiting q b =
    let s = b.state in
    record {
      width = b.width;
      state = record { channels = s.channels; locks = s.locks; waiters = s.waiters; waiting = q; opens = s.opens; last = s.last };
    }

abbrev pub with_opens : Keys → Board → Board
with_opens q b =
    let s = b.state in
    record {
      width = b.width;
      state = record { channels = s.channels; locks = s.locks; waiters = s.waiters; waiting = s.waiting; opens = q; last = s.last };
    }

abbrev pub with_last : ℕ → Board → Board
with_last k b =
    let s = b.state in
    record {
      width = b.width;
      state = record { channels = s.channels; locks = s.locks; waiters = s.waiters; waiting = s.waiting; opens = s.opens; last = k };
    }

-- ---- the eleven queues

pub data Place (at : ℕ) : Type 0 where
  writes : (i : ℕ) → i < 8 → at ≡ i * 70 + 5 → Place at
  locks : at ≡ 560 → Place at
  waiters : at ≡ 625 → Place at
  waiting : at ≡ 690 → Place at

abbrev pub queue_in : {at : ℕ} → Place at → Board → Queue
queue_in (writes i h e) b = (channel_on i b).writes
queue_in (locks e) b = b.state.locks
queue_in (waiters e) b = b.state.waiters
queue_in (waiting e) b = b.state.waiting

abbrev pub with_queue : {at : ℕ} → Place at → Queue → Board → Board
with_queue (writes i h e) q b = with_channel i (with_writes q (channel_on i b)) b
with_queue (locks e) q b = with_locks q b
with_queue (waiters e) q b = with_waiters q b
with_queue (waiting e) q b = with_waiting q b

-- ---- the promises

pub record Holds (b : Board) (l : List ℕ) : Type 0 where
  pub whole : Whole l
  pub board : state_of l ≡ b

abbrev pub struct_in : List ℕ → State
struct_in l = (state_of l).state

abbrev pub Kept : List ℕ → List ℕ → Type 0
Kept l l' = Whole l' × ((state_of l').width ≡ (state_of l).width)

pub record PutQueue (l : List ℕ) (at : ℕ) (f : Queue → Queue) (l' : List ℕ) : Type 0 where
  pub bytes : l' ≡ splice l at (queue_bytes (f (queue_at l at)))
  pub long : length l' ≡ length l
  pub holds : (p : Place at) → Whole l → Holds (with_queue p (f (queue_in p (state_of l))) (state_of l)) l'

pub record PutOpens (l : List ℕ) (f : Keys → Keys) (l' : List ℕ) : Type 0 where
  pub bytes : l' ≡ splice l 755 (open_bytes (f (open_at l 755)))
  pub long : length l' ≡ length l
  pub holds : Whole l → Holds (with_opens (f (state_of l).state.opens) (state_of l)) l'

pub record PutLast (l : List ℕ) (k : ℕ) (l' : List ℕ) : Type 0 where
  pub bytes : l' ≡ splice l 820 (two_bytes k)
  pub long : length l' ≡ length l
  pub holds : Whole l → Holds (with_last k (state_of l)) l'

pub record PutFresh (w : ℕ) (l' : List ℕ) : Type 0 where
  pub bytes : l' ≡ image_of (fresh_board w)
  pub long : length l' ≡ 823
  pub holds : Holds (fresh_board w) l'
