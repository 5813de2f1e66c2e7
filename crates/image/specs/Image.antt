-- The state as 823 bytes that a caller keeps: eight channels of 70 bytes from 0 on, the locks at 560, the WAITCYCLEs at 625, the
-- waiting requests at 690, the open keys at 755, the last key at 820, and at 822 how many channels the board has. One size for both
-- boards: behind four channels of its own a board keeps four that are free. Assumes nothing.
--
--   CHANNEL, LOCKS, WAITERS, WAITING, OPENS, LAST, CHANNELS, STATE   the size of a channel, where the other parts begin, the size
--                         of all
--   keys_bytes ks          the bytes of keys, one behind the other, 2 for each, the high one first
--   open_bytes q           65 bytes: how many keys are open, then 32 keys
--   queue_bytes q          65 bytes: the count, then the 64 ids
--   channel_bytes c        70 bytes: its key, its precedence as it is stored (itself plus 128), its lock mark, its stop mark, its queue
--   channels_bytes cs      the bytes of channels, one behind the other
--   image_of b             the 823 bytes of a board
--   key_at, queue_at, open_at, channel_at bs at   the key, the queue, the open keys, the channel that stand at a place
--   keys_from n bs at      n keys from a place on
--   channels_at n bs at    n channels from a place on
--   state_of bs            the board that 823 bytes hold
--   is_byte b, is_mark b    a number that a byte can have; one that a mark can have
--   marks_at bs at         the two marks of the channel at a place are marks; all_marks n bs at: those of n channels from there on
--   is_whole bs, Whole bs  823 bytes, each below 256, and every mark of theirs is 0 or 1; others hold no struct
--   Wrote l at vs n l'    the n bytes vs were written at a place, and every other byte is as before
--   Filled q, AllFilled cs, Sized b   a queue, the queues of channels, a struct, of the lengths that the code's types keep
--   Entered l cs l'       the bytes of eight channels were written in front of a list
--   Saved b l'            what `save` promises: the bytes of the board, which hold it
use Rattle.std.specs.Prelude.{ℕ, zero, suc, ◌+◌, ◌*◌, ◌≡◌, Bool, true, ◌&&◌, List, [], ◌∷◌, ◌++◌, T, eqb, ltb, length, get_or, take, drop}
use Rattle.memory.specs.Splice.{splice}
use Rattle.open_keys.specs.machine.Lists.{all}
use Rattle.open_keys.specs.machine.InBytes.{mark_of, two_bytes}
use Rattle.open_keys.specs.queue.declared.Queue.{Queue}
use Rattle.open_keys.specs.declared.Keys.{Keys}
use Rattle.board.specs.channel.declared.Channel.{Channel}
use Rattle.board.specs.declared.Board.{Board}
use Rattle.board.specs.store.Store.{Each}

abbrev pub CHANNEL : ℕ
CHANNEL = 70

abbrev pub LOCKS : ℕ
LOCKS = 560

abbrev pub WAITERS : ℕ
WAITERS = 625

abbrev pub WAITING : ℕ
WAITING = 690

abbrev pub OPENS : ℕ
OPENS = 755

abbrev pub LAST : ℕ
LAST = 820

abbrev pub CHANNELS : ℕ
CHANNELS = 822

abbrev pub STATE : ℕ
STATE = 823

-- ---- to bytes

abbrev pub queue_bytes : Queue → List ℕ
queue_bytes q = q.n ∷ q.ids

unfoldable pub keys_bytes : List ℕ → List ℕ
keys_bytes [] = []
keys_bytes (k ∷ ks) = two_bytes k ++ keys_bytes ks

abbrev pub open_bytes : Keys → List ℕ
open_bytes q = q.n ∷ keys_bytes q.keys

unfoldable pub channel_bytes : Channel → List ℕ
channel_bytes c = two_bytes c.key ++ (c.prec ∷ mark_of c.locked ∷ mark_of c.stopped ∷ queue_bytes c.writes)

unfoldable pub channels_bytes : List Channel → List ℕ
channels_bytes [] = []
channels_bytes (c ∷ cs) = channel_bytes c ++ channels_bytes cs

unfoldable pub image_of : Board → List ℕ
image_of b =
    let s = b.state in
    channels_bytes s.channels
    ++ (queue_bytes s.locks ++ (queue_bytes s.waiters ++ (queue_bytes s.waiting ++ (open_bytes s.opens ++ (two_bytes s.last ++ (b.width ∷ []))))))

-- ---- from bytes

abbrev pub key_at : List ℕ → ℕ → ℕ
key_at bs at = get_or bs at 0 * 256 + get_or bs (at + 1) 0

unfoldable pub queue_at : List ℕ → ℕ → Queue
queue_at bs at = record { n = get_or bs at 0; ids = take 64 (drop (at + 1) bs) }

unfoldable pub keys_from : ℕ → List ℕ → ℕ → List ℕ
keys_from zero bs at = []
keys_from (suc n) bs at = key_at bs at ∷ keys_from n bs (at + 2)

unfoldable pub open_at : List ℕ → ℕ → Keys
open_at bs at = record { n = get_or bs at 0; keys = keys_from 32 bs (at + 1) }

unfoldable pub channel_at : List ℕ → ℕ → Channel
channel_at bs at =
    record {
      key = key_at bs at;
      prec = get_or bs (at + 2) 0;
      locked = eqb (get_or bs (at + 3) 0) 1;
      stopped = eqb (get_or bs (at + 4) 0) 1;
      writes = queue_at bs (at + 5);
    }

unfoldable pub channels_at : ℕ → List ℕ → ℕ → List Channel
channels_at zero bs at = []
channels_at (suc n) bs at = channel_at bs at ∷ channels_at n bs (at + CHANNEL)

unfoldable pub state_of : List ℕ → Board
state_of bs =
    record {
      width = get_or bs CHANNELS 0;
      state =
          record {
            channels = channels_at 8 bs 0;
            locks = queue_at bs LOCKS;
            waiters = queue_at bs WAITERS;
            waiting = queue_at bs WAITING;
            opens = open_at bs OPENS;
            last = key_at bs LAST;
          };
    }

-- ---- which bytes hold a struct

abbrev pub is_byte : ℕ → Bool
is_byte b = ltb b 256

abbrev pub is_mark : ℕ → Bool
is_mark b = ltb b 2

unfoldable pub marks_at : List ℕ → ℕ → Bool
marks_at bs at = is_mark (get_or bs (at + 3) 0) && is_mark (get_or bs (at + 4) 0)

unfoldable pub all_marks : ℕ → List ℕ → ℕ → Bool
all_marks zero bs at = true
all_marks (suc n) bs at = marks_at bs at && all_marks n bs (at + CHANNEL)

unfoldable pub is_whole : List ℕ → Bool
is_whole bs = eqb (length bs) STATE && (all_marks 8 bs 0 && all is_byte bs)

abbrev pub Whole : List ℕ → Type 0
Whole bs = T (is_whole bs)

-- ---- which structs have bytes

abbrev pub Filled : Queue → Type 0
Filled q = length q.ids ≡ 64

abbrev pub AllFilled : List Channel → Type 0
AllFilled cs = Each (λ c. Filled c.writes) cs

pub record Sized (b : Board) : Type 0 where
  pub eight : length b.state.channels ≡ 8
  pub channels : AllFilled b.state.channels
  pub locks : Filled b.state.locks
  pub waiters : Filled b.state.waiters
  pub waiting : Filled b.state.waiting
  pub opens : length b.state.opens.keys ≡ 32

-- ---- the promises

pub record Wrote (l : List ℕ) (at : ℕ) (vs : List ℕ) (n : ℕ) (l' : List ℕ) : Type 0 where
  pub bytes : l' ≡ splice l at vs
  pub size : length vs ≡ n

pub record Entered (l : List ℕ) (cs : List Channel) (l' : List ℕ) : Type 0 where
  pub eight : length cs ≡ 8
  pub filled : AllFilled cs
  pub wrote : Wrote l 0 (channels_bytes cs) 560 l'

pub record Saved (b : Board) (l' : List ℕ) : Type 0 where
  pub bytes : l' ≡ image_of b
  pub sized : Sized b
  pub whole : Whole l'
