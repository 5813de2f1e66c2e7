-- What a frame of a saved text makes of what was read before it.
-- Assumes nothing.
--
--   Sheet               the struct and the table so far, how many channels were read, and for each channel the six bytes of what is
--                       remembered for its front write
--   key_of f k           the two bytes at place k as a key
--   channel_from f       the channel of a frame D1, without writes
--   with_channel, with_waiting ..  the struct with one part replaced
--   took_channel .. took_last      the sheet with the frame's channel, request, lock, WAITCYCLE, write, open key, last key
--   numbers_from f q ks  the twelve bytes of a write's numbers: six of its frame, six of its channel's where it is the first
--   has_channel .. has_open        the frame is one of its kind, and there is a place for it
--   channel_taken .. last_taken    the sheet after such a frame: one that is none, or has no place, is passed over
--   taken f d           the same for any frame; taken_all fs d: for frames in order
--   blank tb            the sheet before the first frame
--   Took, Takes         the promises of the functions: the parts of the sheet that they make
use Rattle.std.specs.Prelude.{ℕ, suc, ◌+◌, ◌*◌, ◌≡◌, Bool, true, false, ◌&&◌, List, [], ◌∷◌, ◌++◌, eqb, leb, ltb, length, get_or, take, drop, set, replicate, if◌then◌else◌}
use Rattle.table.specs.memory.Splice.{splice}
use Rattle.store.specs.machine.State.{fresh_on, free}
use Rattle.store.specs.machine.InBytes.{signed}
use Rattle.open_keys.specs.queue.declared.Queue.{Queue}
use Rattle.open_keys.specs.queue.Queue.{queue_of, pushed}
use Rattle.open_keys.specs.declared.Keys.{Keys}
use Rattle.channel.specs.declared.Channel.{Channel}
use Rattle.channel.specs.Channel.{channel_of, with_writes}
use Rattle.table.specs.Entry.{head_bytes, padded}
use Rattle.store.specs.declared.State.{State}
use Rattle.store.specs.Store.{struct_of}
use Rattle.sheet.specs.declared.Draft.{Draft}

pub record Sheet : Type 0 where
  pub state : State
  pub seen : ℕ
  pub table : List ℕ
  pub kept : List ℕ

-- ---- the parts of a frame

abbrev pub key_of : List ℕ → ℕ → ℕ
key_of f k = get_or f k 0 * 256 + get_or f (k + 1) 0

unfoldable pub channel_from : List ℕ → Channel
channel_from f =
    record {
      key = key_of f 1;
      prec = signed (get_or f 3 0);
      locked = eqb (get_or f 4 0) 1;
      stopped = eqb (get_or f 5 0) 1;
      writes = queue_of [];
    }

unfoldable pub numbers_from : List ℕ → Queue → List ℕ → List ℕ
numbers_from f q ks = take 6 (drop 3 f) ++ (if eqb q.n 0 then ks else replicate 6 0)

-- ---- the sheet with one part more

abbrev pub with_state : State → Sheet → Sheet
with_state s d = record { state = s; seen = d.seen; table = d.table; kept = d.kept }

abbrev pub with_table : List ℕ → Sheet → Sheet
with_table tb d = record { state = d.state; seen = d.seen; table = tb; kept = d.kept }

abbrev pub with_channels : List Channel → State → State
with_channels cs s =
    record { channels = cs; locks = s.locks; waiters = s.waiters; waiting = s.waiting; opens = s.opens; last = s.last }

abbrev pub with_locks : Queue → State → State
with_locks q s =
    record { channels = s.channels; locks = q; waiters = s.waiters; waiting = s.waiting; opens = s.opens; last = s.last }

abbrev pub with_waiters : Queue → State → State
with_waiters q s =
    record { channels = s.channels; locks = s.locks; waiters = q; waiting = s.waiting; opens = s.opens; last = s.last }

abbrev pub with_waiting : Queue → State → State
with_waiting q s =
    record { channels = s.channels; locks = s.locks; waiters = s.waiters; waiting = q; opens = s.opens; last = s.last }

abbrev pub with_opens : Keys → State → State
with_opens q s =
    record { channels = s.channels; locks = s.locks; waiters = s.waiters; waiting = s.waiting; opens = q; last = s.last }

abbrev pub with_last : ℕ → State → State
with_last k s =
    record { channels = s.channels; locks = s.locks; waiters = s.waiters; waiting = s.waiting; opens = s.opens; last = k }

-- D1 key precedence locked stopped, then the six bytes of what is remembered
unfoldable pub took_channel : List ℕ → Sheet → Sheet
took_channel f d =
    record {
      state = with_channels (set d.state.channels d.seen (channel_from f)) d.state;
      seen = d.seen + 1;
      table = d.table;
      kept = splice d.kept (d.seen * 6) (drop 6 f);
    }

-- D2 id key precedence nowait n, combinations
unfoldable pub request_entry : List ℕ → List ℕ
request_entry f =
    head_bytes (record { command = 32; key = key_of f 2; map = 0; prec = signed (get_or f 4 0); impatient = get_or f 5 0; n = get_or f 6 0 })
    ++ padded (drop 7 f)

unfoldable pub took_request : List ℕ → Sheet → Sheet
took_request f d =
    record {
      state = with_waiting (pushed d.state.waiting (get_or f 1 0)) d.state;
      seen = d.seen;
      table = splice d.table (get_or f 1 0 * 23) (request_entry f);
      kept = d.kept;
    }

-- D3 and D4: id key map
unfoldable pub span_of : ℕ → List ℕ → List ℕ
span_of command f =
    head_bytes (record { command = command; key = key_of f 2; map = get_or f 4 0; prec = 0; impatient = 0; n = 0 }) ++ replicate 16 0

unfoldable pub took_lock : List ℕ → Sheet → Sheet
took_lock f d =
    record {
      state = with_locks (pushed d.state.locks (get_or f 1 0)) d.state;
      seen = d.seen;
      table = splice d.table (get_or f 1 0 * 23) (span_of 13 f);
      kept = d.kept;
    }

unfoldable pub took_waiter : List ℕ → Sheet → Sheet
took_waiter f d =
    record {
      state = with_waiters (pushed d.state.waiters (get_or f 1 0)) d.state;
      seen = d.seen;
      table = splice d.table (get_or f 1 0 * 23) (span_of 14 f);
      kept = d.kept;
    }

-- D5 channel id cycles period volume
abbrev pub channel_at : ℕ → Sheet → Channel
channel_at i d = get_or d.state.channels i (channel_of free)

unfoldable pub write_of : List ℕ → Sheet → List ℕ
write_of f d =
    let c = channel_at (get_or f 1 0) d in
    head_bytes (record { command = 3; key = c.key; map = 0; prec = 0; impatient = 0; n = 12 })
    ++ padded (numbers_from f c.writes (take 6 (drop (get_or f 1 0 * 6) d.kept)))

unfoldable pub took_write : List ℕ → Sheet → Sheet
took_write f d =
    let i = get_or f 1 0 in
    let c = channel_at i d in
    record {
      state = with_channels (set d.state.channels i (with_writes (pushed c.writes (get_or f 2 0)) c)) d.state;
      seen = d.seen;
      table = splice d.table (get_or f 2 0 * 23) (write_of f d);
      kept = d.kept;
    }

-- D6 and D7: key
unfoldable pub added_key : Keys → ℕ → Keys
added_key q k = record { n = q.n + 1; keys = set q.keys q.n k }

unfoldable pub took_open : List ℕ → Sheet → Sheet
took_open f d = with_state (with_opens (added_key d.state.opens (key_of f 1)) d.state) d

unfoldable pub took_last : List ℕ → Sheet → Sheet
took_last f d = with_state (with_last (key_of f 1) d.state) d

-- ---- any frame

unfoldable pub has_channel : List ℕ → Sheet → Bool
has_channel f d = eqb (length f) 12 && ltb d.seen 8

unfoldable pub has_request : List ℕ → Sheet → Bool
has_request f d = leb 7 (length f) && (leb (length f) 23 && (ltb (get_or f 1 0) 64 && ltb d.state.waiting.n 64))

unfoldable pub has_span : List ℕ → Queue → Bool
has_span f q = eqb (length f) 5 && (ltb (get_or f 1 0) 64 && ltb q.n 64)

unfoldable pub has_write : List ℕ → Sheet → Bool
has_write f d =
    eqb (length f) 9 && (ltb (get_or f 1 0) 8 && (ltb (get_or f 2 0) 64 && ltb (channel_at (get_or f 1 0) d).writes.n 64))

unfoldable pub has_open : List ℕ → Sheet → Bool
has_open f d = eqb (length f) 3 && ltb d.state.opens.n 32

unfoldable pub channel_taken : List ℕ → Sheet → Sheet
channel_taken f d = if has_channel f d then took_channel f d else d

unfoldable pub request_taken : List ℕ → Sheet → Sheet
request_taken f d = if has_request f d then took_request f d else d

unfoldable pub lock_taken : List ℕ → Sheet → Sheet
lock_taken f d = if has_span f d.state.locks then took_lock f d else d

unfoldable pub waiter_taken : List ℕ → Sheet → Sheet
waiter_taken f d = if has_span f d.state.waiters then took_waiter f d else d

unfoldable pub write_taken : List ℕ → Sheet → Sheet
write_taken f d = if has_write f d then took_write f d else d

unfoldable pub open_taken : List ℕ → Sheet → Sheet
open_taken f d = if has_open f d then took_open f d else d

unfoldable pub last_taken : List ℕ → Sheet → Sheet
last_taken f d = if eqb (length f) 3 then took_last f d else d

-- a frame that is no channel's
unfoldable pub part_taken : ℕ → List ℕ → Sheet → Sheet
part_taken k f d =
    if eqb k 0xD2 then request_taken f d
    else if eqb k 0xD3 then lock_taken f d
    else if eqb k 0xD4 then waiter_taken f d
    else if eqb k 0xD5 then write_taken f d
    else if eqb k 0xD6 then open_taken f d
    else if eqb k 0xD7 then last_taken f d
    else d

unfoldable pub taken : List ℕ → Sheet → Sheet
taken f d = if eqb (get_or f 0 0) 0xD1 then channel_taken f d else part_taken (get_or f 0 0) f d

unfoldable pub taken_all : List (List ℕ) → Sheet → Sheet
taken_all [] d = d
taken_all (f ∷ fs) d = taken_all fs (taken f d)

-- before the first frame
abbrev pub blank : List ℕ → Sheet
blank tb = record { state = struct_of (fresh_on 8); seen = 0; table = tb; kept = replicate 48 0 }

-- ---- the promises

abbrev pub sheet : State → ℕ → List ℕ → List ℕ → Sheet
sheet s n tb ks = record { state = s; seen = n; table = tb; kept = ks }

-- a step that leaves how many channels were read, and what is remembered for them
pub record Took (x : Sheet) (r : State) (tb' : List ℕ) : Type 0 where
  pub state : r ≡ x.state
  pub table : tb' ≡ x.table

pub record Takes (x : Sheet) (r : Draft) (tb' ks' : List ℕ) : Type 0 where
  pub state : r.state ≡ x.state
  pub seen : r.seen ≡ x.seen
  pub table : tb' ≡ x.table
  pub kept : ks' ≡ x.kept
