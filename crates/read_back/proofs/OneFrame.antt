-- What one frame of a state makes of a sheet: its channel without writes; its id at the back of its queue, and its entry in the table;
-- its key. Assumes nothing.
use Prim.Native.Nat.{ℕ, suc, ◌+◌, ◌*◌, ◌≤◌, ◌<◌}
use mathlib.Core.Path.{◌≡◌, refl}
use mathlib.Core.Bool.{Bool, true, false}
use mathlib.Core.List.{List, [], ◌∷◌}
use mathlib.Core.Option.{Option, none, some}
use native.Mathlib.Omega.{arith}
use native.Mathlib.Nat.{div-add-mod'}
use borrow.Author.Tests.{le-leb, lt-ltb, eq-eqb}
use lib.Dec.{eqb, leb}
use lib.ListN.{length, get_or, take, drop, set, replicate}
use Rattle.table.specs.memory.Splice.{splice}
use Rattle.std.specs.Prelude.{if◌then◌else◌}
use Rattle.widening.specs.machine.State.{Write, Channel as ChannelM, Lock, Request, free}
use Rattle.widening.specs.machine.InBytes.{mark_of, signed}
use Rattle.open_keys.specs.queue.declared.Queue.{Queue}
use Rattle.open_keys.specs.queue.Queue.{queue_of, pushed}
use Rattle.board.specs.channel.declared.Channel.{Channel}
use Rattle.board.specs.channel.Channel.{channel_of, with_writes}
use Rattle.table.specs.Entry.{wait_entry, span_entry, lock_entry, waiter_entry, write_entry, number_bytes, pervol_bytes}
use Rattle.board.specs.store.declared.State.{State}
use Rattle.saved.specs.Saved.{channel_frame, request_frame, span_frame, write_frame, key_frame, kept, LOCK, WAITCYCLE, OPEN, LAST}
use Rattle.reading.specs.sheet.Sheet.{sheet, channel_from, numbers_from, took_channel, took_request, took_lock, took_waiter, took_write, took_open, took_last, request_entry, span_of, write_of, added_key, has_channel, has_request, has_span, has_write, has_open, channel_taken, request_taken, lock_taken, waiter_taken, write_taken, open_taken, last_taken, part_taken, taken, with_channels, with_locks, with_waiters, with_waiting, with_opens, with_last}

-- ---- numbers

pub stored-signed : (p : ℕ) → p ≤ 255 → signed (signed p) ≡ p
stored-signed p h = omega arith

pub mark_in : (b : Bool) → eqb (mark_of b) 1 ≡ b
mark_in true = refl
mark_in false = refl

-- ---- D1

-- a channel without its writes
abbrev pub bare : ChannelM → Channel
bare c = record { key = c.key; prec = c.prec; locked = c.locked; stopped = c.stopped; writes = queue_of [] }

pub channel_from_lem : (c : ChannelM) → c.prec ≤ 255 → channel_from (channel_frame c) ≡ bare c
unfolding channel_from channel_frame
channel_from_lem c h =
    λ i. record {
      key = div-add-mod' c.key 256 i;
      prec = stored-signed c.prec h i;
      locked = mark_in c.locked i;
      stopped = mark_in c.stopped i;
      writes = queue_of [];
    }

pub kept_six : (ws : List Write) → length (kept ws) ≡ 6
unfolding kept
kept_six [] = refl
kept_six (w ∷ ws) = pervol_five w.pervol
  where
    pervol_five : (q : Option (ℕ × ℕ)) → suc (length (pervol_bytes q)) ≡ 6
    pervol_five none = refl
    pervol_five (some q) = refl

module _ (c : ChannelM) (h : c.prec ≤ 255) (st : State) (n : ℕ) (tb ks : List ℕ) (g : n < 8) where
  pub channel-frame : taken (channel_frame c) (sheet st n tb ks)
      ≡ sheet (with_channels (set st.channels n (bare c)) st) (n + 1) tb (splice ks (n * 6) (kept c.writes))
  unfolding taken channel_taken has_channel took_channel channel_frame
  channel-frame =
      let k = kept_six c.writes in
      let l : eqb (length (channel_frame c)) 12 ≡ true = eq-eqb (length (channel_frame c)) 12 (omega arith) in
      rw (l, lt-ltb n 8 g, channel_from_lem c h)

-- ---- D2

module _ (r : Request) (h : r.prec ≤ 255) (s : length r.combos ≤ 16) (small : r.id < 64) where
  request-entry : request_entry (request_frame r) ≡ wait_entry r
  unfolding request_entry request_frame wait_entry
  request-entry = rw (div-add-mod' r.key 256, stored-signed r.prec h)

  pub request-frame : (st : State) (n : ℕ) (tb ks : List ℕ) → st.waiting.n < 64
      → taken (request_frame r) (sheet st n tb ks) ≡ sheet (with_waiting (pushed st.waiting r.id) st) n (splice tb (r.id * 23) (wait_entry r)) ks
  unfolding taken part_taken request_taken has_request took_request request_frame
  request-frame st n tb ks g =
      let a : leb 7 (length (request_frame r)) ≡ true = le-leb 7 (length (request_frame r)) (omega arith) in
      let b : leb (length (request_frame r)) 23 ≡ true = le-leb (length (request_frame r)) 23 (omega arith) in
      rw (a, b, lt-ltb r.id 64 small, lt-ltb st.waiting.n 64 g, request-entry)

-- ---- D3 and D4

span_entry_lem : (first command : ℕ) (l : Lock) → span_of command (span_frame first l) ≡ span_entry command l
unfolding span_of span_frame span_entry
span_entry_lem first command l = rw (div-add-mod' l.key 256)

module _ (l : Lock) (small : l.id < 64) (st : State) (n : ℕ) (tb ks : List ℕ) where
  pub lock-frame : st.locks.n < 64
      → taken (span_frame LOCK l) (sheet st n tb ks) ≡ sheet (with_locks (pushed st.locks l.id) st) n (splice tb (l.id * 23) (lock_entry l)) ks
  unfolding taken part_taken lock_taken has_span took_lock span_frame
  lock-frame g = rw (lt-ltb l.id 64 small, lt-ltb st.locks.n 64 g, span_entry_lem LOCK 13 l)

  pub waiter-frame : st.waiters.n < 64
      → taken (span_frame WAITCYCLE l) (sheet st n tb ks) ≡ sheet (with_waiters (pushed st.waiters l.id) st) n (splice tb (l.id * 23) (waiter_entry l)) ks
  unfolding taken part_taken waiter_taken has_span took_waiter span_frame
  waiter-frame g = rw (lt-ltb l.id 64 small, lt-ltb st.waiters.n 64 g, span_entry_lem WAITCYCLE 14 l)

-- ---- D5

-- what is remembered for a write behind k others of its channel, where ks stands for the front one
abbrev pub remembered_at : ℕ → List ℕ → List ℕ
remembered_at k ks = if eqb k 0 then ks else replicate 6 0

abbrev pub remembered : Write → List ℕ
remembered w = mark_of w.finish ∷ pervol_bytes w.pervol

module _ (i : ℕ) (w : Write) (small : w.id < 64) (low : i < 8) where
  module _ (q : Queue) (ks : List ℕ) (e : remembered_at q.n ks ≡ remembered w) where
    pub numbers_from_lem : numbers_from (write_frame i w) q ks ≡ number_bytes w
    unfolding numbers_from write_frame number_bytes
    numbers_from_lem = rw e

  module _ (st : State) (n : ℕ) (tb ks : List ℕ) (c : Channel) (at : get_or st.channels i (channel_of free) ≡ c) (e : remembered_at c.writes.n (take 6 (drop (i * 6) ks)) ≡ remembered w) where
    pub write_frame_lem : c.writes.n < 64
        → taken (write_frame i w) (sheet st n tb ks)
        ≡ sheet (with_channels (set st.channels i (with_writes (pushed c.writes w.id) c)) st) n (splice tb (w.id * 23) (write_entry c.key w)) ks
    unfolding taken part_taken write_taken has_write took_write write_frame write_of write_entry
    write_frame_lem g = rw (at, lt-ltb i 8 low, lt-ltb w.id 64 small, lt-ltb c.writes.n 64 g, numbers_from_lem c.writes (take 6 (drop (i * 6) ks)) e)

-- ---- D6 and D7

module _ (k : ℕ) (st : State) (n : ℕ) (tb ks : List ℕ) where
  pub open_frame : st.opens.n < 32 → taken (key_frame OPEN k) (sheet st n tb ks) ≡ sheet (with_opens (added_key st.opens k) st) n tb ks
  unfolding taken part_taken open_taken has_open took_open key_frame
  open_frame g = rw (lt-ltb st.opens.n 32 g, div-add-mod' k 256)

  pub last_frame : taken (key_frame LAST k) (sheet st n tb ks) ≡ sheet (with_last k st) n tb ks
  unfolding taken part_taken last_taken took_last key_frame
  last_frame = rw (div-add-mod' k 256)
