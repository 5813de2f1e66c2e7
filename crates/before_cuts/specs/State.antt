-- Document 01, "What the arbiter covers": the state, a call, a reply and an answer.
-- Assumes nothing.
--
--   Channel    key, precedence, lock mark, stop mark and the ids of its writes, front first
--   Lock       an outstanding LOCK: id, key and the channels it still locks
--   Request    a waiting ALLOCATE: id, key (0: make one), precedence, NOWAIT or not, combinations
--   State      the channels, the locks (oldest first), the waiting requests (in order), the open keys (in order of opening), the last
--              key issued
--   Call       an operation with all its numbers; `room` is how many records the reply list has
--   Reply      what is sent to a request that ends
--   Answer     what the caller gets back at once; `extra` is the log's last byte
--   Outcome    answer, replies in order, next state
--   free, is_free c, fresh     a free channel; the test; the fresh device
--   frees n, fresh_on n        n free channels; the fresh device of a board with n channels
--   with_channels cs s ..      the state s with one part replaced
--
-- A request that is not idle stands, with all that is stored of it, in the one place where it is outstanding. So the table
-- of 64 requests is no part of the state here: it is these lists, read by id. A write has the key of its channel.
-- #105: "Keep a table of open keys, one entry for each successful OPEN"; "The open count is the number of entries."
-- A precedence stands as itself plus 128, so 0 to 255; a free channel's precedence 0 stands as 128.
use Rattle.std.specs.Prelude.{ℕ, zero, suc, Bool, true, false, List, [], ◌∷◌, eqb}

pub record Channel : Type 0 where
  pub key : ℕ
  pub prec : ℕ
  pub locked : Bool
  pub stopped : Bool
  pub writes : List ℕ

pub record Lock : Type 0 where
  pub id : ℕ
  pub key : ℕ
  pub map : ℕ

pub record Request : Type 0 where
  pub id : ℕ
  pub key : ℕ
  pub prec : ℕ
  pub impatient : Bool
  pub combos : List ℕ

pub record State : Type 0 where
  pub channels : List Channel
  pub locks : List Lock
  pub waiting : List Request
  pub opens : List ℕ
  pub last : ℕ

pub data Op : Type 0 where
  OPEN CLOSE ABORT EVENT : Op
  COMMAND : ℕ → Op

pub record Call : Type 0 where
  pub op : Op
  pub id : ℕ
  pub flags : ℕ
  pub map : ℕ
  pub prec : ℕ
  pub key : ℕ
  pub combos : List ℕ
  pub room : ℕ

pub record Reply : Type 0 where
  pub id : ℕ
  pub command : ℕ
  pub error : ℕ
  pub map : ℕ
  pub key : ℕ

pub record Answer : Type 0 where
  pub outstanding : Bool
  pub error : ℕ
  pub map : ℕ
  pub key : ℕ
  pub extra : ℕ

pub record Outcome : Type 0 where
  pub answer : Answer
  pub replies : List Reply
  pub next : State

-- "A free channel stores key 0, precedence 0, no marks, no writes."
abbrev pub free : Channel
free = record { key = 0; prec = 128; locked = false; stopped = false; writes = [] }

abbrev pub is_free : Channel → Bool
is_free c = eqb c.key 0

-- "A fresh device has four free channels, nothing outstanding, open count 0, last key 0."
abbrev pub fresh : State
fresh = record { channels = free ∷ free ∷ free ∷ free ∷ []; locks = []; waiting = []; opens = []; last = 0 }

-- #111, "The new board has eight channels": the fresh device of a board, whose number of channels is 4 or 8
unfoldable pub frees : ℕ → List Channel
frees zero = []
frees (suc n) = free ∷ frees n

abbrev pub fresh_on : ℕ → State
fresh_on n = record { channels = frees n; locks = []; waiting = []; opens = []; last = 0 }

abbrev pub with_channels : List Channel → State → State
with_channels cs s = record { channels = cs; locks = s.locks; waiting = s.waiting; opens = s.opens; last = s.last }

abbrev pub with_locks : List Lock → State → State
with_locks ls s = record { channels = s.channels; locks = ls; waiting = s.waiting; opens = s.opens; last = s.last }

abbrev pub with_waiting : List Request → State → State
with_waiting ws s = record { channels = s.channels; locks = s.locks; waiting = ws; opens = s.opens; last = s.last }

abbrev pub with_opens : List ℕ → State → State
with_opens ks s = record { channels = s.channels; locks = s.locks; waiting = s.waiting; opens = ks; last = s.last }

abbrev pub with_last : ℕ → State → State
with_last k s = record { channels = s.channels; locks = s.locks; waiting = s.waiting; opens = s.opens; last = k }
