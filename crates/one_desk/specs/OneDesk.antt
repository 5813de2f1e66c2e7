-- Document 02, #109: "two sound states, neither with writes of both desks under one key, alike in one desk's requests, in channel keys,
-- precedences and marks, the waiting list, the last key and the open keys give that desk's next call, under no key of the other's
-- writes, the same answer and replies in its half".
-- Assumes nothing.
--
--   of_desk d i       the id is desk d's
--   bare w           a write with its id alone: what else it stores only events read, and is put to what n 0 means
--   mine d ws        of a queue the writes of desk d, bare, in their order
--   mask d c         a channel: key, precedence, lock mark, stop mark, and desk d's writes
--   own_locks d ls    of the locks, or of the WAITCYCLEs, those of desk d, in their order
--   part d s         what is alike: each clause is one word of the sentence
--   Alike d s t      two states are alike so
--   under q k cs     some channel with the key k has a write that passes the test q
--   one_key s         no key has writes of both desks
--   clear d k s      the key k is on no channel with a write that is not desk d's
--   calls d o c      the call is desk d's: events are no desk's
--   Premises d c s t the premises about two states and a call, a field for each part of the sentence
--   Same d o p       two outcomes with the same answer and the same replies in desk d's half
--   OneDesk          the claim; `one_desk_lem` of proofs/OneDesk.antt proves it
--   reads d s l      of what a line of a log writes in the state s, the lines that are desk d's: the replies to its ids, and the answer
--   OneDeskLog      the claim of the log's bytes; `one_desk-log` of proofs/Lines.antt proves it
use Rattle.std.specs.Prelude.{ℕ, ◌≡◌, Bool, false, not, ◌&&◌, List, map, ◌++◌, T, eqb}
use Rattle.std.proofs.Math.Option.{none, some}
use Rattle.machine_laws.specs.machine.Numbers.{PERIOD_LEAST, VOLUME_MOST}
use Rattle.machine_laws.specs.machine.Lists.{any, all, keep}
use Rattle.machine_laws.specs.machine.State.{Write, Channel, Lock, State, Outcome, Call, Op, OPEN, CLOSE, ABORT, EVENT, COMMAND}
use Rattle.machine_laws.specs.machine.Desks.{DESK_A, DESK_B, desk_of, replies_to}
use Rattle.machine_laws.specs.machine.Sound.{sound}
use Rattle.machine_laws.specs.machine.Call.{call}
use Rattle.machine_laws.specs.machine.Log.{unhex, frame, reply_lines, answer_line, outcome_of}

abbrev pub of_desk : ℕ → ℕ → Bool
of_desk d i = eqb (desk_of i) d

-- reading 40: what is remembered need not be alike, since only events read it; the same is so of cycles, period and volume
abbrev pub bare : Write → Write
bare w = record { id = w.id; cycles = 1; period = PERIOD_LEAST; volume = VOLUME_MOST; finish = false; pervol = none }

unfoldable pub mine : ℕ → List Write → List Write
mine d ws = map bare (keep (λ w. of_desk d w.id) ws)

-- "alike in one desk's requests, in channel keys, precedences and marks"
abbrev pub mask : ℕ → Channel → Channel
mask d c =
    record {
      key = c.key;
      prec = c.prec;
      locked = c.locked;
      stopped = c.stopped;
      writes = mine d c.writes;
    }

unfoldable pub own_locks : ℕ → List Lock → List Lock
own_locks d ls = keep (λ l. of_desk d l.id) ls

-- "alike in one desk's requests, .. the waiting list, the last key and the open keys"
abbrev pub part : ℕ → State → State
part d s =
    record {
      channels = map (mask d) s.channels;
      locks = own_locks d s.locks;
      waiters = own_locks d s.waiters;
      waiting = s.waiting;
      opens = s.opens;
      last = s.last;
    }

abbrev pub Alike : ℕ → State → State → Type 0
Alike d s t = part d s ≡ part d t

unfoldable pub under : (Write → Bool) → ℕ → List Channel → Bool
under q k cs = any (λ c. eqb c.key k && any q c.writes) cs

-- "neither with writes of both desks under one key"
unfoldable pub one_key : State → Bool
one_key s =
    all
    (λ c. not
    (under (λ w. of_desk DESK_A w.id) c.key s.channels && under (λ w. of_desk DESK_B w.id) c.key s.channels))
    s.channels

-- "under no key of the other's writes"
unfoldable pub clear : ℕ → ℕ → State → Bool
clear d k s = not (under (λ w. not (of_desk d w.id)) k s.channels)

-- "that desk's next call"; "Every call but the event names its desk"
unfoldable pub calls : ℕ → Op → Call → Bool
calls d OPEN c = eqb c.desk d
calls d CLOSE c = eqb c.desk d
calls d ABORT c = eqb c.desk d
calls d (EVENT v) c = false
calls d (COMMAND n) c = eqb c.desk d

pub record Premises (d : ℕ) (c : Call) (s t : State) : Type 0 where
  -- "two sound states"
  pub sane : T (sound s) × T (sound t)
  -- "neither with writes of both desks under one key"
  pub one_desk : T (one_key s) × T (one_key t)
  -- "alike in one desk's requests, in channel keys, precedences and marks, the waiting list, the last key and the open keys"
  pub alike : Alike d s t
  -- "that desk's next call"
  pub its_call : T (calls d c.op c)
  -- "under no key of the other's writes", in either state
  pub not_theirs : T (clear d c.key s) × T (clear d c.key t)

-- "the same answer and replies in its half"
pub record Same (d : ℕ) (o p : Outcome) : Type 0 where
  pub answer : o.answer ≡ p.answer
  pub replies : replies_to d o.replies ≡ replies_to d p.replies

-- For any d: A, B, or a number that is no desk, of which nothing is outstanding. The room for replies is the call's own; nothing is asked of
-- its numbers.
abbrev pub OneDesk : Type 0
OneDesk = (d : ℕ) (c : Call) (s t : State) → Premises d c s t → Same d (call s c) (call t c)

unfoldable pub reads : ℕ → State → List ℕ → List ℕ
reads d s l = let o = outcome_of s (frame (unhex l)) in reply_lines (replies_to d o.replies) ++ answer_line o.answer

abbrev pub OneDeskLog : Type 0
OneDeskLog = (d : ℕ) (l : List ℕ) (c : Call) (s t : State) → frame (unhex l) ≡ some c → Premises d c s t → reads d s l ≡ reads d t l
