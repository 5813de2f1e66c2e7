-- The words in which a turn of settling is promised.
-- Assumes nothing.
--
--   onward i s    what settling comes to from place i on, those before it looked at and staying
--   to_look i s    how many looks it then still takes
--   Same ..       what was to come, before and after a step: the same state and the same replies in the list
--   SameTurn ..   the same turn, table and list
--   Looked ..     what a turn asks once it has looked
--   Visits ..     the same of a look at which the walk stopped
--   after_look k i s, replies_to k i s   the state that a look k at place i leaves, and what is replied: dropped, held or granted
--   next_place k i, is_grant k           where to look next, at the head after a grant; whether it is one
--   Turned ..     the promise of a turn: what the look leaves and replies; after a grant settling starts again, else it goes on at the
--                 next place and no channel has changed; one look is done; and who left has its word in `left`
use Rattle.std.specs.Prelude.{ℕ, suc, ◌+◌, ◌-◌, ◌≤◌, ◌<◌, ◌≡◌, Bool, true, false, List, length, take, drop}
use Rattle.machine.specs.State.{Reply, State}
use Rattle.machine.specs.Choosing.{Look, fails, held, grants}
use Rattle.machine.specs.Settling.{Settled, settle}
use Rattle.display.specs.machine_laws.Looking.{resume}
use Rattle.display.specs.Looks.{looks as looks_m, further}
use Rattle.lanes.specs.Lanes.{weights}
use Rattle.one_request.specs.reply.Replies.{sent}
use Rattle.choosing.specs.declared.Look.{Look as LookC}
use Rattle.choosing.specs.Choosing.{look_of}
use Rattle.one_request.specs.store.declared.State.{State as Struct}
use Rattle.one_request.specs.store.Store.{state_in, Held}
use Rattle.one_request.specs.store.Work.{Ready, Did}
use Rattle.one_request.specs.waiting.Waiting.{comes, waiter, look_at}
use Rattle.one_request.specs.OneRequest.{out_at, dropped_replies, granted_at, granted_replies, stolen, without_locks}
use Rattle.visiting.specs.declared.Turn.{Turn}

unfoldable pub onward : ℕ → State → Settled
onward i s = resume (take i s.waiting) (drop i s.waiting) s

unfoldable pub to_look : ℕ → State → ℕ
to_look i s = further (take i s.waiting) (drop i s.waiting) s

pub record Same (x : Settled) (l : List ℕ) (n : ℕ) (y : Settled) (l' : List ℕ) (n' : ℕ) : Type 0 where
  pub state : y.state ≡ x.state
  pub list : sent l' n' y.replies ≡ sent l n x.replies
  pub count : n' + length y.replies ≡ n + length x.replies
  pub long : length l' ≡ length l

-- what is to come after a turn, and what has become less
abbrev pub ahead : Bool → ℕ → State → Settled
ahead true next s = settle s
ahead false next s = onward next s

abbrev pub looks_ahead : Bool → ℕ → State → ℕ
looks_ahead true next s = looks_m s
looks_ahead false next s = to_look next s

abbrev pub Less : Bool → ℕ → ℕ → ℕ → ℕ → Type 0
Less true next k' i k = k' < k
Less false next k' i k = (next ≤ k') × (k' ≤ k) × (k' - next < k - i)

abbrev pub after_look : Look → ℕ → State → State
after_look fails i s = out_at i s
after_look (held m) i s = without_locks m s
after_look (grants m) i s = granted_at i m s

abbrev pub replies_to : Look → ℕ → State → List Reply
replies_to fails i s = dropped_replies i s
replies_to (held m) i s = stolen m s
replies_to (grants m) i s = granted_replies i m s

abbrev pub next_place : Look → ℕ → ℕ
next_place fails i = i
next_place (held m) i = i + 1
next_place (grants m) i = 0

abbrev pub is_grant : Look → Bool
is_grant fails = false
is_grant (held m) = false
is_grant (grants m) = true

pub record Turned (st : Struct) (tb l : List ℕ) (n i : ℕ) (r : Turn) (tb' l' : List ℕ) : Type 0 where
  pub did :
      Did (after_look (look_at i (state_in st tb)) i (state_in st tb)) (replies_to (look_at i (state_in st tb)) i (state_in st tb)) l n
      r.state tb' l' r.n
  pub next : r.next ≡ next_place (look_at i (state_in st tb)) i
  pub grant : r.granted ≡ is_grant (look_at i (state_in st tb))
  pub held : Held r.state tb'
  pub same : Same (onward i (state_in st tb)) l n (ahead r.granted r.next (state_in r.state tb')) l' r.n
  pub less : Less r.granted r.next r.state.waiting.n i st.waiting.n
  pub still : r.granted ≡ false → (state_in r.state tb').channels ≡ (state_in st tb).channels
  pub left : weights (state_in r.state tb').waiting + r.left ≡ weights (state_in st tb).waiting
  pub look : to_look i (state_in st tb) ≡ suc (looks_ahead r.granted r.next (state_in r.state tb'))

-- the request at place i was looked at, and came to this
pub record Looked (st : Struct) (tb l : List ℕ) (n i : ℕ) (k : Look) : Type 0 where
  pub ready : Ready st tb l n (length (onward i (state_in st tb)).replies)
  pub inside : i < st.waiting.n
  pub seen : look_at i (state_in st tb) ≡ k

pub record Visits (st : Struct) (tb l : List ℕ) (n i : ℕ) (k : LookC) : Type 0 where
  pub ready : Ready st tb l n (length (onward i (state_in st tb)).replies)
  pub inside : i < st.waiting.n
  pub seen : k ≡ look_of (look_at i (state_in st tb))
  pub stops : comes (look_at i (state_in st tb)) (waiter i (state_in st tb)).impatient ≡ true

-- no second outcome fits the promise of a turn: `one_turn` of proofs/Promised.antt
pub record SameTurn (r r₂ : Turn) (tb tb₂ l l₂ : List ℕ) : Type 0 where
  pub turn : r ≡ r₂
  pub table : tb ≡ tb₂
  pub list : l ≡ l₂
