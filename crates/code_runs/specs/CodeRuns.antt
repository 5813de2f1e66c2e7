-- Demand 3 on the code. A run is a sequence of calls, each of which took a board and a table to an outcome and a table as
-- `Called`, the promise of `arbiter::call`, says. Nothing else is asked of the code, so the claim holds of every implementation
-- of that promise. The premises are those of crates/two_runs, said of the states that the boards and tables of the run hold.
-- proofs/CodeRuns.antt proves the claim as `k_sees_the_same_of_the_code`.
-- Assumes nothing.
--
-- A call
--   Turn                 one call: operation, request, combinations and reply list as lent; outcome, table and list as they became
--   asked t              its numbers, as the machine's call has them
--   Took st tb t         it took the board st and the table tb there, by the promise; its precedence is one byte, its key and a
--                        WRITE's count of cycles two
-- A run
--   Move, ours t, others t   a call of the K party or an event on a channel of K's; any other call
--   turn m               the call itself
--   Chained st tb ms     each call took what the one before it left; the first took st and tb
--   Keeps p st tb ms     each is as the demand asks
--   Full ms              each lent a reply list of 64 records or more, of six bytes each
--   Run p st tb ms       all that the demand asks of a run
--   own_calls ms          the numbers of the K party's calls, in order; the list that a call lends is no part of them
-- What the K party sees
--   records n l          the first n records of a list
--   records_to p n l      those of them to the K party's ids, in order
--   own_records p t       those that a call reported
--   mask_of p c           a channel as the K party sees it: itself if it has K, else as a free one
--   view_of p st          all channels of the board so, each at its place
--   entry_of tb i         the id i, and the bytes of its entry in the table
--   entries_of tb cs      those of the writes of channels, front first
--   stored_of p st tb     those of the writes of its channels, and of the WAITCYCLEs with K, oldest first
--   Sight, sights p st tb ms   answers, records, channels and what is stored of them, in the order of the run
--   step m, steps ms     a call as the machine's; those of a run
--   spelt x              what the machine shows the K party, as the code's bytes
-- The claim
--   Demand3Code         two runs with the same calls of the K party show it the same
--   state_after st ms, table_after tb ms   the board and the table that a run leaves
--   own_answers ms, all_records p ms       the answers to the K party's calls; all records to its ids, in order
--   Alike p st tb ms ns  the claim in parts: these two are the same, and its channels and what is stored of them are in the end
--   code_claim            one name that unfolds these definitions
use Rattle.std.specs.Prelude.{ℕ, zero, suc, ◌≤◌, ◌≡◌, List, [], ◌∷◌, ◌++◌, map, T, eqb, length, get_or, take, drop, if◌then◌else◌}
use Rattle.answers.specs.machine.Lists.{keep}
use Rattle.answers.specs.machine.State.{Call, free}
use Rattle.board.specs.channel.declared.Channel.{Channel}
use Rattle.memory.specs.Splice.{block}
use Rattle.queue.specs.Queue.{list_of}
use Rattle.board.specs.channel.Channel.{channel_of}
use Rattle.table.specs.Entry.{key_in}
use Rattle.board.specs.declared.Board.{Board}
use Rattle.board.specs.Board.{state_in, Held}
use Rattle.answers.specs.declared.Request.{Request}
use Rattle.answers.specs.declared.Answer.{Answer}
use Rattle.board.specs.declared.Outcome.{Outcome}
use Rattle.arbiter.specs.refusals.declared.Op.{Op}
use Rattle.arbiter.specs.refusals.Refusals.{asked_of}
use Rattle.arbiter.specs.Arbiter.{Called}
use Rattle.two_runs.specs.TwoRuns.{Party, Start, ByK, ByOthers, counted, said, Step, our, their, Seen, answered, received, owning}
use Rattle.answers.specs.reply.Replies.{encode}
use Rattle.answers.specs.Answers.{answer_of}
use Rattle.code_runs.specs.Stored.{stored_in}

-- ---- a call of the code

pub record Turn : Type 0 where
  pub op : Op
  pub request : Request
  pub combos : List ℕ
  pub lent : List ℕ
  pub outcome : Outcome
  pub table : List ℕ
  pub list : List ℕ

abbrev pub asked : Turn → Call
asked t = asked_of t.op t.request t.combos (length t.lent)

pub record Took (st : Board) (tb : List ℕ) (t : Turn) : Type 0 where
  pub called : Called t.op t.request st t.combos tb t.lent t.outcome t.table t.list
  pub prec : t.request.prec ≤ 255
  pub key : t.request.key ≤ 65535
  pub count : T (counted (asked t).op (asked t))

-- ---- a run of the code

pub data Move : Type 0 where
  ours : Turn → Move
  others : Turn → Move

abbrev pub turn : Move → Turn
turn (ours t) = t
turn (others t) = t

abbrev pub Chained : Board → List ℕ → List Move → Type 0
Chained st tb [] = Unit {0}
Chained st tb (m ∷ ms) = Took st tb (turn m) × Chained (turn m).outcome.state (turn m).table ms

-- as `Keeps` of crates/two_runs, on the structs and tables of the run itself
abbrev pub Keeps : Party → Board → List ℕ → List Move → Type 0
Keeps p st tb [] = Unit {0}
Keeps p st tb (ours t ∷ ms) = ByK p (state_in st tb) (asked t) × Keeps p t.outcome.state t.table ms
Keeps p st tb (others t ∷ ms) = ByOthers p (state_in st tb) (asked t) × Keeps p t.outcome.state t.table ms

abbrev pub Full : List Move → Type 0
Full [] = Unit {0}
Full (m ∷ ms) = (384 ≤ length (turn m).lent) × Full ms

pub record Run (p : Party) (st : Board) (tb : List ℕ) (ms : List Move) : Type 0 where
  -- the code made these calls, one on what the other left
  pub chained : Chained st tb ms
  -- the K party's calls and the others' are as the demand says
  pub keeps : Keeps p st tb ms
  -- "and if every call lends a full reply list"
  pub full : Full ms

-- "the same K calls .. all in the same order"
unfoldable pub own_calls : List Move → List Call
own_calls [] = []
own_calls (ours t ∷ ms) = said (asked t) ∷ own_calls ms
own_calls (others t ∷ ms) = own_calls ms

-- ---- what the K party sees

unfoldable pub records : ℕ → List ℕ → List (List ℕ)
records zero l = []
records (suc n) l = take 6 l ∷ records n (drop 6 l)

-- "its replies being those to its ids": a record's first byte is its id
unfoldable pub records_to : Party → ℕ → List ℕ → List (List ℕ)
records_to p n l = keep (λ b. p.mine (get_or b 0 0)) (records n l)

unfoldable pub own_records : Party → Turn → List (List ℕ)
own_records p t = records_to p t.outcome.n t.list

unfoldable pub mask_of : Party → Channel → Channel
mask_of p c = if eqb c.key p.key then c else channel_of free

unfoldable pub view_of : Party → Board → List Channel
view_of p st = map (mask_of p) (take st.width st.state.channels)

-- #101: a channel stores the numbers of its writes and what is remembered with them, and has who waits for its cycle. All of that
-- stands in the table, under the ids
unfoldable pub entry_of : List ℕ → ℕ → List ℕ
entry_of tb i = i ∷ block 23 tb i

unfoldable pub entries_of : List ℕ → List Channel → List (List ℕ)
entries_of tb [] = []
entries_of tb (c ∷ cs) = map (entry_of tb) (list_of c.writes) ++ entries_of tb cs

unfoldable pub stored_of : Party → Board → List ℕ → List (List ℕ)
stored_of p st tb =
    entries_of tb (view_of p st) ++ map (entry_of tb) (keep (λ i. eqb (key_in (block 23 tb i)) p.key) (list_of st.state.waiters))

-- "the K party's answers, replies and channels"
pub data Sight : Type 0 where
  told : Answer → Sight
  got : List ℕ → Sight
  has : List Channel → List (List ℕ) → Sight

-- each call of its own and each event on its channels shows the records to its ids, then the answer, then its channels; a
-- call of the others shows the records to its ids; the end shows its channels
unfoldable pub sights : Party → Board → List ℕ → List Move → List Sight
sights p st tb [] = has (view_of p st) (stored_of p st tb) ∷ []
sights p st tb (ours t ∷ ms) =
    map got (own_records p t)
    ++ told t.outcome.answer ∷ has (view_of p t.outcome.state) (stored_of p t.outcome.state t.table) ∷ sights p t.outcome.state t.table ms
sights p st tb (others t ∷ ms) = map got (own_records p t) ++ sights p t.outcome.state t.table ms

-- ---- the claim

-- "then the K party's answers, replies and channels are the same in both runs"
abbrev pub Demand3Code : Type 0
Demand3Code =
    (p : Party) (st : Board) (tb : List ℕ) (ms ns : List Move) → Held st tb → Start p (state_in st tb) → Run p st tb ms → Run p st tb ns
    → own_calls ms ≡ own_calls ns → sights p st tb ms ≡ sights p st tb ns

-- ---- what a run leaves, and the claim in parts

unfoldable pub state_after : Board → List Move → Board
state_after st [] = st
state_after st (m ∷ ms) = state_after (turn m).outcome.state ms

unfoldable pub table_after : List ℕ → List Move → List ℕ
table_after tb [] = tb
table_after tb (m ∷ ms) = table_after (turn m).table ms

unfoldable pub own_answers : List Move → List Answer
own_answers [] = []
own_answers (ours t ∷ ms) = t.outcome.answer ∷ own_answers ms
own_answers (others t ∷ ms) = own_answers ms

unfoldable pub all_records : Party → List Move → List (List ℕ)
all_records p [] = []
all_records p (m ∷ ms) = own_records p (turn m) ++ all_records p ms

pub record Alike (p : Party) (st : Board) (tb : List ℕ) (ms ns : List Move) : Type 0 where
  pub answers : own_answers ms ≡ own_answers ns
  pub replies : all_records p ms ≡ all_records p ns
  pub channels : view_of p (state_after st ms) ≡ view_of p (state_after st ns)
  pub stored : stored_of p (state_after st ms) (table_after tb ms) ≡ stored_of p (state_after st ns) (table_after tb ns)

unfoldable pub code_claim : Unit {0}
unfolding own_calls records records_to own_records mask_of view_of entry_of entries_of stored_of sights state_after table_after own_answers all_records
code_claim = tt

-- ---- the same of the machine

abbrev pub step : Move → Step
step (ours t) = our (asked t)
step (others t) = their (asked t)

abbrev pub steps : List Move → List Step
steps ms = map step ms

abbrev pub spelt : Seen → Sight
spelt (answered a) = told (answer_of a)
spelt (received r) = got (encode r)
spelt (owning cs ws) = has (map channel_of cs) (stored_in cs ws)
