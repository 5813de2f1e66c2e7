-- A waiting request by its place, and the next of which something comes.
-- Assumes nothing.
--
--   nobody        no request: what stands at a place beyond the last
--   waiter i s    the waiting request at place i
--   look_at i s    what the request at place i comes to
--   comes l b     something comes of a look: it grants or holds, or it fails with NOWAIT
--   asked q tb j  the request at place j of a queue of ids
--   looked cs q tb j   what it comes to, given the channels
--   Readable q tb the entries of a queue's ids can be read
--   Finds ..      the promise of `next`: from a place on nothing comes of the requests passed, and something of the one found
use Rattle.std.specs.Prelude.{ℕ, ◌≤◌, ◌<◌, max, ◌≡◌, Bool, true, false, List, [], length, get_or}
use Rattle.store.specs.machine.State.{Channel, Request, State}
use Rattle.store.specs.machine.Choosing.{Look, fails, held, grants, look}
use Rattle.table.specs.memory.Splice.{block}
use Rattle.queue.specs.declared.Queue.{Queue}
use Rattle.choosing.specs.declared.Look.TheVariants.{Fails}
use Rattle.choosing.specs.Choosing.{look_of}
use Rattle.store.specs.Store.{request_in}
use Rattle.waiting.specs.declared.Found.{Found}

abbrev pub nobody : Request
nobody = record { id = 0; key = 0; prec = 0; impatient = false; combos = [] }

abbrev pub waiter : ℕ → State → Request
waiter i s = get_or s.waiting i nobody

abbrev pub look_at : ℕ → State → Look
look_at i s = look (waiter i s).prec (waiter i s).combos s.channels

unfoldable pub comes : Look → Bool → Bool
comes fails b = b
comes (held m) b = true
comes (grants m) b = true

abbrev pub asked : Queue → List ℕ → ℕ → Request
asked q tb j = request_in tb (get_or q.ids j 0)

pub record Readable (q : Queue) (tb : List ℕ) : Type 0 where
  pub few : q.n ≤ 64
  pub long : length tb ≡ 1472
  pub small : (j : ℕ) → j < q.n → get_or q.ids j 0 < 64
  pub lists : (j : ℕ) → j < q.n → get_or (block 23 tb (get_or q.ids j 0)) 6 0 ≤ 16

abbrev pub looked : List Channel → Queue → List ℕ → ℕ → Look
looked cs q tb j = look (asked q tb j).prec (asked q tb j).combos cs

pub record Finds (cs : List Channel) (q : Queue) (tb : List ℕ) (from : ℕ) (r : Found) : Type 0 where
  pub after : from ≤ r.at
  pub within : r.at ≤ max from q.n
  pub passed : (j : ℕ) → from ≤ j → j < r.at → comes (looked cs q tb j) (asked q tb j).impatient ≡ false
  pub seen : r.at < q.n → r.look ≡ look_of (looked cs q tb r.at)
  pub stops : r.at < q.n → comes (looked cs q tb r.at) (asked q tb r.at).impatient ≡ true
  pub ended : q.n ≤ r.at → r.look ≡ Fails
