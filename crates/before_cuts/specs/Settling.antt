-- Document 01, "Settling": walks over the waiting requests, each from the head, until one makes no grant.
-- Assumes nothing.
--
--   Found, Walk       a walk's result: the grant at which it stopped, if any; who still waits; the locks left; the replies
--   replied e m k r   the reply to a waiting request that ends
--   staying, saying   a walk's result with a request in front that stays; with replies in front
--   on_look            one request looked at, and the walk over those behind it
--   walk cs rs ls     a walk over the requests rs with the locks ls
--   walked w s        the state after a walk, before its grant
--   rounds n s        at most n walks; `go_on` grants and starts again at the head
--   settle s          as many walks as can be needed: proofs/Settling.antt shows that more change nothing
use Rattle.std.specs.Prelude.{ℕ, zero, suc, Bool, true, false, not, List, [], ◌∷◌, ◌++◌, map, length, if◌then◌else◌}
use Rattle.before_cuts.specs.Numbers.{ALLOCFAILED, CHANNELSTOLEN, ADCMD_ALLOCATE}
use Rattle.machine.specs.Lists.{keep}
use Rattle.before_cuts.specs.State.{Channel, Lock, Request, State, Reply}
use Rattle.before_cuts.specs.Maps.{meets}
use Rattle.before_cuts.specs.Choosing.{look, Look, fails, held, grants}
use Rattle.before_cuts.specs.Granting.{key_for, aborted_in, granted}
use Rattle.before_cuts.specs.Commands.{ended}

pub data Found : Type 0 where
  nobody : Found
  somebody : Request → ℕ → Found

pub record Walk : Type 0 where
  pub found : Found
  pub waiting : List Request
  pub locks : List Lock
  pub replies : List Reply

unfoldable pub replied : ℕ → ℕ → ℕ → Request → Reply
replied error m key r = record { id = r.id; command = ADCMD_ALLOCATE; error = error; map = m; key = key }

unfoldable pub staying : Request → Walk → Walk
staying r w = record { found = w.found; waiting = r ∷ w.waiting; locks = w.locks; replies = w.replies }

unfoldable pub saying : List Reply → Walk → Walk
saying rs w = record { found = w.found; waiting = w.waiting; locks = w.locks; replies = rs ++ w.replies }

-- "Failing with NOWAIT: reply -11 and drop. Failing without: stays. Held: every outstanding lock over a channel of its chosen
-- combination is replied -12, oldest first, and ends; the channels stay locked; the request stays." `rest` is the walk over
-- the requests behind, with the locks then left.
unfoldable pub on_look : ℕ → Look → Request → List Request → List Lock → (List Lock → Walk) → Walk
on_look n fails r rs ls rest =
    if r.impatient then saying (replied ALLOCFAILED 0 r.key r ∷ []) (rest ls) else staying r (rest ls)
on_look n (held m) r rs ls rest =
    saying (map (ended CHANNELSTOLEN) (keep (λ l. meets n m l.map) ls))
    (staying r (rest (keep (λ l. not (meets n m l.map)) ls)))
on_look n (grants m) r rs ls rest = record { found = somebody r m; waiting = rs; locks = ls; replies = [] }

-- "walk from the head"; "The choice is made afresh at each look."
unfoldable pub walk : List Channel → List Request → List Lock → Walk
walk cs [] ls = record { found = nobody; waiting = []; locks = ls; replies = [] }
walk cs (r ∷ rs) ls = on_look (length cs) (look r.prec r.combos cs) r rs ls (walk cs rs)

pub record Settled : Type 0 where
  pub state : State
  pub replies : List Reply

unfoldable pub walked : Walk → State → State
walked w s = record { channels = s.channels; locks = w.locks; waiting = w.waiting; opens = s.opens; last = s.last }

-- "Granted: grant, reply, remove, and start again at the head. A walk to the end without a grant finishes."
-- "for each grant its aborted writes, then the grant". A key is made with the request already out of the list: one that
-- wants a key has key 0, which counts for nothing.
unfoldable pub go_on : Found → Walk → State → (State → Settled) → Settled
go_on nobody w s again = record { state = walked w s; replies = w.replies }
go_on (somebody r m) w s again =
    let s' = walked w s in
    let rest = again (granted m r.key r.prec s') in
    record {
      state = rest.state;
      replies = w.replies ++ aborted_in m s.channels ++ replied 0 m (key_for r.key s') r ∷ rest.replies;
    }

unfoldable pub rounds : ℕ → State → Settled
rounds zero s = record { state = s; replies = [] }
rounds (suc n) s = let w = walk s.channels s.waiting s.locks in go_on w.found w s (rounds n)

-- each grant takes one request away
unfoldable pub settle : State → Settled
settle s = rounds (suc (length s.waiting)) s
