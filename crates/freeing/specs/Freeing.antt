-- The words in which FREE and CLOSE are promised.
-- Assumes nothing.
--
--   match_replies r s    what is replied when the channels that match are freed: to aborted writes, to who waits for a cycle of
--                       theirs, then to emptied locks
--   owned_replies r s    the same of every channel with the key
--   Frees m st tb ..    the promise of `freeing`: the channels of m freed, those replies sent
use Rattle.std.specs.Prelude.{ℕ, List}
use Rattle.answers.specs.machine.State.{State as StateM, Reply}
use Rattle.answers.specs.machine.Commands.{matching, freeing, freeing_replies, owned}
use Rattle.answers.specs.store.declared.State.{State}
use Rattle.answers.specs.store.Store.{state_in}
use Rattle.answers.specs.store.Work.{Did}
use Rattle.answers.specs.declared.Request.{Request}
use Rattle.answers.specs.store.declared.Progress.{Progress}

abbrev pub match_replies : Request → StateM → List Reply
match_replies r s = freeing_replies (matching r.key r.map s.channels) s

abbrev pub owned_replies : Request → StateM → List Reply
owned_replies r s = freeing_replies (owned r.key s.channels) s

abbrev pub Frees : ℕ → State → List ℕ → List ℕ → Progress → List ℕ → List ℕ → Type 0
Frees m st tb l r tb' l' = Did (freeing m (state_in st tb)) (freeing_replies m (state_in st tb)) l 0 r.state tb' l' r.n
