-- The words in which the cut of front writes and FINISH are promised.
-- Assumes nothing.
--
--   CutsFronts m s ..   the promise of `cut_fronts`: the state without the front writes of the channels that m names, their replies and
--                       those to who waited for a cycle of theirs
--   finish_replies r s   what FINISH replies before its own: the writes in progress at the channels that match are cut
use Rattle.std.specs.Prelude.{ℕ, List}
use Rattle.answers.specs.machine.State.{State as StateM, Reply}
use Rattle.answers.specs.machine.Commands.{matching, in_progress, cut_fronts, front_replies}
use Rattle.answers.specs.store.declared.State.{State}
use Rattle.answers.specs.store.Store.{state_in}
use Rattle.answers.specs.store.Work.{Did}
use Rattle.answers.specs.declared.Request.{Request}
use Rattle.answers.specs.store.declared.Progress.{Progress}

abbrev pub CutsFronts : ℕ → State → List ℕ → List ℕ → ℕ → Progress → List ℕ → List ℕ → Type 0
CutsFronts m s tb l n d tb' l' = Did (cut_fronts m (state_in s tb)) (front_replies m (state_in s tb)) l n d.state tb' l' d.n

abbrev pub finish_replies : Request → StateM → List Reply
finish_replies r s = front_replies (in_progress (matching r.key r.map s.channels) s.channels) s
