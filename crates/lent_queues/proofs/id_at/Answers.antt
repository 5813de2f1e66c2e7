-- `id_at` meets its contract: the ids stand behind the number. Assumes nothing.
use mathlib.Core.Path.{sym, ◌∙◌}
use Prim.Native.Nat.{◌+◌}
use lib.ListN.{drop}
use lib.Seq.{get_or-take, get_or-drop}
use Rattle.image.specs.Image.{queue_at}
use Rattle.lent_queues.proofs.id_at.Goals as goal

pub returns : goal.returns
unfolding queue_at
returns c =
    let a = c.args in
    sym (get_or-take 64 (drop (a.at + 1) a.state.now) a.k 0 c.requires.1 ∙ get_or-drop (a.at + 1) a.state.now a.k 0)
