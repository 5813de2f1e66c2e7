-- `gain` meets its contract: the grant, then its own reply behind those to aborted writes. Assumes nothing.
use Rattle.answers.proofs.Laws.{finished_of}
use Rattle.allocating.proofs.Steps.{gain_told}
use Rattle.allocating.proofs.gain.Goals as goal

pub returns : goal.returns
returns c =
    let g = c.grant-g.ensures in
    gain_told c.args.r c.args.map g c.requires.0 c.requires.1 c.done-a.ensures (finished_of c.finished.ensures)
