-- `end_of` meets its contract: what the iterator found is the first LF. Assumes nothing.
use Rattle.std.proofs.Common.{rules, ◌∙◌}
use Rattle.std.proofs.iter.runs.Made.{chains}
use Rattle.gathering.proofs.Lumps.{front_found}
use Rattle.gathering.proofs.end_of.Goals as goal

pub returns : goal.returns
returns c = c.unwrap_or.ensures ∙ front_found c.args.input.now c.position.result (search (rules, chains))
