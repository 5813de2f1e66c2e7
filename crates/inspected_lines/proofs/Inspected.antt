-- The assurances, of the log of document 01.
-- Assumes nothing.
use Rattle.machine.specs.State.{fresh_on}
use Rattle.machine.specs.Log.{run}
use Rattle.slipped.specs.nothing_left.NothingLeft.{NothingLeft}
use Rattle.inspected_lines.specs.Lines.{Inserted}
use Rattle.inspected_lines.proofs.Witness.{before, slipped, behind, slips_there}
use Rattle.inspected_lines.proofs.Lines.{nothing_left_by_a_log, nothing-slipped_into_a_log}

pub left_there : NothingLeft (run (fresh_on 4) before).next
left_there = nothing_left_by_a_log 4 before

pub unseen_there : Inserted (fresh_on 4) before slipped behind
unseen_there = nothing-slipped_into_a_log 4 before slipped behind slips_there
