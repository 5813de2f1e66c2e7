-- `passes` meets its contract: each case is the function of its name. Assumes nothing.
use Rattle.fronts.proofs.passes.Goals as goal

pub returns-in-Plays : goal.returns-in-Plays
returns-in-Plays c = rw c.in-Plays.is c.plays.ensures

pub returns-in-Leads : goal.returns-in-Leads
returns-in-Leads c = rw c.in-Leads.is c.leads.ensures
