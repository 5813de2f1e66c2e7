-- `retuned` meets its contract: each case is the function of its name. Assumes nothing.
use Rattle.retuning.proofs.retuned.Goals as goal

pub returns-in-Set : goal.returns-in-Set
returns-in-Set c = rw c.in-Set.is c.set_tone.ensures

pub returns-in-Later : goal.returns-in-Later
returns-in-Later c = rw c.in-Later.is c.keep_tone.ensures

pub returns-in-Finish : goal.returns-in-Finish
returns-in-Finish c = rw c.in-Finish.is c.keep_finish.ensures

pub returns-in-Next : goal.returns-in-Next
returns-in-Next c = rw c.in-Next.is c.next.ensures
