-- `changed` meets its contract: each case is the method of its name. Assumes nothing.
use Rattle.channel.proofs.Channel.changed.Goals as goal

pub returns-in-Reset : goal.returns-in-Reset
returns-in-Reset c = rw c.in-Reset.is c.reset.ensures

pub returns-in-SetPrecedence : goal.returns-in-SetPrecedence
returns-in-SetPrecedence c = rw c.in-SetPrecedence.is c.set_precedence.ensures

pub returns-in-Flush : goal.returns-in-Flush
returns-in-Flush c = rw c.in-Flush.is c.flush.ensures

pub returns-in-Stop : goal.returns-in-Stop
returns-in-Stop c = rw c.in-Stop.is c.stop.ensures

pub returns-in-Lock : goal.returns-in-Lock
returns-in-Lock c = rw c.in-Lock.is c.lock.ensures

pub returns-in-Take : goal.returns-in-Take
returns-in-Take c = rw c.in-Take.is c.take.ensures

pub returns-in-FrontGone : goal.returns-in-FrontGone
returns-in-FrontGone c = rw c.in-FrontGone.is c.front_gone.ensures

pub returns-in-FrontOnly : goal.returns-in-FrontOnly
returns-in-FrontOnly c = rw c.in-FrontOnly.is c.front_only.ensures
