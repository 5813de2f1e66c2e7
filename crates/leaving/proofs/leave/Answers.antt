-- `leave` meets its contract: the channels are cleaned, the queues of WAITCYCLEs and of waiting requests struck. Assumes nothing.
use Rattle.leaving.proofs.leave.Goals as goal

pub returns : goal.returns
returns c =
    let s = c.args.s in
    λ k. record {
      channels = c.clean_all-ds.ensures k;
      locks = s.locks;
      waiters = c.strike-u.ensures k;
      waiting = c.strike-p.ensures k;
      opens = s.opens;
      last = s.last;
    }
