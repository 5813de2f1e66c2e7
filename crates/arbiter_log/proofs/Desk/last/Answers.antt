-- `last` meets its contract: what `finish` puts on the page stands within it, and the desk stays ready. Assumes nothing.
use mathlib.Core.Path.{refl}
use native.Mathlib.Omega.{arith}
use Rattle.arbiter_log.proofs.Laws.{finish-inside, finish-ready}
use Rattle.arbiter_log.proofs.Desk.last.Goals as goal

pub invariant_of-self : goal.invariant_of-self
invariant_of-self c = record {
  ready = finish-ready c.args.self.now.ready c.finish-left.ensures.1 _ c.finish-left.ensures.0 refl;
}

pub shared_ref_as_front-write : goal.shared_ref_as_front-write
shared_ref_as_front-write c =
    let a = finish-inside c.args.self.now.ready c.finish-left.ensures.1 in
    let b = c.finish-left.auto.page in
    omega arith
