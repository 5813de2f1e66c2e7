-- `hold` meets its contract: the locks over the map end, and the walk goes on behind the request. Assumes nothing.
use native.Mathlib.Omega.{arith}
use Rattle.one_request.proofs.store.Store.{waiting-count}
use Rattle.visiting.proofs.Promised.{map_below, held_ready, held_turned}
use Rattle.visiting.proofs.hold.Goals as goal

pub steal-d-requires : goal.steal-d-requires
steal-d-requires c = let p = c.requires in (held_ready p, map_below p)

pub pass-requires : goal.pass-requires
pass-requires c = let p = c.requires in let w = (waiting-count p.ready.held).1 in omega (arith, p.inside)

pub returns : goal.returns
returns c = rw c.pass.ensures (held_turned c.requires c.steal-d.ensures)
