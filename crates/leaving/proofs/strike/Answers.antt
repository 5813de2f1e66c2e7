-- `strike` meets its contract: the first place of the id is its only one. Assumes nothing.
use mathlib.Core.Path.{◌≡◌, sym, ◌∙◌}
use native.Mathlib.Omega.{arith}
use lib.ListN.{length}
use Rattle.queue.specs.declared.Queue.{Queue}
use Rattle.queue.specs.Queue.{list_of, index_of}
use Rattle.queue.proofs.Laws.{place_is, found, missing}
use Rattle.leaving.proofs.Queues.{strike_found, strike_none, same_count}
use Rattle.leaving.proofs.strike.Goals as goal

pub returns-in-Some : goal.returns-in-Some
returns-in-Some c =
    let i = c.args.id in
    let l = list_of c.args.q in
    let f = found (index_of i l) (length l) (c.find.ensures ∙ place_is i l) c.in-Some.is in
    c.remove.ensures ∙ strike_found c.requires i f.0 (omega (arith, f.1, same_count c.requires i))

pub returns-in-None : goal.returns-in-None
returns-in-None c =
    let i = c.args.id in
    let l = list_of c.args.q in
    let m = missing (index_of i l) (length l) (c.find.ensures ∙ place_is i l) c.in-None.is in
    strike_none c.requires i (λ k. index_of i l) (omega (arith, m, same_count c.requires i))
