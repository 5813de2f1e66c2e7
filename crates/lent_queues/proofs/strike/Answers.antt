-- `strike` meets its contract: the id goes from its first place. Assumes nothing.
use mathlib.Core.Path.{◌≡◌, refl, ◌∙◌}
use native.Mathlib.Omega.{arith}
use lib.ListN.{length, get_or}
use Rattle.queue.specs.Queue.{list_of, index_of}
use Rattle.queue.proofs.Laws.{place_is, found, missing}
use Rattle.image.specs.Image.{queue_at}
use Rattle.lent.proofs.Puts.{listed-long}
use Rattle.lent_queues.proofs.Moves.{put-struck, put_absent}
use Rattle.lent_queues.proofs.strike.Goals as goal

pub remove-requires : goal.remove-requires
remove-requires c =
    let a = c.args in
    let ids = list_of (queue_at a.state.now a.at) in
    let few = listed-long a.state.now a.at c.requires.0 c.requires.2 in
    let f = found (index_of a.id ids) (length ids) (c.find.ensures ∙ place_is a.id ids) c.in-Some.is in
    (c.requires.0, c.requires.1, omega (arith, f.1, few), c.requires.2)

pub returns-in-Some : goal.returns-in-Some
unfolding queue_at
returns-in-Some c =
    let a = c.args in
    let ids = list_of (queue_at a.state.now a.at) in
    let few = listed-long a.state.now a.at c.requires.0 c.requires.2 in
    let f = found (index_of a.id ids) (length ids) (c.find.ensures ∙ place_is a.id ids) c.in-Some.is in
    put-struck a.state.now a.at c.requires.0 a.id _ f.0 (omega (arith, f.1, few)) c.remove.ensures c.requires.2

pub returns-in-None : goal.returns-in-None
unfolding queue_at
returns-in-None c =
    let a = c.args in
    let ids = list_of (queue_at a.state.now a.at) in
    let few = listed-long a.state.now a.at c.requires.0 c.requires.2 in
    let m = missing (index_of a.id ids) (length ids) (c.find.ensures ∙ place_is a.id ids) c.in-None.is in
    put_absent a.state.now a.at c.requires.0 a.id (index_of a.id ids) refl (omega (arith, m, few)) c.requires.2
