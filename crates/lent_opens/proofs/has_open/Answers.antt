-- `has_open` meets its contract: the key stands before the end. Assumes nothing.
use mathlib.Core.Path.{ap, ◌∙◌}
use lib.ListN.{length}
use lib.Dec.{ltb}
use Rattle.queue.proofs.Laws.{told}
use Rattle.open_keys.specs.OpenKeys.{keys_in, index_of}
use Rattle.open_keys.proofs.Laws.{has_is, place_is}
use Rattle.image.specs.Image.{state_of, open_at}
use Rattle.lent_opens.proofs.Opens.{keys-full, open_long}
use Rattle.lent_opens.proofs.has_open.Goals as goal

pub open_place-requires : goal.open_place-requires
unfolding state_of open_at
open_place-requires c = c.requires

pub returns : goal.returns
unfolding state_of open_at
returns c =
    let l = c.args.state.now in
    let key = c.args.key in
    let ks = keys_in (open_at l 755) in
    c.is_some.ensures
    ∙ told (index_of key ks) (length ks) (c.open_place.ensures ∙ place_is key ks)
    ∙ ap (ltb (index_of key ks)) (open_long l c.requires.1)
    ∙ has_is (open_at l 755) key (keys-full l) c.requires.1
