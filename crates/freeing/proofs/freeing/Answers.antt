-- `freeing` meets its contract: the writes go first with who waits for them, then each lock loses the channels freed. Assumes nothing.
use Rattle.freeing.proofs.Release.{drop-asks, sifting, freed-did}
use Rattle.freeing.proofs.freeing.Goals as goal

pub drop_named-d-requires : goal.drop_named-d-requires
drop_named-d-requires c = drop-asks c.args.map c.requires.1 c.requires.0

pub sift-f-requires : goal.sift-f-requires
sift-f-requires c = sifting c.args.map c.requires.1 c.requires.0 c.drop_named-d.ensures

pub returns : goal.returns
returns c = freed-did c.args.map c.requires.1 c.requires.0 c.drop_named-d.ensures c.change_named-ds.ensures c.sift-f.ensures
