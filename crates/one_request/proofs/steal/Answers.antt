-- `steal` meets its contract: the locks over the map are sieved out. Assumes nothing.
use Rattle.one_request.proofs.Stealing.{sifting_of, stolen-did}
use Rattle.one_request.proofs.steal.Goals as goal

pub sift-f-requires : goal.sift-f-requires
sift-f-requires c =
    let p = c.requires in
    sifting_of p.0.held _ p.1 p.0.room p.0.fits

pub returns : goal.returns
unfolding sifting_of
returns c =
    let p = c.requires in
    stolen-did p.0.held _ (c.sift-f.ensures (sifting_of p.0.held _ p.1 p.0.room p.0.fits))
