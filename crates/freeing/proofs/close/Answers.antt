-- `close` meets its contract: of all channels those with the key are freed, and the oldest entry of the key goes. Assumes nothing.
use Rattle.sweep.proofs.Matching.{match_small}
use Rattle.freeing.proofs.Release.{close_ready, close_tidy, told_close}
use Rattle.freeing.proofs.close.Goals as goal

pub freeing-f-requires : goal.freeing-f-requires
freeing-f-requires c =
    let r = c.args.r in
    let p = c.requires in
    let e = c.matching-ok.ensures in
    (close_ready r p.held e p, match_small p.held r.key 255 e)

pub close-t-requires : goal.close-t-requires
close-t-requires c = close_tidy c.args.r c.requires.held c.matching-ok.ensures c.freeing-f.ensures

pub returns : goal.returns
returns c =
    told_close c.args.r c.requires.held c.matching-ok.ensures
    c.freeing-f.ensures c.done-a.ensures c.close-t.ensures
