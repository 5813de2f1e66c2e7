-- `free` meets its contract: the channels that match are freed, then comes its own reply. Assumes nothing.
use Rattle.sweep.proofs.Matching.{match_small}
use Rattle.freeing.proofs.Release.{free_ready, free_room, told_free}
use Rattle.freeing.proofs.free.Goals as goal

pub freeing-f-requires : goal.freeing-f-requires
freeing-f-requires c =
    let r = c.args.r in
    let p = c.requires in
    let e = c.matching-ok.ensures in
    (free_ready r p.0.held p.1 p.2 e p.0, match_small p.0.held r.key r.map e)

pub finished-requires : goal.finished-requires
finished-requires c =
    let p = c.requires in
    free_room c.args.r p.0.held p.1 p.2 c.matching-ok.ensures p.0 c.freeing-f.ensures

pub returns : goal.returns
returns c =
    let p = c.requires in
    told_free c.args.r p.0.held p.1 p.2 c.matching-ok.ensures p.0.room p.0.fits c.freeing-f.ensures c.verdict-a.ensures c.finished.ensures
