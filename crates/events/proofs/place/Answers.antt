-- `place` meets its contract, case by case of its two tests. Assumes nothing.
use Prim.Native.Nat.{◌<◌}
use mathlib.Core.Path.{ap, sym, ◌∙◌}
use lib.ListN.{length}
use Rattle.ending.specs.play.Play.{on_board}
use Rattle.ending.proofs.play.Places.{on_low}
use Rattle.events.proofs.Places.{place_none, place_still, place_plays, air_any}
use borrow.Author.Rules.{rules}
use Rattle.events.proofs.place.Goals as goal

pub returns-then-i-ge8 : goal.returns-then-i-ge8
returns-then-i-ge8 c = ap on_board (place_none _ _ _ c.lowest-i.ensures c.if-i-ge8.true)

pub returns-then-plays : goal.returns-then-plays
returns-then-plays c =
    let l = c.lowest-i in
    let n : l.result < 8 = search rules in
    let g : l.result < length c.args.s.channels = rw c.requires n in
    on_low _ n ∙ ap on_board (place_plays _ _ _ l.ensures n (air_any c.args.s.channels _ _ _ g (sym c.plays.ensures ∙ c.if-plays.true)))

pub returns-else-plays : goal.returns-else-plays
returns-else-plays c =
    let l = c.lowest-i in
    let n : l.result < 8 = search rules in
    let g : l.result < length c.args.s.channels = rw c.requires n in
    ap on_board (place_still _ _ _ l.ensures n (air_any c.args.s.channels _ _ _ g (sym c.plays.ensures ∙ c.if-plays.false)))
