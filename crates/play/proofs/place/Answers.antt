-- `place` meets its contract, case by case of its two tests. Assumes nothing.
use Prim.Native.Nat.{◌<◌}
use mathlib.Core.Path.{ap, sym, ◌∙◌}
use lib.ListN.{length}
use Rattle.play.specs.Play.{on_board}
use Rattle.play.proofs.Places.{place_none, place_other, place_own, key_any, on_low}
use borrow.Author.Rules.{rules}
use Rattle.play.proofs.place.Goals as goal

pub returns-then-i-ge8 : goal.returns-then-i-ge8
returns-then-i-ge8 c = ap on_board (place_none _ _ _ _ c.lowest-i.ensures c.if-i-ge8.true)

pub returns-then-matches : goal.returns-then-matches
returns-then-matches c =
    let l = c.lowest-i in
    let n : l.result < 8 = search rules in
    let g : l.result < length c.args.s.channels = rw c.requires n in
    on_low _ n ∙ ap on_board (place_own _ _ _ _ l.ensures n (key_any _ c.args.s.channels _ _ _ g (sym c.matches.ensures ∙ c.if-matches.true)))

pub returns-else-matches : goal.returns-else-matches
returns-else-matches c =
    let l = c.lowest-i in
    let n : l.result < 8 = search rules in
    let g : l.result < length c.args.s.channels = rw c.requires n in
    ap on_board (place_other _ _ _ _ l.ensures n (key_any _ c.args.s.channels _ _ _ g (sym c.matches.ensures ∙ c.if-matches.false)))
