-- `on_board` meets its contract: the board's refusal decides what is done on eight channels, and that is the call on the board's own; the
-- display is corrected by who came and who went. Assumes nothing.
use mathlib.Core.Path.{◌≡◌}
use lib.ListN.{length}
use Rattle.arbiter.proofs.Own.{may_decide}
use Rattle.arbiter.proofs.Shown.{done, looks_few, shown}
use borrow.Author.Rules.{rules}
use Rattle.arbiter.proofs.on_board.Goals as goal

pub decided-d-requires : goal.decided-d-requires
decided-d-requires c =
    let f = rw (← c.number_of-e.ensures) at c.refusal-verdict.ensures in
    may_decide _ c.requires c.ranges-2.ensures f (λ i. search rules)

pub show-requires : goal.show-requires
show-requires c =
    let f = rw (← c.number_of-e.ensures) at c.refusal-verdict.ensures in (
      search rules,
      looks_few _ c.requires c.ranges-2.ensures f (λ i. search rules)
          c.decided-d.ensures.0 c.looks-looks.ensures.1 c.decided-d.ensures.1,
    )

pub returns : goal.returns
returns c =
    let e = c.decided-d.ensures in
    let f = rw (← c.number_of-e.ensures) at c.refusal-verdict.ensures in
    let n : length c.args.display.now ≡ 18 = search rules in (
      done _ c.requires c.ranges-2.ensures f (λ i. search rules) e.0,
      shown _ c.requires c.ranges-2.ensures f (λ i. search rules) e.0 _ n
          c.looks-looks.ensures.0 e.1 e.2 c.show.ensures,
    )
