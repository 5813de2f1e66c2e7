-- `choose` meets its contract: as long as no combination of free channels is found, the best so far against what the
-- combinations left would choose gives what all choose. Assumes nothing.
use mathlib.Core.Path.{◌≡◌, ◌∙◌}
use native.Mathlib.Omega.{arith}
use Rattle.std.specs.Prelude.{option_map}
use Rattle.picking.specs.declared.Best.{Best}
use Rattle.picking.proofs.Laws.{choose_empty}
use Rattle.picking.proofs.Turns.{walked_start, walked_free, walked_more, walked_end}
use borrow.Author.Rules.{rules}
use Rattle.picking.proofs.choose.Goals as goal

pub returns-then-is_empty : goal.returns-then-is_empty
returns-then-is_empty c cs s = choose_empty cs _ _ (search rules)

pub loop-map-init : goal.loop-map-init
loop-map-init c cs s = walked_start _ cs _

pub returns-then-map-t-eq0 : goal.returns-then-map-t-eq0
returns-then-map-t-eq0 c cs s = walked_free s (c.loop-map.invariant cs s) (search rules) (omega (arith, c.if-map-t-eq0.true))

pub loop-map-preserved : goal.loop-map-preserved
loop-map-preserved c cs s = walked_more s (c.loop-map.invariant cs s) (search rules) (λ e. omega (arith, e, c.if-map-t-eq0.false)) (c.barred-barred.ensures cs s) c.better-best.ensures

pub returns : goal.returns
returns c cs s =
    let mapped : c.map.result ≡ option_map (λ (x : Best). x.map) c.loop-map.best = search rules in
    mapped ∙ walked_end s (c.loop-map.invariant cs s) (search rules) (search rules)
