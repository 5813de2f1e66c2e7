-- `lowest` meets its contract: i places passed and the lowest place of the rest make the lowest place. Assumes nothing.
use Prim.Native.Nat.{◌-◌}
use mathlib.Core.Path.{◌≡◌, sym, ◌∙◌}
use native.Mathlib.Nat.{div-one}
use native.Mathlib.Omega.{arith}
use Rattle.channel.specs.Channel.{lowest_from}
use Rattle.channel.proofs.Turns.{lowest_here, lowest_turn}
use Rattle.channel.proofs.lowest.Goals as goal

pub loop-i-init : goal.loop-i-init
loop-i-init c = rw div-one (omega arith)

pub returns-then-names : goal.returns-then-names
returns-then-names c =
    let l = c.loop-i in
    let a = c.args in
    let e = lowest_here 8 a.map l.i (omega arith) (sym c.names.ensures ∙ c.if-names.true) in
    omega (arith, l.invariant)

pub loop-i-preserved : goal.loop-i-preserved
loop-i-preserved c =
    let l = c.loop-i in
    let a = c.args in
    let e = lowest_turn 8 a.map l.i (omega arith) (sym c.names.ensures ∙ c.if-names.false) in
    omega (arith, l.invariant)

pub returns : goal.returns
unfolding lowest_from
returns c =
    let l = c.loop-i in
    let e : l.i ≡ 8 = omega arith in
    omega (arith, rw e at l.invariant)
