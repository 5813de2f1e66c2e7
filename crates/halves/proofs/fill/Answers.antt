-- `fill` meets its contract: after i turns the desk's records among the first i stand in front. Assumes nothing.
use Prim.Native.Nat.{ℕ, suc, ◌≤◌, ◌-◌, ◌+◌, ◌*◌}
use mathlib.Core.List.{List}
use mathlib.Core.Path.{◌≡◌, refl, sym, ap, ◌∙◌}
use native.Mathlib.Omega.{arith}
use lib.ListN.{length}
use Rattle.memory.specs.Splice.{splice}
use Rattle.memory.proofs.Splice.{splice_none}
use Rattle.halves.specs.Halves.{one, picked}
use Rattle.halves.proofs.Laws.{length_more, picked_grows, room_left, turn}
use Rattle.halves.proofs.fill.Goals as goal

pub loop-i-init : goal.loop-i-init
unfolding picked
loop-i-init c = (refl, refl, sym (splice_none _ _))

pub pick-at-requires : goal.pick-at-requires
pick-at-requires c =
    let l = c.loop-i in
    let a = c.args in
    let h = room_left a.desk a.made.now a.n l.i l.at (length a.half.now) (omega arith) l.invariant.0 c.requires.1 in
    (omega arith, rw l.invariant.1 h)

pub loop-i-preserved : goal.loop-i-preserved
loop-i-preserved c =
    let l = c.loop-i in
    let a = c.args in
    let p = c.pick-at in
    let f : l.i + 1 ≡ suc l.i = omega arith in
    let e = length_more a.desk l.i a.made.now in
    let h = picked_grows a.desk a.made.now l.i (a.n - l.i) in
    let g : l.i + (a.n - l.i) ≡ a.n = omega arith in
    let k : length (picked a.desk l.i a.made.now) ≤ length (picked a.desk a.n a.made.now) = rw g at h in
    let q = p.ensures.0 in
    let r = l.invariant.0 in
    let z = c.requires.1 in (
      rw f (omega arith),
      omega arith,
      p.ensures.1 ∙ ap (λ (x : List ℕ). splice x (l.at * 6) (one a.desk a.made.now l.i)) l.invariant.2 ∙ turn a.half.now a.desk a.made.now l.i l.at l.invariant.0 (omega arith),
    )

pub returns : goal.returns
returns c =
    let l = c.loop-i in
    let a = c.args in
    let e : l.i ≡ a.n = omega arith in (
      l.invariant.0 ∙ ap (λ (k : ℕ). length (picked a.desk k a.made.now)) e,
      l.invariant.2 ∙ ap (λ (k : ℕ). splice a.half.now 0 (picked a.desk k a.made.now)) e,
    )
