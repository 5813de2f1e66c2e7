-- `clean_all` meets its contract: the channels done and the cleaning of the rest make the cleaning of all. Assumes nothing.
use Prim.Native.Nat.{◌<◌, ◌-◌}
use mathlib.Core.Path.{refl, ◌∙◌}
use native.Mathlib.Numerals.{add-one}
use native.Mathlib.Omega.{arith}
use lib.ListN.{length, length-set}
use Rattle.channel.specs.declared.Channel.{Channel}
use Rattle.leaving.specs.Leaving.{Tidy}
use Rattle.leaving.proofs.Queues.{each_at, each_more, done_more, done_end}
use borrow.Author.Rules.{rules}
use Rattle.leaving.proofs.clean_all.Goals as goal

pub loop-i-init : goal.loop-i-init
loop-i-init c = (search rules, c.requires, refl)

pub clean-d-requires : goal.clean-d-requires
clean-d-requires c =
    let l = c.loop-i in
    each_at (λ (x : Channel). Tidy x.writes) l.ds l.i _ l.invariant.1 (omega arith)

pub loop-i-preserved : goal.loop-i-preserved
loop-i-preserved c =
    let l = c.loop-i in
    let h : l.i < length l.ds = omega arith in (
      length-set l.ds _ _ ∙ l.invariant.0,
      rw (add-one l.i) (each_more (λ (x : Channel). Tidy x.writes) l.ds l.i _ l.invariant.1),
      rw (add-one l.i) (done_more _ l.ds l.i _ _ h c.clean-d.ensures ∙ l.invariant.2),
    )

pub returns : goal.returns
returns c = let l = c.loop-i in done_end _ l.ds l.i (omega arith) ∙ l.invariant.2
