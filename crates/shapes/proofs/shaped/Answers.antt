-- `shaped` meets its contract: each return is a case of the definition; the ranges are those of the types. Assumes nothing.
use mathlib.Core.Path.{sym, ◌∙◌}
use Rattle.shapes.specs.Shapes.{shaped}
use Rattle.shapes.proofs.shaped.Goals as goal

pub returns-then-not-all_good : goal.returns-then-not-all_good
unfolding shaped
returns-then-not-all_good c = rw (sym c.all_good.ensures ∙ c.if-not-all_good.true)

pub returns-then-not-tidy : goal.returns-then-not-tidy
unfolding shaped
returns-then-not-tidy c = rw (sym c.all_good.ensures ∙ c.if-not-all_good.false, sym c.tidy.ensures ∙ c.if-not-tidy.true)

pub returns-then-not-tidy-2 : goal.returns-then-not-tidy-2
unfolding shaped
returns-then-not-tidy-2 c = rw (sym c.all_good.ensures ∙ c.if-not-all_good.false, sym c.tidy.ensures ∙ c.if-not-tidy.false, sym c.tidy-2.ensures ∙ c.if-not-tidy-2.true)

pub returns-then-not-tidy-3 : goal.returns-then-not-tidy-3
unfolding shaped
returns-then-not-tidy-3 c =
    rw (
      sym c.all_good.ensures ∙ c.if-not-all_good.false,
      sym c.tidy.ensures ∙ c.if-not-tidy.false,
      sym c.tidy-2.ensures ∙ c.if-not-tidy-2.false,
      sym c.tidy-3.ensures ∙ c.if-not-tidy-3.true,
    )

pub returns-then-not-sound : goal.returns-then-not-sound
unfolding shaped
returns-then-not-sound c =
    rw (
      sym c.all_good.ensures ∙ c.if-not-all_good.false,
      sym c.tidy.ensures ∙ c.if-not-tidy.false,
      sym c.tidy-2.ensures ∙ c.if-not-tidy-2.false,
      sym c.tidy-3.ensures ∙ c.if-not-tidy-3.false,
      sym c.sound.ensures ∙ c.if-not-sound.true,
    )

pub returns : goal.returns
unfolding shaped
returns c =
    rw (
      sym c.all_good.ensures ∙ c.if-not-all_good.false,
      sym c.tidy.ensures ∙ c.if-not-tidy.false,
      sym c.tidy-2.ensures ∙ c.if-not-tidy-2.false,
      sym c.tidy-3.ensures ∙ c.if-not-tidy-3.false,
      sym c.sound.ensures ∙ c.if-not-sound.false,
    )
    c.fits.ensures
