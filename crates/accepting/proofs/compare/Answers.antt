-- `compare` meets its contract: a text that was saved reads back to its state, so each test that fails shows that it was not. Assumes nothing.
use mathlib.Core.Path.{refl, ap, sym, ◌∙◌}
use lib.ListN.{drop}
use lib.Seq.{length-take-le}
use Rattle.std.proofs.lemmas.Bool.Decides.{Decides-eqb}
use Rattle.std.proofs.lemmas.Slice.Eq.{slice_eq-Decides}
use Rattle.saving.proofs.Laws.{text_fits, page-within}
use Rattle.accepting.proofs.Accepting.{false_true, opening_is, took_from, unopened, unsound, compared, differs}
use Rattle.accepting.proofs.compare.Goals as goal

pub returns-then-not-starts_with : goal.returns-then-not-starts_with
returns-then-not-starts_with c =
    unopened (λ e. false_true (sym c.if-not-starts_with.true ∙ (slice_eq-Decides Decides-eqb _ _ _ c.starts_with.ensures.value).1 (sym (e ∙ opening_is))))

pub returns-then-not-sound : goal.returns-then-not-sound
returns-then-not-sound c =
    let r = took_from (drop 5 c.args.text.now) c.requires c.read-s.ensures in
    unsound r (λ h. false_true (sym c.if-not-sound.true ∙ c.sound.ensures.always h))

pub slice_bounds-page-end : goal.slice_bounds-page-end
slice_bounds-page-end c = page-within c.spell-n.ensures (text_fits (c.sound.ensures.only c.if-not-sound.false) refl)

pub slice_bounds-same-end : goal.slice_bounds-same-end
slice_bounds-same-end c = sym (length-take-le _ _ (page-within c.spell-n.ensures (text_fits (c.sound.ensures.only c.if-not-sound.false) refl)))

pub returns-then-not-same : goal.returns-then-not-same
returns-then-not-same c =
    let r = took_from (drop 5 c.args.text.now) c.requires c.read-s.ensures in
    differs r (c.sound.ensures.only c.if-not-sound.false) c.spell-n.ensures (λ e. false_true (sym c.if-not-same.true ∙ c.same.ensures.always e))

pub returns : goal.returns
returns c =
    let r = took_from (drop 5 c.args.text.now) c.requires c.read-s.ensures in
    compared r (c.sound.ensures.only c.if-not-sound.false) c.spell-n.ensures (c.same.ensures.only c.if-not-same.false)
