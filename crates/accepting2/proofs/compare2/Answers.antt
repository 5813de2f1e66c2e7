-- `compare2` meets its contract: a text that was saved reads back to its state, so each test that fails shows that it was not. Assumes nothing.
use mathlib.Core.Path.{refl, ap, sym, ◌∙◌}
use native.Mathlib.Omega.{arith}
use lib.ListN.{length, drop}
use lib.Seq.{length-take-le}
use Rattle.std.proofs.lemmas.Bool.Decides.{Decides-eqb}
use Rattle.std.proofs.lemmas.Slice.Eq.{slice_eq-Decides}
use Rattle.saving2.proofs.saving.Laws.{page-within}
use Rattle.saving2.proofs.Laws2.{text2_fits}
use Rattle.saving2.proofs.accepting.Accepting.{false_true, took_from}
use Rattle.accepting2.proofs.Accepting2.{too_short, unopened, unsound, compared, differs}
use Rattle.accepting2.proofs.compare2.Goals as goal

pub returns-then-text-lt10 : goal.returns-then-text-lt10
returns-then-text-lt10 c = too_short (omega arith)

pub returns-then-not-starts_with : goal.returns-then-not-starts_with
returns-then-not-starts_with c =
    unopened (λ e. false_true (sym c.if-not-starts_with.true ∙ (slice_eq-Decides Decides-eqb _ _ _ c.starts_with.ensures.value).1 (sym e)))

pub read-s-requires : goal.read-s-requires
read-s-requires c = let t = ap length c.requires.1 in (omega arith, t)

pub returns-then-not-sound : goal.returns-then-not-sound
returns-then-not-sound c =
    let r = took_from (drop 10 c.args.text.now) c.requires.1 c.read-s.ensures in
    unsound c.requires.0 r (λ h. false_true (sym c.if-not-sound.true ∙ c.sound.ensures.always h))

pub spell2-n-requires : goal.spell2-n-requires
spell2-n-requires c = ((c.sound.ensures.only c.if-not-sound.false), refl)

pub slice_bounds-page-end : goal.slice_bounds-page-end
slice_bounds-page-end c = page-within c.spell2-n.ensures (text2_fits (c.sound.ensures.only c.if-not-sound.false))

pub slice_bounds-same-end : goal.slice_bounds-same-end
slice_bounds-same-end c = sym (length-take-le _ _ (page-within c.spell2-n.ensures (text2_fits (c.sound.ensures.only c.if-not-sound.false))))

pub returns-then-not-same : goal.returns-then-not-same
returns-then-not-same c =
    let r = took_from (drop 10 c.args.text.now) c.requires.1 c.read-s.ensures in
    differs r (c.sound.ensures.only c.if-not-sound.false) c.spell2-n.ensures (λ e. false_true (sym c.if-not-same.true ∙ c.same.ensures.always e))

pub returns : goal.returns
returns c =
    let r = took_from (drop 10 c.args.text.now) c.requires.1 c.read-s.ensures in
    compared r (c.sound.ensures.only c.if-not-sound.false) c.spell2-n.ensures (c.same.ensures.only c.if-not-same.false)
