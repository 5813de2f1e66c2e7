-- `qamhudeer_stereo_accepts` meets its contract: it tells the test that `accepts` made. Assumes nothing.
use mathlib.Core.Path.{refl, sym, ◌∙◌}
use Rattle.qamhudeer.proofs.qamhudeer_stereo_accepts.Goals as goal

pub returns-then-accepts : goal.returns-then-accepts
returns-then-accepts c = rw (sym c.accepts.ensures ∙ c.if-accepts.true) refl

pub returns-else-accepts : goal.returns-else-accepts
returns-else-accepts c = rw (sym c.accepts.ensures ∙ c.if-accepts.false) refl
