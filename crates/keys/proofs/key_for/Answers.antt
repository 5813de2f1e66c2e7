-- `key_for` meets its contract: the two cases of the definition, by the key. Assumes nothing.
use mathlib.Core.Path.{sym}
use mathlib.Core.Path.{◌∙◌}
use Rattle.keys.proofs.Turns.{key_for_none, key_for-given}
use Rattle.keys.proofs.key_for.Goals as goal

pub returns-then-key-eq0 : goal.returns-then-key-eq0
returns-then-key-eq0 c = c.new_key.ensures ∙ sym (key_for_none _ _ c.if-key-eq0.true)

pub returns : goal.returns
returns c = sym (key_for-given _ _ c.if-key-eq0.false)
