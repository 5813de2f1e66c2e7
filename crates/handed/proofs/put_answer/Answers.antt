-- `put_answer` meets its contract: eight bytes over eight bytes, the last two of numbers that fit. Assumes nothing.
use mathlib.Core.Path.{◌∙◌}
use native.Mathlib.Omega.{arith}
use Rattle.image.proofs.Laws.{byte_mark}
use Rattle.handed.proofs.Laws.{answer-told}
use Rattle.handed.proofs.put_answer.Goals as goal

pub returns : goal.returns
returns c =
    let a = c.args in
    c.copy_from_slice.ensures.after ∙ answer-told a.a a.na a.nb (c.from.ensures ∙ byte_mark _) (omega arith) c.to_be_bytes.ensures
