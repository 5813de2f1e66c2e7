-- `value_at` meets its contract: what a line spells, it spells in digits. Assumes nothing.
use Rattle.std.proofs.Common.{arith}
use Rattle.std.proofs.lemmas.Grind.{common_steps}
use Rattle.digits.proofs.Laws.{is_digit_at, spelt-digit}
use Rattle.digits.proofs.value_at.Goals as goal

pub unwrap-requires : goal.unwrap-requires
unwrap-requires c =
    let h = is_digit_at c.args.line.now c.args.i c.requires.0 c.requires.1 in
    grind (arith, common_steps)

pub returns : goal.returns
returns c =
    let h = spelt-digit c.args.line.now c.args.i c.requires.0 c.requires.1 in
    grind (arith, common_steps)
