-- `octets` meets its contract: what is written in front is what the line spells, and every other byte is as before. Assumes nothing.
use mathlib.Core.Path.{sym, ◌∙◌}
use native.Mathlib.Omega.{arith}
use Rattle.spelling.proofs.memory.Splice.{splice_none}
use Rattle.hex_lines.proofs.HexLines.{octets_long, octets_unspelt, octets_written}
use Rattle.hex_lines.proofs.octets.Goals as goal

pub returns-then-line-gt46 : goal.returns-then-line-gt46
returns-then-line-gt46 c =
    let a = c.args in
    let e = octets_long a.line.now (omega arith) in
    (rw e, rw e (sym (splice_none a.f.now 0)))

pub returns-then-not-spelt : goal.returns-then-not-spelt
returns-then-not-spelt c =
    let a = c.args in
    let e = octets_unspelt a.line.now (sym c.spelt.ensures ∙ c.if-not-spelt.true) in
    (rw e, rw e (sym (splice_none a.f.now 0)))

pub returns : goal.returns
returns c =
    let l = c.loop-i in
    let a = c.args in
    octets_written a.line.now a.f.now l.octet-items l.i (omega arith) (sym c.spelt.ensures ∙ c.if-not-spelt.false) (omega arith) (omega arith) (omega arith) l.invariant
