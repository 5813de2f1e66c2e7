-- `put_numbers` meets its contract: after i turns the lines of the first i channels stand there. Assumes nothing.
use Rattle.hex_lines.specs.HexLines.{Put}
use Rattle.saved2.specs.saved.Saved.{spelt}
use Rattle.number_lines.specs.NumberLines.{number_lines}
use Rattle.number_lines.proofs.put_numbers.Given as goal

abbrev pub invariant-loop-i : goal.invariant-loop-i
invariant-loop-i l = Put l.initial.out l.at (spelt (number_lines l.i l.display)) l.p l.out
