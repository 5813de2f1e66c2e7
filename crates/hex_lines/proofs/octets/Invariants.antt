-- `octets` meets its contract: after i turns the first i bytes that the line spells stand in front. Assumes nothing.
use Rattle.std.proofs.Common.{◌≡◌, ℕ, ◌<◌, get_or}
use Rattle.digits.specs.Digits.{pairs}
use Rattle.hex_lines.proofs.octets.Given as goal

abbrev pub invariant-loop-i : goal.invariant-loop-i
invariant-loop-i l = (k : ℕ) → k < l.i → get_or l.octet-items k 0 ≡ get_or (pairs l.line) k 0
