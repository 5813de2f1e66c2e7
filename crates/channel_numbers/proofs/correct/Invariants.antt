-- `correct` meets its contract: after c turns the numbers of the first c channels are corrected. Assumes nothing.
use Prim.Native.Nat.{◌/◌, ◌^◌}
use mathlib.Core.Path.{◌≡◌}
use lib.ListN.{length}
use Rattle.channel_numbers.proofs.Laws.{Corrected}
use Rattle.channel_numbers.proofs.correct.Given as goal

abbrev pub invariant-loop-c : goal.invariant-loop-c
invariant-loop-c l = (length l.initial.display ≡ 18) × (length l.display ≡ 18) × (l.less ≡ l.left / 256 ^ l.c) × (l.more ≡ l.joined / 256 ^ l.c)
    × Corrected l.old l.new l.left l.joined l.initial.display l.display l.c
