-- `on_channel` meets its contract: no channel passed has the key. Assumes nothing.
use mathlib.Core.Path.{◌≡◌}
use lib.ListN.{drop}
use Rattle.keys.specs.Keys.{on_channel}
use Rattle.keys.proofs.on_channel.Given as goal

abbrev pub invariant-loop-c : goal.invariant-loop-c
invariant-loop-c l = on_channel l.k (drop l.c-index l.c-items) ≡ on_channel l.k l.fn.cs
