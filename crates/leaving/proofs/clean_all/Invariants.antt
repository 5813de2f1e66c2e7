-- `clean_all` meets its contract: the channels done and the cleaning of the rest make the cleaning of all. Assumes nothing.
use mathlib.Core.Path.{◌≡◌}
use mathlib.Core.List.{map}
use lib.ListN.{length, drop}
use Rattle.channel.specs.declared.Channel.{Channel}
use Rattle.store.specs.Store.{Each}
use Rattle.leaving.specs.Leaving.{Tidy, cleaned}
use Rattle.leaving.proofs.Queues.{done_to}
use Rattle.leaving.proofs.clean_all.Given as goal

abbrev pub invariant-loop-i : goal.invariant-loop-i
invariant-loop-i l = (length l.ds ≡ 8) × Each (λ (c : Channel). Tidy c.writes) (drop l.i l.ds) × (done_to (cleaned l.id) l.i l.ds ≡ map (cleaned l.id) l.initial.ds)
