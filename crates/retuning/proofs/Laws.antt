-- What is made of the bytes of a write is what the machine makes of the write. Assumes nothing.
use Prim.Native.Nat.{ℕ}
use mathlib.Core.Path.{◌≡◌, refl}
use mathlib.Core.Option.{Option, none, some}
use Rattle.machine.specs.State.{Write}
use Rattle.machine.specs.Commands.{remember_tone}
use Rattle.table.specs.Entry.{number_bytes}
use Rattle.cycles.proofs.Laws.{next_is, next_id}
use Rattle.retuning.specs.declared.Tune.{Tune}
use Rattle.retuning.specs.declared.Tune.TheVariants.{Set, Later, Finish, Next}
use Rattle.retuning.specs.Retuning.{tone_kept, retuned_of, meaning}

-- what was remembered before is written over
kept_is : (w x : Write) (q : Option (ℕ × ℕ)) → w.pervol ≡ q → tone_kept (number_bytes w) (number_bytes x) ≡ number_bytes (remember_tone x.period x.volume w)
unfolding number_bytes
kept_is w x none e = rw e refl
kept_is w x (some q) e = rw e refl

pub retuned_is : (how : Tune) (w x : Write) → retuned_of how (number_bytes w) (number_bytes x) ≡ number_bytes (meaning how x.period x.volume w)
unfolding number_bytes
retuned_is Set w x = refl
retuned_is Later w x = kept_is w x w.pervol refl
retuned_is Finish w x = refl
retuned_is Next w x = next_is w

-- a write keeps its id
pub meaning-id : (how : Tune) (p v : ℕ) (w : Write) → (meaning how p v w).id ≡ w.id
meaning-id Set p v w = refl
meaning-id Later p v w = refl
meaning-id Finish p v w = refl
meaning-id Next p v w = next_id w
