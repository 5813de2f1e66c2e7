-- What a map names is the same of the channels of old and of now. Assumes nothing.
use Prim.Native.Nat.{ℕ}
use mathlib.Core.Path.{◌≡◌, refl, ap, ap₂, ◌∙◌}
use mathlib.Core.Bool.{Bool, not, ◌&&◌, ◌||◌}
use mathlib.Core.List.{List, [], ◌∷◌, map}
use lib.ListN.{length, length-map}
use Rattle.std.specs.Prelude.{if◌then◌else◌}
use Rattle.machine.specs.State.{Channel}
use Rattle.machine.specs.Maps.{odd, half, bit, lowest, named, change, at}
use Rattle.old_logs.specs.Old
use Rattle.old_logs.specs.Now.{now_channel}
use Rattle.old_logs.proofs.Lists.{if_out}

-- the definition is the same
pub lowest-now : (n m : ℕ) → lowest n m ≡ Old.lowest n m
unfolding lowest bit odd half Old.lowest Old.bit Old.odd Old.half
lowest-now n m = refl

-- ---- channels

pub length-now : (cs : List Old.Channel) → length (map now_channel cs) ≡ length cs
length-now cs = length-map cs now_channel

pub named-now : (p : Channel → Bool) (m : ℕ) (cs : List Old.Channel) → named p m (map now_channel cs) ≡ Old.named (λ c. p (now_channel c)) m cs
unfolding named odd half Old.named Old.odd Old.half
named-now p m [] = refl
named-now p m (c ∷ cs) = ap (λ (b : Bool). (not (odd m) || p (now_channel c)) && b) (named-now p (half m) cs)

pub change-now : (f : Channel → Channel) (g : Old.Channel → Old.Channel) → ((c : Old.Channel) → f (now_channel c) ≡ now_channel (g c)) → (m : ℕ) (cs : List Old.Channel)
    → change f m (map now_channel cs) ≡ map now_channel (Old.change g m cs)
unfolding change odd half Old.change Old.odd Old.half
change-now f g e m [] = refl
change-now f g e m (c ∷ cs) =
    ap₂ (λ (x : Channel) (l : List Channel). x ∷ l)
    (ap (λ (x : Channel). if odd m then x else now_channel c) (e c) ∙ if_out now_channel (odd m) (g c) c)
    (change-now f g e (half m) cs)

pub at_now : (m : ℕ) (cs : List Old.Channel) → at m (map now_channel cs) ≡ now_channel (Old.at m cs)
unfolding at odd half Old.at Old.odd Old.half
at_now m [] = refl
at_now m (c ∷ cs) =
    ap (λ (x : Channel). if odd m then now_channel c else x) (at_now (half m) cs)
    ∙ if_out now_channel (odd m) c (Old.at (half m) cs)
