-- The choice among combinations is the same. Assumes nothing.
use Prim.Native.Nat.{ℕ, suc, max}
use mathlib.Core.Path.{◌≡◌, refl, ap}
use mathlib.Core.Bool.{not, ◌&&◌}
use mathlib.Core.List.{List, [], ◌∷◌, map}
use Rattle.std.specs.Prelude.{if◌then◌else◌}
use Rattle.machine.specs.State.{is_free}
use Rattle.machine.specs.Maps.{odd, half}
use Rattle.machine.specs.Choosing.{Choice, none, chosen, Look, fails, held, grants, takeable, eligible, all_free, first_free, highest, stolen, costs_less, cheaper, cheapest, or_else, choose, standing, look}
use Rattle.old_logs.specs.Old
use Rattle.old_logs.specs.Now.{now_channel}
use Rattle.old_logs.proofs.Lists.{if_out}
use Rattle.old_logs.proofs.Maps.{named-now}

abbrev pub now_choice : Old.Choice → Choice
now_choice Old.none = none
now_choice (Old.chosen m) = chosen m

abbrev pub now_look : Old.Look → Look
now_look Old.fails = fails
now_look (Old.held m) = held m
now_look (Old.grants m) = grants m

eligible-now : (p m : ℕ) (cs : List Old.Channel) → eligible p m (map now_channel cs) ≡ Old.eligible p m cs
unfolding eligible takeable Old.eligible Old.takeable
eligible-now p m cs = named-now (takeable p) m cs

all_free-now : (m : ℕ) (cs : List Old.Channel) → all_free m (map now_channel cs) ≡ Old.all_free m cs
unfolding all_free Old.all_free
all_free-now m cs = named-now is_free m cs

first_free-now : (p : ℕ) (ms : List ℕ) (cs : List Old.Channel) → first_free p ms (map now_channel cs) ≡ now_choice (Old.first_free p ms cs)
unfolding first_free Old.first_free
first_free-now p [] cs = refl
first_free-now p (m ∷ ms) cs =
    rw (eligible-now p m cs, all_free-now m cs, first_free-now p ms cs)
    (if_out now_choice (Old.eligible p m cs && Old.all_free m cs) (Old.chosen m) (Old.first_free p ms cs))

highest-now : (m : ℕ) (cs : List Old.Channel) → highest m (map now_channel cs) ≡ Old.highest m cs
unfolding highest odd half Old.highest Old.odd Old.half
highest-now m [] = refl
highest-now m (c ∷ cs) =
    ap (λ (x : ℕ). if odd m && not (is_free (now_channel c)) then max c.prec x else x) (highest-now (half m) cs)

stolen-now : (m : ℕ) (cs : List Old.Channel) → stolen m (map now_channel cs) ≡ Old.stolen m cs
unfolding stolen odd half Old.stolen Old.odd Old.half
stolen-now m [] = refl
stolen-now m (c ∷ cs) = ap (λ (x : ℕ). if odd m && not (is_free (now_channel c)) then suc x else x) (stolen-now (half m) cs)

costs_less-now : (m o : ℕ) (cs : List Old.Channel) → costs_less m o (map now_channel cs) ≡ Old.costs_less m o cs
unfolding costs_less Old.costs_less
costs_less-now m o cs = rw (highest-now m cs, highest-now o cs, stolen-now m cs, stolen-now o cs)

cheaper-now : (m : ℕ) (h : Old.Choice) (cs : List Old.Channel) → cheaper m (now_choice h) (map now_channel cs) ≡ now_choice (Old.cheaper m h cs)
unfolding cheaper Old.cheaper
cheaper-now m Old.none cs = refl
cheaper-now m (Old.chosen o) cs = rw (costs_less-now o m cs) (if_out now_choice (Old.costs_less o m cs) (Old.chosen o) (Old.chosen m))

cheapest-now : (p : ℕ) (ms : List ℕ) (cs : List Old.Channel) → cheapest p ms (map now_channel cs) ≡ now_choice (Old.cheapest p ms cs)
unfolding cheapest Old.cheapest
cheapest-now p [] cs = refl
cheapest-now p (m ∷ ms) cs =
    let r = Old.cheapest p ms cs in
    rw (eligible-now p m cs, cheapest-now p ms cs, cheaper-now m r cs)
    (if_out now_choice (Old.eligible p m cs) (Old.cheaper m r cs) r)

or_else_now : (a b : Old.Choice) → or_else (now_choice a) (now_choice b) ≡ now_choice (Old.or_else a b)
unfolding or_else Old.or_else
or_else_now Old.none b = refl
or_else_now (Old.chosen m) b = refl

choose-now : (p : ℕ) (ms : List ℕ) (cs : List Old.Channel) → choose p ms (map now_channel cs) ≡ now_choice (Old.choose p ms cs)
unfolding choose Old.choose
choose-now p [] cs = refl
choose-now p (m ∷ ms) cs =
    rw (first_free-now p (m ∷ ms) cs, cheapest-now p (m ∷ ms) cs)
    (or_else_now (Old.first_free p (m ∷ ms) cs) (Old.cheapest p (m ∷ ms) cs))

standing-now : (h : Old.Choice) (cs : List Old.Channel) → standing (now_choice h) (map now_channel cs) ≡ now_look (Old.standing h cs)
unfolding standing Old.standing
standing-now Old.none cs = refl
standing-now (Old.chosen m) cs =
    rw (named-now (λ c. not c.locked) m cs)
    (if_out now_look (Old.named (λ c. not c.locked) m cs) (Old.grants m) (Old.held m))

pub look_now : (p : ℕ) (ms : List ℕ) (cs : List Old.Channel) → look p ms (map now_channel cs) ≡ now_look (Old.look p ms cs)
unfolding look Old.look
look_now p ms cs = rw (choose-now p ms cs) (standing-now (Old.choose p ms cs) cs)
