-- The choice is the same with free channels behind the board, and what is chosen is on the board. Assumes nothing.
use Prim.Native.Nat.{ℕ, zero, suc, ◌^◌, ◌<◌}
use mathlib.Core.Path.{◌≡◌, refl, ap, ap₂, sym, ◌∙◌}
use mathlib.Core.Bool.{Bool, true, false, not, ◌&&◌}
use mathlib.Core.List.{List, [], ◌∷◌}
use lib.Dec.{T, ltb, ltb→lt}
use lib.ListN.{length}
use lib.Pow.{pow_pos}
use Rattle.std.specs.Prelude.{if◌then◌else◌}
use Rattle.machine_laws.specs.machine.Lists.{all}
use Rattle.machine_laws.specs.machine.State.{Channel, is_free}
use Rattle.machine_laws.specs.machine.Maps.{named}
use Rattle.machine_laws.specs.machine.Choosing.{Choice, none, chosen, Look, fails, held, grants, takeable, eligible, all_free, costs_less, first_free, cheaper, cheapest, or_else, choose, standing, look}
use Rattle.machine_laws.proofs.machine.Tests.{if_elim, and_left, and_right}
use Rattle.widening.specs.Widening.{wider, small_list}
use Rattle.widening.proofs.Maps.{named-wide, highest-wide, stolen-wide}

-- ---- what is chosen is on the board

abbrev pub Below : ℕ → Choice → Type 0
Below b none = Unit {0}
Below b (chosen m) = m < b

abbrev pub BelowL : ℕ → Look → Type 0
BelowL b fails = Unit {0}
BelowL b (held m) = m < b
BelowL b (grants m) = m < b

first_below : (b p : ℕ) (ms : List ℕ) (cs : List Channel) → T (all (λ m. ltb m b) ms) → Below b (first_free p ms cs)
unfolding first_free all
first_below b p [] cs t = tt
first_below b p (m ∷ ms) cs t =
    if_elim (Below b) (eligible p m cs && all_free m cs) (λ _. ltb→lt m b (and_left (ltb m b) (all (λ x. ltb x b) ms) t)) (λ _. first_below b p ms cs (and_right (ltb m b) (all (λ x. ltb x b) ms) t))

cheaper-below : (b m : ℕ) (o : Choice) (cs : List Channel) → m < b → Below b o → Below b (cheaper m o cs)
unfolding cheaper
cheaper-below b m none cs h k = h
cheaper-below b m (chosen o) cs h k = if_elim (Below b) (costs_less o m cs) (λ _. k) (λ _. h)

cheapest-below : (b p : ℕ) (ms : List ℕ) (cs : List Channel) → T (all (λ m. ltb m b) ms) → Below b (cheapest p ms cs)
unfolding cheapest all
cheapest-below b p [] cs t = tt
cheapest-below b p (m ∷ ms) cs t =
    let r = cheapest-below b p ms cs (and_right (ltb m b) (all (λ x. ltb x b) ms) t) in
    if_elim (Below b) (eligible p m cs) (λ _. cheaper-below b m (cheapest p ms cs) cs (ltb→lt m b (and_left (ltb m b) (all (λ x. ltb x b) ms) t)) r) (λ _. r)

choose-below : (b p : ℕ) (ms : List ℕ) (cs : List Channel) → 0 < b → T (all (λ m. ltb m b) ms) → Below b (choose p ms cs)
unfolding choose
choose-below b p [] cs h t = h
choose-below b p (m ∷ ms) cs h t = go (first_free p (m ∷ ms) cs) (first_below b p (m ∷ ms) cs t)
  where
    go : (o : Choice) → Below b o → Below b (or_else o (cheapest p (m ∷ ms) cs))
    go none x = unfold or_else in cheapest-below b p (m ∷ ms) cs t
    go (chosen k) x = unfold or_else in x

pub look_below : (n p : ℕ) (ms : List ℕ) (cs : List Channel) → T (small_list n ms) → BelowL (2 ^ n) (look p ms cs)
unfolding look small_list
look_below n p ms cs t = go (choose p ms cs) (choose-below (2 ^ n) p ms cs (pow_pos n) t)
  where
    go : (o : Choice) → Below (2 ^ n) o → BelowL (2 ^ n) (standing o cs)
    go none x = unfold standing in tt
    go (chosen m) x = unfold standing in if_elim (BelowL (2 ^ n)) (named (λ c. not c.locked) m cs) (λ _. x) (λ _. x)

-- ---- the choice

module _ (p k : ℕ) (cs : List Channel) where
  eligible-wide : (m : ℕ) → m < 2 ^ length cs → eligible p m (wider k cs) ≡ eligible p m cs
  unfolding eligible
  eligible-wide m h = named-wide (takeable p) k m cs h

  free_wide : (m : ℕ) → m < 2 ^ length cs → all_free m (wider k cs) ≡ all_free m cs
  unfolding all_free
  free_wide m h = named-wide is_free k m cs h

  small_head : (m : ℕ) (ms : List ℕ) → T (small_list (length cs) (m ∷ ms)) → m < 2 ^ length cs
  unfolding small_list all
  small_head m ms t = ltb→lt m (2 ^ length cs) (and_left (ltb m (2 ^ length cs)) (all (λ x. ltb x (2 ^ length cs)) ms) t)

  small_tail : (m : ℕ) (ms : List ℕ) → T (small_list (length cs) (m ∷ ms)) → T (small_list (length cs) ms)
  unfolding small_list all
  small_tail m ms t = and_right (ltb m (2 ^ length cs)) (all (λ x. ltb x (2 ^ length cs)) ms) t

  first_wide : (ms : List ℕ) → T (small_list (length cs) ms) → first_free p ms (wider k cs) ≡ first_free p ms cs
  unfolding first_free
  first_wide [] t = refl
  first_wide (m ∷ ms) t =
      let h = small_head m ms t in
      rw (eligible-wide m h, free_wide m h, first_wide ms (small_tail m ms t))

  less_wide : (m o : ℕ) → costs_less m o (wider k cs) ≡ costs_less m o cs
  unfolding costs_less
  less_wide m o = rw (highest-wide k m cs, highest-wide k o cs, stolen-wide k m cs, stolen-wide k o cs)

  cheaper-wide : (m : ℕ) (o : Choice) → cheaper m o (wider k cs) ≡ cheaper m o cs
  unfolding cheaper
  cheaper-wide m none = refl
  cheaper-wide m (chosen o) = rw (less_wide o m)

  cheapest-wide : (ms : List ℕ) → T (small_list (length cs) ms) → cheapest p ms (wider k cs) ≡ cheapest p ms cs
  unfolding cheapest
  cheapest-wide [] t = refl
  cheapest-wide (m ∷ ms) t =
      rw (eligible-wide m (small_head m ms t), cheapest-wide ms (small_tail m ms t), cheaper-wide m (cheapest p ms cs))

  pub choose-wide : (ms : List ℕ) → T (small_list (length cs) ms) → choose p ms (wider k cs) ≡ choose p ms cs
  unfolding choose
  choose-wide [] t = refl
  choose-wide (m ∷ ms) t = rw (first_wide (m ∷ ms) t, cheapest-wide (m ∷ ms) t)

  standing-wide : (o : Choice) → Below (2 ^ length cs) o → standing o (wider k cs) ≡ standing o cs
  unfolding standing
  standing-wide none x = refl
  standing-wide (chosen m) x = rw (named-wide (λ c. not c.locked) k m cs x)

  pub look_wide : (ms : List ℕ) → T (small_list (length cs) ms) → look p ms (wider k cs) ≡ look p ms cs
  unfolding look
  look_wide ms t =
      ap (λ (o : Choice). standing o (wider k cs)) (choose-wide ms t)
      ∙ standing-wide (choose p ms cs) (choose-below (2 ^ length cs) p ms cs (pow_pos (length cs)) (unfold small_list in t))
