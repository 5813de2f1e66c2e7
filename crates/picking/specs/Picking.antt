-- The machine's choices as the code's options, and a step of the code in the machine's words.
-- Assumes nothing.
--
--   choice_of o, choice_in o   the option of a choice; the choice that an option holds
--   beat a b cs              of a best so far and what the later combinations would choose, the one that is chosen
--   Kept cs b o              b holds the best so far, o, with its price
--   Beaten t barred b m r    the promise of a turn: r holds the best after one more combination, m
use Rattle.std.specs.Prelude.{ℕ, ◌≡◌, List, [], ◌∷◌, Option, None, Some}
use Rattle.pricing.specs.machine.State.{Channel}
use Rattle.pricing.specs.machine.Choosing.{Choice as ChoiceM, none, chosen, takeable, cheaper, cheapest}
use Rattle.pricing.specs.standing.declared.Standing.{Standing}
use Rattle.pricing.specs.standing.Standing.{failing, Stood}
use Rattle.pricing.specs.Pricing.{Priced}
use Rattle.picking.specs.declared.Best.{Best}

abbrev pub choice_of : ChoiceM → Option ℕ
choice_of none = None
choice_of (chosen m) = Some m

abbrev pub choice_in : Option ℕ → ChoiceM
choice_in None = none
choice_in (Some m) = chosen m

unfoldable pub beat : ChoiceM → ChoiceM → List Channel → ChoiceM
beat none b cs = b
beat (chosen m) b cs = cheaper m b cs

abbrev pub Kept : List Channel → Option Best → ChoiceM → Type 0
Kept cs None none = Unit {0}
Kept cs (Some b) (chosen m) = (b.map ≡ m) × Priced m cs b.cost
Kept cs None (chosen m) = ⊥
Kept cs (Some b) none = ⊥

abbrev pub Beaten : Standing → ℕ → Option Best → ℕ → Option Best → Type 0
Beaten t barred best m r =
    (cs : List Channel) (p : ℕ) (o : ChoiceM) → Stood cs t → barred ≡ failing (takeable p) cs → Kept cs best o
    → Kept cs r (beat o (cheapest p (m ∷ []) cs) cs)
