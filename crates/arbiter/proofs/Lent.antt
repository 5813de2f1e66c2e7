-- The board of a call stands in lent bytes: what is promised of a board that is saved is promised of what the bytes hold; the test of the
-- bytes decides whether they are read; no second outcome fits a call on any bytes. Assumes nothing.
use Prim.Native.Nat.{ℕ}
use mathlib.Core.Path.{◌≡◌, refl, ap, sym, subst, ◌∙◌}
use mathlib.Core.Bool.{Bool, true, false}
use mathlib.Core.List.{List}
use lib.Dec.{T}
use Rattle.answers.proofs.machine.Tests.{test_true}
use Rattle.answers.specs.declared.Request.{Request}
use Rattle.image.specs.board.declared.Board.{Board}
use Rattle.image.specs.board.declared.Outcome.{Outcome}
use Rattle.image.specs.Image.{state_of, is_whole, Whole, Saved}
use Rattle.image.proofs.Round.{saved-state, one_state}
use Rattle.deciding.specs.refusals.declared.Op.{Op}
use Rattle.deciding.proofs.refusing.Laws.{false_true}
use Rattle.arbiter.specs.declared.Answered.{Answered}
use Rattle.arbiter.specs.Arbiter.{outcome_in, Handled, Called, Shows, Unread, Lent}
use Rattle.arbiter.specs.Lent.{Same}
use Rattle.arbiter.proofs.Outcome.{held_or_not, one_outcome}

pub handled_lent : {o : Op} {r : Request} {b : Board} {ms tb l : List ℕ} {d : Outcome} {tb' l' st' : List ℕ} → Saved d.state st' → Handled o r b ms tb l d tb' l'
    → Handled o r b ms tb l (record { answer = d.answer; state = state_of st'; n = d.n }) tb' l'
handled_lent {o} {r} {b} {ms} {tb} {l} {d} {tb'} {l'} v h =
    subst (λ (x : Board). Handled o r b ms tb l (record { answer = d.answer; state = x; n = d.n }) tb' l') (saved-state v) h

-- ---- whether the bytes are read

-- bytes hold a struct, or they do not
pub whole_or_not {ℓ} : {R : Type ℓ} (bs : List ℕ) → (Whole bs → R) → ((Whole bs → ⊥) → R) → R
whole_or_not {R = R} bs y z = go (is_whole bs) refl
  where
    go : (b : Bool) → is_whole bs ≡ b → R
    go true e = y (subst (λ (b : Bool). T b) (sym e) tt)
    go false e = z (λ w. subst (λ (b : Bool). T b) e w)

pub lent-unread : {o : Op} {r : Request} {ms st tb l dp : List ℕ} {d : Answered} {st' tb' l' dp' : List ℕ} {x : Bool} → x ≡ is_whole st → x ≡ false
    → Unread r st tb l dp d st' tb' l' dp' → Lent o r ms st tb l dp d st' tb' l' dp'
lent-unread w q u = record { read = λ y. absurd (false_true (sym q ∙ w ∙ test_true _ y)); unread = λ _. u }

pub lent_read : {o : Op} {r : Request} {ms st tb l dp : List ℕ} {d : Answered} {st' tb' l' dp' : List ℕ} → Whole st
    → Whole st' × Called o r (state_of st) ms tb l (outcome_in st' d) tb' l' × Shows o r (state_of st) ms tb l dp dp' → Lent o r ms st tb l dp d st' tb' l' dp'
lent_read w c = record { read = λ _. c; unread = λ n. absurd (n w) }

-- ---- no second outcome fits

one_shows : {o : Op} {r : Request} {b : Board} {ms tb l dp dp₁ dp₂ : List ℕ} → Shows o r b ms tb l dp dp₁ → Shows o r b ms tb l dp dp₂ → dp₁ ≡ dp₂
one_shows {b = b} {tb = tb} x y = held_or_not b tb (λ h. x.sound h ∙ sym (y.sound h)) (λ n. x.unsound n ∙ sym (y.unsound n))

one_read : {o : Op} {r : Request} {b : Board} {ms tb l dp : List ℕ} {d₁ d₂ : Answered} {st₁ st₂ tb₁ tb₂ l₁ l₂ dp₁ dp₂ : List ℕ}
    → Whole st₁ × Called o r b ms tb l (outcome_in st₁ d₁) tb₁ l₁ × Shows o r b ms tb l dp dp₁ → Whole st₂ × Called o r b ms tb l (outcome_in st₂ d₂) tb₂ l₂ × Shows o r b ms tb l dp dp₂
    → Same d₁ d₂ st₁ st₂ tb₁ tb₂ l₁ l₂ dp₁ dp₂
one_read x y =
    let s = one_outcome x.1 y.1 in
    let a = ap (λ (x : Outcome). x.answer) s.outcome in
    let n = ap (λ (x : Outcome). x.n) s.outcome in
    record {
      answered = λ i. record { answer = a i; n = n i };
      state = one_state x.0 y.0 (ap (λ (x : Outcome). x.state) s.outcome);
      table = s.table;
      list = s.list;
      display = one_shows x.2 y.2;
    }

one_unread : {r : Request} {st tb l dp : List ℕ} {d₁ d₂ : Answered} {st₁ st₂ tb₁ tb₂ l₁ l₂ dp₁ dp₂ : List ℕ} → Unread r st tb l dp d₁ st₁ tb₁ l₁ dp₁ → Unread r st tb l dp d₂ st₂ tb₂ l₂ dp₂
    → Same d₁ d₂ st₁ st₂ tb₁ tb₂ l₁ l₂ dp₁ dp₂
one_unread x y =
    let a = x.answer ∙ sym y.answer in
    let n = x.count ∙ sym y.count in
    record {
      answered = λ i. record { answer = a i; n = n i };
      state = x.state ∙ sym y.state;
      table = x.table ∙ sym y.table;
      list = x.list ∙ sym y.list;
      display = x.display ∙ sym y.display;
    }

pub one_lent : {o : Op} {r : Request} {ms st tb l dp : List ℕ} {d₁ d₂ : Answered} {st₁ st₂ tb₁ tb₂ l₁ l₂ dp₁ dp₂ : List ℕ} → Lent o r ms st tb l dp d₁ st₁ tb₁ l₁ dp₁
    → Lent o r ms st tb l dp d₂ st₂ tb₂ l₂ dp₂ → Same d₁ d₂ st₁ st₂ tb₁ tb₂ l₁ l₂ dp₁ dp₂
one_lent {st = st} x y = whole_or_not st (λ w. one_read (x.read w) (y.read w)) (λ n. one_unread (x.unread n) (y.unread n))
