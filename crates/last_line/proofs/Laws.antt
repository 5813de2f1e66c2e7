-- How the call at the end meets its promise, whether a line has started or not; no second outcome fits. Assumes nothing.
use Prim.Native.Nat.{ℕ}
use mathlib.Core.Path.{◌≡◌, refl, ap, sym, ◌∙◌}
use mathlib.Core.List.{List, ◌∷◌}
use borrow.Author.Tests.{eq-eqb, ne_eqb}
use Rattle.telling.specs.port.Port.{started_in, line_in, port_of}
use Rattle.telling.specs.admitting.Admitting.{Proper}
use Rattle.telling.proofs.admitting.Laws.{port_again}
use Rattle.telling.specs.Telling.{Says, Moves, SameCall}
use Rattle.telling.proofs.Laws.{cons_cons, one_porting}
use Rattle.last_line.specs.LastLine.{line_last, port_last, Ends}

-- ---- the end

pub none_moves : (p : List ℕ) {st tb dp out : List ℕ} {w : ℕ} → Proper p → started_in p ≡ 0 → w ≡ 0 → Moves (line_last p) (port_last p) 0 st tb dp out 0 w p st tb dp out
unfolding line_last
none_moves p h z w =
    rw (eq-eqb (started_in p) 0 z)
    (record {
      used = refl;
      port = sym (port_again p h) ∙ ap (λ (x : ℕ). port_of x (line_in p)) z;
      answers = record { count = w; state = refl; table = refl; display = refl; bytes = refl };
    })

pub last_moves : (p : List ℕ) {l st tb dp out : List ℕ} {w k a b : ℕ} {n : ℕ} {p' st' tb' dp' out' : List ℕ} → l ≡ line_in p → (started_in p ≡ 0 → ⊥) → w ≡ k
    → p' ≡ a ∷ b ∷ l → a ≡ 0 → b ≡ 0 → n ≡ started_in p → Says l n st tb dp out k st' tb' dp' out' → Moves (line_last p) (port_last p) 0 st tb dp out 0 w p' st' tb' dp' out'
unfolding line_last
last_moves p el h w q ea eb en t = rw (ne_eqb (started_in p) 0 h, w) (record { used = refl; port = q ∙ cons_cons ea eb el; answers = rw (en, el) at t.tells })

-- ---- no second outcome fits

pub one_feed_end : (p : List ℕ) {st tb dp out : List ℕ} {e e₂ n n₂ : ℕ} {p₁ p₂ st₁ st₂ tb₁ tb₂ dp₁ dp₂ out₁ out₂ : List ℕ} → Ends p st tb dp out e n p₁ st₁ tb₁ dp₁ out₁
    → Ends p st tb dp out e₂ n₂ p₂ st₂ tb₂ dp₂ out₂ → SameCall e e₂ 0 0 n n₂ p₁ p₂ st₁ st₂ tb₁ tb₂ dp₁ dp₂ out₁ out₂
one_feed_end p c d = one_porting c d
