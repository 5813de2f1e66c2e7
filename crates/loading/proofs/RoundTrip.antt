-- What was saved and is loaded is as it was, to the byte; what was loaded and is saved is the text; and no second outcome of a load fits.
-- Assumes nothing.
use Prim.Native.Nat.{ℕ, ◌≤◌}
use mathlib.Core.Path.{◌≡◌, refl, ap, ap₂, sym, subst, ◌∙◌}
use mathlib.Core.List.{List}
use native.Mathlib.Omega.{arith}
use lib.Dec.{T, T_not, eqb, eqb→eq}
use lib.ListN.{length, take}
use Rattle.machine.specs.State.{State}
use Rattle.machine.proofs.Tests.{by_test}
use Rattle.memory.specs.Splice.{splice}
use Rattle.image.specs.board.declared.Board.{Board}
use Rattle.image.specs.board.Board.{sized, struct_of, state_in, Held}
use Rattle.image.proofs.board.Laws.{held_width, held_of, state_in_of}
use Rattle.display.proofs.machine_laws.Sound.{parts}
use Rattle.image.specs.Image.{STATE, state_of, image_of}
use Rattle.image.proofs.Round.{one_image, image_of_state_of, state_of_image_of}
use Rattle.display.specs.Display.{DISPLAY}
use Rattle.accepting.specs.sizes.Sizes.{TABLE}
use Rattle.accepting.specs.waiting_list.WaitingList.{Sound}
use Rattle.accepting.specs.saved.Saved.{text, TextOf}
use Rattle.recounting.specs.Recounting.{counted}
use Rattle.accepting.specs.saving.Saving.{held_by, Saves}
use Rattle.accepting.proofs.saving.Laws.{front, four_or_not}
use Rattle.accepting.proofs.Accepting.{text_or_not}
use Rattle.loading.specs.Loading.{Fits, Unmoved, Loaded, Loads}

-- ---- no second outcome

pub fits_or_not {ℓ} : {R : Type ℓ} (st tb dp : List ℕ) → (Fits st tb dp → R) → ((Fits st tb dp → ⊥) → R) → R
fits_or_not st tb dp y n =
    by_test (eqb (length st) STATE)
    (λ a. by_test (eqb (length tb) TABLE)
    (λ b. by_test (eqb (length dp) DISPLAY)
    (λ c. y (record { state = eqb→eq (length st) STATE a; table = eqb→eq (length tb) TABLE b; display = eqb→eq (length dp) DISPLAY c }))
    (λ c. n (λ f. T_not (eqb (length dp) DISPLAY) c (rw f.display tt))))
    (λ b. n (λ f. T_not (eqb (length tb) TABLE) b (rw f.table tt))))
    (λ a. n (λ f. T_not (eqb (length st) STATE) a (rw f.state tt)))

module _ {r r₂ : ℕ} {st₁ st₂ tb₁ tb₂ dp₁ dp₂ : List ℕ} where
  pub unmoved_same : {c : ℕ} {st tb dp : List ℕ} → Unmoved c st tb dp r st₁ tb₁ dp₁ → Unmoved c st tb dp r₂ st₂ tb₂ dp₂ → (r ≡ r₂) × (st₁ ≡ st₂) × (tb₁ ≡ tb₂) × (dp₁ ≡ dp₂)
  unmoved_same a b = (a.result ∙ sym b.result, a.state ∙ sym b.state, a.table ∙ sym b.table, a.display ∙ sym b.display)

  pub loaded_same : {s : State} → Loaded s r st₁ tb₁ dp₁ → Loaded s r₂ st₂ tb₂ dp₂ → (r ≡ r₂) × (st₁ ≡ st₂) × (tb₁ ≡ tb₂) × (dp₁ ≡ dp₂)
  loaded_same a b = (a.result ∙ sym b.result, one_image a.state b.state, a.table ∙ sym b.table, a.display ∙ sym b.display)

  pub one_loading : {w : ℕ} {t st tb dp : List ℕ} → Loads w t st tb dp r st₁ tb₁ dp₁ → Loads w t st tb dp r₂ st₂ tb₂ dp₂ → (r ≡ r₂) × (st₁ ≡ st₂) × (tb₁ ≡ tb₂) × (dp₁ ≡ dp₂)
  one_loading {w} {t} {st} {tb} {dp} a b =
      fits_or_not st tb dp
      (λ f. four_or_not w (λ e. text_or_not t (λ s h. loaded_same (a.loaded f e s h) (b.loaded f e s h)) (λ n. unmoved_same (a.refused f n) (b.refused f n)))
      (λ n. unmoved_same (a.another f n) (b.another f n)))
      (λ n. unmoved_same (a.misfit n) (b.misfit n))

-- ---- round trips

-- the text of a state that was saved
pub saved-text : {st tb l : List ℕ} {n : ℕ} {l' : List ℕ} → Saves st tb l 0 n l' → Sound st tb × ((state_of st).width ≡ 4) → length (text (held_by st tb)) ≤ length l
    → take n l' ≡ text (held_by st tb)
saved-text {st} {tb} {l} {n} {l'} a h k =
    let p = (a.full h.0 h.1 k).put in
    let m : n ≡ length (text (held_by st tb)) = let e = p.next in omega arith in
    ap (take n) p.bytes ∙ (ap (λ i. take i (splice l 0 (text (held_by st tb)))) m ∙ front l (text (held_by st tb)))

-- "Loading .. gives back the state that was saved": what was saved, loaded into any memory of the right sizes, is there again to the byte
pub saved_loads : {st tb : List ℕ} → Sound st tb → (state_of st).width ≡ 4 → {st₀ tb₀ dp₀ : List ℕ} → Fits st₀ tb₀ dp₀ → {r : ℕ} {st' tb' dp' : List ℕ}
    → Loads 4 (text (held_by st tb)) st₀ tb₀ dp₀ r st' tb' dp' → (r ≡ 0) × (st' ≡ st) × (tb' ≡ tb) × (dp' ≡ counted (held_by st tb))
saved_loads {st} {tb} (whole, held) w f a =
    let s = held_by st tb in
    let d = a.loaded f refl s (record { sane = held.sane; width = sym (held_width held) ∙ w; saved = refl }) in
    (d.result, d.state.bytes ∙ (ap image_of (sym held.struct) ∙ image_of_state_of st whole), d.table ∙ sym held.table, d.display)

-- what was loaded, saved into any room that is long enough, is the text again
pub loaded_saves : {t st tb dp : List ℕ} {st' tb' dp' : List ℕ} → Fits st tb dp → Loads 4 t st tb dp 0 st' tb' dp' → (s : State) → TextOf 4 s t
    → {l : List ℕ} {e n : ℕ} {l' : List ℕ} → length t ≤ length l → Saves st' tb' l e n l' → (e ≡ 0) × (n ≡ length t) × (l' ≡ splice l 0 t)
loaded_saves {t} {st' = st'} {tb' = tb'} f a s h {l} {e} {n} {l'} k b =
    let d = a.loaded f refl s h in
    let x : state_of st' ≡ struct_of s = ap state_of d.state.bytes ∙ state_of_image_of (struct_of s) d.state.sized in
    let held : Held (state_of st') tb' = subst (λ z. Held z tb') (sym x) (subst (λ z. Held (struct_of s) z) (sym d.table) (held_of s (parts s h.sane) (subst (λ m. T (sized m)) (sym h.width) tt))) in
    let u : held_by st' tb' ≡ s = ap₂ state_in x d.table ∙ state_in_of s (parts s h.sane) in
    let w : (state_of st').width ≡ 4 = ap (λ (z : Board). z.width) x ∙ h.width in
    let g : text (held_by st' tb') ≡ t = ap text u ∙ sym h.saved in
    let full = b.full (d.state.whole, held) w (rw g k) in
    (full.error, let m = full.put.next in let j = ap length g in omega arith, full.put.bytes ∙ ap (splice l 0) g)
