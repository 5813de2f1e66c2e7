-- What was saved in the second form is there again after loading, and what was loaded is saved as the same text. Assumes nothing.
use Prim.Native.Nat.{ℕ, ◌≤◌}
use mathlib.Core.Path.{◌≡◌, refl, ap, ap₂, sym, subst, ◌∙◌}
use mathlib.Core.List.{List}
use native.Mathlib.Omega.{arith}
use lib.Dec.{T}
use lib.ListN.{length}
use Rattle.memory.specs.Splice.{splice}
use Rattle.machine_laws.specs.machine.State.{State}
use Rattle.machine_laws.proofs.Sound.{parts}
use Rattle.image.specs.board.Board.{sized, struct_of, state_in, Held}
use Rattle.image.proofs.board.Laws.{held_of, held_width, held_sized, state_in_of}
use Rattle.image.specs.Image.{state_of, image_of}
use Rattle.image.proofs.Round.{image_of_state_of, state_of_image_of}
use Rattle.loading.specs.waiting_list.WaitingList.{Sound}
use Rattle.loading.specs.recounting.Recounting.{counted}
use Rattle.loading.specs.saving.Saving.{held_by}
use Rattle.loading.specs.Loading.{Fits}
use Rattle.accepting2.specs.saved2.Saved2.{text2, TextOf2}
use Rattle.accepting2.specs.saving2.Saving2.{Agrees, Saves2}
use Rattle.accepting2.proofs.saving2.Laws2.{counted-numbers, counted-long}
use Rattle.loading2.specs.Loading2.{Loads2}

-- the text of a state that is held, loaded into any memory of the right sizes, is that state again to the byte; the display is its count
pub saved2_loads : {st tb : List ℕ} → Sound st tb → {st₀ tb₀ dp₀ : List ℕ} → Fits st₀ tb₀ dp₀ → {r : ℕ} {st' tb' dp' : List ℕ}
    → Loads2 (state_of st).width (text2 (held_by st tb)) st₀ tb₀ dp₀ r st' tb' dp' → (r ≡ 0) × (st' ≡ st) × (tb' ≡ tb) × (dp' ≡ counted (held_by st tb))
saved2_loads {st} {tb} (whole, held) f a =
    let s = held_by st tb in
    let d = a.loaded f (held_sized held) s (record { sane = held.sane; width = sym (held_width held); saved = refl }) in
    (d.result, d.state.bytes ∙ (ap image_of (sym held.struct) ∙ image_of_state_of st whole), d.table ∙ sym held.table, d.display)

-- what was loaded, saved with its display into any room that is long enough, is the text again
pub loaded2_saves : {w : ℕ} {t st tb dp st' tb' dp' : List ℕ} → Fits st tb dp → T (sized w) → Loads2 w t st tb dp 0 st' tb' dp' → (s : State) → TextOf2 w s t
    → {l : List ℕ} {e n : ℕ} {l' : List ℕ} → length t ≤ length l → Saves2 st' tb' dp' l e n l' → (e ≡ 0) × (n ≡ length t) × (l' ≡ splice l 0 t)
loaded2_saves {w} {t} {st' = st'} {tb' = tb'} {dp' = dp'} f z a s h {l} {e} {n} {l'} k b =
    let d = a.loaded f z s h in
    let x : state_of st' ≡ struct_of s = ap state_of d.state.bytes ∙ state_of_image_of (struct_of s) d.state.sized in
    let held : Held (state_of st') tb' = subst (λ y. Held y tb') (sym x) (subst (λ y. Held (struct_of s) y) (sym d.table) (held_of s (parts s h.sane) (subst (λ m. T (sized m)) (sym h.width) z))) in
    let u : held_by st' tb' ≡ s = ap₂ state_in x d.table ∙ state_in_of s (parts s h.sane) in
    let g : text2 (held_by st' tb') ≡ t = ap text2 u ∙ sym h.saved in
    let agree : Agrees dp' (held_by st' tb') = subst (λ y. Agrees dp' y) (sym u) (record { size = counted-long s d.display; counts = counted-numbers s d.display }) in
    let full = (b.saved (d.state.whole, held) agree).full (rw g k) in
    (full.error, let m = full.put.next in let j = ap length g in omega arith, full.put.bytes ∙ ap (splice l 0) g)
