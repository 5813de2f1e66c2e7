-- A text of the second form reads back to its state, so the test of what was read tells whether there is one. Assumes nothing.
use Prim.Native.Nat.{ℕ, ◌+◌, ◌*◌, ◌≤◌, ◌<◌}
use mathlib.Core.Path.{◌≡◌, refl, ap, ap₂, sym, subst, ◌∙◌}
use mathlib.Core.Bool.{Bool, true, false, ◌||◌}
use mathlib.Core.List.{List, [], ◌∷◌}
use native.Mathlib.Omega.{arith}
use lib.Dec.{T, T_not, eqb}
use lib.ListN.{length, take, drop, replicate}
use Rattle.std.specs.Prelude.{Option}
use Rattle.machine_laws.specs.machine.State.{State}
use Rattle.machine_laws.specs.machine.Sound.{sound}
use Rattle.machine_laws.specs.machine.Log.{line, hex_digit}
use Rattle.read_back2.specs.saved.Saved.{spelt}
use Rattle.machine_laws.proofs.Sound.{parts}
use Rattle.machine_laws.proofs.machine.Tests.{by_test}
use Rattle.board.specs.store.declared.State.{State as Struct}
use Rattle.board.specs.store.Store.{table_of}
use Rattle.board.specs.declared.Board.{Board}
use Rattle.board.specs.Board.{sized, fresh_board, struct_of, state_in, Held}
use Rattle.board.proofs.Laws.{held_of, held_width, held_sized, state_in_of}
use Rattle.saving2.specs.sound.Sound.{Decides, board_test}
use Rattle.saving2.proofs.sound.Own.{decides}
use Rattle.read_back2.specs.sheet.Sheet.{Sheet, Took}
use Rattle.read_back2.specs.reading.Reading.{read_from}
use Rattle.read_back2.specs.hex_lines.HexLines.{Put}
use Rattle.saving2.proofs.accepting.Accepting.{false_true, same_or_not, one_found}
use Rattle.read_back2.specs.saved2.Saved2.{text2, TextOf2}
use Rattle.read_back2.proofs.saved2.Lengths2.{text2-length}
use Rattle.saving2.proofs.Laws2.{taken_front}
use Rattle.read_back2.proofs.ReadBack2.{zeros, text2_read, one_spelling2}
use Rattle.accepting2.specs.Accepting2.{Yes2, No2, Accepts2}

-- ---- what was read

abbrev pub board_of : ℕ → Struct → Board
board_of w s = record { width = w; state = s }

module _ {w : ℕ} {t : List ℕ} {s : State} (h : TextOf2 w s t) {st : Struct} {tb : List ℕ} (r : Took (read_from (drop 10 t) zeros) st tb) where
  read_table : tb ≡ table_of s
  read_table = r.table ∙ (ap (λ l. (read_from (drop 10 l) zeros).table) h.saved ∙ (text2_read s h.sane).1)

  read_board : board_of w st ≡ struct_of s
  read_board =
      let e : st ≡ (struct_of s).state = r.state ∙ (ap (λ l. (read_from (drop 10 l) zeros).state) h.saved ∙ (text2_read s h.sane).0) in
      let k : w ≡ length s.channels = sym h.width in
      λ i. record { width = k i; state = e i }

  pub read_held : T (sized w) → Held (board_of w st) tb
  read_held z =
      let k : T (sized (length s.channels)) = subst (λ n. T (sized n)) (sym h.width) z in
      subst (λ b. Held b tb) (sym read_board) (subst (λ x. Held (struct_of s) x) (sym read_table) (held_of s (parts s h.sane) k))

  pub read_state : state_in (board_of w st) tb ≡ s
  read_state = ap₂ state_in read_board read_table ∙ state_in_of s (parts s h.sane)

-- every text has its two lines in front
pub text2-long : {w : ℕ} {s : State} {t : List ℕ} → TextOf2 w s t → 10 ≤ length t
text2-long {s = s} h = let e = ap length h.saved in let k = text2-length s in omega arith

-- and opens with D002
text2-opens : (s : State) → take 5 (text2 s) ≡ 68 ∷ 48 ∷ 48 ∷ 50 ∷ 10 ∷ []
unfolding text2 spelt line hex_digit
text2-opens s = refl

-- ---- case by case

module _ {w : ℕ} {t : List ℕ} where
  pub too_short : length t < 10 → No2 w t
  too_short n s h = let k = text2-long h in omega arith

  pub unopened : (take 5 t ≡ 68 ∷ 48 ∷ 48 ∷ 50 ∷ 10 ∷ [] → ⊥) → No2 w t
  unopened n s h = n (ap (take 5) h.saved ∙ text2-opens s)

  pub unsound : {st : Struct} {tb : List ℕ} → T (sized w) → Took (read_from (drop 10 t) zeros) st tb → (Held (board_of w st) tb → ⊥) → No2 w t
  unsound z r n s h = n (read_held h r z)

  module _ {st : Struct} {tb : List ℕ} {z page : List ℕ} {n : ℕ} (r : Took (read_from (drop 10 t) zeros) st tb) (h : Held (board_of w st) tb)
      (p : Put z 0 (text2 (state_in (board_of w st) tb)) n page) where
    pub compared : t ≡ take n page → Yes2 w t (board_of w st) tb
    compared e = record { held = h; text = record { sane = h.sane; width = sym (held_width h); saved = e ∙ taken_front p } }

    pub differs : (t ≡ take n page → ⊥) → No2 w t
    differs d s q = d (q.saved ∙ (ap text2 (sym (read_state q r)) ∙ sym (taken_front p)))

-- ---- no second outcome fits

pub one_accepting2 : (w : ℕ) (t : List ℕ) (f g : Option Board) {tb tb₂ : List ℕ} → Accepts2 w t f tb → Accepts2 w t g tb₂ → (f ≡ g) × (tb ≡ tb₂)
one_accepting2 w t f g x y = one_found (λ s. TextOf2 w s t) (Yes2 w t) (λ b tb y. (y.held, y.text)) (λ s u. one_spelling2) f g _ _ x y

-- ---- a text is one of a board's, or it is not

pub saved2_or_not {ℓ} : {R : Type ℓ} (w : ℕ) (t : List ℕ) → T (sized w) → ((s : State) → TextOf2 w s t → R) → (((s : State) → TextOf2 w s t → ⊥) → R) → R
saved2_or_not {R = R} w t z y n = go (board_test b tb) (decides b tb)
  where
    x : Sheet
    x = read_from (drop 10 t) zeros

    b : Board
    b = board_of w x.state

    tb : List ℕ
    tb = x.table

    took : Took x x.state tb
    took = record { state = refl; table = refl }

    go : (r : Bool) → Decides r (Held b tb) → R
    go true d =
        let h = d.only refl in
        same_or_not t (text2 (state_in b tb)) (λ e. y (state_in b tb) (record { sane = h.sane; width = sym (held_width h); saved = e }))
        (λ m. n (λ s q. m (q.saved ∙ ap text2 (sym (read_state q took)))))
    go false d = n (λ s q. false_true (d.always (read_held q took z)))
