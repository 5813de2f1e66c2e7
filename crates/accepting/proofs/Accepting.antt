-- A text of a sound state reads back to that state, so it is its only state; and the test of what was read tells whether there is one.
-- Assumes nothing.
use Prim.Native.Nat.{ℕ}
use mathlib.Core.Path.{◌≡◌, refl, ap, ap₂, sym, subst, ◌∙◌}
use mathlib.Core.Bool.{Bool, true, false}
use mathlib.Core.List.{List, [], ◌∷◌}
use native.Mathlib.Omega.{arith}
use lib.Dec.{T, T_not, eqb, eqb→eq, eqb_refl}
use lib.ListN.{length, get_or, take, drop, replicate}
use Rattle.std.specs.Prelude.{Option, Some, None, is_some, MatchOption}
use Rattle.machine_laws.specs.machine.State.{State}
use Rattle.machine_laws.specs.machine.Log.{line, hex_digit}
use Rattle.machine_laws.proofs.machine.Tests.{by_test}
use Rattle.machine_laws.proofs.Sound.{parts}
use Rattle.board.specs.store.declared.State.{State as Struct}
use Rattle.board.specs.store.Store.{table_of}
use Rattle.board.specs.declared.Board.{Board}
use Rattle.memory.specs.Splice.{splice}
use Rattle.board.specs.Board.{sized, struct_of, state_in, Held}
use Rattle.board.proofs.Laws.{held_of, held_width, one_state, state_in_of}
use Rattle.saving.specs.sound.Sound.{Decides, board_test}
use Rattle.saving.proofs.sound.Own.{decides}
use Rattle.read_back.specs.saved.Saved.{spelt, text, TextOf}
use Rattle.read_back.specs.sheet.Sheet.{Sheet, Took}
use Rattle.read_back.specs.reading.Reading.{read_from}
use Rattle.read_back.proofs.WholeText.{text_read}
use Rattle.read_back.specs.hex_lines.HexLines.{Put}
use Rattle.saving.proofs.Laws.{front}
use Rattle.accepting.specs.Accepting.{opening, Yes, No, Cleared, Accepts}

pub false_true : false ≡ true → ⊥
false_true e = subst (λ (b : Bool). T b) (sym e) tt

-- ---- one spelling

-- two states of one text are equal
pub one_spelling : {n : ℕ} {s u : State} {t : List ℕ} → TextOf n s t → TextOf n u t → s ≡ u
one_spelling {n} {s} {u} {t} a b =
    let x = text_read s a.sane in
    let y = text_read u b.sane in
    let f = ap (λ l. read_from (drop 5 l) (replicate 1472 0)) (sym a.saved ∙ b.saved) in
    let g : table_of s ≡ table_of u = sym x.1 ∙ (ap (λ d. d.table) f ∙ y.1) in
    let w : (struct_of s).state ≡ (struct_of u).state = sym x.0 ∙ (ap (λ d. d.state) f ∙ y.0) in
    let k : length s.channels ≡ length u.channels = a.width ∙ sym b.width in
    one_state s u (parts s a.sane) (parts u b.sane) (λ i. record { width = k i; state = w i }) g

-- every text opens with its first line
pub text-opens : (s : State) → take 5 (text s) ≡ opening
unfolding text spelt line hex_digit
text-opens s = refl

pub opening_is : opening ≡ 68 ∷ 48 ∷ 48 ∷ 49 ∷ 10 ∷ []
unfolding line hex_digit
opening_is = refl

pub took_from : (t : List ℕ) {x tb tb' : List ℕ} {st : Struct} → tb ≡ x → Took (read_from t tb) st tb' → Took (read_from t x) st tb'
took_from t {tb' = tb'} {st = st} e r = subst (λ z. Took (read_from t z) st tb') e r

-- ---- what was read

abbrev board_of : Struct → Board
board_of s = record { width = 4; state = s }

module _ {t : List ℕ} {s : State} (h : TextOf 4 s t) {st : Struct} {tb : List ℕ} (r : Took (read_from (drop 5 t) (replicate 1472 0)) st tb) where
  read_table : tb ≡ table_of s
  read_table = r.table ∙ (ap (λ l. (read_from (drop 5 l) (replicate 1472 0)).table) h.saved ∙ (text_read s h.sane).1)

  read_board : board_of st ≡ struct_of s
  read_board =
      let e : st ≡ (struct_of s).state = r.state ∙ (ap (λ l. (read_from (drop 5 l) (replicate 1472 0)).state) h.saved ∙ (text_read s h.sane).0) in
      let w : 4 ≡ length s.channels = sym h.width in
      λ i. record { width = w i; state = e i }

  pub read_held : Held (board_of st) tb
  read_held =
      let k : T (sized (length s.channels)) = rw h.width tt in
      subst (λ b. Held b tb) (sym read_board) (subst (λ x. Held (struct_of s) x) (sym read_table) (held_of s (parts s h.sane) k))

  pub read_state : state_in (board_of st) tb ≡ s
  read_state = ap₂ state_in read_board read_table ∙ state_in_of s (parts s h.sane)

-- ---- case by case

pub unopened : {t : List ℕ} → (take 5 t ≡ opening → ⊥) → No t
unopened n s h = n (ap (take 5) h.saved ∙ text-opens s)

pub unsound : {t : List ℕ} {st : Struct} {tb : List ℕ} → Took (read_from (drop 5 t) (replicate 1472 0)) st tb → (Held (board_of st) tb → ⊥) → No t
unsound r n s h = n (read_held h r)

-- what was put stands in front of the page
its_text : {z page vs : List ℕ} {n : ℕ} → Put z 0 vs n page → take n page ≡ vs
its_text {z} {page} {vs} {n} p =
    let k : n ≡ length vs = let m = p.next in omega arith in
    ap (take n) p.bytes ∙ (ap (λ i. take i (splice z 0 vs)) k ∙ front z vs)

module _ {t : List ℕ} {st : Struct} {tb : List ℕ} {z page : List ℕ} {n : ℕ} (r : Took (read_from (drop 5 t) (replicate 1472 0)) st tb) (h : Held (board_of st) tb)
    (p : Put z 0 (text (state_in (board_of st) tb)) n page) where
  pub compared : t ≡ take n page → Yes t (board_of st) tb
  compared e = record { held = h; text = record { sane = h.sane; width = sym (held_width h); saved = e ∙ its_text p } }

  pub differs : (t ≡ take n page → ⊥) → No t
  differs d s q = d (q.saved ∙ (ap text (sym (read_state q r)) ∙ sym (its_text p)))

-- ---- what is handed back

pub cleared : (f : Option Board) (tb : List ℕ) {tb' : List ℕ} → is_some f ≡ false → tb' ≡ replicate 1472 0 → Cleared f tb tb'
cleared (Some b) tb e z = absurd (false_true (sym e))
cleared None tb e z = z

-- of either form: N says that the text was saved of no state, Y that it was saved of what the board and the table hold
pub settled : (N : Type 0) (Y : Board → List ℕ → Type 0) (f : Option Board) (tb tb' : List ℕ) → MatchOption f N (λ b. Y b tb) → Cleared f tb tb'
    → MatchOption f (N × (tb' ≡ replicate 1472 0)) (λ b. Y b tb')
settled N Y (Some b) tb tb' y e = subst (Y b) (sym e) y
settled N Y None tb tb' n z = (n, z)

-- ---- no second outcome fits

-- a state that is held is handed back in one way
pub held_once : {b b₂ : Board} {tb tb₂ : List ℕ} → Held b tb → Held b₂ tb₂ → state_in b tb ≡ state_in b₂ tb₂
    → (b ≡ b₂) × (tb ≡ tb₂)
held_once h g e = (h.struct ∙ ap struct_of e ∙ sym g.struct, h.table ∙ ap table_of e ∙ sym g.table)

-- of either form: P s says that the text was saved of the state s
pub one_found : (P : State → Type 0) (Y : Board → List ℕ → Type 0) → ((b : Board) (tb : List ℕ) → Y b tb → Held b tb × P (state_in b tb))
    → ((s u : State) → P s → P u → s ≡ u) → (f g : Option Board) (tb tb₂ : List ℕ)
    → MatchOption f (((s : State) → P s → ⊥) × (tb ≡ replicate 1472 0)) (λ b. Y b tb)
    → MatchOption g (((s : State) → P s → ⊥) × (tb₂ ≡ replicate 1472 0)) (λ b. Y b tb₂)
    → (f ≡ g) × (tb ≡ tb₂)
one_found P Y has one (Some b) (Some c) tb tb₂ x y =
    let p = has _ _ x in
    let q = has _ _ y in
    let h = held_once p.0 q.0 (one _ _ p.1 q.1) in
    (ap Some h.0, h.1)
one_found P Y has one (Some b) None tb tb₂ x y = absurd (y.0 _ (has _ _ x).1)
one_found P Y has one None (Some c) tb tb₂ x y = absurd (x.0 _ (has _ _ y).1)
one_found P Y has one None None tb tb₂ x y = (refl, x.1 ∙ sym y.1)

pub one_accepting : (t : List ℕ) (f g : Option Board) {tb tb₂ : List ℕ} → Accepts t f tb → Accepts t g tb₂ → (f ≡ g) × (tb ≡ tb₂)
one_accepting t f g x y = one_found (λ s. TextOf 4 s t) (Yes t) (λ b tb y. (y.held, y.text)) (λ s u. one_spelling) f g _ _ x y

-- ---- whether there is one

pub same_or_not {ℓ} : {R : Type ℓ} (a b : List ℕ) → (a ≡ b → R) → ((a ≡ b → ⊥) → R) → R
same_or_not [] [] y z = y refl
same_or_not [] (x ∷ b) y z = z (λ e. let n = ap length e in omega arith)
same_or_not (x ∷ a) [] y z = z (λ e. let n = ap length e in omega arith)
same_or_not (x ∷ a) (w ∷ b) y z =
    by_test (eqb x w)
    (λ t. same_or_not a b (λ e. y (ap₂ ◌∷◌ (eqb→eq x w t) e)) (λ n. z (λ e. n (ap (drop 1) e))))
    (λ t. z (λ e. T_not (eqb x w) t (subst (λ k. T (eqb x k)) (ap (λ l. get_or l 0 x) e) (eqb_refl x))))

-- a text was saved of a state, or of none
pub text_or_not {ℓ} : {R : Type ℓ} (t : List ℕ) → ((s : State) → TextOf 4 s t → R) → (((s : State) → TextOf 4 s t → ⊥) → R) → R
text_or_not {R = R} t y z = go (board_test b tb) (decides b tb)
  where
    x : Sheet
    x = read_from (drop 5 t) (replicate 1472 0)

    b : Board
    b = board_of x.state

    tb : List ℕ
    tb = x.table

    r : Took x x.state tb
    r = record { state = refl; table = refl }

    go : (k : Bool) → Decides k (Held b tb) → R
    go true d =
        let h = d.only refl in
        same_or_not t (text (state_in b tb)) (λ e. y (state_in b tb) (record { sane = h.sane; width = sym (held_width h); saved = e }))
        (λ n. z (λ s q. n (q.saved ∙ ap text (sym (read_state q r)))))
    go false d = z (λ s q. false_true (d.always (read_held q r)))
