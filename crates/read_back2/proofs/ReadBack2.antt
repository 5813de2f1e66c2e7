-- A text of the second form names its board and reads back to its state, so it is the text of no other state; the lines of its numbers
-- are passed over by reading, and only those that were counted are in a text. Assumes nothing.
use Prim.Native.Nat.{ℕ, zero, suc, ◌+◌, ◌*◌, ◌/◌, ◌%◌, ◌≤◌, ◌<◌}
use mathlib.Core.Path.{◌≡◌, refl, ap, ap₂, sym, subst, ◌∙◌}
use mathlib.Core.List.{List, [], ◌∷◌, ◌++◌, append-nil, append_assoc}
use mathlib.Core.Option.{some}
use native.Mathlib.Omega.{arith}
use native.Mathlib.Numerals.{add-one}
use lib.Dec.{T, leb→le}
use lib.ListN.{length, get_or, take, drop, replicate}
use lib.Seq.{drop_at}
use Rattle.digits.specs.machine.State.{State}
use Rattle.digits.specs.machine.Sound.{sound}
use Rattle.digits.specs.machine.Log.{line, digit, hex_digit}
use Rattle.display.specs.machine_laws.Sound.{Parts}
use Rattle.display.proofs.machine_laws.Sound.{parts}
use Rattle.display.specs.Display.{writes_on, naming, number}
use Rattle.display.proofs.Numbers.{number_most}
use Rattle.display.proofs.Pinned.{number_even, number-odd}
use Rattle.board.specs.store.Store.{Each, table_of}
use Rattle.board.specs.Board.{struct_of}
use Rattle.board.proofs.Laws.{one_state}
use Rattle.read_back.specs.saved.Saved.{FIRST, frames, spelt, text, TextOf}
use Rattle.read_back.specs.sheet.Sheet.{Sheet, blank, part_taken, taken, taken_all}
use Rattle.read_back.specs.reading.Reading.{frames_in, read_from}
use Rattle.read_back.specs.ReadBack.{Bytes, sheet_of}
use Rattle.read_back.proofs.Spelt.{Frame, digit-hex_digit, lines-spelt}
use Rattle.read_back.proofs.FrameBytes.{frames-bytes}
use Rattle.read_back.proofs.ReadBack.{read_back}
use Rattle.digits.specs.Digits.{value_of}
use Rattle.number_lines.specs.NumberLines.{number_line, number_lines}
use Rattle.number_lines.specs.saved2.Saved2.{number_frame, number_frames, frames2, text2, TextOf2}
use Rattle.read_back2.specs.ReadBack2.{text_with}

abbrev pub zeros : List ℕ
zeros = replicate 1472 0

-- a line that can be carried, and that reading passes over
pub record Passed (f : List ℕ) : Type 0 where
  pub whole : Frame f
  pub over : (d : Sheet) → taken f d ≡ d

-- ---- lists

each_append : {A : Type 0} (P : A → Type 0) (xs ys : List A) → Each P xs → Each P ys → Each P (xs ++ ys)
each_append P [] ys s t = t
each_append P (x ∷ xs) ys s t = (s.0, each_append P xs ys s.1 t)

wholes : (gs : List (List ℕ)) → Each Passed gs → Each Frame gs
wholes [] t = tt
wholes (g ∷ gs) t = (t.0.whole, wholes gs t.1)

byte_at : (d : List ℕ) → Bytes d → (j : ℕ) → get_or d j 0 < 256
byte_at [] t j = omega arith
byte_at (b ∷ bs) t zero = t.0
byte_at (b ∷ bs) t (suc j) = byte_at bs t.1 j

-- ---- the lines of numbers

number_passed : (i x y : ℕ) → i < 256 → x < 256 → y < 256 → Passed (0xD9 ∷ i ∷ x ∷ y ∷ [])
unfolding taken part_taken
number_passed i x y a b c =
    record {
      whole = record { bytes = (omega arith, (a, (b, (c, tt)))); some = omega arith; most = omega arith };
      over = λ d. refl;
    }

frames-passed : (s : State) → T (sound s) → (n : ℕ) → n ≤ 8 → Each Passed (number_frames n s)
unfolding number_frames number_frame
frames-passed s t zero h = tt
frames-passed s t (suc n) h =
    let p = parts s t in
    let a = number_most (2 * n) s p in
    let b = number_even n s in
    let c = number_most (suc (2 * n)) s p in
    let d = number-odd n s in
    each_append Passed (number_frames n s) _ (frames-passed s t n (omega arith)) (number_passed n (writes_on n s) (naming n s) (omega arith) (omega arith) (omega arith), tt)

pub lines-passed : (d : List ℕ) → Bytes d → (n : ℕ) → n ≤ 8 → Each Passed (number_lines n d)
unfolding number_lines number_line
lines-passed d t zero h = tt
lines-passed d t (suc n) h =
    each_append Passed (number_lines n d) _ (lines-passed d t n (omega arith))
    (number_passed n (get_or d (2 * n) 0) (get_or d (2 * n + 1) 0) (omega arith) (byte_at d t (2 * n)) (byte_at d t (2 * n + 1)), tt)

-- ---- reading

passed_all : (gs : List (List ℕ)) (d : Sheet) → Each Passed gs → taken_all gs d ≡ d
unfolding taken_all
passed_all [] d t = refl
passed_all (g ∷ gs) d t = ap (taken_all gs) (t.0.over d) ∙ passed_all gs d t.1

-- the two lines in front have ten bytes
pub behind : (gs : List (List ℕ)) (s : State) → drop 10 (text_with gs s) ≡ spelt (frames s ++ gs)
unfolding text_with spelt line
behind gs s = refl

module _ (s : State) (sane : T (sound s)) (gs : List (List ℕ)) (ok : Each Passed gs) where
  pub lines_with : frames_in (drop 10 (text_with gs s)) ≡ frames s ++ gs
  lines_with =
      ap frames_in (behind gs s) ∙ lines-spelt (frames s ++ gs) (each_append Frame (frames s) gs (frames-bytes s sane) (wholes gs ok))

  pub read_with : read_from (drop 10 (text_with gs s)) zeros ≡ sheet_of s
  unfolding read_from
  read_with = ap (λ fs. taken_all fs (blank zeros)) lines_with ∙ (read_back s sane gs ∙ passed_all gs (sheet_of s) ok)

-- ---- the board

channels_most : (s : State) → T (sound s) → length s.channels ≤ 8
channels_most s t = leb→le (length s.channels) 8 (parts s t).most

board_at_lem : (gs : List (List ℕ)) (s : State) → get_or (text_with gs s) 8 0 ≡ hex_digit (length s.channels % 16)
unfolding text_with spelt line
board_at_lem gs s = refl

digit_same : (m n : ℕ) → m < 16 → n < 16 → hex_digit m ≡ hex_digit n → m ≡ n
digit_same m n h g e = ap value_of (sym (digit-hex_digit m h) ∙ (ap digit e ∙ digit-hex_digit n g))

-- ---- one spelling

module _ (s u : State) (s-sane : T (sound s)) (u-sane : T (sound u)) (gs hs : List (List ℕ)) (g-ok : Each Passed gs) (h-ok : Each Passed hs) (same : text_with gs s ≡ text_with hs u) where
  -- a text names its board
  pub one_board : length s.channels ≡ length u.channels
  one_board =
      let a = channels_most s s-sane in
      let b = channels_most u u-sane in
      let e = digit_same (length s.channels % 16) (length u.channels % 16) (omega arith) (omega arith) (sym (board_at_lem gs s) ∙ (ap (λ l. get_or l 8 0) same ∙ board_at_lem hs u)) in
      omega arith

  pub one_of_text : s ≡ u
  one_of_text =
      let f : sheet_of s ≡ sheet_of u = sym (read_with s s-sane gs g-ok) ∙ (ap (λ l. read_from (drop 10 l) zeros) same ∙ read_with u u-sane hs h-ok) in
      let x : (struct_of s).state ≡ (struct_of u).state = ap (λ (d : Sheet). d.state) f in
      let y : table_of s ≡ table_of u = ap (λ (d : Sheet). d.table) f in
      let k = one_board in
      one_state s u (parts s s-sane) (parts u u-sane) (λ i. record { width = k i; state = x i }) y

  pub one_numbers : gs ≡ hs
  one_numbers =
      let e : frames s ++ gs ≡ frames u ++ hs = sym (lines_with s s-sane gs g-ok) ∙ (ap (λ l. frames_in (drop 10 l)) same ∙ lines_with u u-sane hs h-ok) in
      let f : frames s ++ gs ≡ frames s ++ hs = e ∙ ap (λ v. frames v ++ hs) (sym one_of_text) in
      sym (drop_at (frames s) gs (length (frames s)) refl) ∙ (ap (drop (length (frames s))) f ∙ drop_at (frames s) hs (length (frames s)) refl)

text2_with : (s : State) → text2 s ≡ text_with (number_frames (length s.channels) s) s
unfolding text2 frames2 text_with
text2_with s = refl

numbers_ok : (s : State) → T (sound s) → Each Passed (number_frames (length s.channels) s)
numbers_ok s t = frames-passed s t (length s.channels) (channels_most s t)

-- two states of one text are equal, whatever their boards
pub one_spelling2 : {n m : ℕ} {s u : State} {t : List ℕ} → TextOf2 n s t → TextOf2 m u t → s ≡ u
one_spelling2 {s = s} {u = u} a b =
    one_of_text s u a.sane b.sane _ _ (numbers_ok s a.sane) (numbers_ok u b.sane) (sym (text2_with s) ∙ (sym a.saved ∙ (b.saved ∙ text2_with u)))

-- so a text has one board
pub one_width : {n m : ℕ} {s u : State} {t : List ℕ} → TextOf2 n s t → TextOf2 m u t → n ≡ m
one_width a b = sym a.width ∙ (ap (λ v. length v.channels) (one_spelling2 a b) ∙ b.width)

pub text2_read : (s : State) → T (sound s) → ((read_from (drop 10 (text2 s)) zeros).state ≡ (struct_of s).state) × ((read_from (drop 10 (text2 s)) zeros).table ≡ table_of s)
text2_read s t =
    let e : read_from (drop 10 (text2 s)) zeros ≡ sheet_of s = ap (λ l. read_from (drop 10 l) zeros) (text2_with s) ∙ read_with s t _ (numbers_ok s t) in
    (ap (λ (d : Sheet). d.state) e, ap (λ (d : Sheet). d.table) e)

-- "as when its numbers disagree with a count": the numbers of a display d that is no count over the state
pub numbers-counted : (s : State) → T (sound s) → (d : List ℕ) → Bytes d → {m : ℕ} {u : State} → TextOf2 m u (text_with (number_lines (length s.channels) d) s)
    → number_lines (length s.channels) d ≡ number_frames (length s.channels) s
numbers-counted s t d bs {m} {u} a =
    let ok = lines-passed d bs (length s.channels) (channels_most s t) in
    let e = a.saved ∙ text2_with u in
    one_numbers s u t a.sane _ _ ok (numbers_ok u a.sane) e
    ∙ ap (λ v. number_frames (length v.channels) v) (sym (one_of_text s u t a.sane _ _ ok (numbers_ok u a.sane) e))

-- ---- one form

fourth : (s : State) → get_or (text s) 3 0 ≡ 49
unfolding text spelt line hex_digit
fourth s = refl

fourth2 : (s : State) → get_or (text2 s) 3 0 ≡ 50
unfolding text2 spelt line hex_digit
fourth2 s = refl

-- "The new loader refuses D001 .. and the old loader D002": no text has both forms
pub one_form : {n m : ℕ} {s u : State} {t : List ℕ} → TextOf n s t → TextOf2 m u t → ⊥
one_form {s = s} {u = u} a b =
    let e : ◌≡◌ {A = ℕ} 49 50 = sym (fourth s) ∙ (ap (λ l. get_or l 3 0) (sym a.saved ∙ b.saved) ∙ fourth2 u) in
    omega arith

pub opens-second : {m : ℕ} {s : State} {t : List ℕ} → TextOf2 m s t → get_or t 3 0 ≡ 50
opens-second {s = s} a = ap (λ l. get_or l 3 0) a.saved ∙ fourth2 s

pub opens_first : {m : ℕ} {s : State} {t : List ℕ} → TextOf m s t → get_or t 3 0 ≡ 49
opens_first {s = s} a = ap (λ l. get_or l 3 0) a.saved ∙ fourth s
