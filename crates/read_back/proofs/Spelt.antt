-- The lines of a text that is spelt are its frames, where each has 1 to 23 bytes. Assumes nothing.
use Prim.Native.Nat.{ℕ, ◌+◌, ◌-◌, ◌*◌, ◌/◌, ◌%◌, ◌≤◌, ◌<◌}
use mathlib.Core.Path.{◌≡◌, refl, ap, ◌∙◌}
use mathlib.Core.Bool.{true, false}
use mathlib.Core.List.{List, [], ◌∷◌, ◌++◌, append_assoc, append-nil}
use mathlib.Core.Option.{some}
use native.Mathlib.Omega.{arith}
use native.Mathlib.Decide.{dec_lt}
use borrow.Author.Tests.{le-leb, lt-leb, lt-ltb, le-ltb, ne_eqb}
use lib.Dec.{leb}
use lib.ListN.{length}
use Rattle.widening.specs.machine.Lists.{all}
use Rattle.widening.specs.machine.Log.{LF, lines, line, digit, hex_digit}
use Rattle.board.specs.store.Store.{Each}
use Rattle.spelling.specs.Spelling.{digits}
use Rattle.digits.specs.Digits.{is_digit, spells, pairs}
use Rattle.reading.specs.gathering.Lumps.{ended, front, used}
use Rattle.reading.proofs.gathering.Lumps.{lines_none, lines_step}
use Rattle.reading.specs.hex_lines.HexLines.{octets_of}
use Rattle.reading.proofs.hex_lines.HexLines.{length_digits, line_digits}
use Rattle.reading.specs.Reading.{frames_in}
use Rattle.saved.specs.Saved.{spelt}
use Rattle.read_back.specs.ReadBack.{Bytes}

-- a frame as a line can carry it
pub record Frame (f : List ℕ) : Type 0 where
  pub bytes : Bytes f
  pub some : 1 ≤ length f
  pub most : length f ≤ 23

-- ---- a digit

module _ (n : ℕ) (h : n < 16) where
  pub digit-hex_digit : digit (hex_digit n) ≡ some n
  unfolding digit hex_digit
  digit-hex_digit = elim (dec_lt n 10) [
    | yes k ↦
        let e : 48 + n - 48 ≡ n = omega arith in
        rw (lt-ltb n 10 k, le-leb 48 (48 + n) (omega arith), le-leb (48 + n) 57 (omega arith), e)
    | no k ↦
        let e : 55 + n - 55 ≡ n = omega arith in
        rw (le-ltb n 10 (omega arith), le-leb 48 (55 + n) (omega arith), lt-leb (55 + n) 57 (omega arith), le-leb 65 (55 + n) (omega arith), le-leb (55 + n) 70 (omega arith), e)
  ]

  pub no_LF : hex_digit n ≡ LF → ⊥
  unfolding hex_digit
  no_LF e = elim (dec_lt n 10) [
    | yes k ↦ let f : 48 + n ≡ 10 = rw (lt-ltb n 10 k) at e in omega arith
    | no k ↦ let f : 55 + n ≡ 10 = rw (le-ltb n 10 (omega arith)) at e in omega arith
  ]

-- ---- the digits of bytes

pub pairs-digits : (bs : List ℕ) → Bytes bs → pairs (digits bs) ≡ bs
unfolding pairs
pairs-digits [] h = refl
pairs-digits (b ∷ bs) h =
    let lo : b < 256 = h.0 in
    let e : 16 * (b / 16) + b % 16 ≡ b = omega arith in
    rw (digit-hex_digit (b / 16) (omega arith), digit-hex_digit (b % 16) (omega arith), e, pairs-digits bs h.1)

all_digits : (bs : List ℕ) → Bytes bs → all is_digit (digits bs) ≡ true
unfolding all
all_digits [] h = refl
all_digits (b ∷ bs) h =
    let lo : b < 256 = h.0 in
    rw (digit-hex_digit (b / 16) (omega arith), digit-hex_digit (b % 16) (omega arith), all_digits bs h.1)

pub spells-digits : (bs : List ℕ) → Bytes bs → spells (digits bs) ≡ true
unfolding spells
spells-digits bs h =
    let n = length_digits bs in
    let e : length (digits bs) % 2 ≡ 0 = omega arith in
    rw (all_digits bs h, e)

pub octets_digits : {f : List ℕ} → Frame f → octets_of (digits f) ≡ f
unfolding octets_of
octets_digits {f} w =
    let n = length_digits f in
    let m = w.most in
    let e : leb (length (digits f)) 46 ≡ true = le-leb (length (digits f)) 46 (omega arith) in
    rw (e, spells-digits f w.bytes) (pairs-digits f w.bytes)

-- ---- lines

digits_open : (bs : List ℕ) → Bytes bs → ended (digits bs) ≡ false
unfolding ended
digits_open [] h = refl
digits_open (b ∷ bs) h =
    let lo : b < 256 = h.0 in
    rw (ne_eqb (hex_digit (b / 16)) LF (no_LF (b / 16) (omega arith)), ne_eqb (hex_digit (b % 16)) LF (no_LF (b % 16) (omega arith)), digits_open bs h.1)

pub lines_line : (f t : List ℕ) → Bytes f → lines (line f ++ t) ≡ digits f ∷ lines t
unfolding ended front used
lines_line f t h =
    let e : line f ++ t ≡ digits f ++ ((LF ∷ []) ++ t) = ap (λ (l : List ℕ). l ++ t) (line_digits f) ∙ append_assoc (digits f) (LF ∷ []) t in
    rw e (lines_step (digits f) (LF ∷ []) t (digits_open f h) refl ∙ ap (λ (l : List ℕ). l ∷ lines t) (append-nil (digits f)))

-- the frames of a text whose first lines are spelt, whatever follows
pub lines-spelt_on : (fs : List (List ℕ)) (t : List ℕ) → Each Frame fs → frames_in (spelt fs ++ t) ≡ fs ++ frames_in t
unfolding frames_in spelt
lines-spelt_on [] t h = refl
lines-spelt_on (f ∷ fs) t h =
    rw (append_assoc (line f) (spelt fs) t, lines_line f (spelt fs ++ t) h.0.bytes, octets_digits h.0, lines-spelt_on fs t h.1)

pub lines-spelt : (fs : List (List ℕ)) → Each Frame fs → frames_in (spelt fs) ≡ fs
unfolding frames_in
lines-spelt fs h = rw (← (append-nil (spelt fs))) (lines-spelt_on fs [] h ∙ rw lines_none (append-nil fs))
