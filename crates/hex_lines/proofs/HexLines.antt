-- Lines of hexadecimal: how long they are, how they are put in parts, and that a line that is read spells what was written.
-- Assumes nothing.
use Prim.Native.Nat.{ℕ, suc, ◌+◌, ◌-◌, ◌*◌, ◌/◌, ◌%◌, ◌≤◌, ◌<◌}
use mathlib.Core.Path.{◌≡◌, refl, ap, sym, ◌∙◌}
use mathlib.Core.Bool.{Bool, true, false, ◌&&◌}
use mathlib.Core.List.{List, [], ◌∷◌, ◌++◌}
use native.Mathlib.Omega.{arith}
use native.Mathlib.Nat.{zero-add}
use native.Mathlib.Numerals.{add-one}
use borrow.Author.Tests.{le-leb, lt-leb}
use lib.Dec.{leb}
use lib.ListN.{length, take, drop, get_or, set, length-append}
use lib.Seq.{take-suc, length-take-le}
use Rattle.spelling.specs.memory.Splice.{splice}
use Rattle.spelling.proofs.memory.Splice.{splice_then, splice_snoc}
use Rattle.std.specs.Prelude.{if◌then◌else◌}
use Rattle.spelling.specs.machine.Log.{hex_digit, line}
use Rattle.std.proofs.lemmas.List.{ext_get_or}
use Rattle.digits.specs.Digits.{spells, pairs}
use Rattle.digits.proofs.Laws.{length_pairs}
use Rattle.hex_lines.specs.HexLines.{octets_of}
use Rattle.spelling.specs.Spelling.{digits}

-- ---- digits

pub length_digits : (bs : List ℕ) → length (digits bs) ≡ 2 * length bs
length_digits [] = refl
length_digits (b ∷ bs) = let e = length_digits bs in omega arith

pub digits_append : (bs cs : List ℕ) → digits (bs ++ cs) ≡ digits bs ++ digits cs
digits_append [] cs = refl
digits_append (b ∷ bs) cs = ap (λ l. hex_digit (b / 16) ∷ hex_digit (b % 16) ∷ l) (digits_append bs cs)

pub line_digits : (bs : List ℕ) → line bs ≡ digits bs ++ 10 ∷ []
unfolding line
line_digits [] = refl
line_digits (b ∷ bs) = ap (λ l. hex_digit (b / 16) ∷ hex_digit (b % 16) ∷ l) (line_digits bs)

pub length_line : (bs : List ℕ) → length (line bs) ≡ 2 * length bs + 1
length_line bs = let e = length_digits bs in rw (line_digits bs, length-append) (omega arith)

pub digits_turn : (out : List ℕ) (at : ℕ) (bs : List ℕ) (i d : ℕ) → i < length bs → at + 2 * length bs ≤ length out
    → splice (splice out at (digits (take i bs))) (at + 2 * i) (digits (get_or bs i d ∷ [])) ≡ splice out at (digits (take (i + 1) bs))
digits_turn out at bs i d h g =
    let k = length-take-le i bs (omega arith) in
    let e = length_digits (take i bs) in
    let m : digits (take (suc i) bs) ≡ digits (take i bs) ++ digits (get_or bs i d ∷ []) = ap digits (take-suc bs i d h) ∙ digits_append (take i bs) (get_or bs i d ∷ []) in
    rw (add-one i, m) (splice_then out at (digits (take i bs)) (digits (get_or bs i d ∷ [])) (at + 2 * i) (omega arith) (omega arith))

-- ---- a line

-- LF behind the digits
pub line_ends : (out : List ℕ) (at : ℕ) (bs : List ℕ) (q : ℕ) → q ≡ at + 2 * length bs → q < length out → set (splice out at (digits bs)) q 10 ≡ splice out at (line bs)
line_ends out at bs q e h =
    let k = length_digits bs in
    let f : q ≡ at + length (digits bs) = omega arith in
    rw f (splice_snoc out at (digits bs) 10 (omega arith)) ∙ ap (splice out at) (sym (line_digits bs))

-- the digits of some bytes, of some more, then LF
pub line_put : (out : List ℕ) (at : ℕ) (hs ts : List ℕ) (k e : ℕ) → k ≡ at + 2 * length hs → e ≡ k + 2 * length ts → e < length out
    → set (splice (splice out at (digits hs)) k (digits ts)) e 10 ≡ splice out at (line (hs ++ ts))
line_put out at hs ts k e p q h =
    let a = length_digits hs in
    let n = length-append hs ts in
    let x = splice_then out at (digits hs) (digits ts) k (omega arith) (omega arith) in
    rw (x, ← digits_append hs ts) (line_ends out at (hs ++ ts) e (omega arith) h)

-- ---- the bytes of a line

pub octets_long : (l : List ℕ) → 46 < length l → octets_of l ≡ []
unfolding octets_of
octets_long l h = rw (lt-leb (length l) 46 h)

pub octets_unspelt : (l : List ℕ) → spells l ≡ false → octets_of l ≡ []
unfolding octets_of
octets_unspelt l h = rw h (go (leb (length l) 46))
  where
    go : (b : Bool) → ◌≡◌ {A = List ℕ} (if b && false then pairs l else []) []
    go true = refl
    go false = refl

pub octets_are : (l : List ℕ) → length l ≤ 46 → spells l ≡ true → octets_of l ≡ pairs l
unfolding octets_of
octets_are l h g = rw (le-leb (length l) 46 h, g)

-- bytes os that are, one by one, those that a line spells, in front of f
pub octets_written : (l f os : List ℕ) (i : ℕ) → length l ≤ 46 → spells l ≡ true → length f ≡ 23 → length os ≡ length (take (length l / 2) f)
    → length os ≤ i → ((k : ℕ) → k < i → get_or os k 0 ≡ get_or (pairs l) k 0)
    → (length l / 2 ≡ length (octets_of l)) × (os ++ drop (length l / 2) f ≡ splice f 0 (octets_of l))
unfolding splice
octets_written l f os i h g m e u same =
    let n = length_pairs l in
    let t = length-take-le (length l / 2) f (omega arith) in
    let x : os ≡ pairs l = ext_get_or 0 os (pairs l) (omega arith) (λ k b. same k (omega arith)) in
    rw (octets_are l h g, n, x, zero-add) (refl, refl)
