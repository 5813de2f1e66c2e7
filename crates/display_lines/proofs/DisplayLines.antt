-- The lines of a display: how long they are, how they grow by a struct, that they are those that crate `display` says, and that they fit
-- the memory that is lent. Assumes nothing.
use Prim.Native.Nat.{ℕ, suc, ◌+◌, ◌*◌, ◌≤◌, ◌<◌}
use mathlib.Core.Path.{◌≡◌, refl, ap, sym, ◌∙◌}
use mathlib.Core.Bool.{Bool, true, false}
use mathlib.Core.List.{List, [], ◌∷◌, ◌++◌, map, append_assoc, append-nil}
use native.Mathlib.Omega.{arith}
use native.Mathlib.Numerals.{add-one}
use lib.ListN.{length, take, drop, get_or, set, length-append, length-drop, length-map}
use lib.Seq.{take-suc, length-take-le}
use mir.Val.{bool_byte}
use Rattle.std.specs.Prelude.{if◌then◌else◌}
use Rattle.spelling.specs.memory.Splice.{splice}
use Rattle.spelling.proofs.memory.Splice.{splice_then}
use Rattle.spelling.specs.machine.State.{Channel, Request, State}
use Rattle.spelling.specs.machine.Log.{hex_digit, line}
use Rattle.spelling.specs.Spelling.{digits}
use Rattle.hex_lines.proofs.HexLines.{length_digits, digits_append, length_line, line_ends}
use Rattle.display.specs.Display.{record_of, load_line, request_lines, display_lines}
use Rattle.record_structs.specs.declared.Waiter.{Waiter}
use Rattle.record_structs.specs.RecordStructs.{waiter_of, waiters_in}
use Rattle.display_lines.specs.DisplayLines.{load_of, four_of, record_lines, display_of, Shows}

-- ---- a line, put in parts

-- a mark's digits, then those of a record, then LF
pub record_put : (out : List ℕ) (at m : ℕ) (bs : List ℕ) → length bs ≡ 4 → at + 11 ≤ length out
    → set (splice (splice out at (digits (m ∷ []))) (at + 2) (digits bs)) (at + 10) 10 ≡ splice out at (line (m ∷ bs))
record_put out at m bs k h =
    rw (splice_then out at (digits (m ∷ [])) (digits bs) (at + 2) (omega arith) (omega arith)) (line_ends out at (m ∷ bs) (at + 10) (omega arith) (omega arith))

-- the digits of E0, of the numbers, of the looks, then LF
pub load_put : (out : List ℕ) (w : ℕ) (d ls : List ℕ) → w ≤ 8 → length d ≡ 18 → 39 ≤ length out → ls ≡ drop 16 d
    → set (splice (splice (splice out 0 (digits (0xE0 ∷ []))) 2 (digits (take (2 * w) d))) (2 + 2 * (2 * w)) (digits ls)) (2 + 2 * (2 * w) + 4) 10 ≡ splice out 0 (load_of w d)
unfolding load_of
load_put out w d ls h k g e =
    let ns : List ℕ = 0xE0 ∷ take (2 * w) d in
    let a = length-take-le (2 * w) d (omega arith) in
    let b = length_digits ns in
    let c = ap length e ∙ length-drop 16 d in
    let n = length-append (take (2 * w) d) ls in
    let x = splice_then out 0 (digits (0xE0 ∷ [])) (digits (take (2 * w) d)) 2 refl (omega arith) in
    let y = splice_then out 0 (digits ns) (digits ls) (2 + 2 * (2 * w)) (omega arith) (omega arith) ∙ ap (splice out 0) (sym (digits_append ns ls)) in
    rw (x, y) (line_ends out 0 (ns ++ ls) (2 + 2 * (2 * w) + 4) (omega arith) (omega arith)) ∙ ap (λ l. splice out 0 (line (ns ++ l))) e

-- E0 0001 0002 0304 0506 0820: four channels, then 2,080 looks
load_shown : load_of 4 (0 ∷ 1 ∷ 0 ∷ 2 ∷ 3 ∷ 4 ∷ 5 ∷ 6 ∷ 7 ∷ 7 ∷ 7 ∷ 7 ∷ 7 ∷ 7 ∷ 7 ∷ 7 ∷ 8 ∷ 0x20 ∷ [])
    ≡ 69 ∷ 48 ∷ 48 ∷ 48 ∷ 48 ∷ 49 ∷ 48 ∷ 48 ∷ 48 ∷ 50 ∷ 48 ∷ 51 ∷ 48 ∷ 52 ∷ 48 ∷ 53 ∷ 48 ∷ 54 ∷ 48 ∷ 56 ∷ 50 ∷ 48 ∷ 10 ∷ []
unfolding load_of line hex_digit
load_shown = refl

-- ---- structs one behind the other

-- held or not, as the standard library makes a byte of a truth value
pub byte_held : (b : Bool) → bool_byte b ≡ (if b then 1 else 0)
byte_held true = refl
byte_held false = refl

pub length-record_lines : (ws : List Waiter) → length (record_lines ws) ≡ length ws * 11
unfolding record_lines
length-record_lines [] = refl
length-record_lines (w ∷ ws) =
    let e = length-record_lines ws in let f = length_line (0xE1 ∷ four_of w) in rw length-append (omega arith)

record_lines-append : (vs ws : List Waiter) → record_lines (vs ++ ws) ≡ record_lines vs ++ record_lines ws
unfolding record_lines
record_lines-append [] ws = refl
record_lines-append (v ∷ vs) ws =
    rw (record_lines-append vs ws) (sym (append_assoc (line (0xE1 ∷ four_of v)) (record_lines vs) (record_lines ws)))

-- one struct more
record_lines_more : (ws : List Waiter) (i : ℕ) (d : Waiter) → i < length ws
    → record_lines (take (suc i) ws) ≡ record_lines (take i ws) ++ line (0xE1 ∷ four_of (get_or ws i d))
unfolding record_lines
record_lines_more ws i d h =
    ap record_lines (take-suc ws i d h) ∙ record_lines-append (take i ws) (get_or ws i d ∷ [])
    ∙ ap (λ l. record_lines (take i ws) ++ l) (append-nil (line (0xE1 ∷ four_of (get_or ws i d))))

pub record_turn : (out : List ℕ) (at : ℕ) (ws : List Waiter) (i k : ℕ) (d : Waiter) → i < length ws → at + i * 11 ≤ length out
    → k ≡ at + i * 11 → splice (splice out at (record_lines (take i ws))) k (line (0xE1 ∷ four_of (get_or ws i d)))
    ≡ splice out at (record_lines (take (i + 1) ws))
record_turn out at ws i k d h g p =
    let a = length-take-le i ws (omega arith) in
    let e = length-record_lines (take i ws) in
    rw (add-one i, record_lines_more ws i d h)
    (splice_then out at (record_lines (take i ws)) (line (0xE1 ∷ four_of (get_or ws i d))) k (omega arith) (omega arith))

-- ---- both

pub length_load_of : (w : ℕ) (d : List ℕ) → w ≤ 8 → length d ≡ 18 → length (load_of w d) ≡ 7 + 4 * w
unfolding load_of
length_load_of w d h k =
    let a = length_line (0xE0 ∷ take (2 * w) d ++ drop 16 d) in
    let b = length-take-le (2 * w) d (omega arith) in
    let c = length-drop 16 d in
    let e = length-append (take (2 * w) d) (drop 16 d) in
    omega arith

pub spelt : {w : ℕ} {d : List ℕ} (ws : List Waiter) {n : ℕ} {out out₁ out₂ : List ℕ} → w ≤ 8 → n ≤ 64 → 18 ≡ length d → 64 ≡ length ws
    → 743 ≡ length out → out₁ ≡ splice out 0 (load_of w d) → out₂ ≡ splice out₁ (7 + 4 * w) (record_lines (take n ws))
    → Shows w d (take n ws) out (7 + 4 * w + n * 11) out₂
spelt {w} {d} ws {n} {out} h k e f g p q =
    let a = length_load_of w d h (sym e) in
    let m = length-take-le n ws (omega arith) in
    let b = length-record_lines (take n ws) in
    let c : 7 + 4 * w + n * 11 ≡ length (display_of w d (take n ws)) = rw length-append (omega arith) in
    record {
      count = c;
      bytes = q ∙ ap (λ l. splice l (7 + 4 * w) (record_lines (take n ws))) p
          ∙ splice_then out 0 (load_of w d) (record_lines (take n ws)) (7 + 4 * w) (omega arith) (omega arith);
      few = omega arith;
    }

-- ---- they are the lines of a display

-- E1 and a record for each
pub record_lines_lem : (cs : List Channel) (rs : List Request) → record_lines (map (waiter_of cs) rs) ≡ request_lines cs rs
unfolding record_lines request_lines record_of
record_lines_lem cs [] = refl
record_lines_lem cs (r ∷ rs) = ap (λ l. line (0xE1 ∷ record_of cs r) ++ l) (record_lines_lem cs rs)

pub display-lines : (s : State) (d : List ℕ) → display_of (length s.channels) d (waiters_in s) ≡ display_lines s d
unfolding display_lines load_line load_of
display-lines s d = ap (λ l. load_of (length s.channels) d ++ l) (record_lines_lem s.channels s.waiting)

-- and fit the memory that is lent: 64 wait at most, on eight channels at most
pub display_few : (s : State) (d : List ℕ) → length s.channels ≤ 8 → length s.waiting ≤ 64 → length d ≡ 18
    → length (display_lines s d) ≤ 743
display_few s d h k e =
    let a = length_load_of (length s.channels) d h e in
    let c = length-map s.waiting (waiter_of s.channels) in
    let b = length-record_lines (waiters_in s) in
    let n = length-append (load_of (length s.channels) d) (record_lines (waiters_in s)) in
    rw (sym (display-lines s d)) (omega arith)

-- no second showing fits
pub one_showing : {w : ℕ} {d : List ℕ} {ws : List Waiter} {out : List ℕ} {r r₂ : ℕ} {o p : List ℕ} → Shows w d ws out r o
    → Shows w d ws out r₂ p → (r ≡ r₂) × (o ≡ p)
one_showing x y = (x.count ∙ sym y.count, x.bytes ∙ sym y.bytes)
