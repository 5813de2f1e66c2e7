-- A turn of the loop: the next line of the text, the bytes that it spells, and the sheet after them. Assumes nothing.
use Prim.Native.Nat.{ℕ, ◌+◌, ◌-◌, ◌≤◌, ◌<◌, min}
use mathlib.Core.Path.{◌≡◌, ap, sym, ◌∙◌}
use mathlib.Core.Bool.{◌&&◌}
use mathlib.Core.List.{List, [], ◌∷◌}
use native.Mathlib.Omega.{arith}
use native.Mathlib.Decide.{dec_lt}
use lib.Dec.{leb, leb→le}
use lib.ListN.{length, take, drop, replicate, drop_of_length-le, length-drop}
use lib.Seq.{take_at, drop-drop}
use Rattle.memory.specs.Splice.{splice}
use Rattle.digits.specs.machine.Log.{lines}
use Rattle.digits.proofs.machine.Tests.{if_elim, by_test, test_true, test_false, and_left}
use Rattle.digits.specs.Digits.{spells}
use Rattle.digits.proofs.Laws.{length_pairs}
use Rattle.gathering.specs.Lumps.{front, ended}
use Rattle.gathering.proofs.Lumps.{front_open, front_within, front_used, front_take, lines_none, lines-ended, lines_last}
use Rattle.hex_lines.specs.HexLines.{octets_of}
use Rattle.digits.specs.machine.State.{frees, fresh_on}
use Rattle.saved_frames.specs.store.declared.State.{State}
use Rattle.saved_frames.specs.store.Store.{struct_of}
use Rattle.saved_frames.specs.sheet.declared.Draft.{Draft}
use Rattle.saved_frames.specs.sheet.Sheet.{Sheet, sheet, taken, taken_all, Takes}
use Rattle.saved_frames.proofs.sheet.Taking.{rest_is_drop, taken_as_many}
use Rattle.reading.specs.Reading.{frames_in, read_from}

-- ---- a line

pub lines_turn : (bs : List ℕ) → 0 < length bs → lines bs ≡ front bs ∷ lines (drop (length (front bs) + 1) bs)
lines_turn bs h =
    by_test (ended bs)
    (λ t. let e = test_true (ended bs) t in lines-ended bs e ∙ rw (front_used bs e))
    (λ t. let e = test_false (ended bs) t in
    let f = front_open bs e in
    let n : length (front bs) ≡ length bs = ap length f in
    let m : length bs ≤ length (front bs) + 1 = omega arith in
    let d : drop (length (front bs) + 1) bs ≡ [] = drop_of_length-le bs m in
    lines_last bs e (λ z. let y = ap length z in omega arith) ∙ rw (d, f, lines_none))

pub octets_most : (l : List ℕ) → length (octets_of l) ≤ 23
unfolding octets_of
octets_most l =
    if_elim (λ (x : List ℕ). length x ≤ 23) (leb (length l) 46 && spells l)
    (λ t. let h = leb→le (length l) 46 (and_left (leb (length l) 46) (spells l) t) in let e = length_pairs l in omega arith) (λ _. omega arith)

-- the first of a list are what was put there
pub front_put : (l vs : List ℕ) (n : ℕ) → n ≡ length vs → take n (splice l 0 vs) ≡ vs
unfolding splice
front_put l vs n e = take_at vs _ n (sym e)

-- ---- the sheet

-- a line ends within the text
pub end_within : (text : List ℕ) (at n : ℕ) → at < length text → n ≡ length (front (take (length text - at) (drop at text))) → at + n ≤ length text
end_within text at n h g =
    let a : n ≡ length (front (drop at text)) = g ∙ ap (λ (l : List ℕ). length (front l)) (rest_is_drop at text) in
    let b = front_within (drop at text) in
    let d = length-drop at text in
    omega arith

-- the code's line: from `at` as far as the bytes from there on have no LF
pub line_is_front : (text : List ℕ) (at n e : ℕ) → n ≡ length (front (take (length text - at) (drop at text))) → e ≡ at + n → take (e - at) (drop at text) ≡ front (drop at text)
line_is_front text at n e h g =
    let a : n ≡ length (front (drop at text)) = h ∙ ap (λ (l : List ℕ). length (front l)) (rest_is_drop at text) in
    let b : e - at ≡ length (front (drop at text)) = omega arith in
    rw b (front_take (drop at text))

-- behind the end nothing is left
drop_min : (l : List ℕ) (k j : ℕ) → j ≡ min k (length l) → drop j l ≡ drop k l
drop_min l k j e = elim (dec_lt (length l) k) [
  | yes h ↦
      let a : length l ≤ j = omega arith in
      let b : length l ≤ k = omega arith in
      drop_of_length-le l a ∙ sym (drop_of_length-le l b)
  | no h ↦ ap (λ (i : ℕ). drop i l) (let z : j ≡ k = omega arith in z)
]

pub sheet_turn : (text : List ℕ) (at n next : ℕ) (x : Sheet) → at < length text → n ≡ length (front (take (length text - at) (drop at text)))
    → next ≡ min (at + n + 1) (length text) → taken_all (frames_in (drop at text)) x ≡ taken_all (frames_in (drop next text)) (taken (octets_of (front (drop at text))) x)
unfolding frames_in taken_all
sheet_turn text at n next x h g m =
    let d = length-drop at text in
    let a : n ≡ length (front (drop at text)) = g ∙ ap (λ (l : List ℕ). length (front l)) (rest_is_drop at text) in
    let b = lines_turn (drop at text) (omega arith) in
    let e : at + n + 1 ≡ at + (length (front (drop at text)) + 1) = omega arith in
    let w : drop (length (front (drop at text)) + 1) (drop at text) ≡ drop next text =
    drop-drop (length (front (drop at text)) + 1) at text ∙ (ap (λ (k : ℕ). drop k text) (sym e) ∙ sym (drop_min text (at + n + 1) next m)) in
    rw (b, w)

pub after : (f : List ℕ) (d r : Draft) (tb ks tb' ks' : List ℕ) → Takes (taken f (sheet d.state d.seen tb ks)) r tb' ks'
    → sheet r.state r.seen tb' ks' ≡ taken f (sheet d.state d.seen tb ks)
after f d r tb ks tb' ks' t = λ i. record { state = t.state i; seen = t.seen i; table = t.table i; kept = t.kept i }

pub still_eight : (f : List ℕ) (d r : Draft) (tb ks tb' ks' : List ℕ) → Takes (taken f (sheet d.state d.seen tb ks)) r tb' ks' → length d.state.channels ≡ 8
    → length r.state.channels ≡ 8
still_eight f d r tb ks tb' ks' t h = ap (λ (s : State). length s.channels) t.state ∙ (taken_as_many (sheet d.state d.seen tb ks) f ∙ h)

-- ---- before the first line

pub fresh-eight : (s : State) → s ≡ struct_of (fresh_on 8) → length s.channels ≡ 8
unfolding frees
fresh-eight s e = rw e

pub from_fresh : (s : State) (t tb : List ℕ) → s ≡ struct_of (fresh_on 8) → taken_all (frames_in t) (sheet s 0 tb (replicate 48 0)) ≡ read_from t tb
unfolding read_from
from_fresh s t tb e = ap (λ (x : State). taken_all (frames_in t) (sheet x 0 tb (replicate 48 0))) e

-- behind the last one
pub at_end : (text : List ℕ) (at : ℕ) (x y : Sheet) → length text ≤ at → taken_all (frames_in (drop at text)) x ≡ y → x ≡ y
unfolding frames_in taken_all
at_end text at x y h e = rw (drop_of_length-le text h, lines_none) at e
