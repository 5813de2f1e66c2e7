-- One line at most, put on the page, is what `taken` says; and what room it needs. Assumes nothing.
use Prim.Native.Nat.{ℕ, ◌+◌, ◌-◌, ◌≤◌}
use mathlib.Core.Path.{◌≡◌, refl, ap, sym, ◌∙◌}
use mathlib.Core.List.{List}
use native.Mathlib.Omega.{arith}
use borrow.Author.Tests.{leb-true, leb-false, le-leb, lt-leb}
use lib.Dec.{leb}
use lib.ListN.{length}
use Rattle.machine.proofs.Tests.{by_test, test_true, test_false}
use Rattle.memory.specs.Splice.{splice}
use Rattle.image.specs.board.declared.Board.{Board}
use Rattle.image.specs.board.Board.{state_in, Held}
use Rattle.putting.specs.gathering.Lumps.{ended, used, kept}
use Rattle.putting.specs.taking.declared.Show.{Show}
use Rattle.putting.specs.taking.Desk.{Taken, hidden, desk_of, Leaves, Takes}
use Rattle.putting.proofs.taking.Kept.{held_fine, taken_fine, leaves_held}
use Rattle.putting.proofs.taking.Laws.{taken_open, taken-ended}
use Rattle.putting.specs.Putting.{Puts}
use Rattle.putting.proofs.Laws.{nothing_put, answered_few, answered-size, answer-put}
use Rattle.one_line.specs.OneLine.{Turns}

-- ---- the room

pub room_behind : (need at len : ℕ) → at ≤ len → leb need (len - at) ≡ leb (at + need) len
room_behind need at len h =
    by_test (leb (at + need) len)
    (λ y. let e = test_true (leb (at + need) len) y in let k = leb-true (at + need) len e in le-leb need (len - at) (omega arith) ∙ sym e)
    (λ y. let e = test_false (leb (at + need) len) y in let k = leb-false (at + need) len e in lt-leb need (len - at) (omega arith) ∙ sym e)

-- ---- one turn

module _ {s : Board} {tb dp l out : List ℕ} {n : ℕ} {bs : List ℕ} {t : Taken} {l' tb' dp' out' : List ℕ} (w : Takes s tb dp l n bs out t l' tb' dp' out') where
  pub take_few : Held s tb → t.at ≤ 973
  take_few h =
      by_test (ended bs)
      (λ y. let e = test_true (ended bs) y in answered_few (state_in s tb) dp (splice l n (kept n bs)) out (n + length (kept n bs)) (0 + used bs) (rw (taken-ended hidden (desk_of s tb dp l n out 0) bs e) at w.leaves) h.sane)
      (λ y. let e = test_false (ended bs) y in let v = rw (taken_open hidden (desk_of s tb dp l n out 0) bs e) at w.leaves in let z : t.at ≡ 0 = v.at in omega arith)

  pub take-size : Held s tb → 973 ≡ length out → 973 ≡ length out'
  take-size h z =
      by_test (ended bs)
      (λ y. let e = test_true (ended bs) y in answered-size (state_in s tb) dp (splice l n (kept n bs)) out (n + length (kept n bs)) (0 + used bs) (rw (taken-ended hidden (desk_of s tb dp l n out 0) bs e) at w.leaves) h.sane z)
      (λ y. let e = test_false (ended bs) y in let v = rw (taken_open hidden (desk_of s tb dp l n out 0) bs e) at w.leaves in z ∙ ap length (sym v.page))

  pub take_held : Held s tb → Held t.state tb'
  take_held h = leaves_held (taken_fine hidden (desk_of s tb dp l n out 0) bs (held_fine h)) w.leaves

  pub take_put : {show : Show} {page page' : List ℕ} {at : ℕ} {r : Taken} → Held s tb → Puts show t tb' dp' out' page at r page'
      → Turns show s tb dp l n bs page at r l' tb' dp' page'
  take_put {show} {page} {page'} {at} h p =
      record {
        leaves = by_test (ended bs)
            (λ y. let e = test_true (ended bs) y in
            rw (taken-ended show (desk_of s tb dp l n page at) bs e) (answer-put (state_in s tb) dp (splice l n (kept n bs)) out (n + length (kept n bs)) (0 + used bs) (rw (taken-ended hidden (desk_of s tb dp l n out 0) bs e) at w.leaves) (held_fine h) p))
            (λ y. let e = test_false (ended bs) y in
            rw (taken_open show (desk_of s tb dp l n page at) bs e) (nothing_put (state_in s tb) dp (splice l n (kept n bs)) out (n + length (kept n bs)) (0 + used bs) (rw (taken_open hidden (desk_of s tb dp l n out 0) bs e) at w.leaves) p));
      }

-- ---- no turn

-- where nothing is done, a desk leaves itself
module _ {s : Board} {tb : List ℕ} (h : Held s tb) (dp l : List ℕ) (n : ℕ) (page : List ℕ) (at u : ℕ) where
  pub stays : Leaves (record { state = s; line = n; used = u; at = at }) l tb dp page
      (record { state = state_in s tb; display = dp; line = l; n = n; page = page; at = at; used = u })
  stays = record { struct = h.struct; table = h.table; display = refl; line = refl; started = refl; page = refl; at = refl; used = refl }
