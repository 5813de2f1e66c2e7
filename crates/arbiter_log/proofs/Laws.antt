-- What the program begins with is ready, and a call of `fill` or `finish` leaves it so. Assumes nothing.
use Prim.Native.Nat.{ℕ, ◌+◌, ◌≤◌, ◌<◌}
use mathlib.Core.Path.{◌≡◌, subst}
use mathlib.Core.Bool.{Bool, true, false}
use mathlib.Core.List.{List}
use native.Mathlib.Nat.{zero-add}
use native.Mathlib.Omega.{arith}
use lib.ListN.{length}
use Rattle.std.specs.Prelude.{Some, if◌then◌else◌}
use Rattle.beginning.specs.taking.declared.Show.{Show}
use Rattle.beginning.specs.taking.Desk.{Taken, desk_of, needed, filled, finished}
use Rattle.image.specs.board.declared.Board.{Board}
use Rattle.image.specs.board.Board.{Held}
use Rattle.image.specs.Image.{state_of, Whole, Saved}
use Rattle.image.proofs.Round.{saved-state}
use Rattle.beginning.specs.paging.Paging.{Fills}
use Rattle.beginning.specs.finishing.Finishing.{Finishes}
use Rattle.beginning.proofs.whole_log.Progress.{Went, desk_good, fills-went, fills_on, finished-went, left_held, left_shown, left_within, left_inside, left_size, left_used}
use Rattle.beginning.specs.Beginning.{Begins}
use Rattle.arbiter_log.specs.Desk.{Ready}

-- the room that a page of the program has is enough, whatever is shown
enough : (show : Show) {k : ℕ} → 1836 ≤ k → 0 + needed show ≤ k
enough show {k} h = go show.channels show.display
  where
    go : (c d : Bool) → 0 + (973 + (if c then 120 else 0) + (if d then 743 else 0)) ≤ k
    go true true = omega arith
    go true false = omega arith
    go false true = omega arith
    go false false = omega arith

-- a call of `fill` on an empty page
module _ {show : Show} {n : ℕ} {st tb dp l page bs : List ℕ} {t : Taken} {l' tb' dp' page' : List ℕ}
    (r : Ready n st tb dp page)
    (w : Fills show (state_of st) tb dp l n bs page 0 t l' tb' dp' page') where
  went : Went (desk_of (state_of st) tb dp l n page 0) (length bs) (filled show (desk_of (state_of st) tb dp l n page 0) bs)
  went = fills-went w r.held r.shown r.within (omega arith)

  pub fill_ready : (st' : List ℕ) → Whole st' → t.state ≡ state_of st'
      → Ready t.line st' tb' dp' page'
  fill_ready st' f q =
      let e = left_size went w.leaves in
      let m = r.room in
      record {
        whole = f;
        held = subst (λ (b : Board). Held b tb') q (left_held went w.leaves);
        shown = left_shown went
            w.leaves;
        within = left_within went w.leaves;
        room = omega arith;
      }

  pub fill_inside : t.at ≤ length page'
  fill_inside = left_inside went w.leaves

  pub fill_most : t.used ≤ length bs
  fill_most = let a = left_used went w.leaves in omega arith

  pub fill_some : 0 < length bs → 0 < t.used
  fill_some h = fills_on w r.held r.shown r.within (enough show r.room) h

-- a call of `finish` on an empty page
module _ {show : Show} {n : ℕ} {st tb dp l page : List ℕ} {t : Taken} {tb' dp' page' : List ℕ} (r : Ready n st tb dp page)
    (w : Finishes show (state_of st) tb dp l n page 0 t tb' dp' page') where
  ended : Went (desk_of (state_of st) tb dp l n page 0) 0 (finished show (desk_of (state_of st) tb dp l n page 0))
  ended = finished-went show (desk_of (state_of st) tb dp l n page 0) (desk_good l r.held r.shown r.within (omega arith))

  pub finish-inside : t.at ≤ length page'
  finish-inside = left_inside ended w.leaves

  pub finish-ready : (st' : List ℕ) → Whole st' → t.state ≡ state_of st'
      → Ready t.line st' tb' dp' page'
  finish-ready st' f q =
      let e = left_size ended w.leaves in
      let m = r.room in
      record {
        whole = f;
        held = subst (λ (b : Board). Held b tb') q (left_held ended w.leaves);
        shown = left_shown ended
            w.leaves;
        within = left_within ended w.leaves;
        room = omega arith;
      }

-- where the program begins

module _ {load second : Bool} {w : ℕ} {tb dp : List ℕ} where
  pub begun-ready : {b : Board} {st page : List ℕ} → Begins load second w (Some b) tb dp
      → Saved b st → 65536 ≡ length page
      → Ready 0 st tb dp page
  begun-ready e v n = record {
    whole = v.whole;
    held = rw (← saved-state v)
        e.held;
    shown = e.shown;
    within = omega arith;
    room = omega arith;
  }
