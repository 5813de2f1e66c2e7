-- What a call counts stays within what was lent; with room for a line and bytes to take, some are used; and a call stops only
-- where the lump is used up or the page is full. Assumes nothing.
use Prim.Native.Nat.{ℕ, zero, suc, ◌+◌, ◌-◌, ◌*◌, ◌≤◌, ◌<◌}
use mathlib.Core.Path.{◌≡◌, refl, ap, sym, ◌∙◌}
use mathlib.Core.Bool.{Bool, true, false}
use mathlib.Core.List.{List, [], ◌∷◌, ◌++◌, map}
use mathlib.Core.Logic.{◌⊎◌, inl, inr}
use mathlib.Core.Option.{Option, none, some}
use native.Mathlib.Omega.{arith}
use native.Mathlib.Nat.{zero-add, add-zero}
use borrow.Author.Tests.{leb-true, le-leb, leb-false}
use lib.Dec.{T, leb, leb→le, eqb}
use lib.ListN.{length, take, drop, length-append, length-drop, length-map}
use Rattle.std.specs.Prelude.{if◌then◌else◌}
use Rattle.widening.specs.machine.State.{State as StateM, Call}
use Rattle.widening.specs.machine.Log.{unhex, frame, feed}
use Rattle.display.specs.Display.{displayed_by, display_lines}
use Rattle.display.proofs.Display.{displayed-length}
use Rattle.widening.proofs.machine.Tests.{if_elim, by_test, test_true, test_false}
use Rattle.memory.specs.Splice.{splice}
use Rattle.memory.proofs.Splice.{length-splice}
use Rattle.board.specs.channel.Channel.{channel_of}
use Rattle.board.specs.declared.Board.{Board}
use Rattle.board.specs.Board.{struct_of, state_in, Held}
use Rattle.display.specs.machine_laws.Sound.{Parts}
use Rattle.display.proofs.machine_laws.Sound.{parts, ids_few}
use Rattle.board.proofs.Laws.{struct-eight}
use Rattle.paging.specs.channel_lines.ChannelLines.{board_lines}
use Rattle.paging.proofs.channel_lines.ChannelLines.{board_few}
use Rattle.paging.proofs.display_lines.DisplayLines.{display_few}
use Rattle.gathering.specs.Lumps.{LINE, ended, used}
use Rattle.gathering.proofs.Lumps.{used-within}
use Rattle.paging.proofs.serving.Laws.{feed_few}
use Rattle.paging.specs.taking.declared.Show.{Show}
use Rattle.paging.specs.taking.Desk.{Taken, shown_of, display_after, fed, Desk, desk_of, gathered, answered, taken, needed, fits, takes, filled, closed, finished, Leaves}
use Rattle.paging.proofs.taking.Kept.{Fine, held_fine, feed_fine, answered_fine, leaves_held}
use Rattle.paging.proofs.taking.Laws.{kept_few, taken-used, used_some}
use Rattle.paging.specs.Paging.{Fills}
use Rattle.finishing.specs.Finishing.{Finishes}
use Rattle.paging.proofs.Laws.{takes_more}

-- ---- a line's output has the room that is asked for it

channels_fit : (b : Bool) (s : StateM) → Parts s → length (if b then board_lines (struct_of s) else []) ≤ (if b then 120 else 0)
channels_fit true s p = board_few (struct_of s) (struct-eight s p)
channels_fit false s p = omega arith

display_fits : (b : Bool) (s : StateM) (d : List ℕ) → Parts s → length d ≡ 18 → length (if b then display_lines s d else []) ≤ (if b then 743 else 0)
display_fits true s d p e = let w = ids_few s p in display_few s d (leb→le (length s.channels) 8 p.most) (omega arith) e
display_fits false s d p e = omega arith

-- a display stays as long as it is
pub after-length : (s : StateM) (l d : List ℕ) → length d ≡ 18 → length (display_after s l d) ≡ 18
unfolding displayed_by
after-length s l d e = go (frame (unhex l))
  where
    go : (o : Option Call) → length (displayed_by s o d) ≡ 18
    go none = e
    go (some c) = displayed-length s c d e

fed_few : (show : Show) (s : StateM) (d l : List ℕ) → Fine s → length d ≡ 18 → length (fed show s d l).output ≤ needed show
unfolding fed shown_of
fed_few show s d l h e =
    let a = feed_few s l h.sane in
    let p = parts (feed s l).next (feed_fine s l h).sane in
    let b = channels_fit show.channels (feed s l).next p in
    let c = display_fits show.display (feed s l).next (display_after s l d) p (after-length s l d e) in
    rw (length-append, length-append) (omega arith)

-- ---- desks within what was lent

pub record Good (d : Desk) : Type 0 where
  pub fine : Fine d.state
  pub within : d.n ≤ LINE
  pub inside : d.at ≤ length d.page
  pub shown : length d.display ≡ 18

-- what a call made of the desk d is x, with m bytes to take
pub record Went (d : Desk) (m : ℕ) (x : Desk) : Type 0 where
  pub good : Good x
  pub size : length x.page ≡ length d.page
  pub least : d.used ≤ x.used
  pub most : x.used ≤ d.used + m

went_nowhere : (d : Desk) (m : ℕ) → Good d → Went d m d
went_nowhere d m g = record { good = g; size = refl; least = omega arith; most = omega arith }

module _ (show : Show) (d : Desk) (g : Good d) (f : fits show d ≡ true) where
  room : length (fed show d.state d.display (take d.n d.line)).output + d.at ≤ length d.page
  room = let a = leb-true (d.at + needed show) (length d.page) f in let b = fed_few show d.state d.display (take d.n d.line) g.fine g.shown in omega arith

  answered-went : Went d 0 (answered show d)
  answered-went =
      let o = (fed show d.state d.display (take d.n d.line)).output in
      let r = room in
      let e = length-splice d.page d.at o (omega arith) in
      record {
        good = record { fine = answered_fine show d g.fine; within = omega arith; inside = omega arith; shown = after-length d.state (take d.n d.line) d.display g.shown };
        size = e;
        least = omega arith;
        most = omega arith;
      }

gathered_good : (d : Desk) (bs : List ℕ) → Good d → Good (gathered d bs)
gathered_good d bs g = record { fine = g.fine; within = kept_few d.n bs g.within; inside = g.inside; shown = g.shown }

pub taken-went : (show : Show) (d : Desk) (bs : List ℕ) → Good d → fits show d ≡ true → Went d (length bs) (taken show d bs)
unfolding taken
taken-went show d bs g f =
    let u = used-within bs in
    if_elim (Went d (length bs)) (ended bs)
    (λ _. let a = answered-went show (gathered d bs) (gathered_good d bs g) f in record { good = a.good; size = a.size; least = omega arith; most = omega arith })
    (λ _. record { good = gathered_good d bs g; size = refl; least = omega arith; most = omega arith })

takes-went : (show : Show) (k : ℕ) (d : Desk) (bs : List ℕ) → Good d → Went d (length bs) (takes show k d bs)
unfolding takes
takes-went show zero d bs g = went_nowhere d (length bs) g
takes-went show (suc k) d [] g = went_nowhere d 0 g
takes-went show (suc k) d (b ∷ bs) g =
    let cs = b ∷ bs in
    if_elim (Went d (length cs)) (fits show d)
    (λ y. let f = test_true (fits show d) y in
    let a = taken-went show d cs g f in
    let c = takes-went show k (taken show d cs) (drop (used cs) cs) a.good in
    let m = length-drop (used cs) cs in
    let u = used-within cs in
    let v = taken-used show d cs in
    let p = c.least in
    let q = c.most in
    record { good = c.good; size = c.size ∙ a.size; least = omega arith; most = omega arith })
    (λ _. went_nowhere d (length cs) g)

pub filled-went : (show : Show) (d : Desk) (bs : List ℕ) → Good d → Went d (length bs) (filled show d bs)
unfolding filled
filled-went show d bs g = takes-went show (length bs) d bs g

-- some bytes are used where there are any, and room for a line
pub filled_on : (show : Show) (d : Desk) (bs : List ℕ) → Good d → fits show d ≡ true → 0 < length bs → d.used < (filled show d bs).used
unfolding filled
filled_on show d [] g f h = absurd (omega arith)
filled_on show d (b ∷ bs) g f h =
    let cs = b ∷ bs in
    let a = taken-went show d cs g f in
    let c = (takes-went show (length bs) (taken show d cs) (drop (used cs) cs) a.good).least in
    let v = taken-used show d cs in
    let u = used_some cs (omega arith) in
    rw (takes_more show (length bs) d cs h f) (omega arith)

-- a call stops where all is used, or where the page has no room for another line
takes-stops : (show : Show) (k : ℕ) (d : Desk) (bs : List ℕ) → length bs ≤ k → ((takes show k d bs).used ≡ d.used + length bs) ⊎ (fits show (takes show k d bs) ≡ false)
unfolding takes
takes-stops show zero d [] h = inl (sym (add-zero d.used))
takes-stops show zero d (b ∷ bs) h = absurd (omega arith)
takes-stops show (suc k) d [] h = inl (sym (add-zero d.used))
takes-stops show (suc k) d (b ∷ bs) h =
    let cs = b ∷ bs in
    if_elim (λ (x : Desk). (x.used ≡ d.used + length cs) ⊎ (fits show x ≡ false)) (fits show d)
    (λ _. let m = length-drop (used cs) cs in
    let u = used_some cs (omega arith) in
    let w = used-within cs in
    let v = taken-used show d cs in
    elim (takes-stops show k (taken show d cs) (drop (used cs) cs) (omega arith)) [
      | inl e ↦ inl (omega arith)
      | inr e ↦ inr e
    ])
    (λ y. inr (test_false (fits show d) y))

pub filled-stops : (show : Show) (d : Desk) (bs : List ℕ) → ((filled show d bs).used ≡ d.used + length bs) ⊎ (fits show (filled show d bs) ≡ false)
unfolding filled
filled-stops show d bs = takes-stops show (length bs) d bs (omega arith)

closed-went : (show : Show) (d : Desk) → Good d → fits show d ≡ true → Went d 0 (closed show d)
unfolding closed
closed-went show d g f = if_elim (Went d 0) (eqb d.n 0) (λ _. went_nowhere d 0 g) (λ _. answered-went show d g f)

pub finished-went : (show : Show) (d : Desk) → Good d → Went d 0 (finished show d)
unfolding finished
finished-went show d g = if_elim (Went d 0) (fits show d) (λ y. closed-went show d g (test_true (fits show d) y)) (λ _. went_nowhere d 0 g)

-- ---- so of what a call leaves

module _ {t : Taken} {l tb dp page : List ℕ} {d x : Desk} {m : ℕ} (v : Went d m x) (w : Leaves t l tb dp page x) where
  pub left_held : Held t.state tb
  left_held = leaves_held v.good.fine w

  pub left_within : t.line ≤ LINE
  left_within = rw w.started v.good.within

  pub left_inside : t.at ≤ length page
  left_inside = rw (w.at, w.page) v.good.inside

  pub left_shown : length dp ≡ 18
  left_shown = rw w.display v.good.shown

  pub left_size : length page ≡ length d.page
  left_size = rw w.page v.size

  pub left_used : t.used ≤ d.used + m
  left_used = rw w.used v.most

pub desk_good : {s : Board} {tb dp : List ℕ} {n : ℕ} {page : List ℕ} {at : ℕ} (l : List ℕ) → Held s tb → length dp ≡ 18 → n ≤ LINE → at ≤ length page
    → Good (desk_of s tb dp l n page at)
desk_good l h e k r = record { fine = held_fine h; within = k; inside = r; shown = e }

pub fills-went : {show : Show} {s : Board} {tb dp l : List ℕ} {n : ℕ} {bs page : List ℕ} {at : ℕ} {t : Taken} {l' tb' dp' page' : List ℕ}
    → Fills show s tb dp l n bs page at t l' tb' dp' page' → Held s tb → length dp ≡ 18 → n ≤ LINE → at ≤ length page
    → Went (desk_of s tb dp l n page at) (length bs) (filled show (desk_of s tb dp l n page at) bs)
fills-went {show} {s} {tb} {dp} {l} {n} {bs} {page} {at} w h e k r = filled-went show (desk_of s tb dp l n page at) bs (desk_good l h e k r)

pub fills_on : {show : Show} {s : Board} {tb dp l : List ℕ} {n : ℕ} {bs page : List ℕ} {at : ℕ} {t : Taken} {l' tb' dp' page' : List ℕ}
    → Fills show s tb dp l n bs page at t l' tb' dp' page' → Held s tb → length dp ≡ 18 → n ≤ LINE → at + needed show ≤ length page → 0 < length bs → 0 < t.used
fills_on {show} {s} {tb} {dp} {l} {n} {bs} {page} {at} w h e k r z =
    rw w.leaves.used (filled_on show (desk_of s tb dp l n page at) bs (desk_good l h e k (omega arith)) (le-leb (at + needed show) (length page) r) z)
