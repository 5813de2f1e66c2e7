-- Whatever the lumps, whatever the room on the page and whenever it is written: what the calls hand back, put together, is the
-- output that the machine's definition of the log gives. Each call keeps it true that what stands on the page, then the output
-- of what is still to come, is the whole. Assumes nothing.
use Prim.Native.Nat.{ℕ, zero, suc, ◌+◌, ◌≤◌}
use mathlib.Core.Path.{◌≡◌, refl, ap, ap₂, sym, subst, ◌∙◌}
use mathlib.Core.Bool.{true, false}
use mathlib.Core.List.{List, [], ◌∷◌, ◌++◌, append_assoc, append-nil}
use native.Mathlib.Omega.{arith}
use borrow.Author.Tests.{eqb-true, eqb-false}
use lib.Dec.{T, eqb}
use lib.ListN.{length, take, drop, drop_of_length-le, length-append}
use lib.Seq.{take_at, drop-drop, length-take-le}
use Rattle.std.specs.Prelude.{if◌then◌else◌}
use Rattle.widening.specs.machine.State.{State as StateM, frees, fresh_on}
use Rattle.widening.specs.machine.Log.{Fed as FedM, lines, feed, run, log}
use Rattle.display.specs.Display.{blank, displayed_by}
use Rattle.widening.proofs.machine.Tests.{if_elim, by_test, test_true, test_false}
use Rattle.display.proofs.machine_laws.Sound.{parts}
use Rattle.widening.proofs.Maps.{length-frees}
use Rattle.memory.specs.Splice.{splice}
use Rattle.board.specs.declared.Board.{Board}
use Rattle.board.specs.store.Store.{table_of}
use Rattle.board.specs.Board.{sized, struct_of, state_in, Held}
use Rattle.board.proofs.Laws.{held_of, state_in_of, fresh-sane}
use Rattle.gathering.specs.Lumps.{LINE, front, ended, used, kept, gathered_of, Gathers, Stands}
use Rattle.gathering.proofs.Lumps.{stands_none, stands_more, stands-frame, stands-feed, stands-within, front_open, used_open, lines_none, lines_last, lines_step, lines_on}
use Rattle.paging.specs.taking.declared.Show.{Show}
use Rattle.paging.specs.taking.Desk.{Taken, hidden, shown_of, display_after, fed, run_shown, log_shown, Desk, desk_of, gathered, answered, taken, fits, takes, filled, closed, finished, Leaves}
use Rattle.paging.proofs.taking.Kept.{leaves-state}
use Rattle.paging.proofs.taking.Laws.{fed-hidden, taken_open, taken-ended, taken-used, closed_none, closed_some}
use Rattle.paging.specs.Paging.{Fills}
use Rattle.finishing.specs.Finishing.{Finishes}
use Rattle.whole_log.specs.Whole.{joined, Ran, fills, used_up, finishes, writes, over, board_at, table_at, Ended}
use Rattle.whole_log.proofs.Progress.{Good, Went, desk_good, taken-went, filled-went, finished-went, left_held, left_shown, left_inside}

-- ---- run_shown

run_cons : (show : Show) (s : StateM) (d l : List ℕ) (ls : List (List ℕ))
    → run_shown show s d (l ∷ ls) ≡ (fed show s d l).output ++ run_shown show (fed show s d l).next (display_after s l d) ls
unfolding run_shown
run_cons show s d l ls = refl

run_none : (show : Show) (s : StateM) (d : List ℕ) → run_shown show s d [] ≡ []
unfolding run_shown
run_none show s d = refl

pub none_ended : ended [] ≡ false
unfolding ended
none_ended = refl

empty : {l p : List ℕ} → Stands l 0 p → p ≡ []
empty {p = []} t = refl
empty {p = b ∷ p} t = absurd (let c = t.count in omega arith)

not_empty : {l p : List ℕ} {n : ℕ} → Stands l n p → (n ≡ 0 → ⊥) → p ≡ [] → ⊥
not_empty t h e = h (t.count ∙ ap (λ (x : List ℕ). length (take LINE x)) e)

-- ---- what is to come

-- what stands on the page, then the output of the line that has begun with p and of what is left
abbrev pub comes : Show → Desk → List ℕ → List ℕ → List ℕ
comes show d p rest = take d.at d.page ++ run_shown show d.state d.display (lines (p ++ rest))

-- the state that they come to
abbrev pub arrives : Desk → List ℕ → List ℕ → StateM
arrives d p rest = (run d.state (lines (p ++ rest))).next

-- a line that is cut is fed as it is whole
module _ (s : StateM) (d : List ℕ) {l : List ℕ} {n : ℕ} {p : List ℕ} (t : Stands l n p) where
  after-stands : display_after s (take n l) d ≡ display_after s p d
  after-stands = ap (λ o. displayed_by s o d) (stands-frame t)

  fed-stands : (show : Show) → fed show s d (take n l) ≡ fed show s d p
  unfolding fed
  fed-stands show = ap₂ (λ (f : FedM) (x : List ℕ). record { output = f.output ++ shown_of show f.next x; next = f.next }) (stands-feed t s) after-stands

-- an answer on the page
answered-comes : (show : Show) (d : Desk) (p : List ℕ) (ls : List (List ℕ)) → Good d → Stands d.line d.n p
    → take (answered show d).at (answered show d).page ++ run_shown show (answered show d).state (answered show d).display ls
    ≡ take d.at d.page ++ run_shown show d.state d.display (p ∷ ls)
unfolding splice
answered-comes show d p ls g t =
    let f = fed-stands d.state d.display t show in
    let z = after-stands d.state d.display t in
    let o = (fed show d.state d.display (take d.n d.line)).output in
    let h = take d.at d.page in
    let e = length-take-le d.at d.page g.inside in
    let m : length (h ++ o) ≡ d.at + length o = length-append h o ∙ ap (λ (x : ℕ). x + length o) e in
    let a : take (answered show d).at (answered show d).page ≡ h ++ o =
    ap (take (d.at + length o)) (sym (append_assoc h o _)) ∙ take_at (h ++ o) _ (d.at + length o) m in
    ap (λ (x : List ℕ). x ++ run_shown show (answered show d).state (answered show d).display ls) a ∙ append_assoc h o _
    ∙ ap (λ (x : List ℕ). h ++ x) (ap₂ (λ (x : FedM) (y : List ℕ). x.output ++ run_shown show x.next y ls) f z ∙ sym (run_cons show d.state d.display p ls))

answered-arrives : (show : Show) (d : Desk) (p : List ℕ) (ls : List (List ℕ)) → Stands d.line d.n p → (run (answered show d).state ls).next ≡ (run d.state (p ∷ ls)).next
unfolding fed run
answered-arrives show d p ls t = ap (λ (f : FedM). (run f.next ls).next) (stands-feed t d.state)

-- ---- a lump

-- from the desk d, with p standing, the call went to x: what is to come is the same, and so is the state in the end
record Goes (show : Show) (whole : List ℕ) (d : Desk) (p : List ℕ) (x : Desk) : Type 0 where
  pub begun : List ℕ
  pub stands : Stands x.line x.n begun
  pub unended : ended begun ≡ false
  pub same : (rest : List ℕ) → comes show x begun (drop x.used whole ++ rest) ≡ comes show d p (drop d.used whole ++ rest)
  pub ends : (rest : List ℕ) → arrives x begun (drop x.used whole ++ rest) ≡ arrives d p (drop d.used whole ++ rest)

goes_nowhere : (show : Show) (whole : List ℕ) (d : Desk) (p : List ℕ) → Stands d.line d.n p → ended p ≡ false → Goes show whole d p d
goes_nowhere show whole d p t o = record { begun = p; stands = t; unended = o; same = λ rest. refl; ends = λ rest. refl }

goes_on : {show : Show} {whole : List ℕ} {d x y : Desk} {p : List ℕ} (g : Goes show whole d p x) → Goes show whole x g.begun y → Goes show whole d p y
goes_on g h = record { begun = h.begun; stands = h.stands; unended = h.unended; same = λ rest. h.same rest ∙ g.same rest; ends = λ rest. h.ends rest ∙ g.ends rest }

module _ (show : Show) (whole : List ℕ) (d : Desk) (p bs : List ℕ) (g : Good d) (t : Stands d.line d.n p) (o : ended p ≡ false) (e : drop d.used whole ≡ bs) where
  more : Stands (gathered d bs).line (gathered d bs).n (p ++ front bs)
  more = let w : Gathers d.line d.n bs (gathered_of d.n bs) (gathered d bs).line = record { answer = refl; filled = refl } in stands_more t w

  left_over : drop (d.used + used bs) whole ≡ drop (used bs) bs
  left_over = sym (drop-drop (used bs) d.used whole) ∙ ap (drop (used bs)) e

  open_goes : ended bs ≡ false → Goes show whole d p (gathered d bs)
  open_goes b =
      let u = used_open bs b in
      let k : length bs ≤ used bs = omega arith in
      let z : drop (used bs) bs ≡ [] = drop_of_length-le bs k in
      record {
        begun = p ++ bs;
        stands = subst (λ (x : List ℕ). Stands (gathered d bs).line (gathered d bs).n (p ++ x)) (front_open bs b) more;
        unended = (lines_on p bs [] o b).0;
        same = λ rest. ap (λ (x : List ℕ). take d.at d.page ++ run_shown show d.state d.display (lines ((p ++ bs) ++ (x ++ rest)))) (left_over ∙ z)
            ∙ ap (λ (x : List (List ℕ)). take d.at d.page ++ run_shown show d.state d.display x) (sym (lines_on p bs rest o b).1)
            ∙ ap (λ (x : List ℕ). comes show d p (x ++ rest)) (sym e);
        ends = λ rest. ap (λ (x : List ℕ). (run d.state (lines ((p ++ bs) ++ (x ++ rest)))).next) (left_over ∙ z)
            ∙ ap (λ (x : List (List ℕ)). (run d.state x).next) (sym (lines_on p bs rest o b).1)
            ∙ ap (λ (x : List ℕ). arrives d p (x ++ rest)) (sym e);
      }

  ended-goes : ended bs ≡ true → Goes show whole d p (answered show (gathered d bs))
  ended-goes b =
      record {
        begun = [];
        stands = stands_none _;
        unended = none_ended;
        same = λ rest. ap (λ (x : List ℕ). comes show (answered show (gathered d bs)) [] (x ++ rest)) left_over
            ∙ answered-comes show (gathered d bs) (p ++ front bs) (lines (drop (used bs) bs ++ rest)) (record { fine = g.fine; within = stands-within more; inside = g.inside; shown = g.shown }) more
            ∙ ap (λ (x : List (List ℕ)). take d.at d.page ++ run_shown show d.state d.display x) (sym (lines_step p bs rest o b))
            ∙ ap (λ (x : List ℕ). comes show d p (x ++ rest)) (sym e);
        ends = λ rest. ap (λ (x : List ℕ). arrives (answered show (gathered d bs)) [] (x ++ rest)) left_over
            ∙ answered-arrives show (gathered d bs) (p ++ front bs) (lines (drop (used bs) bs ++ rest)) more
            ∙ ap (λ (x : List (List ℕ)). (run d.state x).next) (sym (lines_step p bs rest o b))
            ∙ ap (λ (x : List ℕ). arrives d p (x ++ rest)) (sym e);
      }

  taken-goes : Goes show whole d p (taken show d bs)
  taken-goes =
      by_test (ended bs)
      (λ y. let b = test_true (ended bs) y in rw (taken-ended show d bs b) (ended-goes b))
      (λ y. let b = test_false (ended bs) y in rw (taken_open show d bs b) (open_goes b))

takes_goes : (show : Show) (whole : List ℕ) (k : ℕ) (d : Desk) (p bs : List ℕ) → Good d → Stands d.line d.n p → ended p ≡ false → drop d.used whole ≡ bs
    → Goes show whole d p (takes show k d bs)
unfolding takes
takes_goes show whole zero d p bs g t o e = goes_nowhere show whole d p t o
takes_goes show whole (suc k) d p [] g t o e = goes_nowhere show whole d p t o
takes_goes show whole (suc k) d p (b ∷ bs) g t o e =
    let cs = b ∷ bs in
    if_elim (Goes show whole d p) (fits show d)
    (λ y. let f = test_true (fits show d) y in
    let a = taken-goes show whole d p cs g t o e in
    let u : drop (taken show d cs).used whole ≡ drop (used cs) cs = ap (λ (x : ℕ). drop x whole) (taken-used show d cs) ∙ left_over show whole d p cs g t o e in
    goes_on a (takes_goes show whole k (taken show d cs) a.begun (drop (used cs) cs) (taken-went show d cs g f).good a.stands a.unended u))
    (λ _. goes_nowhere show whole d p t o)

filled-goes : (show : Show) (d : Desk) (p bs : List ℕ) → d.used ≡ 0 → Good d → Stands d.line d.n p → ended p ≡ false → Goes show bs d p (filled show d bs)
unfolding filled
filled-goes show d p bs z g t o = takes_goes show bs (length bs) d p bs g t o (ap (λ (x : ℕ). drop x bs) z)

-- ---- the end

-- from the desk d, with p standing, and nothing to come, the call went to x
record Closes (show : Show) (d : Desk) (p : List ℕ) (x : Desk) : Type 0 where
  pub begun : List ℕ
  pub stands : Stands x.line x.n begun
  pub unended : ended begun ≡ false
  pub same : comes show x begun [] ≡ comes show d p []
  pub ends : arrives x begun [] ≡ arrives d p []

module _ (show : Show) (d : Desk) (p : List ℕ) (g : Good d) (t : Stands d.line d.n p) (o : ended p ≡ false) where
  closes_nowhere : Closes show d p d
  closes_nowhere = record { begun = p; stands = t; unended = o; same = refl; ends = refl }

  closed-closes : Closes show d p (closed show d)
  closed-closes =
      by_test (eqb d.n 0)
      (λ y. rw (closed_none show d (eqb-true d.n 0 (test_true (eqb d.n 0) y))) closes_nowhere)
      (λ y. let h = eqb-false d.n 0 (test_false (eqb d.n 0) y) in
      rw (closed_some show d h)
      (record {
        begun = [];
        stands = stands_none _;
        unended = none_ended;
        same = ap (λ (x : List (List ℕ)). take (answered show d).at (answered show d).page ++ run_shown show (answered show d).state (answered show d).display x) lines_none
            ∙ answered-comes show d p [] g t
            ∙ ap (λ (x : List (List ℕ)). take d.at d.page ++ run_shown show d.state d.display x) (sym (ap lines (append-nil p) ∙ lines_last p o (not_empty t h)));
        ends = ap (λ (x : List (List ℕ)). (run (answered show d).state x).next) lines_none
            ∙ answered-arrives show d p [] t
            ∙ ap (λ (x : List (List ℕ)). (run d.state x).next) (sym (ap lines (append-nil p) ∙ lines_last p o (not_empty t h)));
      }))

  finished-closes : Closes show d p (finished show d)
  unfolding finished
  finished-closes = if_elim (Closes show d p) (fits show d) (λ _. closed-closes) (λ _. closes_nowhere)

-- ---- a run

-- what a call leaves is to come as the desk says
left_comes : (show : Show) {t : Taken} {l tb dp page : List ℕ} {d x : Desk} {m : ℕ} → Went d m x → Leaves t l tb dp page x → (p rest : List ℕ)
    → take t.at page ++ run_shown show (state_in t.state tb) dp (lines (p ++ rest)) ≡ comes show x p rest
left_comes show v w p rest = rw (w.at, w.page, w.display, leaves-state v.good.fine w)

left_stands : {t : Taken} {l tb dp page : List ℕ} {x : Desk} {p : List ℕ} → Leaves t l tb dp page x → Stands x.line x.n p → Stands l t.line p
left_stands w s = rw (w.line, w.started) s

pub ran_run : {show : Show} {s : Board} {tb dp l : List ℕ} {n : ℕ} {page : List ℕ} {at : ℕ} {bss : List (List ℕ)} {out : List ℕ} (p : List ℕ) → Held s tb → length dp ≡ 18
    → at ≤ length page → Stands l n p → ended p ≡ false → Ran show s tb dp l n page at bss out
    → out ≡ take at page ++ run_shown show (state_in s tb) dp (lines (p ++ joined bss))
ran_run p h e r t o (fills {show} {s} {tb} {dp} {l} {n} {page} {at} {bs} {bss} {t = u} w k) =
    let d = desk_of s tb dp l n page at in
    let g = desk_good l h e (stands-within t) r in
    let v = filled-went show d bs g in
    let c = filled-goes show d p bs refl g t o in
    ran_run c.begun (left_held v w.leaves) (left_shown v w.leaves) (left_inside v w.leaves) (left_stands w.leaves c.stands) c.unended k
    ∙ left_comes show v w.leaves c.begun (drop u.used bs ++ joined bss)
    ∙ ap (λ (x : ℕ). comes show (filled show d bs) c.begun (drop x bs ++ joined bss)) w.leaves.used
    ∙ c.same (joined bss)
ran_run p h e r t o (used_up k) = ran_run p h e r t o k
ran_run p h e r t o (finishes {show} {s} {tb} {dp} {l} {n} {page} {at} w k) =
    let d = desk_of s tb dp l n page at in
    let g = desk_good l h e (stands-within t) r in
    let v = finished-went show d g in
    let c = finished-closes show d p g t o in
    ran_run c.begun (left_held v w.leaves) (left_shown v w.leaves) (left_inside v w.leaves) (left_stands w.leaves c.stands) c.unended k
    ∙ left_comes show v w.leaves c.begun []
    ∙ c.same
ran_run p h e r t o (writes {page = page} {at = at} k) = ap (λ (x : List ℕ). take at page ++ x) (ran_run p h e (omega arith) t o k)
ran_run p h e r t o (over {show} {s} {tb} {dp} {l} z) =
    let q = empty (rw z at t) in
    sym (ap (λ (x : List ℕ). run_shown show (state_in s tb) dp (lines (x ++ []))) q ∙ ap (run_shown show (state_in s tb) dp) lines_none ∙ run_none show (state_in s tb) dp)

-- ---- where it ends

left_arrives : {t : Taken} {l tb dp page : List ℕ} {d x : Desk} {m : ℕ} → Went d m x → Leaves t l tb dp page x → (p rest : List ℕ)
    → (run (state_in t.state tb) (lines (p ++ rest))).next ≡ arrives x p rest
left_arrives v w p rest = rw (leaves-state v.good.fine w)

ends_so : {s u : StateM} {ks ls : List (List ℕ)} {b : Board} {tb : List ℕ} → Ended s ks b tb → (run s ks).next ≡ (run u ls).next → Ended u ls b tb
ends_so a e = record { held = a.held; state = a.state ∙ e }

pub ran_ends : {show : Show} {s : Board} {tb dp l : List ℕ} {n : ℕ} {page : List ℕ} {at : ℕ} {bss : List (List ℕ)} {out : List ℕ} (p : List ℕ) → Held s tb → length dp ≡ 18
    → at ≤ length page → Stands l n p → ended p ≡ false → (r : Ran show s tb dp l n page at bss out)
    → Ended (state_in s tb) (lines (p ++ joined bss)) (board_at r) (table_at r)
unfolding board_at table_at run
ran_ends p h e r t o (fills {show} {s} {tb} {dp} {l} {n} {page} {at} {bs} {bss} {t = u} w k) =
    let d = desk_of s tb dp l n page at in
    let g = desk_good l h e (stands-within t) r in
    let v = filled-went show d bs g in
    let c = filled-goes show d p bs refl g t o in
    ends_so (ran_ends c.begun (left_held v w.leaves) (left_shown v w.leaves) (left_inside v w.leaves) (left_stands w.leaves c.stands) c.unended k)
    (left_arrives v w.leaves c.begun (drop u.used bs ++ joined bss)
    ∙ ap (λ (x : ℕ). arrives (filled show d bs) c.begun (drop x bs ++ joined bss)) w.leaves.used
    ∙ c.ends (joined bss))
ran_ends p h e r t o (used_up k) = ran_ends p h e r t o k
ran_ends p h e r t o (finishes {show} {s} {tb} {dp} {l} {n} {page} {at} w k) =
    let d = desk_of s tb dp l n page at in
    let g = desk_good l h e (stands-within t) r in
    let v = finished-went show d g in
    let c = finished-closes show d p g t o in
    ends_so (ran_ends c.begun (left_held v w.leaves) (left_shown v w.leaves) (left_inside v w.leaves) (left_stands w.leaves c.stands) c.unended k)
    (left_arrives v w.leaves c.begun [] ∙ c.ends)
ran_ends p h e r t o (writes k) = ran_ends p h e (omega arith) t o k
ran_ends p h e r t o (over {show} {s} {tb} {dp} {l} z) =
    let q = empty (rw z at t) in
    record { held = h; state = sym (ap (λ (x : List ℕ). (run (state_in s tb) (lines (x ++ []))).next) q ∙ ap (λ (x : List (List ℕ)). (run (state_in s tb) x).next) lines_none) }

-- ---- from the fresh device

pub fresh_held : (w : ℕ) → T (sized w) → Held (struct_of (fresh_on w)) (table_of (fresh_on w))
fresh_held w t = held_of (fresh_on w) (parts (fresh_on w) (fresh-sane w t)) (subst (λ (n : ℕ). T (sized n)) (sym (length-frees w)) t)

-- the log's output, with what is shown, whatever the lumps: the last LF absent or not, no bytes, empty lines, garbage, lines of any
-- length
pub whole_log-shown : (w : ℕ) → T (sized w) → {show : Show} {l page : List ℕ} {bss : List (List ℕ)} {out : List ℕ}
    → Ran show (struct_of (fresh_on w)) (table_of (fresh_on w)) blank l 0 page 0 bss out → out ≡ log_shown show w (joined bss)
unfolding log_shown
whole_log-shown w t {show} {l} {page} {bss} r =
    ran_run [] (fresh_held w t) refl (omega arith) (stands_none l) none_ended r
    ∙ ap (λ x. run_shown show x blank (lines (joined bss))) (state_in_of (fresh_on w) (parts (fresh_on w) (fresh-sane w t)))

pub run_hidden : (s : StateM) (d : List ℕ) (ls : List (List ℕ)) → run_shown hidden s d ls ≡ (run s ls).output
unfolding run_shown run
run_hidden s d [] = refl
run_hidden s d (l ∷ ls) =
    ap (λ (f : FedM). f.output ++ run_shown hidden f.next (display_after s l d) ls) (fed-hidden s d l)
    ∙ ap (λ (x : List ℕ). (feed s l).output ++ x) (run_hidden (feed s l).next (display_after s l d) ls)

pub log-hidden : (w : ℕ) (bs : List ℕ) → log_shown hidden w bs ≡ (run (fresh_on w) (lines bs)).output
unfolding log_shown
log-hidden w bs = run_hidden (fresh_on w) blank (lines bs)

-- on four channels that is the machine's log
four-log : (bs : List ℕ) → (run (fresh_on 4) (lines bs)).output ≡ log bs
unfolding log frees
four-log bs = refl

-- where nothing is shown, it is the machine's
pub whole_log : (w : ℕ) → T (sized w) → {l page : List ℕ} {bss : List (List ℕ)} {out : List ℕ} → Ran hidden (struct_of (fresh_on w)) (table_of (fresh_on w)) blank l 0 page 0 bss out
    → out ≡ (run (fresh_on w) (lines (joined bss))).output
whole_log w t {bss = bss} r = whole_log-shown w t r ∙ log-hidden w (joined bss)

pub whole_log_on_four : {l page : List ℕ} {bss : List (List ℕ)} {out : List ℕ} → Ran hidden (struct_of (fresh_on 4)) (table_of (fresh_on 4)) blank l 0 page 0 bss out
    → out ≡ log (joined bss)
whole_log_on_four {bss = bss} r = whole_log 4 tt r ∙ four-log (joined bss)
