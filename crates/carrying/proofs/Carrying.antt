-- A text that was saved, of either form, is accepted, and what is held then is the state that was saved. So a log that goes on from it comes to the
-- machine's run from that state; and the text of what is held in the end is that of the state that the machine comes to. A log may be
-- cut in two, with a save between. Assumes nothing.
use Prim.Native.Nat.{ℕ, ◌+◌, ◌≤◌}
use mathlib.Core.Path.{◌≡◌, refl, ap, ap₂, sym, subst, ◌∙◌}
use mathlib.Core.Bool.{true, false}
use mathlib.Core.List.{List, [], ◌∷◌, ◌++◌, append_assoc}
use native.Mathlib.Omega.{arith}
use lib.Dec.{T}
use lib.ListN.{length, take, length-append}
use Rattle.std.specs.Prelude.{Option, Some, None, MatchOption, ⊤}
use Rattle.machine.specs.State.{State}
use Rattle.machine.specs.Log.{lines, feed, run}
use Rattle.machine.proofs.Tests.{by_test, test_true, test_false}
use Rattle.machine.specs.InBytes.{two_bytes}
use Rattle.display.specs.Display.{numbers}
use Rattle.display.proofs.Pinned.{numbers-length}
use Rattle.board.specs.declared.Board.{Board}
use Rattle.board.specs.Board.{state_in, Held}
use Rattle.board.proofs.Laws.{held_width}
use Rattle.gathering.specs.Lumps.{ended}
use Rattle.gathering.proofs.Lumps.{stands_none}
use Rattle.whole_log.specs.taking.declared.Show.{Show}
use Rattle.whole_log.specs.taking.Desk.{hidden, run_shown}
use Rattle.accepting2.specs.hex_lines.HexLines.{Put}
use Rattle.whole_log.specs.Whole.{joined, Ran, board_at, table_at, Ended}
use Rattle.whole_log.proofs.Whole.{none_ended, run_hidden, ran_run, ran_ends}
use Rattle.accepting2.specs.saved.Saved.{text, TextOf}
use Rattle.accepting2.specs.saved2.Saved2.{text2, TextOf2}
use Rattle.accepting2.proofs.saving2.Laws2.{taken_front}
use Rattle.accepting2.proofs.read_back2.ReadBack2.{one_spelling2}
use Rattle.accepting2.specs.recounting.Recounting.{counted}
use Rattle.accepting2.proofs.accepting.Accepting.{one_spelling, one_accepting}
use Rattle.accepting2.proofs.Accepting2.{one_accepting2}
use Rattle.carrying.specs.Carrying.{Counts, Resumes, Resumes2, Carries}

-- ---- what is loaded

counted-length : (s : State) → length (counted s) ≡ 18
counted-length s = length-append (numbers s) (two_bytes 0) ∙ ap (λ (n : ℕ). n + 2) (numbers-length s)

module _ {t d : List ℕ} {tb dp : List ℕ} {s : State} where
  pub carries : (f : Option Board) → Resumes t d f tb dp → TextOf 4 s t → Carries s f tb dp
  carries (Some b) r h =
      let e = one_spelling r.accepts.text h in
      record { board = b; accepted = refl; held = r.accepts.held; state = e; display = r.counts ∙ ap counted e }
  carries None r h = absurd (r.accepts.0 s h)

  pub carries2 : {w : ℕ} (f : Option Board) → Resumes2 w t d f tb dp → TextOf2 w s t → Carries s f tb dp
  carries2 (Some b) r h =
      let e = one_spelling2 r.accepts.text h in
      record { board = b; accepted = refl; held = r.accepts.held; state = e; display = r.counts ∙ ap counted e }
  carries2 None r h = absurd (r.accepts.0 s h)

-- what is resumed is held
pub resumed_held : {t d tb dp : List ℕ} (f : Option Board) → Resumes t d f tb dp → MatchOption f ⊤ (λ b. Held b tb)
resumed_held (Some b) r = r.accepts.held
resumed_held None r = tt

pub resumed_held2 : {w : ℕ} {t d tb dp : List ℕ} (f : Option Board) → Resumes2 w t d f tb dp → MatchOption f ⊤ (λ b. Held b tb)
resumed_held2 (Some b) r = r.accepts.held
resumed_held2 None r = tt

-- no second outcome fits
shown-once : (d : List ℕ) (f : Option Board) {tb tb₂ dp dp₂ : List ℕ} → tb ≡ tb₂ → Counts f d tb dp → Counts f d tb₂ dp₂ → dp ≡ dp₂
shown-once d (Some b) q x y = x ∙ (ap (λ (t : List ℕ). counted (state_in b t)) q ∙ sym y)
shown-once d None q x y = x ∙ sym y

pub one_resuming : (t d : List ℕ) (f g : Option Board) {tb tb₂ dp dp₂ : List ℕ} → Resumes t d f tb dp → Resumes t d g tb₂ dp₂
    → (f ≡ g) × (tb ≡ tb₂) × (dp ≡ dp₂)
one_resuming t d f g {tb} {tb₂} {dp} {dp₂} x y =
    let e = one_accepting t f g x.accepts y.accepts in
    (e.0, e.1, shown-once d g e.1 (subst (λ h. Counts h d tb dp) e.0 x.counts) y.counts)

pub one_resuming2 : (w : ℕ) (t d : List ℕ) (f g : Option Board) {tb tb₂ dp dp₂ : List ℕ} → Resumes2 w t d f tb dp → Resumes2 w t d g tb₂ dp₂
    → (f ≡ g) × (tb ≡ tb₂) × (dp ≡ dp₂)
one_resuming2 w t d f g {tb} {tb₂} {dp} {dp₂} x y =
    let e = one_accepting2 w t f g x.accepts y.accepts in
    (e.0, e.1, shown-once d g e.1 (subst (λ h. Counts h d tb dp) e.0 x.counts) y.counts)

-- from here on nothing depends on the form
module _ {s : State} {f : Option Board} {tb dp : List ℕ} (r : Carries s f tb dp) where
  shown-loaded : length dp ≡ 18
  shown-loaded = ap length r.display ∙ counted-length s

  -- the output of a log that goes on from a saved text, with what is shown, whatever the lumps
  pub log_from_shown : {show : Show} {l page : List ℕ} {bss : List (List ℕ)} {out : List ℕ} → Ran show r.board tb dp l 0 page 0 bss out
      → out ≡ run_shown show s (counted s) (lines (joined bss))
  log_from_shown {show} {l} {bss = bss} k =
      ran_run [] r.held shown-loaded (omega arith) (stands_none l) none_ended k
      ∙ ap₂ (λ (x : State) (y : List ℕ). run_shown show x y (lines (joined bss))) r.state r.display

  -- where nothing is shown, it is the machine's
  pub log_from : {l page : List ℕ} {bss : List (List ℕ)} {out : List ℕ} → Ran hidden r.board tb dp l 0 page 0 bss out
      → out ≡ (run s (lines (joined bss))).output
  log_from {bss = bss} k = log_from_shown k ∙ run_hidden s (counted s) (lines (joined bss))

  -- and it ends in the machine's state
  pub ends_from : {show : Show} {l page : List ℕ} {bss : List (List ℕ)} {out : List ℕ} (k : Ran show r.board tb dp l 0 page 0 bss out)
      → Ended s (lines (joined bss)) (board_at k) (table_at k)
  ends_from {l = l} {bss = bss} k =
      let e = ran_ends [] r.held shown-loaded (omega arith) (stands_none l) none_ended k in
      record { held = e.held; state = e.state ∙ ap (λ (x : State). (run x (lines (joined bss))).next) r.state }

-- ---- what is saved

-- the text on the page is that of the state that the machine comes to
module _ {s : State} {ls : List (List ℕ)} {b : Board} {tb : List ℕ} (e : Ended s ls b tb) {page page' : List ℕ} {n : ℕ} where
  pub end_saved : b.width ≡ 4 → Put page 0 (text (state_in b tb)) n page' → TextOf 4 (run s ls).next (take n page')
  end_saved w p =
      subst (λ (v : State). TextOf 4 v (take n page')) e.state
      (record { sane = e.held.sane; width = sym (held_width e.held) ∙ w; saved = taken_front p })

  pub end_saved2 : Put page 0 (text2 (state_in b tb)) n page' → TextOf2 b.width (run s ls).next (take n page')
  end_saved2 p =
      subst (λ (v : State). TextOf2 b.width v (take n page')) e.state
      (record { sane = e.held.sane; width = sym (held_width e.held); saved = taken_front p })

-- ---- a log cut in two

run_append : (s : State) (ks ls : List (List ℕ)) → (run s (ks ++ ls)).output ≡ (run s ks).output ++ (run (run s ks).next ls).output
unfolding run
run_append s [] ls = refl
run_append s (k ∷ ks) ls =
    ap (λ x. (feed s k).output ++ x) (run_append (feed s k).next ks ls) ∙ sym (append_assoc (feed s k).output (run (feed s k).next ks).output _)

run_on : (s : State) (ks ls : List (List ℕ)) → (run s (ks ++ ls)).next ≡ (run (run s ks).next ls).next
unfolding run
run_on s [] ls = refl
run_on s (k ∷ ks) ls = run_on (feed s k).next ks ls

-- from a state s the lines ks were played, and a text saved, of either form; a second run goes on from it with the lumps bss. Together
-- they write what one run of all the lines writes, and come to its state
pub cut_in_two : {f : Option Board} {tb dp : List ℕ} (s : State) (ks : List (List ℕ)) (r : Carries (run s ks).next f tb dp)
    → {l page : List ℕ} {bss : List (List ℕ)} {out : List ℕ} (k : Ran hidden r.board tb dp l 0 page 0 bss out)
    → ((run s ks).output ++ out ≡ (run s (ks ++ lines (joined bss))).output) × Ended s (ks ++ lines (joined bss)) (board_at k) (table_at k)
cut_in_two s ks r {bss = bss} k =
    let e = ends_from r k in (
      ap (λ (x : List ℕ). (run s ks).output ++ x) (log_from r k) ∙ sym (run_append s ks (lines (joined bss))),
      record { held = e.held; state = e.state ∙ sym (run_on s ks (lines (joined bss))) },
    )
