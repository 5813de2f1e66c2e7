-- The program writes what the machine's log gives, whatever the lumps; what is written for lines falls into what is written for the
-- first of them and for the rest. An inserted line leaves the state, so the rest is as without it; what is shown of the display alone
-- may differ, and no more once a line settles. Examples.antt is named here so that it is computed first: a wrong definition is told
-- by an example.
-- Assumes nothing.
use Prim.Native.Nat.{ℕ}
use mathlib.Core.Path.{◌≡◌, refl, ap, ap₂, sym, ◌∙◌}
use mathlib.Core.Bool.{Bool, true, false, not}
use mathlib.Core.List.{List, [], ◌∷◌, ◌++◌, append_assoc}
use lib.Dec.{T}
use Rattle.machine.specs.State.{State, fresh_on}
use Rattle.std.specs.Prelude.{if◌then◌else◌}
use Rattle.machine.specs.Log.{feed, run}
use Rattle.display.specs.Display.{blank, displayed_by, display_lines}
use Rattle.board.specs.Board.{sized, struct_of}
use Rattle.whole_log.specs.channel_lines.ChannelLines.{board_lines}
use Rattle.whole_log.specs.taking.declared.Show.{Show}
use Rattle.whole_log.specs.taking.Desk.{shown_of, fed, run_shown, log_shown}
use Rattle.whole_log.proofs.Whole.{whole_log-shown}
use Rattle.inspected_lines.specs.slipped.Slipped.{settles_one}
use Rattle.inspected_lines.specs.Lines.{call_in, calls_in, slips_by, shown_by}
use Rattle.inspected_lines.proofs.Lines.{nothing-slipped_into_a_log, line_stays}
use Rattle.inspected_log.specs.Program.{Read, text, own, more, SlippedProgram}
use Rattle.inspected_log.proofs.Examples.{written_behind}

-- ---- what is written for lines

shown-append : (show : Show) (s : State) (d : List ℕ) (xs ys : List (List ℕ)) → run_shown show s d (xs ++ ys) ≡ run_shown show s d xs ++ run_shown show (run s xs).next (shown_by s xs d) ys
unfolding run_shown run shown_by fed
shown-append show s d [] ys = refl
shown-append show s d (x ∷ xs) ys =
    ap (λ (z : List ℕ). (fed show s d x).output ++ z) (shown-append show (feed s x).next (displayed_by s (call_in x) d) xs ys)
    ∙ sym (append_assoc (fed show s d x).output (run_shown show (feed s x).next (displayed_by s (call_in x) d) xs) _)

written : {show : Show} {w : ℕ} {l page : List ℕ} {ls bss : List (List ℕ)} {out : List ℕ} → T (sized w) → Read show w l page ls bss out → out ≡ text show w ls
unfolding log_shown
written {show} {w} t r = whole_log-shown w t r.ran ∙ ap (run_shown show (fresh_on w) blank) r.spelt

-- ---- where the display is not shown it does not matter

unshown : (b : Bool) (xs ys : List ℕ) → T (not b) → (if b then xs else []) ≡ (if b then ys else [])
unshown true xs ys t = absurd t
unshown false xs ys t = refl

hidden_same : (show : Show) → T (not show.display) → (s : State) (d e : List ℕ) (ls : List (List ℕ)) → run_shown show s d ls ≡ run_shown show s e ls
unfolding run_shown fed shown_of
hidden_same show t s d e [] = refl
hidden_same show t s d e (l ∷ ls) =
    ap₂ (λ (x y : List ℕ). ((feed s l).output ++ ((if show.channels then board_lines (struct_of (feed s l).next) else []) ++ x)) ++ y)
    (unshown show.display (display_lines (feed s l).next (displayed_by s (call_in l) d)) (display_lines (feed s l).next (displayed_by s (call_in l) e)) t)
    (hidden_same show t (feed s l).next (displayed_by s (call_in l) d) (displayed_by s (call_in l) e) ls)

-- ---- the assurance

module _ (show : Show) (w : ℕ) (before : List (List ℕ)) (x : List ℕ) (behind : List (List ℕ)) (p : T (slips_by (run (fresh_on w) before).next (call_in x))) where
  abbrev s₀ : State
  s₀ = (run (fresh_on w) before).next

  abbrev d₀ : List ℕ
  d₀ = shown_by (fresh_on w) before blank

  text_with_lem : T (not show.display) → text show w (before ++ x ∷ behind) ≡ text show w before ++ (own show w before x ++ more show w before behind)
  unfolding run_shown fed
  text_with_lem t =
      shown-append show (fresh_on w) blank before (x ∷ behind)
      ∙ ap (λ (z : List ℕ). text show w before ++ (own show w before x ++ z))
      (ap (λ (s : State). run_shown show s (displayed_by s₀ (call_in x) d₀) behind) (line_stays w before x p) ∙ hidden_same show t s₀ (displayed_by s₀ (call_in x) d₀) d₀ behind)

  text-later : (mid ls : List (List ℕ)) → T (settles_one s₀ (calls_in mid)) → text show w (before ++ x ∷ (mid ++ ls)) ≡ text show w (before ++ x ∷ mid) ++ more show w (before ++ mid) ls
  text-later mid ls t =
      let i = nothing-slipped_into_a_log w before x mid p in
      ap (text show w) (sym (append_assoc before (x ∷ mid) ls))
      ∙ shown-append show (fresh_on w) blank (before ++ x ∷ mid) ls
      ∙ ap₂ (λ (s : State) (d : List ℕ). text show w (before ++ x ∷ mid) ++ run_shown show s d ls) i.state (i.looks t)

text_without : (show : Show) (w : ℕ) (before mid ls : List (List ℕ)) → text show w (before ++ (mid ++ ls)) ≡ text show w (before ++ mid) ++ more show w (before ++ mid) ls
text_without show w before mid ls = ap (text show w) (sym (append_assoc before mid ls)) ∙ shown-append show (fresh_on w) blank (before ++ mid) ls

pub nothing-slipped_into_the_program : SlippedProgram
nothing-slipped_into_the_program show w t l l₂ page page₂ before x behind bss bss₂ out out₂ r q p =
    record {
      without = written t q ∙ shown-append show (fresh_on w) blank before behind;
      within = λ h. written t r ∙ text_with_lem show w before x behind p h;
      later =
          λ mid ls e y. (
            written t r ∙ ap (λ (z : List (List ℕ)). text show w (before ++ x ∷ z)) e ∙ text-later show w before x behind p mid ls y,
            written t q ∙ ap (λ (z : List (List ℕ)). text show w (before ++ z)) e ∙ text_without show w before mid ls,
          );
    }
