-- The three parts of what is written for the log of document 01 with the line of crates/inspected_lines, by computation: with nothing
-- shown, and with the display, whose looks that line sets.
-- Assumes nothing.
use Prim.Native.Nat.{ℕ}
use mathlib.Core.Path.{◌≡◌, refl}
use mathlib.Core.Bool.{true, false}
use mathlib.Core.List.{List, [], ◌∷◌, ◌++◌}
use Rattle.machine.specs.State.{frees}
use Rattle.machine.specs.Machine.{machine}
use Rattle.machine.specs.Text.{bytes, page}
use Rattle.display.specs.Looks.{beyond, reached, look_on, looks_in, looks, acting, looks_after, looked_by, looked}
use Rattle.display.specs.Display.{names, writes_on, naming, number, corrected, displayed, displayed_by, load_line, request_lines, display_lines}
use Rattle.whole_log.specs.taking.declared.Show.{Show}
use Rattle.whole_log.specs.taking.Desk.{hidden, shown_of, fed, run_shown}
use Rattle.inspected_lines.specs.Lines.{logging}
use Rattle.inspected_lines.proofs.Witness.{before, slipped, behind}
use Rattle.inspected_log.specs.Program.{text, own, more}

pub written_before : text hidden 4 before ≡ page ("A000000001FF" ∷ "A000030001FF" ∷ "A100000001FF" ∷ "C0060DF4010001" ∷ "A100000000FF" ∷ [])
unfolding machine frees bytes page run_shown fed shown_of logging
written_before = refl

pub written_own : own hidden 4 before slipped ≡ page ("C00903F6000009" ∷ "A0F6000009FF" ∷ [])
unfolding machine frees bytes page run_shown fed shown_of logging
written_own = refl

pub written_behind : more hidden 4 before behind ≡ page ("C0072000030002" ∷ "A000030001FF" ∷ [])
unfolding machine frees bytes page run_shown fed shown_of logging
written_behind = refl

-- ---- the looks are the exception

-- the display alone is shown
abbrev wall : Show
wall = record { channels = false; display = true }

-- READ with id 64, which is refused
abbrev refused_line : List ℕ
refused_line = bytes "0240010100000100"

-- behind the whole log the last settling had looked at one; the inserted line settles and looks at nobody, and a line that is refused
-- shows that
pub looks_show : (more wall 4 (before ++ behind) (refused_line ∷ []) ≡ page ("A004000001FF" ∷ "E000000000000000000001" ∷ []))
    × (more wall 4 (before ++ (behind ++ slipped ∷ [])) (refused_line ∷ []) ≡ page ("A004000001FF" ∷ "E000000000000000000000" ∷ []))
unfolding machine frees bytes page run_shown fed shown_of logging beyond reached look_on looks_in looks acting looks_after looked_by looked names writes_on naming number corrected displayed displayed_by load_line request_lines display_lines
looks_show = (refl, refl)
