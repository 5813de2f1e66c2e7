-- A log fed through a port comes to the machine's output, state and display, and leaves the bytes of that state; so both assurances
-- for a log carry over to the bytes.
-- Assumes nothing.
use Prim.Native.Nat.{ℕ}
use mathlib.Core.Path.{◌≡◌, refl, ap, sym, subst, ◌∙◌}
use mathlib.Core.List.{List, [], ◌∷◌, ◌++◌}
use lib.ListN.{take}
use Rattle.machine.specs.State.{State, fresh_on}
use Rattle.machine.specs.Log.{feed}
use Rattle.display.specs.Display.{NUMBERS, blank, displayed_by}
use Rattle.image.specs.store.Store.{table_of}
use Rattle.image.specs.board.Board.{struct_of}
use Rattle.image.specs.Image.{image_of}
use Rattle.slow_line.specs.Slow.{Came, shown_after}
use Rattle.slow_line.proofs.Log.{slow_line}
use Rattle.inspected_lines.specs.nothing_left.NothingLeft.{NothingLeft}
use Rattle.inspected_lines.specs.Lines.{call_in, shown_by}
use Rattle.inspected_lines.proofs.Lines.{nothing_left_by_a_log, nothing-slipped_into_a_log}
use Rattle.inspected_port.specs.Port.{Fed, LeftPort, SlippedPort}

came : {w : ℕ} {ls : List (List ℕ)} {out st tb dp : List ℕ} → Fed w ls out st tb dp → Came (fresh_on w) blank ls out st tb dp
came {w} {ls} {out} {st} {tb} {dp} f =
    subst (λ (x : List (List ℕ)). Came (fresh_on w) blank x out st tb dp) f.spelt (slow_line w f.started f.fits f.none f.ran)

-- the display of a slow line is that of its log
shown_by_lem : (s : State) (d : List ℕ) (ls : List (List ℕ)) → shown_after s d ls ≡ shown_by s ls d
unfolding shown_after shown_by
shown_by_lem s d [] = refl
shown_by_lem s d (l ∷ ls) = shown_by_lem (feed s l).next (displayed_by s (call_in l) d) ls

pub nothing_left_behind_the_port : LeftPort
nothing_left_behind_the_port w ls out st tb dp f = subst NothingLeft (sym (came f).held) (nothing_left_by_a_log w ls)

pub nothing-slipped_through_the_port : SlippedPort
nothing-slipped_through_the_port w before x behind out st tb dp out₂ st₂ tb₂ dp₂ f g p =
    let i = nothing-slipped_into_a_log w before x behind p in
    let a = came f in
    let b = came g in
    let d = a.display ∙ shown_by_lem (fresh_on w) blank (before ++ x ∷ behind) in
    let e = b.display ∙ shown_by_lem (fresh_on w) blank (before ++ behind) in
    record {
      without = b.output ∙ i.unwritten;
      within = a.output ∙ i.written;
      state = a.state ∙ ap (λ (s : State). image_of (struct_of s)) i.state ∙ sym b.state;
      table = a.table ∙ ap table_of i.state ∙ sym b.table;
      numbers = ap (take NUMBERS) d ∙ i.numbers ∙ ap (take NUMBERS) (sym e);
      looks = λ y. d ∙ i.looks y ∙ sym e;
    }
