-- `place_writes` meets its contract: the walks over the channels left, with the marks made so far, are all the walks. Assumes nothing.
use Prim.Native.Nat.{◌+◌}
use mathlib.Core.Path.{◌≡◌, refl, ◌∙◌}
use Rattle.std.specs.Prelude.{Err}
use lib.ListN.{length, replicate}
use Rattle.placing.proofs.Turns.{Written, written_stop, written_more, written_none, written_end}
use Rattle.placing.proofs.Cases.{good_few}
use borrow.Author.Rules.{rules}
use Rattle.placing.proofs.place_writes.Goals.{then-q-gt0+in_ok-marks, else-q-gt0}
use Rattle.placing.proofs.place_writes.Goals as goal

pub loop-c-init : goal.loop-c-init
loop-c-init c = (search rules, record { rest = refl })

pub place-requires : goal.place-requires
place-requires c =
    let z : length c.args.cs ≡ 8 = search rules in
    (good_few _ _ _ c.requires.0 (search rules), search rules)

pub returns-in_err-marks : goal.returns-in_err-marks
returns-in_err-marks c =
    let z : length c.args.cs ≡ 8 = search rules in
    let e : c.from_residual.result ≡ Err c.in_err-marks.field-0.0 = search rules in
    e ∙ written_stop c.loop-c.invariant.1 _ (search rules) (rw c.at.ensures at c.place.ensures) c.in_err-marks.was

-- a channel's writes were walked over, or it has none
walked : (c : goal.Joined-q-gt0) → (length c.if-q-gt0.marks ≡ 64) × Written c.args.table.now c.args.cs (replicate 64 0) c.if-q-gt0.marks (c.loop-c.c-index + 1)
walked c =
    let l = c.loop-c.invariant in
    let z : length c.args.cs ≡ 8 = search rules in
    elim c.if-q-gt0.branch [
      | then-q-gt0+in_ok-marks w ↦ rw w.marks-is (search rules, written_more l.1 _ (search rules) (rw w.at.ensures at w.place.ensures) w.in_ok-marks.was)
      | else-q-gt0 w ↦ rw w.marks-is (l.0, written_none l.1 _ (search rules) w.if-q-gt0.false)
    ]

pub loop-c-preserved : goal.loop-c-preserved
loop-c-preserved c = walked c

pub returns : goal.returns
returns c =
    let z : length c.args.cs ≡ 8 = search rules in
    written_end c.loop-c.invariant.1 (search rules)
