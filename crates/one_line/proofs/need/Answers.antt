-- `need` meets its contract, case by case of its two tests. Assumes nothing.
use mathlib.Core.Path.{◌≡◌, refl}
use mathlib.Core.Bool.{true, false}
use Rattle.one_line.proofs.need.Goals as goal

pub returns-then-show-2 : goal.returns-then-show-2
returns-then-show-2 c =
    let e : c.args.show.channels ≡ true = c.if-show.true in
    let f : c.args.show.display ≡ true = c.if-show-2.true in
    rw (e, f) refl

pub returns-else-show-2 : goal.returns-else-show-2
returns-else-show-2 c =
    let e : c.args.show.channels ≡ true = c.if-show.true in
    let f : c.args.show.display ≡ false = c.if-show-2.false in
    rw (e, f) refl

pub returns-then-show-3 : goal.returns-then-show-3
returns-then-show-3 c =
    let e : c.args.show.channels ≡ false = c.if-show.false in
    let f : c.args.show.display ≡ true = c.if-show-3.true in
    rw (e, f) refl

pub returns-else-show-3 : goal.returns-else-show-3
returns-else-show-3 c =
    let e : c.args.show.channels ≡ false = c.if-show.false in
    let f : c.args.show.display ≡ false = c.if-show-3.false in
    rw (e, f) refl
