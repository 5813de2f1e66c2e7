-- `admit` meets its contract, test by test. Assumes nothing.
use native.Mathlib.Omega.{arith}
use Rattle.image.proofs.Laws.{bytes_all}
use Rattle.admitting.proofs.Laws.{bad_size, bad_display, bad_count, small_room, no_refusal}
use borrow.Author.Rules.{rules}
use Rattle.admitting.proofs.admit.Goals as goal

pub returns-then-port-ne529 : goal.returns-then-port-ne529
returns-then-port-ne529 c = let a = c.args in let r = bad_size a.port.now a.display a.room (λ e. c.if-port-ne529.true (omega arith)) in omega arith

pub returns-then-display-ne18 : goal.returns-then-display-ne18
returns-then-display-ne18 c = let a = c.args in let r = bad_display a.port.now a.display a.room c.if-display-ne18.true in omega arith

pub returns-then-key_at-gt527 : goal.returns-then-key_at-gt527
returns-then-key_at-gt527 c = let a = c.args in let r = bad_count a.port.now a.display a.room (omega arith) in omega arith

pub returns-then-room-lt973 : goal.returns-then-room-lt973
returns-then-room-lt973 c =
    let a = c.args in
    let r = small_room a.port.now a.display a.room ((let b = bytes_all c.args.port.now (λ i. search rules) in
    record { long = omega arith; few = omega arith; bytes = rw b tt })) c.if-display-ne18.false (omega arith) in
    omega arith

pub returns : goal.returns
returns c =
    let a = c.args in
    let r = no_refusal a.port.now a.display a.room ((let b = bytes_all c.args.port.now (λ i. search rules) in
    record { long = omega arith; few = omega arith; bytes = rw b tt })) c.if-display-ne18.false (omega arith) in
    omega arith
