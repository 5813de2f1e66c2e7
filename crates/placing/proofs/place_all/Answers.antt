-- `place_all` meets its contract: each walk goes on with the marks of the one before. Assumes nothing.
use mathlib.Core.Path.{◌≡◌, ◌∙◌}
use Rattle.std.specs.Prelude.{Err}
use Rattle.placing.proofs.Cases.{tidied, shape, all_first, all_second, all_third, all_fourth}
use borrow.Author.Rules.{rules}
use Rattle.placing.proofs.place_all.Goals as goal

pub place_writes-requires : goal.place_writes-requires
place_writes-requires c = ((shape _ c.requires.0).channels_ok, search rules)

pub returns-in_err-writes : goal.returns-in_err-writes
returns-in_err-writes c =
    let e : c.from_residual.result ≡ Err c.in_err-writes.field-0.0 = search rules in
    e ∙ all_first _ _ _ c.place_writes.ensures c.in_err-writes.was

pub place-requires : goal.place-requires
place-requires c = ((tidied _ (shape _ c.requires.0).locks_ok).few, search rules)

pub returns-in_err-locks : goal.returns-in_err-locks
returns-in_err-locks c =
    let e : c.from_residual-in_err-locks.result ≡ Err c.in_err-locks.field-0.0 = search rules in
    e ∙ all_second _ _ _ c.place_writes.ensures c.in_ok-writes.was c.place.ensures c.in_err-locks.was

pub place-requires-2 : goal.place-requires-2
place-requires-2 c = ((tidied _ (shape _ c.requires.0).waiters_ok).few, search rules)

pub returns-in_err-cycles : goal.returns-in_err-cycles
returns-in_err-cycles c =
    let e : c.from_residual-in_err-cycles.result ≡ Err c.in_err-cycles.field-0.0 = search rules in
    e ∙ all_third _ _ _ c.place_writes.ensures c.in_ok-writes.was c.place.ensures c.in_ok-locks.was c.place-2.ensures c.in_err-cycles.was

pub place-requires-3 : goal.place-requires-3
place-requires-3 c = ((tidied _ (shape _ c.requires.0).waiting_ok).few, search rules)

pub returns : goal.returns
returns c =
    all_fourth _ _ _ c.place_writes.ensures c.in_ok-writes.was c.place.ensures c.in_ok-locks.was c.place-2.ensures c.in_ok-cycles.was c.place-3.ensures
