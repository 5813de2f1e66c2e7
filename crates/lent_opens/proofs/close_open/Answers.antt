-- `close_open` meets its contract: two bytes go from the place of the key, and their number is stored. Assumes nothing.
use mathlib.Core.Path.{refl}
use native.Mathlib.Omega.{arith}
use Rattle.image.specs.Image.{state_of, open_at}
use Rattle.lent_opens.proofs.Opens.{put-closed, put_same, placed, unplaced}
use borrow.Author.Rules.{rules}
use Rattle.lent_opens.proofs.close_open.Goals as goal

pub open_place-requires : goal.open_place-requires
unfolding state_of open_at
open_place-requires c = (c.requires.0, c.requires.2)

pub overflow_mul-lo : goal.overflow_mul-lo
unfolding state_of open_at
overflow_mul-lo c =
    let a = c.args in
    let few = c.requires.2 in
    let f = placed a.state.now a.key few c.open_place.ensures c.in-Some.is in
    omega (arith, few, f.1)

pub overflow_add-lo : goal.overflow_add-lo
unfolding state_of open_at
overflow_add-lo c =
    let a = c.args in
    let few = c.requires.2 in
    let f = placed a.state.now a.key few c.open_place.ensures c.in-Some.is in
    omega (arith, few, f.1)

pub overflow_sub-state : goal.overflow_sub-state
unfolding state_of open_at
overflow_sub-state c =
    let a = c.args in
    let few = c.requires.2 in
    let f = placed a.state.now a.key few c.open_place.ensures c.in-Some.is in
    omega (arith, f.1)

pub close_up-requires : goal.close_up-requires
unfolding state_of open_at
close_up-requires c =
    let a = c.args in
    let few = c.requires.2 in
    let f = placed a.state.now a.key few c.open_place.ensures c.in-Some.is in
    let many = c.from.ensures in
    let size = c.requires.0 in
    (omega (arith, f.1, many), omega (arith, few, many, size))

pub close_up-requires-in-Some : goal.close_up-requires-in-Some
unfolding state_of open_at
close_up-requires-in-Some c =
    let a = c.args in
    let few = c.requires.2 in
    let f = placed a.state.now a.key few c.open_place.ensures c.in-Some.is in
    let many = c.from.ensures in
    let size = c.requires.0 in
    (omega (arith, f.1, many), omega (arith, few, many, size))

pub returns-in-Some : goal.returns-in-Some
unfolding state_of open_at
returns-in-Some c =
    let a = c.args in
    let few = c.requires.2 in
    let f = placed a.state.now a.key few c.open_place.ensures c.in-Some.is in
    put-closed a.state.now (λ i. search rules) c.requires.0 c.requires.1 a.key _ few f.0 f.1
    c.from.result c.from.ensures c.close_up.ensures c.close_up-in-Some.ensures

pub returns-in-None : goal.returns-in-None
unfolding state_of open_at
returns-in-None c =
    let a = c.args in
    put_same a.state.now (λ i. search rules) c.requires.0 c.requires.1 a.key _ c.requires.2 refl
    (unplaced a.state.now a.key c.requires.2 c.open_place.ensures c.in-None.is)
