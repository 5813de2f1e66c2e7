-- `add_open` meets its contract: two bytes behind the keys, and their number. Assumes nothing.
use mathlib.Core.Path.{ap, ◌∙◌}
use native.Mathlib.Omega.{arith}
use Prim.Native.Nat.{ℕ, ◌+◌, ◌*◌}
use Rattle.machine.specs.InBytes.{two_bytes}
use Rattle.memory.specs.Splice.{splice}
use Rattle.image.specs.Image.{state_of, open_at}
use Rattle.lent_opens.proofs.Opens.{put_added}
use borrow.Author.Rules.{rules}
use Rattle.lent_opens.proofs.add_open.Goals as goal

pub overflow_mul-from : goal.overflow_mul-from
unfolding state_of open_at
overflow_mul-from c = let w = c.from.ensures in let p = c.requires.2 in omega (arith, p)

pub overflow_add-from : goal.overflow_add-from
unfolding state_of open_at
overflow_add-from c = let w = c.from.ensures in let p = c.requires.2 in omega (arith, p)

pub put_key-requires : goal.put_key-requires
unfolding state_of open_at
put_key-requires c = let w = c.from.ensures in let p = c.requires.2 in omega (arith, p)

pub overflow_add-state : goal.overflow_add-state
unfolding state_of open_at
overflow_add-state c =
    let w = c.from.ensures in
    let p = c.requires.2 in omega (arith, p)

pub returns : goal.returns
unfolding state_of open_at
returns c =
    let l = c.args.state.now in
    put_added l (λ i. search rules) c.requires.0 c.requires.1
    c.args.key c.requires.2 c.ranges.key.fits
    (c.put_key.ensures
    ∙ ap (λ (x : ℕ). splice l (756 + 2 * x) (two_bytes c.args.key)) c.from.ensures)

pub shape_of-state : goal.shape_of-state
shape_of-state c = (returns c).long
