-- `put_head` meets its contract: six bytes, and the ids where there are none left. Assumes nothing.
use native.Mathlib.Omega.{arith}
use Prim.Native.Nat.{◌<◌}
use lib.ListN.{length-set}
use Rattle.lent_channels.proofs.Heads.{head_stores, put-cleared, put_left}
use borrow.Author.Rules.{rules}
use Rattle.lent_channels.proofs.put_head.Goals as goal

pub bounds-state-at-2 : goal.bounds-state-at-2
bounds-state-at-2 c = simp length-set (omega arith)

pub bounds-state-at-3 : goal.bounds-state-at-3
bounds-state-at-3 c = simp length-set (omega arith)

pub bounds-state-at-4 : goal.bounds-state-at-4
bounds-state-at-4 c = simp length-set (omega arith)

pub clear-requires : goal.clear-requires
clear-requires c = simp length-set (omega arith)

pub returns-then-c-eq0 : goal.returns-then-c-eq0
returns-then-c-eq0 c =
    let l = c.args.state.now in
    let d = c.args.c in
    let st = head_stores l c.args.i d c.requires.0 c.requires.1 c.put_key.ensures c.mark.ensures c.mark-2.ensures in
    let x : d.key < 65536 = search rules in
    let y : d.prec < 256 = search rules in
    let z : d.writes < 256 = search rules in
    put-cleared l c.args.i d c.requires.0 c.requires.1 x y z c.if-c-eq0.true
    (rw st at c.clear.ensures)

pub returns-else-c-eq0 : goal.returns-else-c-eq0
returns-else-c-eq0 c =
    let l = c.args.state.now in
    let d = c.args.c in
    let st = head_stores l c.args.i d c.requires.0 c.requires.1 c.put_key.ensures
    c.mark.ensures c.mark-2.ensures in
    let x : d.key < 65536 = search rules in
    let y : d.prec < 256 = search rules in
    let z : d.writes < 256 = search rules in
    put_left l c.args.i d c.requires.0 c.requires.1 x y z c.if-c-eq0.false st

pub shape_of-state-then-c-eq0 : goal.shape_of-state-then-c-eq0
shape_of-state-then-c-eq0 c = (returns-then-c-eq0 c).long

pub shape_of-state-else-c-eq0 : goal.shape_of-state-else-c-eq0
shape_of-state-else-c-eq0 c = (returns-else-c-eq0 c).long
