-- `words_of` meets its contract: the words of the first i are added up. Assumes nothing.
use Prim.Native.Nat.{ℕ, ◌+◌, ◌-◌, ◌<◌}
use mathlib.Core.Path.{◌≡◌, refl, ap, ◌∙◌}
use mathlib.Core.List.{map}
use native.Mathlib.Omega.{arith}
use lib.ListN.{length, take, length-take}
use lib.Seq.{take_all}
use Rattle.std.proofs.Common.{get_or-take}
use Rattle.queue.specs.Queue.{list_of}
use Rattle.board.specs.store.Store.{request_in}
use Rattle.correcting.specs.lanes.Lanes.{word_of, weights}
use Rattle.recounting.proofs.Recounting.{words_more, words_fit}
use borrow.Author.Rules.{rules}
use Rattle.recounting.proofs.words_of.Goals as goal

pub loop-id-init : goal.loop-id-init
unfolding weights
loop-id-init c = refl

pub combos-requires : goal.combos-requires
combos-requires c =
    let p = c.requires in
    let q = c.args.q in
    let i = c.loop-id.id-index in
    let h : i < length (list_of q) = c.loop-id-test.true in
    let k : i < q.n = omega (arith, length-take q.n q.ids) in
    let g = get_or-take q.n q.ids i 0 k in
    (rw g (p.small i k), p.long, rw g (p.lists i k))

pub overflow_add-all : goal.overflow_add-all
overflow_add-all c =
    let l = c.loop-id in
    let xs = list_of c.args.q in
    let h : l.id-index < length xs = c.loop-id-test.true in
    let m = words_more c.args.table.now xs l.id-index h in
    let w = c.word-all.ensures ∙ ap word_of c.combos.ensures in
    let f = words_fit c.args.table.now xs (l.id-index + 1) (omega (arith, c.requires.few, length-take c.args.q.n c.args.q.ids)) in
    omega (arith, m, w, f, l.invariant)

pub loop-id-preserved : goal.loop-id-preserved
loop-id-preserved c =
    let l = c.loop-id in
    let m = words_more c.args.table.now (list_of c.args.q) l.id-index c.loop-id-test.true in
    let w = c.word-all.ensures ∙ ap word_of c.combos.ensures in
    omega (arith, m, w, l.invariant)

pub returns : goal.returns
returns c =
    let l = c.loop-id in
    l.invariant ∙ ap (λ xs. weights (map (request_in c.args.table.now) xs)) (take_all l.id-index (list_of c.args.q) (omega arith))
