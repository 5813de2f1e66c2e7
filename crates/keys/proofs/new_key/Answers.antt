-- `new_key` meets its contract: with i candidates passed, the first unused of the rest is the new key. Assumes nothing.
use native.Mathlib.Nat.{sub-zero}
use Rattle.open_keys.specs.queue.Queue.{list_of}
use Rattle.open_keys.specs.OpenKeys.{keys_in}
use Prim.Native.Nat.{◌-◌, ◌+◌}
use mathlib.Core.Path.{◌≡◌, refl, sym, ◌∙◌}
use native.Mathlib.Omega.{arith}
use Rattle.store.specs.machine.Granting.{first_unused}
use Rattle.store.proofs.Store.{held_length, waiting-small, waiting-count, opens-count}
use Rattle.keys.proofs.Turns.{used_keys, used_is, new_key_is, first_found, first_turn}
use Rattle.keys.proofs.new_key.Goals as goal

pub loop-init : goal.loop-init
loop-init c = rw sub-zero refl

pub in_use-requires : goal.in_use-requires
in_use-requires c =
    let h = c.requires in
    ((waiting-count h).1, waiting-small h, held_length h, (opens-count h).1)

pub returns-then-not-in_use : goal.returns-then-not-in_use
returns-then-not-in_use c =
    let l = c.loop in
    let a = c.args in
    let u = used_is l.k a.s.channels a.table.now (list_of a.s.waiting) (keys_in a.s.opens) ∙ (sym c.in_use.ensures ∙ c.if-not-in_use.true) in
    let f = first_found (8 + a.s.waiting.n + a.s.opens.n - l.counter) l.k (used_keys a.s.channels a.table.now (list_of a.s.waiting) (keys_in a.s.opens)) u in
    sym f ∙ (l.invariant ∙ new_key_is _ c.requires c.after-k.ensures)

pub loop-preserved : goal.loop-preserved
loop-preserved c =
    let l = c.loop in
    let a = c.args in
    let u = used_is l.k a.s.channels a.table.now (list_of a.s.waiting) (keys_in a.s.opens) ∙ (sym c.in_use.ensures ∙ c.if-not-in_use.false) in
    let f = first_turn (8 + a.s.waiting.n + a.s.opens.n) l.k l.counter (used_keys a.s.channels a.table.now (list_of a.s.waiting) (keys_in a.s.opens)) (omega arith) u in
    rw c.after-k-in-loop.ensures (sym f ∙ l.invariant)

pub returns : goal.returns
unfolding first_unused
returns c =
    let l = c.loop in
    let a = c.args in
    let e : 8 + a.s.waiting.n + a.s.opens.n - l.counter ≡ 0 = omega arith in
    (rw (e, first_unused) at l.invariant) ∙ new_key_is _ c.requires c.after-k.ensures
