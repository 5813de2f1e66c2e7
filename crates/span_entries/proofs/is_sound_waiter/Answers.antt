-- `is_sound_waiter` meets its contract: a map of one bit names one channel, and what is asked of that one is asked of all it names.
-- Assumes nothing.
use Prim.Native.Nat.{ℕ, ◌*◌, ◌%◌, ◌^◌, ◌<◌}
use mathlib.Core.Path.{◌≡◌, refl, ap, sym, ◌∙◌}
use mathlib.Core.Bool.{false, not, ◌&&◌}
use lib.Dec.{eqb}
use lib.ListN.{length, get_or}
use Rattle.queue.specs.Queue.{list_of}
use mathlib.Core.List.{[]}
use Rattle.channel.specs.declared.Channel.{Channel}
use Rattle.channel.specs.Channel.{lowest_from}
use Rattle.store.specs.Store.{write_in, lock_in}
use Rattle.entries.specs.Entries.{waiter_test}
use Rattle.span_entries.proofs.Waiters.{nowhere, other_bits, waits_at}
use borrow.Author.Rules.{rules}
use Rattle.span_entries.proofs.is_sound_waiter.Goals as goal

-- what stands for a channel beyond the eighth: none is read
abbrev blank : Channel
blank = record { key = 0; prec = 0; locked = false; stopped = false; writes = record { n = 0; ids = [] } }

pub returns-then-i-ge8 : goal.returns-then-i-ge8
unfolding waiter_test
returns-then-i-ge8 c =
    let a = c.args in
    let e : c.lowest-i.result ≡ lowest_from 8 (lock_in a.table.now a.id).map = c.lowest-i.ensures ∙ ap (lowest_from 8) c.map-map.ensures in
    rw (← (nowhere (write_in a.table.now) a.cs (search rules) (lock_in a.table.now a.id) (rw (← e) c.if-i-ge8.true))) refl

pub returns-then-map-i : goal.returns-then-map-i
unfolding waiter_test
returns-then-map-i c =
    let a = c.args in
    let e : c.lowest-i.result ≡ lowest_from 8 (lock_in a.table.now a.id).map = c.lowest-i.ensures ∙ ap (lowest_from 8) c.map-map.ensures in
    let h : c.lowest-i.result < 8 = search rules in
    rw (← (other_bits (write_in a.table.now) a.cs (search rules) (lock_in a.table.now a.id) (rw (← e) h) (rw (← e, ← c.map-map.ensures) c.if-map-i.true))) refl

pub returns-then-writes_for : goal.returns-then-writes_for
unfolding waiter_test
returns-then-writes_for c =
    let a = c.args in
    let w = lock_in a.table.now a.id in
    let e : c.lowest-i.result ≡ lowest_from 8 w.map = c.lowest-i.ensures ∙ ap (lowest_from 8) c.map-map.ensures in
    let h : c.lowest-i.result < 8 = search rules in
    let b : w.map ≡ 1 * 2 ^ lowest_from 8 w.map % 256 = rw (← e, ← c.map-map.ensures) c.if-map-i.false in
    let s = waits_at (write_in a.table.now) a.cs (search rules) w (rw (← e) h) b blank e in
    let q = c.writes_for.ensures ∙ ap (λ (k : ℕ). eqb (get_or a.cs c.lowest-i.result blank).key k && not (eqb (length (list_of (get_or a.cs c.lowest-i.result blank).writes)) 0)) c.key-key.ensures in
    rw (s ∙ (sym q ∙ c.if-writes_for.true)) c.is_span.ensures

pub returns-else-writes_for : goal.returns-else-writes_for
unfolding waiter_test
returns-else-writes_for c =
    let a = c.args in
    let w = lock_in a.table.now a.id in
    let e : c.lowest-i.result ≡ lowest_from 8 w.map = c.lowest-i.ensures ∙ ap (lowest_from 8) c.map-map.ensures in
    let h : c.lowest-i.result < 8 = search rules in
    let b : w.map ≡ 1 * 2 ^ lowest_from 8 w.map % 256 = rw (← e, ← c.map-map.ensures) c.if-map-i.false in
    let s = waits_at (write_in a.table.now) a.cs (search rules) w (rw (← e) h) b blank e in
    let q = c.writes_for.ensures ∙ ap (λ (k : ℕ). eqb (get_or a.cs c.lowest-i.result blank).key k && not (eqb (length (list_of (get_or a.cs c.lowest-i.result blank).writes)) 0)) c.key-key.ensures in
    rw (s ∙ (sym q ∙ c.if-writes_for.false)) c.if-writes_for.false
