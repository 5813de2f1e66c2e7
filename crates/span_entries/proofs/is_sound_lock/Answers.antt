-- `is_sound_lock` meets its contract: each return is a case of the definition. Assumes nothing.
use Prim.Native.Nat.{◌<◌}
use mathlib.Core.Path.{◌≡◌}
use lib.ListN.{length, length-map}
use borrow.Author.Tests.{eq-eqb, ne_eqb, lt-ltb}
use Rattle.store.specs.machine.Sound.{sound_lock}
use Rattle.entries.specs.Entries.{lock_test}
use borrow.Author.Rules.{rules}
use Rattle.span_entries.proofs.is_sound_lock.Goals as goal

pub returns-then-map-eq0 : goal.returns-then-map-eq0
unfolding lock_test sound_lock
returns-then-map-eq0 c = rw (← c.map-map.ensures, eq-eqb _ _ c.if-map-eq0.true)

pub returns-then-key-eq0 : goal.returns-then-key-eq0
unfolding lock_test sound_lock
returns-then-key-eq0 c =
    let z : length c.args.cs ≡ 8 = search rules in
    let l : c.map-map.result < 256 = search rules in
    rw (← c.map-map.ensures, ← c.key-key.ensures, ne_eqb _ _ c.if-map-eq0.false, length-map, z, lt-ltb _ _ l, eq-eqb _ _ c.if-key-eq0.true)

pub returns-then-locked : goal.returns-then-locked
unfolding lock_test sound_lock
returns-then-locked c =
    let z : length c.args.cs ≡ 8 = search rules in
    let l : c.map-map.result < 256 = search rules in
    rw (← c.map-map.ensures, ← c.key-key.ensures, ne_eqb _ _ c.if-map-eq0.false, length-map, z, lt-ltb _ _ l, ne_eqb _ _ c.if-key-eq0.false, ← (c.locked.ensures _), c.if-locked.true) (rw (c.map-map.ensures, c.key-key.ensures) c.is_span.ensures)

pub returns-else-locked : goal.returns-else-locked
unfolding lock_test sound_lock
returns-else-locked c =
    let z : length c.args.cs ≡ 8 = search rules in
    let l : c.map-map.result < 256 = search rules in
    rw (← c.map-map.ensures, ← c.key-key.ensures, ne_eqb _ _ c.if-map-eq0.false, length-map, z, lt-ltb _ _ l, ne_eqb _ _ c.if-key-eq0.false, ← (c.locked.ensures _), c.if-locked.false)
