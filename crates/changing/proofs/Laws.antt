-- The room that an accepted command has for its replies. Assumes nothing.
use Prim.Native.Nat.{ℕ, ◌+◌, ◌≤◌, ◌<◌}
use mathlib.Core.Path.{◌≡◌}
use mathlib.Core.Bool.{not}
use mathlib.Core.List.{List, ◌∷◌, map}
use native.Mathlib.Omega.{arith}
use lib.Dec.{T, ltb, lt→ltb}
use lib.ListN.{length, length-append, length-map}
use Rattle.answers.specs.machine.Lists.{all, among, distinct}
use Rattle.answers.specs.machine.State.{Lock, State as StateM}
use Rattle.answers.specs.machine.Maps.{minus}
use Rattle.answers.specs.machine.Granting.{dropped}
use Rattle.answers.specs.machine.Commands.{cleared, is_empty, freeing_replies}
use Rattle.answers.specs.machine.Sound.{writes_of, ids}
use Rattle.answers.proofs.machine.Tests.{and_both}
use Rattle.channel.proofs.machine_laws.Lists.{pigeon, keep_length}
use Rattle.channel.specs.machine_laws.Sound.{Parts}
use Rattle.answers.specs.store.declared.State.{State}
use Rattle.answers.specs.store.Store.{state_in}
use Rattle.answers.specs.store.Work.{Ready}
use Rattle.answers.proofs.store.Store.{held_parts}
use Rattle.sweep.proofs.granting.Few.{dropped_few}
use Rattle.answers.specs.declared.Request.{Request}
use Rattle.changing.specs.Changing.{Accepted}

-- ---- room: with its own id idle, at most 63 others can be replied

lock_without : ℕ → ℕ → Lock → Lock
lock_without n m l = record { id = l.id; key = l.key; map = minus n l.map m }

pub freed_few : (m : ℕ) (s : StateM) → length (freeing_replies m s) ≤ length (writes_of s.channels) + length s.locks + length s.waiters
unfolding freeing_replies cleared lock_without
freed_few m s =
    let a = dropped_few m s in
    let f = lock_without (length s.channels) m in
    let k = keep_length is_empty (map {B = Lock} f s.locks) in
    let e = length-map s.locks f in
    simp (length-append, length-map) (omega arith)

pub own_few : (s : StateM) (j : ℕ) → Parts s → j < 64 → T (not (among j (ids s))) → length (writes_of s.channels) + length s.locks + length s.waiters + length s.waiting ≤ 63
unfolding ids distinct all
own_few s j p b n =
    let g = pigeon 64 (j ∷ ids s) (and_both (not (among j (ids s))) (distinct (ids s)) n p.apart) (and_both (ltb j 64) (all (λ k. ltb k 64) (ids s)) (lt→ltb j 64 b) p.small) in
    let e : length (ids s) ≡ length (writes_of s.channels) + length s.locks + length s.waiters + length s.waiting = simp (length-append, length-map) in
    omega arith

module _ {r : Request} {s : State} {tb l : List ℕ} (a : Accepted r s tb l) where
  pub ready_one : Ready s tb l 0 1
  ready_one = record { held = a.held; room = a.room; fits = omega arith }

  pub ready_abort : (m : ℕ) → Ready s tb l 0 (length (dropped m (state_in s tb)) + 1)
  ready_abort m =
      let f = dropped_few m (state_in s tb) in
      let o = own_few (state_in s tb) r.id (held_parts a.held) a.valid a.idle in
      record { held = a.held; room = a.room; fits = omega arith }

  pub ready_free : (m : ℕ) → Ready s tb l 0 (length (freeing_replies m (state_in s tb)) + 1)
  ready_free m =
      let f = freed_few m (state_in s tb) in
      let o = own_few (state_in s tb) r.id (held_parts a.held) a.valid a.idle in
      record { held = a.held; room = a.room; fits = omega arith }
