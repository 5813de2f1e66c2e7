-- How many replies there are to writes that are aborted and to who waits for a cycle of theirs: at most one for each. Assumes nothing.
use Prim.Native.Nat.{ℕ, ◌+◌, ◌≤◌}
use mathlib.Core.Bool.{Bool, true, false}
use mathlib.Core.List.{List, [], ◌∷◌, ◌++◌, map}
use native.Mathlib.Omega.{arith}
use lib.ListN.{length, take, length-append, length-map}
use Rattle.std.specs.Prelude.{if◌then◌else◌}
use Rattle.keys.specs.machine.State.{Write, Channel as ChannelM, State as StateM}
use Rattle.keys.specs.machine.Maps.{odd, half}
use Rattle.keys.specs.machine.Granting.{aborted, aborted_in, on_channels, cut_replies, dropped}
use Rattle.keys.specs.machine.Commands.{front_only, front_replies}
use Rattle.keys.specs.machine.Sound.{writes_of}
use Rattle.keys.proofs.machine_laws.Lists.{keep_length}

aborted_few : (m : ℕ) (cs : List ChannelM) → length (aborted_in m cs) ≤ length (writes_of cs)
unfolding aborted_in aborted writes_of
aborted_few m [] = omega arith
aborted_few m (c ∷ cs) = go (odd m) (aborted_few (half m) cs)
  where
    go : (b : Bool) → length (aborted_in (half m) cs) ≤ length (writes_of cs)
        → length ((if b then aborted c.key c.writes else []) ++ aborted_in (half m) cs) ≤ length (map (λ w. w.id) c.writes ++ writes_of cs)
    go true h = unfold aborted in simp (length-append, length-map) (omega arith)
    go false h = simp (length-append, length-map) (omega arith)

cut_few : (m : ℕ) (s : StateM) → length (cut_replies m s) ≤ length s.waiters
unfolding cut_replies
cut_few m s =
    let k = keep_length (on_channels (length s.channels) m) s.waiters in
    simp length-map k

pub dropped_few : (m : ℕ) (s : StateM) → length (dropped m s) ≤ length (writes_of s.channels) + length s.waiters
unfolding dropped
dropped_few m s =
    let a = aborted_few m s.channels in
    let k = cut_few m s in
    simp length-append (omega arith)

-- the same where the front writes alone are
fronts_few : (cs : List ChannelM) → length (writes_of (map front_only cs)) ≤ length (writes_of cs)
unfolding writes_of
fronts_few [] = omega arith
fronts_few (c ∷ cs) =
    let g = fronts_few cs in
    let h = one c.writes in
    simp (length-append, length-map) (omega arith)
  where
    one : (ws : List Write) → length (take 1 ws) ≤ length ws
    one [] = omega arith
    one (w ∷ ws) = omega arith

pub front_replies_few : (m : ℕ) (s : StateM) → length (front_replies m s) ≤ length (writes_of s.channels) + length s.waiters
front_replies_few m s =
    let a = aborted_few m (map front_only s.channels) in
    let f = fronts_few s.channels in
    let k = cut_few m s in
    simp length-append (omega arith)
