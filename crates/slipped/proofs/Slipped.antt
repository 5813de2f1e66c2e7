-- Why nothing is slipped in: a command other than ALLOCATE whose key is on no channel does nothing before it settles, and where
-- nothing is left standing settling does nothing. So the state stays, whatever the command is answered, and the others do not see it.
-- What is asked of its id is not needed: with an id that is outstanding, above 63 or the other desk's it is refused, and that leaves
-- the state too.
-- Assumes nothing.
use Prim.Native.Nat.{ℕ}
use mathlib.Core.Path.{◌≡◌}
use mathlib.Core.Bool.{not, ◌&&◌}
use mathlib.Core.List.{List, ◌∷◌, ◌++◌}
use lib.Dec.{T, ltb}
use Rattle.machine.specs.Numbers.{REQUESTS, UNSOUND}
use Rattle.machine.specs.Lists.{all, among}
use Rattle.machine.specs.State.{State, Call, Op, OPEN, CLOSE, ABORT, EVENT, COMMAND, fresh_on}
use Rattle.machine.specs.Desks.{foreign}
use Rattle.machine.specs.Commands.{matches}
use Rattle.machine.specs.Sound.{sound, ids}
use Rattle.machine.specs.Refusals.{refused, refusal}
use Rattle.machine.specs.Call.{call}
use Rattle.machine.proofs.Tests.{and_left, and_right, by_test}
use Rattle.machine.proofs.Known.{allocates-alone}
use Rattle.display.specs.Display.{blank}
use Rattle.display.proofs.Display.{refused-stays}
use Rattle.display.specs.Runs.{after_calls, shown_after}
use Rattle.two_runs.specs.OnNoChannel.{Harmless}
use Rattle.two_runs.proofs.OnNoChannel.{moves-nothing}
use Rattle.nothing_left.specs.NothingLeft.{NothingLeft}
use Rattle.nothing_left.proofs.NothingLeft.{left_rest, rest_left, fresh_rests, nothing_left_behind}
use Rattle.slipped.specs.Slipped.{other_command, on_no_channel, mild, slips, Inserted, NothingSlipped}
use Rattle.slipped.proofs.Inserting.{unsound-refused, unmoved_inserted, refused-shown}

-- ---- a mild command leaves the state

other_harmless : (o : Op) → T (other_command o) → Harmless o
unfolding other_command
other_harmless OPEN t = t
other_harmless CLOSE t = t
other_harmless ABORT t = t
other_harmless (EVENT v) t = t
other_harmless (COMMAND n) t = rw (allocates-alone n) t

pub mild-stays : (s : State) (c : Call) → NothingLeft s → T (mild s c) → (call s c).next ≡ s
unfolding mild on_no_channel
mild-stays s c l t =
    by_test (sound s)
    (λ a. moves-nothing s c (other_harmless c.op (and_left (other_command c.op) (all (λ d. not (matches c.key d)) s.channels) t)) a (left_rest s l)
    (and_right (other_command c.op) (all (λ d. not (matches c.key d)) s.channels) t))
    (λ a. refused-stays s c UNSOUND (unsound-refused c.op c s a))

-- ---- so the others do not see it

-- from any state in which nothing is left, as a loaded one may be
pub mild_unseen : (s : State) (before : List Call) (c : Call) (behind : List Call) → NothingLeft s → T (mild (after_calls s before) c)
    → Inserted s before c behind
mild_unseen s before c behind l t = unmoved_inserted s before c behind (mild-stays (after_calls s before) c (nothing_left_behind s before l) t)

pub slips-mild : (s : State) (c : Call) → T (slips s c) → T (mild s c)
unfolding slips
slips-mild s c t = and_right (ltb c.id REQUESTS && not (among c.id (ids s)) && not (foreign c)) (mild s c) t

pub fresh_left : (n : ℕ) → NothingLeft (fresh_on n)
fresh_left n = rest_left (fresh_on n) (fresh_rests n)

pub nothing-slipped_in : NothingSlipped
nothing-slipped_in n before c behind t =
    mild_unseen (fresh_on n) before c behind (fresh_left n) (slips-mild (after_calls (fresh_on n) before) c t)

-- ---- nor any call that is refused, from any state; not even the looks show it

pub refused_unseen : (s : State) (before : List Call) (c : Call) (behind : List Call) (e : ℕ) → refusal c.op c (after_calls s before) ≡ refused e
    → Inserted s before c behind × (shown_after s (before ++ c ∷ behind) blank ≡ shown_after s (before ++ behind) blank)
refused_unseen s before c behind e q =
    let stays = refused-stays (after_calls s before) c e q in
    (unmoved_inserted s before c behind stays, refused-shown s before c behind stays e q)
