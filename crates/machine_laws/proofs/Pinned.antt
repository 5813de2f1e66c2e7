-- What pins the words of the laws: each definition of specs/ is met by what it is meant to say, and not by what it is not. A wrong one
-- would make a law say less, and here be found.
-- Assumes nothing.
use Prim.Native.Nat.{ℕ, ◌≤◌, ◌<◌}
use mathlib.Core.Path.{◌≡◌, refl, ap}
use mathlib.Core.Bool.{true, false}
use mathlib.Core.List.{List, [], ◌∷◌, ◌++◌, map}
use native.Mathlib.Omega.{arith}
use lib.ListN.{length}
use Rattle.machine.specs.Numbers.{OPENFAIL, BADLENGTH, BADADDRESS, ALLOCFAILED, CMD_WRITE, CMD_FLUSH, ADCMD_ALLOCATE}
use Rattle.machine.specs.Lists.{all, any, among}
use Rattle.machine.specs.State.{Channel, Lock, Request, State, Outcome, Call, Op, OPEN, CLOSE, ABORT, CYCLE_ENDED, GAVE_UP, EVENT, COMMAND, free}
use Rattle.machine.specs.Choosing.{held, grants}
use Rattle.machine.specs.Kinds.{Kind, RESET, READ, WRITE, UPDATE, CLEAR, STOP, START, FLUSH, FREE, SETPREC, FINISH, PERVOL, LOCK, WAITCYCLE, ALLOCATE, UNKNOWN}
use Rattle.machine.specs.Steps.{steps}
use Rattle.machine.specs.Walks.{plays, chan, lock, wait, stands, asks, says, reply, gets}
use Rattle.machine.specs.Machine.{machine}
use Rattle.machine_laws.specs.Owed.{quiet}
use Rattle.machine_laws.specs.Lists.{count}
use Rattle.machine_laws.specs.Choosing.{strong, Spares}
use Rattle.machine_laws.specs.Settling.{Kept, AllLe, AtRest}
use Rattle.machine_laws.specs.Keeping.{Counted}
use Rattle.machine_laws.specs.Cutting.{Stands, kind_cut, cut_by, Cuts}
use Rattle.machine_laws.specs.Fronts.{SameFronts, AllFronts}
use Rattle.machine_laws.specs.Refusals.{refusals, mute, heard as replied, Unmoved, earlier}
use Rattle.machine_laws.specs.Replies.{heard}
use Rattle.machine_laws.specs.Rooms.{lent}
use Rattle.machine_laws.proofs.Lists.{sub_length}

-- ---- lists

pub counted_twice : map (λ i. count i (2 ∷ 3 ∷ 2 ∷ [])) (2 ∷ 3 ∷ 4 ∷ []) ≡ 2 ∷ 1 ∷ 0 ∷ []
unfolding count
counted_twice = refl

-- ---- Refusals

-- every number with which an operation may be refused is one, and no other
abbrev operations : List Op
operations = OPEN ∷ CLOSE ∷ ABORT ∷ EVENT CYCLE_ENDED ∷ COMMAND CMD_WRITE ∷ []

pub refusals_all : all (λ o. all (λ e. among e refusals) (steps o)) operations ≡ true
unfolding machine steps
refusals_all = refl

pub refusals_no_other : all (λ e. any (λ o. among e (steps o)) operations) refusals ≡ true
unfolding machine steps
refusals_no_other = refl

-- each is mute or replied, and the mute ones are those of "is also replied if .. it wasn't refused with 1 to 5", and 8
pub refusals_parted : refusals ≡ mute ++ replied
refusals_parted = refl

pub mute_quiet : mute ≡ quiet
mute_quiet = refl

-- the tests before those of the combinations are the steps before -4 and -5, and no test of a combination
pub earlier_open : (c : Call) (s : State) → map (λ t. t.1) (earlier OPEN c s) ++ (BADLENGTH ∷ BADADDRESS ∷ OPENFAIL ∷ []) ≡ steps OPEN
unfolding steps
earlier_open c s = refl

pub earlier_allocate : (c : Call) (s : State)
    → map (λ t. t.1) (earlier (COMMAND ADCMD_ALLOCATE) c s) ++ (BADLENGTH ∷ BADADDRESS ∷ BADLENGTH ∷ []) ≡ steps (COMMAND ADCMD_ALLOCATE)
unfolding steps
earlier_allocate c s = refl

-- an OPEN that is answered -11 and tells somebody, or moves something, is not unmoved
abbrev failing : State → Outcome
failing s = gets (says false ALLOCFAILED 0 0 255) [] s

pub telling_moves : (s : State) → Unmoved s (gets (says false ALLOCFAILED 0 0 255) (reply 5 13 0 0 1 ∷ []) s) → ⊥
telling_moves s u = let e : ◌≡◌ {A = ℕ} 1 0 = ap length (u refl).1 in absurd (omega arith)

pub opening-moves : Unmoved (stands [] [] [] [] [] 1) (failing (stands [] [] [] [] [] 2)) → ⊥
opening-moves u = let e : ◌≡◌ {A = ℕ} 2 1 = ap (λ (s : State). s.last) (u refl).0 in absurd (omega arith)

-- ---- Replies

pub heard_all : heard (reply 2 3 0 0 1 ∷ reply 9 32 0 1 7 ∷ reply 2 3 254 0 1 ∷ []) ≡ 2 ∷ 9 ∷ 2 ∷ []
heard_all = refl

-- ---- Rooms

pub lent_room : (n : ℕ) → lent n (asks OPEN 2 1 3 128 7 (1 ∷ []) 64) ≡ asks OPEN 2 1 3 128 7 (1 ∷ []) n
lent_room n = refl

-- ---- Choosing, Settling

-- of precedence P, allocated; below it; free
pub strong-told : map (strong 138) (chan 1 138 false false [] ∷ chan 1 137 false false [] ∷ free ∷ []) ≡ true ∷ false ∷ false ∷ []
unfolding machine strong
strong-told = refl

pub held_not_spared : Spares 138 (chan 1 138 true false [] ∷ []) (held 1) → ⊥
unfolding machine strong
held_not_spared t = t

pub granted_not_spared : Spares 138 (chan 1 138 false false [] ∷ []) (grants 1) → ⊥
unfolding machine strong
granted_not_spared t = t

pub taken_not_kept : Kept 138 (chan 1 138 false false [] ∷ []) (chan 2 139 false false [] ∷ []) → ⊥
unfolding machine strong
taken_not_kept k = let e : ◌≡◌ {A = ℕ} 2 1 = ap (λ (c : Channel). c.key) (k.0 tt) in absurd (omega arith)

pub above_not_le : AllLe 138 (wait 9 0 138 false [] ∷ wait 8 0 139 false [] ∷ []) → ⊥
above_not_le a = let h : 139 ≤ 138 = a.1.0 in absurd (omega arith)

-- who waits: a state of one channel, with locks and waiting requests
abbrev waited : Channel → List Lock → List Request → State
waited c ls rs = stands (c ∷ []) ls [] rs (1 ∷ []) 1

-- "Failing without: stays"
pub patient_rests : AtRest (waited (chan 1 138 false false []) [] (wait 9 0 128 false (1 ∷ []) ∷ []))
unfolding machine
patient_rests = (tt, tt)

-- "Failing with NOWAIT: reply -11 and drop"
pub impatient_stirs : AtRest (waited (chan 1 138 false false []) [] (wait 9 0 128 true (1 ∷ []) ∷ [])) → ⊥
unfolding machine
impatient_stirs a = a.0

-- so does one behind another that stays
pub second_stirs : AtRest (waited (chan 1 138 false false []) [] (wait 9 0 128 false (1 ∷ []) ∷ wait 8 0 128 true (1 ∷ []) ∷ [])) → ⊥
unfolding machine
second_stirs a = a.1.0

-- one that is held rests beside a channel that is locked by nobody any more, and not beside an outstanding lock
pub held_rests : AtRest (waited (chan 1 128 true false []) [] (wait 9 0 138 true (1 ∷ []) ∷ []))
unfolding machine
held_rests = (tt, tt)

pub lock_stirs : AtRest (waited (chan 1 128 true false []) (lock 5 1 1 ∷ []) (wait 9 0 138 true (1 ∷ []) ∷ [])) → ⊥
unfolding machine
lock_stirs a = a.0

pub granted_stirs : AtRest (waited free [] (wait 9 0 128 false (1 ∷ []) ∷ [])) → ⊥
unfolding machine
granted_stirs a = a.0

-- ---- Keeping

abbrev writing : List ℕ → Call
writing ms = asks (COMMAND CMD_WRITE) 2 0 1 128 1 ms 64

pub most_cycles : Counted (COMMAND CMD_WRITE) (writing (255 ∷ 255 ∷ 0 ∷ 0 ∷ 124 ∷ 64 ∷ []))
unfolding machine
most_cycles _ = omega arith

pub more_cycles : Counted (COMMAND CMD_WRITE) (writing (256 ∷ 0 ∷ 0 ∷ 0 ∷ 124 ∷ 64 ∷ [])) → ⊥
unfolding machine
more_cycles h = let e : 65536 ≤ 65535 = h refl in absurd (omega arith)

pub others-counted : (c : Call) → Counted (COMMAND CMD_FLUSH) c
others-counted c e = absurd (let z : ◌≡◌ {A = ℕ} 8 3 = cc in omega arith)

-- ---- Cutting

-- key 1 has channels 0 and 1, with write 2 on 0; key 7 has channel 2, with write 3. The call names channels 0 and 1, or would take 2
abbrev playing : State
playing =
    stands (chan 1 138 false false (plays 2 1 124 64 ∷ []) ∷ chan 1 138 false false [] ∷ chan 7 128 false false (plays 3 1 124 64 ∷ []) ∷ free ∷ [])
    [] [] [] (1 ∷ 7 ∷ []) 7

abbrev asking : ℕ → Call
asking f = asks OPEN 2 f 3 148 1 (4 ∷ []) 64

abbrev kinds : List Kind
kinds = RESET ∷ READ ∷ WRITE ∷ UPDATE ∷ CLEAR ∷ STOP ∷ START ∷ FLUSH ∷ FREE ∷ SETPREC ∷ FINISH ∷ PERVOL ∷ LOCK ∷ WAITCYCLE ∷ ALLOCATE ∷ UNKNOWN ∷ []

pub kinds_cut : map (λ k. kind_cut k (asking 0) playing) kinds ≡ 3 ∷ 0 ∷ 0 ∷ 0 ∷ 0 ∷ 0 ∷ 0 ∷ 3 ∷ 3 ∷ 0 ∷ 1 ∷ 0 ∷ 0 ∷ 0 ∷ 4 ∷ 0 ∷ []
unfolding machine kind_cut
kinds_cut = refl

-- "A synced FINISH or PERVOL is remembered until the cycle ends"
pub synced-cuts : kind_cut FINISH (asking 32) playing ≡ 0
unfolding machine kind_cut
synced-cuts = refl

pub operations_cut : map (λ o. cut_by o (asking 0) playing) (OPEN ∷ CLOSE ∷ ABORT ∷ EVENT CYCLE_ENDED ∷ EVENT GAVE_UP ∷ COMMAND CMD_FLUSH ∷ []) ≡ 4 ∷ 3 ∷ 1 ∷ 0 ∷ 1 ∷ 3 ∷ []
unfolding machine kind_cut cut_by
operations_cut = refl

-- a WAITCYCLE with another key than its channel's, for a channel without a write, for two channels
pub other_key_not : Stands (chan 1 138 false false (plays 2 1 124 64 ∷ []) ∷ []) (lock 9 7 1) → ⊥
unfolding machine
other_key_not s = let h = s.inside in let z : s.place ≡ 0 = omega (arith, h) in let e : ◌≡◌ {A = ℕ} 1 7 = rw z at s.key in absurd (omega arith)

pub idle-channel_not : Stands (chan 1 138 false false [] ∷ []) (lock 9 1 1) → ⊥
unfolding machine
idle-channel_not s = let h = s.inside in let z : s.place ≡ 0 = omega (arith, h) in let e : 0 < 0 = rw z at s.write in absurd (omega arith)

pub two_channels_not : (cs : List Channel) → 2 ≤ length cs → Stands cs (lock 9 1 3) → ⊥
two_channels_not cs l s =
    let a : 0 ≡ s.place = s.alone 0 (omega arith) refl in
    let b : 1 ≡ s.place = s.alone 1 (omega arith) refl in
    absurd (omega arith)

-- who waits for channel 0 of `playing`, and is not told; who is told, and still waits
pub untold_not_cut : Cuts 1 (stands playing.channels [] (lock 9 1 1 ∷ []) [] [] 7) (gets (says false 0 0 0 255) [] playing) → ⊥
unfolding machine
untold_not_cut c = let h = sub_length c.told in let e : 1 ≤ 0 = h in absurd (omega arith)

pub waiting_not_cut : Cuts 1 playing (gets (says false 0 0 0 255) [] (stands playing.channels [] (lock 9 1 1 ∷ []) [] [] 7)) → ⊥
unfolding machine
waiting_not_cut c = c.left

-- ---- Fronts

-- another front write on a channel that is named, and on one that is not
pub another_front : SameFronts 1 (chan 1 138 false false (plays 2 1 124 64 ∷ []) ∷ []) (chan 1 138 false false (plays 3 1 124 64 ∷ []) ∷ []) → ⊥
unfolding machine
another_front h = let e : ◌≡◌ {A = ℕ} 3 2 = h 0 (omega arith) refl in absurd (omega arith)

pub second_front : (cs ds : List Channel) (v w : Lock) → AllFronts cs ds (v ∷ w ∷ []) → SameFronts w.map cs ds
second_front cs ds v w a = a.1.0
