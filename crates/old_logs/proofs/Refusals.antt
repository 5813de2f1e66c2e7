-- A call is refused as it was, and never with 8. Assumes that it is an old one: no command 11, 12 or 14, and no WRITE with numbers.
use Prim.Native.Nat.{ℕ, suc}
use native.Mathlib.Omega.{arith}
use mathlib.Core.Path.{◌≡◌, refl, ap}
use mathlib.Core.Bool.{Bool, true, false, not, ◌&&◌, cond}
use mathlib.Core.List.{List, [], ◌∷◌}
use lib.Dec.{T, eqb, eqb→eq, eqb_refl, leb}
use lib.ListN.{length}
use Rattle.machine.specs.Numbers.{NOROOM, OTHERDESK, NONE, CMD_WRITE, ADCMD_FINISH, ADCMD_PERVOL, ADCMD_WAITCYCLE}
use Rattle.std.specs.Prelude.{if◌then◌else◌}
use Rattle.machine.specs.State.{ABORT, COMMAND}
use Rattle.machine.specs.Desks.{desk_of, foreign}
use Rattle.machine.specs.Commands.{done, silent, period_in, volume_in}
use Rattle.machine.specs.Kinds.{Kind, RESET, READ, WRITE, UPDATE, CLEAR, STOP, START, FLUSH, FREE, SETPREC, LOCK, ALLOCATE, UNKNOWN, kind, unknown, allocates, carries}
use Rattle.machine.specs.Refusals.{Refusal, accepted, refused, first, bad_list, bad_maps, bad_map, bad_numbers, refusal, refuse}
use Rattle.machine.proofs.Tests.{by_test, test_true, test_false, eqb_false}
use Rattle.old_logs.specs.Old
use Rattle.old_logs.specs.Now.{now, now_op, now_call, now_outcome}
use Rattle.old_logs.specs.OldLogs.{old_command, old_op}
use Rattle.old_logs.proofs.Lists.{if_out, if_as}
use Rattle.old_logs.proofs.Maps.{length-now}
use Rattle.old_logs.proofs.Commands.{finished-now}
use Rattle.old_logs.proofs.Sound.{ids-now, sound-now}

-- ---- commands

abbrev pub now_kind : Old.Kind → Kind
now_kind Old.RESET = RESET
now_kind Old.READ = READ
now_kind Old.WRITE = WRITE
now_kind Old.UPDATE = UPDATE
now_kind Old.CLEAR = CLEAR
now_kind Old.STOP = STOP
now_kind Old.START = START
now_kind Old.FLUSH = FLUSH
now_kind Old.FREE = FREE
now_kind Old.SETPREC = SETPREC
now_kind Old.LOCK = LOCK
now_kind Old.ALLOCATE = ALLOCATE
now_kind Old.UNKNOWN = UNKNOWN

-- what a command of an old log is
pub record OldCommand (n : ℕ) (ms : List ℕ) : Type 0 where
  pub no_finish : eqb n ADCMD_FINISH ≡ false
  pub no_pervol : eqb n ADCMD_PERVOL ≡ false
  pub no_waitcycle : eqb n ADCMD_WAITCYCLE ≡ false
  pub no_numbers : T (eqb n CMD_WRITE) → T (eqb (length ms) 0)

-- at each number in turn the test is closed, and computes
pub old_command_lem : (n : ℕ) (ms : List ℕ) → T (old_command n ms) → OldCommand n ms
unfolding old_command
old_command_lem n ms t =
    record {
      no_finish = eqb_false n ADCMD_FINISH (λ e. rw e at t);
      no_pervol = eqb_false n ADCMD_PERVOL (λ e. rw e at t);
      no_waitcycle = eqb_false n ADCMD_WAITCYCLE (λ e. rw e at t);
      no_numbers = λ u. rw (eqb→eq n CMD_WRITE u) at t;
    }

pub kind-now : (n : ℕ) (ms : List ℕ) → OldCommand n ms → kind n ≡ now_kind (Old.kind n)
unfolding kind Old.kind
kind-now n ms o = rw (o.no_finish, o.no_pervol, o.no_waitcycle) (simp (← if_out now_kind))

unknown-now : (k : Old.Kind) → unknown (now_kind k) ≡ Old.unknown k
unfolding unknown Old.unknown
unknown-now Old.RESET = refl
unknown-now Old.READ = refl
unknown-now Old.WRITE = refl
unknown-now Old.UPDATE = refl
unknown-now Old.CLEAR = refl
unknown-now Old.STOP = refl
unknown-now Old.START = refl
unknown-now Old.FLUSH = refl
unknown-now Old.FREE = refl
unknown-now Old.SETPREC = refl
unknown-now Old.LOCK = refl
unknown-now Old.ALLOCATE = refl
unknown-now Old.UNKNOWN = refl

allocates-now : (k : Old.Kind) → allocates (now_kind k) ≡ Old.allocates k
unfolding allocates Old.allocates
allocates-now Old.RESET = refl
allocates-now Old.READ = refl
allocates-now Old.WRITE = refl
allocates-now Old.UPDATE = refl
allocates-now Old.CLEAR = refl
allocates-now Old.STOP = refl
allocates-now Old.START = refl
allocates-now Old.FLUSH = refl
allocates-now Old.FREE = refl
allocates-now Old.SETPREC = refl
allocates-now Old.LOCK = refl
allocates-now Old.ALLOCATE = refl
allocates-now Old.UNKNOWN = refl

-- ---- only a WRITE carries numbers, and it has none

none_left : (ms : List ℕ) → T (eqb (length ms) 0) → ms ≡ []
none_left [] t = refl
none_left (m ∷ ms) t = let e : suc (length ms) ≡ 0 = eqb→eq (suc (length ms)) 0 t in absurd (omega arith)

if_same {ℓ} : {A : Type ℓ} (b : Bool) (x : A) → cond b x x ≡ x
if_same true x = refl
if_same false x = refl

only_write_carries : (n : ℕ) (ms : List ℕ) → OldCommand n ms → T (not (eqb n CMD_WRITE)) → carries (kind n) ≡ false
unfolding kind carries
only_write_carries n ms o t = rw (test_false (eqb n CMD_WRITE) t, o.no_finish, o.no_pervol, o.no_waitcycle) (simp (← if_out carries, if_same))

pub carries_none : (n : ℕ) (ms : List ℕ) → OldCommand n ms → T (carries (kind n)) → ms ≡ []
carries_none n ms o t =
    by_test (eqb n CMD_WRITE)
    (λ u. none_left ms (o.no_numbers u))
    (λ u. absurd (rw (only_write_carries n ms o u) at t))

and_not : (a b : Bool) → (T a → b ≡ false) → a && b ≡ false
and_not true b e = e tt
and_not false b e = refl

no_bad_numbers : (n : ℕ) (c : Old.Call) → OldCommand n c.combos → carries (kind n) && bad_numbers (now_call c) ≡ false
unfolding bad_numbers period_in volume_in
no_bad_numbers n c o = and_not (carries (kind n)) (bad_numbers (now_call c)) (λ t. rw (carries_none n c.combos o t))

-- ---- the tests, in their order

abbrev pub now_refusal : Old.Refusal → Refusal
now_refusal Old.accepted = accepted
now_refusal (Old.refused e) = refused e

first_now : (ts : List (Bool × ℕ)) → first ts ≡ now_refusal (Old.first ts)
unfolding first Old.first
first_now [] = refl
first_now (t ∷ ts) = rw (first_now ts) (if_out now_refusal t.0 (Old.refused t.1) (Old.first ts))

bad_maps-now : (c : Old.Call) (s : Old.State) → bad_maps (now_call c) (now s) ≡ Old.bad_maps c s
unfolding bad_maps Old.bad_maps
bad_maps-now c s = rw (length-now s.channels)

bad_map-now : (c : Old.Call) (s : Old.State) → bad_map (now_call c) (now s) ≡ Old.bad_map c s
unfolding bad_map Old.bad_map
bad_map-now c s = rw (length-now s.channels)

-- #109: a call of a log is its id's desk's
never_foreign : (c : Old.Call) → foreign (now_call c) ≡ false
unfolding foreign
never_foreign c = ap not (test_true (eqb (desk_of c.id) (desk_of c.id)) (eqb_refl (desk_of c.id)))

-- a test that is not met says nothing
command-now : (n : ℕ) (c : Old.Call) (s : Old.State) → OldCommand n c.combos → refusal (COMMAND n) (now_call c) (now s) ≡ now_refusal (Old.refusal (Old.COMMAND n) c s)
unfolding refusal bad_list first Old.refusal Old.bad_list Old.first
command-now n c s o =
    let k = Old.kind n in
    rw (no_bad_numbers n c o, never_foreign c, sound-now s, ids-now s, bad_maps-now c s, bad_map-now c s, kind-now n c.combos o, unknown-now k, allocates-now k)
    (simp (← if_out now_refusal))

abort_now : (c : Old.Call) (s : Old.State) → refusal ABORT (now_call c) (now s) ≡ now_refusal (Old.refusal Old.ABORT c s)
unfolding refusal first Old.refusal Old.first
abort_now c s = rw (never_foreign c, sound-now s) (simp (← if_out now_refusal))

pub refusal-now : (op : Old.Op) (c : Old.Call) (s : Old.State) → T (old_op (now_op op) c.combos) → refusal (now_op op) (now_call c) (now s) ≡ now_refusal (Old.refusal op c s)
unfolding refusal bad_list Old.refusal Old.bad_list
refusal-now Old.OPEN c s t = rw (sound-now s, bad_maps-now c s) (first_now _)
refusal-now Old.CLOSE c s t = rw (sound-now s) (first_now _)
refusal-now Old.ABORT c s t = abort_now c s
refusal-now Old.EVENT c s t = rw (sound-now s, bad_map-now c s) (first_now _)
refusal-now (Old.COMMAND n) c s t = command-now n c s (old_command_lem n c.combos (unfold old_op in t))

-- none of the numbers 6 to 8 was given: those up to 8 that now go without a reply are those up to 5 that did
abbrev pub Silent : Old.Refusal → Type 0
Silent Old.accepted = Unit {0}
Silent (Old.refused e) = leb e OTHERDESK ≡ leb e NOROOM

abbrev Silents : List (Bool × ℕ) → Type 0
Silents [] = Unit {0}
Silents (t ∷ ts) = (leb t.1 OTHERDESK ≡ leb t.1 NOROOM) × Silents ts

first_silent : (ts : List (Bool × ℕ)) → Silents ts → Silent (Old.first ts)
unfolding Old.first
first_silent [] q = tt
first_silent (t ∷ ts) q = go t.0 (first_silent ts q.1)
  where
    go : (b : Bool) → Silent (Old.first ts) → Silent (if b then Old.refused t.1 else Old.first ts)
    go true r = q.0
    go false r = r

pub was_silent : (op : Old.Op) (c : Old.Call) (s : Old.State) → Silent (Old.refusal op c s)
unfolding Old.refusal
was_silent Old.OPEN c s = first_silent _ (refl, (refl, (refl, (refl, (refl, tt)))))
was_silent Old.CLOSE c s = first_silent _ (refl, (refl, (refl, tt)))
was_silent Old.ABORT c s = first_silent _ (refl, (refl, (refl, tt)))
was_silent Old.EVENT c s = first_silent _ (refl, (refl, (refl, tt)))
was_silent (Old.COMMAND n) c s = first_silent _ (refl, (refl, (refl, (refl, (refl, (refl, (refl, (refl, tt))))))))

pub refuse-now : (op : Old.Op) (e : ℕ) (c : Old.Call) (s : Old.State) → leb e OTHERDESK ≡ leb e NOROOM
    → refuse (now_op op) e (now_call c) (now s) ≡ now_outcome (Old.refuse op e c s)
unfolding refuse silent done Old.refuse Old.silent Old.done
refuse-now Old.OPEN e c s q = refl
refuse-now Old.CLOSE e c s q = refl
refuse-now Old.ABORT e c s q = refl
refuse-now Old.EVENT e c s q = refl
refuse-now (Old.COMMAND n) e c s q =
    rw q (if_as now_outcome (leb e NOROOM) (λ _. refl) (λ _. finished-now n c (Old.done e 0 c.key NONE) [] s))
