-- The K party's part of a state, and what stays true between the calls of a run: every state of a run is sound, has an
-- entry for K, and fits the party; so each call sees a state like the first. Definitions that only the proofs
-- need, and their first laws.
-- Assumes nothing.
--
--   project_out p o     its part of an outcome: the answer, the replies to its ids, its part of the next state
--   fitting_lock p l    a lock or a WAITCYCLE has an id of the party's exactly if it has K
--   Ready p s          all of it, in a sound state with an entry for K
--   allowed, modestly  what the premises leave of a command of the K party's, and of the others', by its kind
--   Ours, Theirs       the premises about one call, of an operation o
use Prim.Native.Nat.{◌≤◌, suc, ℕ}
use mathlib.Core.Path.{◌≡◌, refl, subst}
use mathlib.Core.Bool.{Bool, ◌&&◌, ◌||◌, false, not, true}
use mathlib.Core.List.{List, [], ◌∷◌, map}
use lib.Dec.{T, T_not, eqb, eqb→eq, leb}
use Rattle.machine_laws.specs.machine.Numbers.{ADCMD_ALLOCATE, ADCMD_FREE, ADCMD_SETPREC}
use Rattle.std.specs.Prelude.{if◌then◌else◌}
use Rattle.machine_laws.specs.machine.Lists.{all, among}
use Rattle.machine_laws.specs.machine.State.{COMMAND, Call, Channel, Lock, Op, Outcome, Reply, State, free}
use Rattle.machine_laws.specs.machine.Commands.{matching}
use Rattle.machine_laws.specs.machine.Kinds.{ALLOCATE, CLEAR, FLUSH, FREE, Kind, LOCK, READ, RESET, SETPREC, START, STOP, FINISH, PERVOL, WAITCYCLE, UNKNOWN, UPDATE, WRITE, kind}
use Rattle.machine_laws.specs.machine.Refusals.{accepted, refusal}
use Rattle.machine_laws.specs.machine.Sound.{sound}
use Rattle.machine_laws.proofs.machine.Tests.{and_left, and_right, by_test, if_elim, or_named, test_false, test_true}
use Rattle.machine_laws.proofs.Lists.{keep_twice}
use Rattle.two_runs.specs.TwoRuns.{Party, avoids, holds, keeps_floor, mask, may_send, modest, own_replies, selected, sets, view, waiters_of}
unfoldable pub use Rattle.two_runs.specs.Part.{own_locks, project}
use Rattle.two_runs.specs.Core.{OfK, OfOthers, may_also, of_party}
use Rattle.two_runs.specs.Part.{fitting, lower}

-- ---- the part

unfoldable pub project_out : Party → Outcome → Outcome
project_out p o = record { answer = o.answer; replies = own_replies p o.replies; next = project p o.next }

-- ---- between the calls

unfoldable pub fitting_lock : Party → Lock → Bool
fitting_lock p l = if eqb l.key p.key then p.mine l.id else not (p.mine l.id)

pub record Ready (p : Party) (s : State) : Type 0 where
  pub sane : T (sound s)
  pub real : T (not (eqb p.key 0))
  pub entered : T (among p.key s.opens)
  pub fit : T (all (fitting p) s.channels)
  pub fit_locks : T (all (fitting_lock p) s.locks)
  pub fit_waiters : T (all (fitting_lock p) s.waiters)
  pub low : T (all (lower p) s.waiting)

-- ---- one call

pub record Ours (p : Party) (s : State) (o : Op) (c : Call) : Type 0 where
  pub party : T (of_party p o c s)
  pub sends : T (may_also o || may_send o)
  pub high : T (keeps_floor p o c s)

pub record Theirs (p : Party) (s : State) (o : Op) (c : Call) : Type 0 where
  pub apart : T (avoids p o c s)
  pub low : T (modest p o c)

pub ours_of : (p : Party) (s : State) (c : Call) → OfK p s c → Ours p s c.op c
ours_of p s c k = record { party = k.party; sends = k.sends; high = k.high }

pub theirs_of : (p : Party) (s : State) (c : Call) → OfOthers p s c → Theirs p s c.op c
theirs_of p s c k = record { apart = k.apart; low = k.low }

unfoldable pub allowed : Party → Kind → Call → State → Bool
allowed p RESET c s = true
allowed p READ c s = true
allowed p WRITE c s = true
allowed p UPDATE c s = true
allowed p CLEAR c s = true
allowed p STOP c s = true
allowed p START c s = true
allowed p FLUSH c s = true
allowed p FREE c s = true
allowed p SETPREC c s = leb p.floor c.prec || eqb (matching c.key c.map s.channels) 0
allowed p FINISH c s = true
allowed p PERVOL c s = true
allowed p LOCK c s = true
allowed p WAITCYCLE c s = true
allowed p ALLOCATE c s = false
allowed p UNKNOWN c s = true

unfoldable pub modestly : Party → Kind → Call → Bool
modestly p RESET c = true
modestly p READ c = true
modestly p WRITE c = true
modestly p UPDATE c = true
modestly p CLEAR c = true
modestly p STOP c = true
modestly p START c = true
modestly p FLUSH c = true
modestly p FREE c = true
modestly p SETPREC c = true
modestly p FINISH c = true
modestly p PERVOL c = true
modestly p LOCK c = true
modestly p WAITCYCLE c = true
modestly p ALLOCATE c = leb c.prec p.floor
modestly p UNKNOWN c = true

-- the kind of a number, by the tests that `kind` makes
kind_elim : (P : Kind → Type 0) (n : ℕ) → P RESET → P READ → P WRITE → P UPDATE → P CLEAR → P STOP → P START → P FLUSH
    → (T (eqb n ADCMD_FREE) → P FREE) → (T (eqb n ADCMD_SETPREC) → P SETPREC) → P FINISH → P PERVOL → P LOCK → P WAITCYCLE
    → (T (eqb n ADCMD_ALLOCATE) → P ALLOCATE) → P UNKNOWN
    → P (kind n)
unfolding kind
kind_elim P n a b d e f g h i j k q r l w m o =
    if_elim P (eqb n 1) (λ _. a) (λ _. if_elim P (eqb n 2) (λ _. b) (λ _. if_elim P (eqb n 3) (λ _. d) (λ _. if_elim P (eqb n 4) (λ _. e)
    (λ _. if_elim P (eqb n 5) (λ _. f) (λ _. if_elim P (eqb n 6) (λ _. g) (λ _. if_elim P (eqb n 7) (λ _. h) (λ _. if_elim P (eqb n 8) (λ _. i)
    (λ _. if_elim P (eqb n 9) j (λ _. if_elim P (eqb n 10) k (λ _. if_elim P (eqb n 11) (λ _. q) (λ _. if_elim P (eqb n 12) (λ _. r)
    (λ _. if_elim P (eqb n 13) (λ _. l) (λ _. if_elim P (eqb n 14) (λ _. w) (λ _. if_elim P (eqb n 32) m (λ _. o)))))))))))))))

-- a SETPREC that is not refused sets the precedence of the channels that match
setprec-sets : (n : ℕ) (c : Call) (s : State) → T (eqb n ADCMD_SETPREC) → refusal (COMMAND n) c s ≡ accepted → sets c s ≡ matching c.key c.map s.channels
unfolding sets selected
setprec-sets n c s t e = rw (subst (λ (x : ℕ). refusal (COMMAND x) c s ≡ accepted) (eqb→eq n ADCMD_SETPREC t) e)

no_allocate : (n : ℕ) → T (eqb n ADCMD_FREE || (not (eqb n ADCMD_ALLOCATE) && not (eqb n ADCMD_FREE))) → T (eqb n ADCMD_ALLOCATE) → ⊥
no_allocate n t u = go (subst (λ (x : ℕ). T (eqb x ADCMD_FREE || (not (eqb x ADCMD_ALLOCATE) && not (eqb x ADCMD_FREE)))) (eqb→eq n ADCMD_ALLOCATE u) t)
  where
    go : T (eqb 32 9 || (not (eqb 32 32) && not (eqb 32 9))) → ⊥
    go v = v

pub allowed-kind : (p : Party) (s : State) (n : ℕ) (c : Call) → Ours p s (COMMAND n) c → refusal (COMMAND n) c s ≡ accepted → T (allowed p (kind n) c s)
unfolding allowed may_send may_also keeps_floor
allowed-kind p s n c k e =
    kind_elim (λ x. T (allowed p x c s)) n tt tt tt tt tt tt tt tt
    (λ _. tt)
    (λ t. subst (λ (x : ℕ). T (leb p.floor c.prec || eqb x 0)) (setprec-sets n c s t e)
    (or_named (eqb n ADCMD_SETPREC) (leb p.floor c.prec || eqb (sets c s) 0) k.high t))
    tt
    tt
    tt
    tt
    (λ t. no_allocate n k.sends t)
    tt

pub modest-kind : (p : Party) (n : ℕ) (c : Call) → T (modest p (COMMAND n) c) → T (modestly p (kind n) c)
unfolding modestly modest
modest-kind p n c m =
    kind_elim (λ x. T (modestly p x c)) n tt tt tt tt tt tt tt tt (λ _. tt) (λ _. tt) tt tt tt tt (or_named (eqb n ADCMD_ALLOCATE) (leb c.prec p.floor) m) tt

-- ---- the part of a part

mask_twice : (p : Party) (c : Channel) → mask p (mask p c) ≡ mask p c
unfolding mask
mask_twice p c =
    by_test (holds p c)
    (λ t. simp (test_true (holds p c) t))
    (λ t. simp (test_false (holds p c) t) (if_elim (λ (d : Channel). d ≡ free) (holds p free) (λ _. refl) (λ _. refl)))

map_twice : (p : Party) (cs : List Channel) → map (mask p) (map (mask p) cs) ≡ map (mask p) cs
map_twice p [] = refl
map_twice p (c ∷ cs) = rw (mask_twice p c, map_twice p cs)

pub view_part : (p : Party) (s : State) → view p (project p s) ≡ view p s
unfolding view project
view_part p s = map_twice p s.channels

pub waiters_part : (p : Party) (s : State) → waiters_of p (project p s) ≡ waiters_of p s
unfolding waiters_of project own_locks
waiters_part p s = keep_twice (λ (w : Lock). eqb w.key p.key) s.waiters

pub own_replies_twice : (p : Party) (rs : List Reply) → own_replies p (own_replies p rs) ≡ own_replies p rs
unfolding own_replies
own_replies_twice p rs = keep_twice (λ (r : Reply). p.mine r.id) rs
