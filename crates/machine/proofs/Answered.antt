-- Why an answer looks so: each operation ends in `done` with FF, in `pending`, or is READ or ABORT at error 0.
-- Assumes nothing.
use Prim.Native.Nat.{ℕ, zero, suc}
use mathlib.Core.Path.{◌≡◌, refl, ap, subst, sym, ◌∙◌}
use mathlib.Core.Logic.{◌⊎◌, inl, inr}
use mathlib.Core.Bool.{Bool, true, false, not, true≢false}
use mathlib.Core.List.{List, ◌++◌}
use lib.Dec.{T, eqb, leb}
use lib.ListN.{length}
use Rattle.machine.specs.Numbers.{nowait, synced, NOALLOCATION, NONE, OTHERDESK, CMD_READ}
use Rattle.std.specs.Prelude.{if◌then◌else◌}
use Rattle.machine.specs.State.{State, Reply, Answer, Outcome, Call, Op, Event, OPEN, CLOSE, ABORT, EVENT, COMMAND}
use Rattle.machine.specs.Maps.{lowest, at}
use Rattle.machine.specs.Choosing.{Look, fails, held, grants, look}
use Rattle.machine.specs.Granting.{new_key, key_for}
use Rattle.machine.specs.Commands.{matches, mismatch, playing, done, pending, silent, finished, each, each_change, do_free, do_finish, do_pervol, do_lock, do_read, do_write, do_waitcycle, do_event, do_close, do_abort, aborted_by}
use Rattle.machine.specs.Allocating.{waits, allocating, do_allocate, opening, do_open}
use Rattle.machine.specs.Kinds.{Kind, RESET, READ, WRITE, UPDATE, CLEAR, STOP, START, FLUSH, FREE, SETPREC, FINISH, PERVOL, LOCK, WAITCYCLE, ALLOCATE, UNKNOWN, kind, unknown}
use Rattle.machine.specs.Bytes.{number}
use Rattle.machine.specs.Refusals.{Refusal, accepted, refused, refusal, refuse}
use Rattle.machine.specs.Call.{perform, settling, open_settling, accept, answering, call}
use Rattle.machine.specs.Answered.{Answered, LastByte, MapOf}
use Rattle.machine.proofs.Tests.{if_elim, by_test, test_false, test_true}
use Rattle.machine.proofs.Known.{known_by_number}

abbrev Keyed : Call → State → ℕ → ℕ → Type 0
Keyed c s e k = (k ≡ c.key) ⊎ ((c.key ≡ 0) × (e ≡ 0) × (k ≡ new_key s))

-- the key of a grant
granted-key : (k : ℕ) (s : State) → (key_for k s ≡ k) ⊎ ((k ≡ 0) × (◌≡◌ {A = ℕ} 0 0) × (key_for k s ≡ new_key s))
unfolding key_for
granted-key zero s = inr (refl, refl, refl)
granted-key (suc k) s = inl refl

-- ---- the ways in which a call ends

module _ (n : ℕ) (c : Call) (s : State) where
  plain : (e m k : ℕ) → Keyed c s e k → Answered (COMMAND n) c s (done e m k NONE)
  unfolding done LastByte MapOf
  plain e m k h = record { outstanding = λ q. absurd (true≢false (sym q)); key = h; last = inl refl; map = tt }

  given : (e m : ℕ) → Answered (COMMAND n) c s (done e m c.key NONE)
  given e m = plain e m c.key (inl refl)

  waiting : Answered (COMMAND n) c s (pending c.key)
  unfolding pending LastByte MapOf
  waiting = record { outstanding = λ _. refl; key = inl refl; last = inl refl; map = tt }

  read : n ≡ CMD_READ → (m x : ℕ) → Answered (COMMAND n) c s (done 0 m c.key x)
  unfolding done LastByte MapOf
  read e m x = record { outstanding = λ q. absurd (true≢false (sym q)); key = inl refl; last = inr (e, refl); map = tt }

  each_answered : (k : ℕ) (rs : List Reply) (next : State) → Answered (COMMAND n) c s (each k c rs next s).answer
  unfolding each finished
  each_answered k rs next = given _ _

  allocating-answered : (l : Look) → Answered (COMMAND n) c s (allocating l c s).answer
  unfolding allocating waits finished silent
  allocating-answered fails =
      if_elim (λ (o : Outcome). Answered (COMMAND n) c s o.answer) (nowait c.flags) (λ _. given _ _) (λ _. waiting)
  allocating-answered (held m) = waiting
  allocating-answered (grants m) = plain 0 m (key_for c.key s) (granted-key c.key s)

  pub perform-answered : (k : Kind) → (k ≡ READ → n ≡ CMD_READ) → Answered (COMMAND n) c s (perform k c s).answer
  unfolding perform each_change do_free do_finish do_pervol do_lock do_read do_write do_waitcycle do_allocate finished silent
  perform-answered RESET h = each_answered _ _ _
  perform-answered READ h =
      let m = lowest (length s.channels) c.map in
      if_elim (λ (o : Outcome). Answered (COMMAND n) c s o.answer) (matches c.key (at m s.channels))
      (λ _. read (h refl) _ _) (λ _. given _ _)
  perform-answered WRITE h =
      let m = lowest (length s.channels) c.map in
      if_elim (λ (o : Outcome). Answered (COMMAND n) c s o.answer) (matches c.key (at m s.channels))
      (λ _. waiting) (λ _. given _ _)
  perform-answered UPDATE h = each_answered _ _ _
  perform-answered CLEAR h = each_answered _ _ _
  perform-answered STOP h = each_answered _ _ _
  perform-answered START h = each_answered _ _ _
  perform-answered FLUSH h = each_answered _ _ _
  perform-answered FREE h = each_answered _ _ _
  perform-answered SETPREC h = each_answered _ _ _
  perform-answered FINISH h =
      if_elim (λ (o : Outcome). Answered (COMMAND n) c s o.answer) (synced c.flags) (λ _. each_answered _ _ _) (λ _. each_answered _ _ _)
  perform-answered PERVOL h = each_answered _ _ _
  perform-answered LOCK h =
      if_elim (λ (o : Outcome). Answered (COMMAND n) c s o.answer) (mismatch c.key c.map s.channels)
      (λ _. given _ _)
      (λ _. if_elim (λ (o : Outcome). Answered (COMMAND n) c s o.answer) (eqb c.map 0) (λ _. given _ _) (λ _. waiting))
  perform-answered WAITCYCLE h =
      let m = lowest (length s.channels) c.map in
      if_elim (λ (o : Outcome). Answered (COMMAND n) c s o.answer) (not (matches c.key (at m s.channels)))
      (λ _. given _ _)
      (λ _. if_elim (λ (o : Outcome). Answered (COMMAND n) c s o.answer) (playing (at m s.channels)) (λ _. waiting) (λ _. given _ _))
  perform-answered ALLOCATE h = allocating-answered (look c.prec c.combos s.channels)
  perform-answered UNKNOWN h = given _ _

-- the number of READ is 2
reading : (n : ℕ) (k : Kind) → kind n ≡ k → k ≡ READ → n ≡ CMD_READ
unfolding number unknown
reading n k e f =
    let is : kind n ≡ READ = e ∙ f in
    sym (known_by_number n (subst (λ (j : Kind). T (not (unknown j))) (sym is) tt)) ∙ ap number is

-- ---- a call

opening-answered : (l : Look) (c : Call) (s : State) → Answered OPEN c s (open_settling (opening l c s)).answer
unfolding opening open_settling settling silent done LastByte MapOf
opening-answered fails c s = record { outstanding = λ q. absurd (true≢false (sym q)); key = inl refl; last = refl; map = tt }
opening-answered (held m) c s = record { outstanding = λ q. absurd (true≢false (sym q)); key = inl refl; last = refl; map = tt }
opening-answered (grants m) c s =
    record { outstanding = λ q. absurd (true≢false (sym q)); key = granted-key c.key s; last = refl; map = tt }

event_answered : (v : Event) (b : Bool) (c : Call) (s t u : State) (m : ℕ) (rs ts : List Reply)
    → Answered (EVENT v) c s (if b then silent (done 0 m c.key NONE) rs t else silent (done 0 0 c.key NONE) ts u).answer
unfolding silent done LastByte MapOf
event_answered v true c s t u m rs ts = record { outstanding = λ q. absurd (true≢false (sym q)); key = inl refl; last = refl; map = tt }
event_answered v false c s t u m rs ts = record { outstanding = λ q. absurd (true≢false (sym q)); key = inl refl; last = refl; map = tt }

mark : (b : Bool) → (◌≡◌ {A = ℕ} (if b then 0 else 1) 0) ⊎ (◌≡◌ {A = ℕ} (if b then 0 else 1) 1)
mark true = inl refl
mark false = inr refl

accept-answered : (o : Op) (c : Call) (s : State) → Answered o c s (accept o c s).answer
unfolding accept settling do_open do_close do_abort do_event silent done LastByte MapOf
accept-answered OPEN c s = opening-answered (look c.prec c.combos s.channels) c s
accept-answered CLOSE c s = record { outstanding = λ q. absurd (true≢false (sym q)); key = inl refl; last = refl; map = refl }
accept-answered ABORT c s =
    record {
      outstanding = λ q. absurd (true≢false (sym q));
      key = inl refl;
      last = inr (refl, mark (eqb (length (aborted_by c.id s)) 0));
      map = refl;
    }
accept-answered (EVENT v) c s = event_answered v (playing (at (lowest (length s.channels) c.map) s.channels)) c s _ _ _ _ _
accept-answered (COMMAND n) c s = perform-answered n c s (kind n) (reading n (kind n) refl)

refuse-answered : (o : Op) (e : ℕ) (c : Call) (s : State) → Answered o c s (refuse o e c s).answer
unfolding refuse silent finished done LastByte MapOf
refuse-answered OPEN e c s = record { outstanding = λ q. absurd (true≢false (sym q)); key = inl refl; last = refl; map = tt }
refuse-answered CLOSE e c s = record { outstanding = λ q. absurd (true≢false (sym q)); key = inl refl; last = refl; map = refl }
refuse-answered ABORT e c s = record { outstanding = λ q. absurd (true≢false (sym q)); key = inl refl; last = inl refl; map = refl }
refuse-answered (EVENT v) e c s = record { outstanding = λ q. absurd (true≢false (sym q)); key = inl refl; last = refl; map = tt }
refuse-answered (COMMAND n) e c s =
    if_elim (λ (o : Outcome). Answered (COMMAND n) c s o.answer) (leb e OTHERDESK) (λ _. given n c s e 0) (λ _. given n c s e 0)

pub call-answered : (s : State) (c : Call) → Answered c.op c s (call s c).answer
unfolding call answering
call-answered s c = go (refusal c.op c s)
  where
    go : (r : Refusal) → Answered c.op c s (answering r c s).answer
    go accepted = accept-answered c.op c s
    go (refused e) = refuse-answered c.op e c s
