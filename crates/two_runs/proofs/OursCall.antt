-- Any call of the K party does to its part what it does to the state, refused or accepted: the tests that refuse it come out the
-- same, since part and state are both sound and open, are of one length and have the same ids of the party's outstanding.
-- Assumes nothing.
use Rattle.machine_laws.proofs.OpenKeys.{not_empty}
use Prim.Native.Nat.{◌^◌, ◌≤◌, suc, zero, ℕ}
use mathlib.Core.Path.{◌∙◌, ◌≡◌, refl, sym}
use mathlib.Core.Bool.{Bool, false, not, true}
use mathlib.Core.List.{[]}
use native.Mathlib.Omega.{arith}
use lib.Dec.{T, eqb, eqb→eq, leb, leb→le, ltb}
use lib.ListN.{length, length-map}
use Rattle.std.specs.Prelude.{if◌then◌else◌}
use Rattle.machine_laws.specs.machine.Lists.{all, among}
use Rattle.machine_laws.specs.machine.State.{ABORT, CLOSE, COMMAND, Call, EVENT, Event, OPEN, Op, State}
use Rattle.machine_laws.specs.machine.Maps.{at, lowest}
use Rattle.machine_laws.specs.machine.Commands.{do_abort, do_event, done, finished, flushed, reset, same, set_stop, silent}
use Rattle.machine_laws.specs.machine.Call.{accept, answering, call, perform, settling}
use Rattle.machine_laws.specs.machine.Kinds.{ALLOCATE, CLEAR, FLUSH, FREE, Kind, LOCK, READ, RESET, SETPREC, START, STOP, FINISH, PERVOL, WAITCYCLE, UNKNOWN, UPDATE, WRITE, allocates, kind, unknown}
use Rattle.machine_laws.specs.machine.Refusals.{Refusal, accepted, bad_map, bad_maps, refusal, refuse, refused}
use Rattle.machine_laws.specs.machine.Sound.{sound}
use Rattle.machine_laws.proofs.machine.Tests.{and_left, and_right, by_test, test_false, test_true}
use Rattle.machine_laws.proofs.Refusals.{refuse_same}
use Rattle.machine_laws.proofs.machine.Steps.{first_none}
use Rattle.two_runs.specs.TwoRuns.{Party, holds, mask, may_send, on_k}
use Rattle.two_runs.specs.Core.{may_also, of_party}
use Rattle.two_runs.proofs.Part.{Ours, Ready, allowed, allowed-kind, project, project_out}
use Rattle.two_runs.proofs.Settle.{Loop, ready_loop, settle-calm}
use Rattle.two_runs.proofs.OursPart.{Tame, finished_own, fit_own, none_own, own_floor, own_writes, settling_own, silent_own}
use Rattle.two_runs.proofs.OursEach.{each_tame, setprec_tame}
use Rattle.two_runs.proofs.OursQueue.{lock_loop, lock_own, read_loop, read_own_lem, waitcycle_loop, waitcycle_own, write_loop, write_own}
use Rattle.two_runs.proofs.OursFree.{free_loop, free_own}
use Rattle.two_runs.proofs.OursEvent.{event_loop, event_own}
use Rattle.two_runs.proofs.OursFinish.{finish_tame, pervol_tame}
use Rattle.two_runs.proofs.OursAbort.{abort_loop, abort_own}
use Rattle.two_runs.proofs.OursSound.{among-ids, project-sound}

module _ (p : Party) (real : T (not (eqb p.key 0))) where
  -- ---- commands, by kind: not ALLOCATE nor FREE

  pub perform_tame : (k : Kind) (c : Call) (s : State) → c.key ≡ p.key → T (p.mine c.id) → T (allowed p k c s) → T (not (unknown k)) → T (ltb c.map (2 ^ length s.channels))
      → Loop p s → Tame p real s (perform k c s) (perform k c (project p s))
  unfolding perform allowed unknown all
  perform_tame RESET c s k m a u b lp = each_tame p real 1 reset (λ d. refl) true c s k m lp (λ d h f. fit_own p real (reset d) h (own_floor p real d h f) tt)
  perform_tame READ c s k m a u b lp = record { alike = read_own_lem p real c s k m; loop = read_loop p real c s lp }
  perform_tame WRITE c s k m a u b lp = record { alike = write_own p real c s k m; loop = write_loop p real c s k m lp }
  perform_tame UPDATE c s k m a u b lp = each_tame p real 4 same (λ d. refl) false c s k m lp (λ d h f. f)
  perform_tame CLEAR c s k m a u b lp = each_tame p real 5 same (λ d. refl) false c s k m lp (λ d h f. f)
  perform_tame STOP c s k m a u b lp = each_tame p real 6 (set_stop true) (λ d. refl) false c s k m lp (λ d h f. fit_own p real (set_stop true d) h (own_floor p real d h f) (own_writes p real d h f))
  perform_tame START c s k m a u b lp = each_tame p real 7 (set_stop false) (λ d. refl) false c s k m lp (λ d h f. fit_own p real (set_stop false d) h (own_floor p real d h f) (own_writes p real d h f))
  perform_tame FLUSH c s k m a u b lp = each_tame p real 8 flushed (λ d. refl) true c s k m lp (λ d h f. fit_own p real (flushed d) h (own_floor p real d h f) tt)
  perform_tame FREE c s k m a u b lp = record { alike = free_own p real c s k m lp; loop = free_loop p real c s lp }
  perform_tame SETPREC c s k m a u b lp = setprec_tame p real c s k m a lp
  perform_tame FINISH c s k m a u b lp = finish_tame p real c s k m lp
  perform_tame PERVOL c s k m a u b lp = pervol_tame p real c s k m lp
  perform_tame LOCK c s k m a u b lp = record { alike = lock_own p real c s k m; loop = lock_loop p real c s k m b lp }
  perform_tame WAITCYCLE c s k m a u b lp = record { alike = waitcycle_own p real c s k m; loop = waitcycle_loop p real c s k m lp }
  perform_tame ALLOCATE c s k m a u b lp = absurd a
  perform_tame UNKNOWN c s k m a u b lp = absurd u

-- ---- refusals come out the same

not_zero : (n k : ℕ) → suc n ≤ k → eqb k 0 ≡ false
not_zero n zero h = absurd (omega arith)
not_zero n (suc k) h = lib.Dec.eqb-suc-zero k

-- what the party may send does not allocate
not_both : (p : Party) (x : Kind) (c : Call) (s : State) → T (allowed p x c s) → T (allocates x) → ⊥
unfolding allowed allocates
not_both p RESET c s a z = z
not_both p READ c s a z = z
not_both p WRITE c s a z = z
not_both p UPDATE c s a z = z
not_both p CLEAR c s a z = z
not_both p STOP c s a z = z
not_both p START c s a z = z
not_both p FLUSH c s a z = z
not_both p FREE c s a z = z
not_both p SETPREC c s a z = z
not_both p FINISH c s a z = z
not_both p PERVOL c s a z = z
not_both p LOCK c s a z = z
not_both p WAITCYCLE c s a z = z
not_both p ALLOCATE c s a z = a
not_both p UNKNOWN c s a z = z

module _ (p : Party) (s : State) (r : Ready p s) where
  bad_map_same : (c : Call) → bad_map c (project p s) ≡ bad_map c s
  unfolding bad_map project
  bad_map_same c = rw (length-map s.channels (mask p))

  bad_maps_same : (c : Call) → bad_maps c (project p s) ≡ bad_maps c s
  unfolding bad_maps project
  bad_maps_same c = rw (length-map s.channels (mask p))

  sound_same : sound (project p s) ≡ sound s
  sound_same = test_true (sound (project p s)) (project-sound p r.real s r.sane r.entered) ∙ sym (test_true (sound s) r.sane)

  opens_same : eqb (length (project p s).opens) 0 ≡ eqb (length s.opens) 0
  unfolding project
  opens_same = sym (not_empty p.key s.opens r.entered)

  refusal_same : (o : Op) (c : Call) → Ours p s o c → refusal o c (project p s) ≡ refusal o c s
  unfolding refusal of_party may_send may_also
  refusal_same OPEN c t = absurd t.sends
  refusal_same CLOSE c t = absurd t.sends
  refusal_same ABORT c t = rw sound_same
  refusal_same (EVENT v) c t = rw (sound_same, bad_map_same c)
  refusal_same (COMMAND k) c t =
      rw (
        sound_same,
        among-ids p r.real c.id (and_right (eqb c.key p.key) (p.mine c.id) t.party) s r.fit r.fit_locks r.fit_waiters r.low,
        opens_same,
        bad_map_same c,
        bad_maps_same c,
      )

  -- ---- a command that is not refused is known and names channels of the board

  command-known : (k : ℕ) (c : Call) → refusal (COMMAND k) c s ≡ accepted → T (not (unknown (kind k)))
  unfolding refusal
  command-known k c e = (first_none _ e).1.1.1.1.1.1.0

  command-map : (k : ℕ) (c : Call) → T (allowed p (kind k) c s) → refusal (COMMAND k) c s ≡ accepted → T (ltb c.map (2 ^ length s.channels))
  unfolding refusal bad_map
  command-map k c a e = go (kind k) a (first_none _ e).1.1.1.1.1.1.1.1.0
    where
      nn : (b : Bool) → T (not (not b)) → T b
      nn true w = tt
      nn false w = w

      go : (x : Kind) → T (allowed p x c s) → T (not (if allocates x then bad_maps c s else not (ltb c.map (2 ^ length s.channels)))) → T (ltb c.map (2 ^ length s.channels))
      go x a v = by_test (allocates x) (λ z. absurd (not_both p x c s a z)) (λ z. nn (ltb c.map (2 ^ length s.channels)) (rw (test_false (allocates x) z) at v))

  command_tame : (k : ℕ) (c : Call) → Ours p s (COMMAND k) c → refusal (COMMAND k) c s ≡ accepted → Tame p r.real s (perform (kind k) c s) (perform (kind k) c (project p s))
  unfolding of_party
  command_tame k c t e =
      let a = eqb c.key p.key in
      let b = p.mine c.id in
      let d = allowed-kind p s k c t e in
      perform_tame p r.real (kind k) c s (eqb→eq c.key p.key (and_left a b t.party)) (and_right a b t.party) d (command-known k c e) (command-map k c d e) (ready_loop p s r)

  event_on : {v : Event} (c : Call) → Ours p s (EVENT v) c → T (holds p (at (lowest (length s.channels) c.map) s.channels))
  unfolding of_party on_k
  event_on c t = and_right (not (bad_map c s)) (holds p (at (lowest (length s.channels) c.map) s.channels)) t.party

  -- ---- every operation

  accept_own : (o : Op) (c : Call) → Ours p s o c → refusal o c s ≡ accepted → accept o c (project p s) ≡ project_out p (accept o c s)
  unfolding accept of_party may_send may_also
  accept_own OPEN c t e = absurd t.sends
  accept_own CLOSE c t e = absurd t.sends
  accept_own ABORT c t e =
      settling_own p r.real (do_abort c s) (do_abort c (project p s)) (abort_loop p r.real c s (ready_loop p s r))
      (abort_own p r.real c s t.party (ready_loop p s r))
  accept_own (EVENT v) c t e =
      settling_own p r.real (do_event v c s) (do_event v c (project p s)) (event_loop p r.real c s (ready_loop p s r) (event_on c t) v) (event_own p r.real c s (ready_loop p s r) (event_on c t) v)
  accept_own (COMMAND k) c t e =
      let tame = command_tame k c t e in
      settling_own p r.real (perform (kind k) c s) (perform (kind k) c (project p s)) tame.loop tame.alike

  -- ---- refusals

  refuse_own : (o : Op) (x : ℕ) (c : Call) → Ours p s o c → refuse o x c (project p s) ≡ project_out p (refuse o x c s)
  unfolding refuse of_party may_send may_also
  refuse_own OPEN x c t = absurd t.sends
  refuse_own CLOSE x c t = absurd t.sends
  refuse_own ABORT x c t = silent_own p r.real _ [] [] s _ (none_own p r.real) refl
  refuse_own (EVENT v) x c t = silent_own p r.real _ [] [] s _ (none_own p r.real) refl
  refuse_own (COMMAND k) x c t = go (leb x 8)
    where
      m : T (p.mine c.id)
      m = and_right (eqb c.key p.key) (p.mine c.id) t.party

      go : (b : Bool) → (if b then silent (done x 0 c.key 255) [] (project p s) else finished k c (done x 0 c.key 255) [] (project p s))
          ≡ project_out p (if b then silent (done x 0 c.key 255) [] s else finished k c (done x 0 c.key 255) [] s)
      go true = silent_own p r.real _ [] [] s _ (none_own p r.real) refl
      go false = finished_own p r.real k c _ [] [] s _ m (none_own p r.real) refl

  -- ---- the call

  pub ours_same : (c : Call) → Ours p s c.op c → call (project p s) c ≡ project_out p (call s c)
  unfolding call answering
  ours_same c t = rw (refusal_same c.op c t) (go (refusal c.op c s) refl)
    where
      go : (f : Refusal) → refusal c.op c s ≡ f → answering f c (project p s) ≡ project_out p (answering f c s)
      go accepted e = accept_own c.op c t e
      go (refused x) e = refuse_own c.op x c t

  -- ---- and settling may follow again

  accept_loop : (o : Op) (c : Call) → Ours p s o c → refusal o c s ≡ accepted → Loop p (accept o c s).next
  unfolding accept of_party may_send may_also settling
  accept_loop OPEN c t e = absurd t.sends
  accept_loop CLOSE c t e = absurd t.sends
  accept_loop ABORT c t e = (settle-calm p (do_abort c s).next (abort_loop p r.real c s (ready_loop p s r))).loop
  accept_loop (EVENT v) c t e = (settle-calm p (do_event v c s).next (event_loop p r.real c s (ready_loop p s r) (event_on c t) v)).loop
  accept_loop (COMMAND k) c t e = (settle-calm p (perform (kind k) c s).next (command_tame k c t e).loop).loop

  pub ours_loop : (c : Call) → Ours p s c.op c → Loop p (call s c).next
  unfolding call answering
  ours_loop c t = go (refusal c.op c s) refl
    where
      go : (f : Refusal) → refusal c.op c s ≡ f → Loop p (answering f c s).next
      go accepted e = accept_loop c.op c t e
      go (refused x) e = rw (refuse_same c.op x c s) (ready_loop p s r)
