-- Document 02, #113: a command other than ALLOCATE whose key is on no channel leaves a sound state that is at rest as it is, whatever
-- it is answered.
-- Assumes nothing.
use Prim.Native.Nat.{◌+◌, ◌*◌, ◌^◌, ◌<◌, ◌/◌, ◌%◌, suc, ℕ}
use mathlib.Core.Path.{◌∙◌, ◌≡◌, ap, refl, sym, subst}
use mathlib.Core.Bool.{Bool, ◌&&◌, ◌||◌, false, not, true}
use mathlib.Core.List.{List, [], ◌++◌, ◌∷◌, map}
use native.Mathlib.Omega.{arith}
use lib.Dec.{T, T_not, eqb, eqb→eq, ltb, ltb→lt, not_T}
use lib.ListN.{length}
use Rattle.machine_laws.specs.machine.Numbers.{synced}
use Rattle.std.specs.Prelude.{if◌then◌else◌}
use Rattle.machine_laws.specs.machine.Lists.{all, keep}
use Rattle.machine_laws.specs.machine.State.{ABORT, CLOSE, COMMAND, Call, Channel, EVENT, Lock, OPEN, Op, Outcome, Reply, State, free}
use Rattle.machine_laws.specs.machine.Maps.{at, bit, change, half, lowest, minus, named, odd}
use Rattle.machine_laws.specs.machine.Granting.{cut, on_channels}
use Rattle.machine_laws.specs.machine.Commands.{cleared, do_finish, do_free, do_lock, do_pervol, do_read, do_waitcycle, do_write, each, each_change, finished, flushed, freed, freeing, front_gone, in_progress, is_empty, matches, matching, mismatch, on_front, remember_finish, reset, same, set_prec, set_stop, silent}
use Rattle.machine_laws.specs.machine.Call.{accept, answering, call, perform, settling}
use Rattle.machine_laws.specs.machine.Kinds.{ALLOCATE, CLEAR, FLUSH, FREE, Kind, LOCK, READ, RESET, SETPREC, START, STOP, FINISH, PERVOL, WAITCYCLE, UNKNOWN, UPDATE, WRITE, allocates, kind}
use Rattle.machine_laws.specs.machine.Refusals.{Refusal, accepted, bad_map, bad_maps, refusal, refused}
use Rattle.machine_laws.specs.machine.Settling.{settle}
use Rattle.machine_laws.specs.machine.Sound.{sound, sound_lock}
use Rattle.machine_laws.proofs.machine.Tests.{and_left, and_right, by_test, if_elim, or_named, test_false, test_true}
use Rattle.machine_laws.proofs.Lists.{all_any, keep_each}
use Rattle.machine_laws.proofs.Maps.{bit_of, meets_zero, minus-apart}
use Rattle.machine_laws.proofs.machine.Steps.{first_none}
use Rattle.machine_laws.proofs.Refusals.{refuse_same}
use Rattle.machine_laws.proofs.Sound.{parts}
use Rattle.machine_laws.specs.Settling.{AtRest}
use Rattle.machine_laws.proofs.Settling.{settle-rested}
use Rattle.machine_laws.proofs.KeepingCalls.{change_zero}
use Rattle.two_runs.specs.OnNoChannel.{Absent, Harmless}

matching_none : (k m : ℕ) (cs : List Channel) → Absent k cs → matching k m cs ≡ 0
unfolding matching all bit
matching_none k m [] t = refl
matching_none k m (c ∷ cs) t =
    rw (test_false (matches k c) (and_left (not (matches k c)) (all (λ d. not (matches k d)) cs) t), matching_none k (half m) cs (and_right (not (matches k c)) (all (λ d. not (matches k d)) cs) t))
    (go (odd m))
  where
    go : (b : Bool) → (if b && false then 1 else 0) + 2 * 0 ≡ 0
    go true = refl
    go false = refl

free_none : (k : ℕ) → T (not (matches k free))
unfolding matches
free_none k = not_T (not (eqb k 0) && eqb 0 k) (λ u. T_not (eqb k 0) (and_left (not (eqb k 0)) (eqb 0 k) u) (subst (λ (x : ℕ). T (eqb x 0)) (eqb→eq 0 k (and_right (not (eqb k 0)) (eqb 0 k) u)) tt))

at_none : (k m : ℕ) (cs : List Channel) → Absent k cs → T (not (matches k (at m cs)))
unfolding at all
at_none k m [] t = free_none k
at_none k m (c ∷ cs) t =
    if_elim (λ (d : Channel). T (not (matches k d))) (odd m) (λ _. and_left (not (matches k c)) (all (λ d. not (matches k d)) cs) t)
    (λ _. at_none k (half m) cs (and_right (not (matches k c)) (all (λ d. not (matches k d)) cs) t))

-- map 0 cuts nobody
cut_zero : (s : State) → cut 0 s ≡ s
unfolding cut on_channels
cut_zero s =
    rw (keep_each (λ w. not (on_channels (length s.channels) 0 w)) s.waiters
    (all_any (λ w. not (on_channels (length s.channels) 0 w)) (λ w. rw (meets_zero (length s.channels) w.map) tt) s.waiters)) refl

progress_zero : (cs : List Channel) → in_progress 0 cs ≡ 0
unfolding in_progress odd half bit
progress_zero [] = refl
progress_zero (c ∷ cs) = rw (progress_zero cs)

-- of a board's map that names only channels which pass a test that none passes, no bit is set
named_none : (q : Channel → Bool) (m : ℕ) (cs : List Channel) → T (all (λ c. not (q c)) cs) → T (named q m cs) → m < 2 ^ length cs → m ≡ 0
unfolding named all half odd
named_none q m [] t u h = omega arith
named_none q m (c ∷ cs) t u h =
    let h' : m < 2 ^ suc (length cs) = h in
    let n = and_left (not (q c)) (all (λ d. not (q d)) cs) t in
    let e : T (not (eqb (m % 2) 1)) = not_T (eqb (m % 2) 1) (λ o. T_not (q c) n (or_named (eqb (m % 2) 1) (q c) (and_left (not (eqb (m % 2) 1) || q c) (named q (m / 2) cs) u) o)) in
    let ih = named_none q (m / 2) cs (and_right (not (q c)) (all (λ d. not (q d)) cs) t) (and_right (not (eqb (m % 2) 1) || q c) (named q (m / 2) cs) u) (omega arith) in
    let z : m % 2 ≡ 1 → ⊥ = λ y. T_not (eqb (m % 2) 1) e (subst (λ (x : ℕ). T (eqb x 1)) (sym y) tt) in
    omega (arith, ih, z)

-- ---- commands

module _ (c : Call) (s : State) (a : Absent c.key s.channels) where
  each_same : (n : ℕ) (f : Channel → Channel) (drops : Bool) → (each_change n f drops c s).next ≡ s
  unfolding each_change each finished
  each_same n f true = rw (matching_none c.key c.map s.channels a, change_zero f s.channels, cut_zero s)
  each_same n f false = rw (matching_none c.key c.map s.channels a, change_zero f s.channels)

  lock_kept : (l : Lock) → T (sound_lock s.channels l) → minus (length s.channels) l.map 0 ≡ l.map
  unfolding sound_lock
  lock_kept l t =
      let x = not (eqb l.map 0) in
      let y = ltb l.map (2 ^ length s.channels) in
      let z = not (eqb l.key 0) in
      minus-apart (length s.channels) l.map 0 (ltb→lt l.map (2 ^ length s.channels) (and_right x y (and_left (x && y) z (and_left (x && y && z) _ t)))) (rw (meets_zero (length s.channels) l.map) tt)

  locks_kept : (ls : List Lock) → T (all (sound_lock s.channels) ls) → cleared (length s.channels) 0 ls ≡ ls
  unfolding cleared all
  locks_kept [] t = refl
  locks_kept (l ∷ ls) t = rw (lock_kept l (and_left (sound_lock s.channels l) (all (sound_lock s.channels) ls) t), locks_kept ls (and_right (sound_lock s.channels l) (all (sound_lock s.channels) ls) t))

  locks-full : (ls : List Lock) → T (all (sound_lock s.channels) ls) → T (all (λ l. not (is_empty l)) ls)
  unfolding all is_empty sound_lock
  locks-full [] t = tt
  locks-full (l ∷ ls) t =
      let x = not (eqb l.map 0) in
      let y = ltb l.map (2 ^ length s.channels) in
      let z = not (eqb l.key 0) in
      Rattle.machine_laws.proofs.machine.Tests.and_both x (all (λ k. not (is_empty k)) ls) (and_left x y (and_left (x && y) z (and_left (x && y && z) _ (and_left (sound_lock s.channels l) (all (sound_lock s.channels) ls) t))))
      (locks-full ls (and_right (sound_lock s.channels l) (all (sound_lock s.channels) ls) t))

  free_same : T (all (sound_lock s.channels) s.locks) → (do_free c s).next ≡ s
  unfolding do_free each finished freeing
  free_same t =
      rw (matching_none c.key c.map s.channels a, change_zero freed s.channels, cut_zero s, locks_kept s.locks t, keep_each (λ (l : Lock). not (is_empty l)) s.locks (locks-full s.locks t))

  lock_same : c.map < 2 ^ length s.channels → (do_lock c s).next ≡ s
  unfolding do_lock finished silent mismatch
  lock_same h =
      by_test (mismatch c.key c.map s.channels)
      (λ t. rw (test_true (not (named (matches c.key) c.map s.channels)) t))
      (λ t. let z = named_none (matches c.key) c.map s.channels a (nn (named (matches c.key) c.map s.channels) t) h in
      rw (test_false (not (named (matches c.key) c.map s.channels)) t, z))
    where
      nn : (b : Bool) → T (not (not b)) → T b
      nn true w = tt
      nn false w = w

  read_same : (do_read c s).next ≡ s
  unfolding do_read finished
  read_same = rw (test_false (matches c.key (at (lowest (length s.channels) c.map) s.channels)) (at_none c.key (lowest (length s.channels) c.map) s.channels a))

  write_same : (do_write c s).next ≡ s
  unfolding do_write finished silent
  write_same = rw (test_false (matches c.key (at (lowest (length s.channels) c.map) s.channels)) (at_none c.key (lowest (length s.channels) c.map) s.channels a))

  finish_same : (do_finish c s).next ≡ s
  unfolding do_finish each finished
  finish_same =
      if_elim (λ (o : Outcome). o.next ≡ s) (synced c.flags) (λ _. each_same 11 (on_front remember_finish) false)
      (λ _. rw (matching_none c.key c.map s.channels a, progress_zero s.channels, change_zero front_gone s.channels, cut_zero s) refl)

  waitcycle_same : (do_waitcycle c s).next ≡ s
  unfolding do_waitcycle finished silent
  waitcycle_same = rw (test_false (matches c.key (at (lowest (length s.channels) c.map) s.channels)) (at_none c.key (lowest (length s.channels) c.map) s.channels a))

  perform_same : (k : Kind) → T (not (allocates k)) → T (all (sound_lock s.channels) s.locks) → c.map < 2 ^ length s.channels → (perform k c s).next ≡ s
  unfolding perform allocates
  perform_same RESET n t h = each_same 1 reset true
  perform_same READ n t h = read_same
  perform_same WRITE n t h = write_same
  perform_same UPDATE n t h = each_same 4 same false
  perform_same CLEAR n t h = each_same 5 same false
  perform_same STOP n t h = each_same 6 (set_stop true) false
  perform_same START n t h = each_same 7 (set_stop false) false
  perform_same FLUSH n t h = each_same 8 flushed true
  perform_same FREE n t h = free_same t
  perform_same SETPREC n t h = each_same 10 (set_prec c.prec) false
  perform_same FINISH n t h = finish_same
  perform_same PERVOL n t h = unfold do_pervol in each_same 12 _ false
  perform_same LOCK n t h = lock_same h
  perform_same WAITCYCLE n t h = waitcycle_same
  perform_same ALLOCATE n t h = absurd n
  perform_same UNKNOWN n t h = unfold silent in refl

-- ---- the call

small : (s : State) (c : Call) (n : ℕ) → T (not (allocates (kind n))) → refusal (COMMAND n) c s ≡ accepted → c.map < 2 ^ length s.channels
unfolding refusal bad_map
small s c n a e =
    let v = (first_none _ e).1.1.1.1.1.1.1.1.0 in
    let w = rw (test_false (allocates (kind n)) a) at v in
    ltb→lt c.map (2 ^ length s.channels) (nn (ltb c.map (2 ^ length s.channels)) w)
  where
    nn : (b : Bool) → T (not (not b)) → T b
    nn true w = tt
    nn false w = w

settling_same : (s : State) (o : Outcome) → AtRest s → o.next ≡ s → (settling o).next ≡ s
unfolding settling
settling_same s o r e = ap (λ (u : State). (settle u).state) e ∙ rw (settle-rested s r)

accept_same : (s : State) (c : Call) (o : Op) → Harmless o → T (sound s) → AtRest s → Absent c.key s.channels → refusal o c s ≡ accepted → (accept o c s).next ≡ s
unfolding accept
accept_same s c OPEN h t r k e = absurd h
accept_same s c CLOSE h t r k e = absurd h
accept_same s c ABORT h t r k e = absurd h
accept_same s c (EVENT v) h t r k e = absurd h
accept_same s c (COMMAND n) h t r k e = settling_same s (perform (kind n) c s) r (perform_same c s k (kind n) h (parts s t).locks_ok (small s c n h e))

pub moves-nothing : (s : State) (c : Call) → Harmless c.op → T (sound s) → AtRest s → Absent c.key s.channels → (call s c).next ≡ s
unfolding call answering
moves-nothing s c h t r k = go (refusal c.op c s) refl
  where
    go : (f : Refusal) → refusal c.op c s ≡ f → (answering f c s).next ≡ s
    go accepted e = accept_same s c c.op h t r k e
    go (refused x) e = refuse_same c.op x c s
