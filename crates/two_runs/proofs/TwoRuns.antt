-- Demand 3: the K party sees the same in both runs. Each of its calls gives, from its part of the state alone, the same answer,
-- the same replies to its ids and the same part of the next state; a call of the others leaves that part as it is and replies
-- to none of its ids. So a run shows it what its own calls would show it, made alone from its part of the first state, and
-- two runs with the same such calls show it the same.
-- Assumes nothing.
use Prim.Native.Nat.{◌≤◌, ◌^◌, ◌/◌, ◌%◌, suc, zero, ℕ}
use mathlib.Core.Path.{◌∙◌, ◌≡◌, ap, ap₂, refl, subst, sym}
use mathlib.Core.Bool.{Bool, ◌&&◌, ◌||◌, false, not, true}
use mathlib.Core.Logic.{◌⊎◌, inl, inr}
use mathlib.Core.List.{List, [], ◌++◌, ◌∷◌, map}
use native.Mathlib.Omega.{arith}
use lib.Dec.{T, eqb, eqb→eq, leb, leb→le, le→leb, ltb, ltb→lt, not_T}
use lib.ListN.{length, length-map}
use borrow.Author.Tests.{lt-ltb}
use Rattle.machine_laws.specs.machine.Numbers.{REQUESTS, CYCLES, BADID, OTHERDESK, NONE}
use Rattle.std.specs.Prelude.{if◌then◌else◌}
use Rattle.machine_laws.specs.machine.Lists.{all, keep}
use Rattle.machine_laws.specs.machine.State.{ABORT, CLOSE, COMMAND, Call, Channel, EVENT, Event, Lock, OPEN, Op, Outcome, State}
use Rattle.machine_laws.specs.machine.Maps.{bit, half, lowest, odd}
use Rattle.machine_laws.specs.machine.Choosing.{Look, fails, grants, held, look}
use Rattle.machine_laws.specs.machine.Desks.{foreign}
use Rattle.machine_laws.specs.machine.Commands.{cycles_in, done, do_abort, do_close, do_event, do_finish, do_free, do_lock, do_pervol, do_read, do_waitcycle}
use Rattle.machine_laws.specs.machine.Commands.{do_write, each, each_change, finished, silent}
use Rattle.machine_laws.specs.machine.Allocating.{allocating, do_allocate, do_open, opening, waits}
use Rattle.machine_laws.specs.machine.Call.{accept, answering, call, in_range, open_settling, perform, settling}
use Rattle.machine_laws.specs.machine.Kinds.{ALLOCATE, CLEAR, FLUSH, FREE, Kind, LOCK, READ, RESET, SETPREC, START, STOP, FINISH, PERVOL, WAITCYCLE}
use Rattle.machine_laws.specs.machine.Kinds.{UNKNOWN, UPDATE, WRITE, kind}
use Rattle.machine_laws.specs.machine.Log.{opened}
use Rattle.machine_laws.specs.machine.Refusals.{Refusal, accepted, bad_list, bad_map, bad_maps, bad_numbers, first, refusal, refuse, refused}
use Rattle.machine_laws.specs.machine.Sound.{sound}
use Rattle.machine_laws.proofs.machine.Tests.{and_both, and_left, and_right, by_test, if_elim, test_false, test_true}
use Rattle.machine_laws.proofs.Maps.{half-bit, odd-bit}
use Rattle.machine_laws.proofs.Sound.{parts}
use Rattle.machine_laws.proofs.Rooms.{room_unread}
use Rattle.machine_laws.specs.Keeping.{Counted}
use Rattle.machine_laws.proofs.KeepingCalls.{call-sound}
use Rattle.two_runs.specs.TwoRuns.{ByK, ByOthers, Demand3, Keeps, Party, Run, Start, Step, may_send, of_k, calls, counted, filled}
use Rattle.two_runs.specs.TwoRuns.{in_bytes, lends, noted, on_k, our, own, mask, own_replies, reached, said, seen, their, view}
use Rattle.two_runs.specs.TwoRuns.{waiters_of}
use Rattle.two_runs.proofs.Part.{Ready, fitting_lock, ours_of, own_locks, own_replies_twice, project, project_out, theirs_of, view_part}
use Rattle.two_runs.proofs.Part.{waiters_part}
use Rattle.two_runs.specs.Settle.{lock_fits, own_lock}
use Rattle.two_runs.proofs.Settle.{Loop}
use Rattle.two_runs.proofs.TheirsEach.{Mild}
use Rattle.two_runs.proofs.TheirsCall.{theirs_mild}
use Rattle.two_runs.proofs.OursSound.{project-sound}
use Rattle.two_runs.proofs.OursCall.{ours_loop, ours_same}
use Rattle.two_runs.proofs.Begin.{start_ready}
use Rattle.two_runs.specs.Core.{Begins, Demand3Core, Goes, Missing, OfK, OfOthers, may_also, misses, of_party}

-- ---- the same call with another list lent

module _ (c : Call) (full : T (lends c)) where
  room_enough : ltb c.room REQUESTS ≡ false
  unfolding lends
  room_enough = test_false (ltb c.room REQUESTS) (not_T (ltb c.room REQUESTS) (λ t. omega (arith, ltb→lt c.room REQUESTS t, leb→le REQUESTS c.room full)))

  filled_same : (s : State) → call s (filled c) ≡ call s c
  unfolding filled lends
  filled_same s = room_unread c REQUESTS (omega arith) (leb→le REQUESTS c.room full) s

-- ---- the same event by its lowest bit

-- the lowest bit of k is that of n, if there are no more of these
lowest_twice : (n k m : ℕ) → n ≤ k → lowest n (lowest k m) ≡ lowest n m
unfolding lowest
lowest_twice zero k m h = refl
lowest_twice (suc n) zero m h = absurd (no_less h)
  where
    no_less : suc n ≤ 0 → ⊥
    no_less g = omega arith
lowest_twice (suc n) (suc k) m h = go (odd m) (lowest k (half m)) (lowest_twice n k (half m) (omega arith))
  where
    go : (b : Bool) (x : ℕ) → lowest n x ≡ lowest n (half m)
        → (if odd (if b then 1 else bit false x) then 1 else bit false (lowest n (half (if b then 1 else bit false x)))) ≡ (if b then 1 else bit false (lowest n (half m)))
    go true x e = unfold odd in refl
    go false x e = rw (odd-bit false x, half-bit false x, e)

lowest-least : (k m : ℕ) → lowest k m ≤ m
unfolding lowest odd bit half
lowest-least zero m = omega arith
lowest-least (suc k) m =
    by_test (eqb (m % 2) 1)
    (λ t. let e = eqb→eq (m % 2) 1 t in rw (test_true (eqb (m % 2) 1) t) (omega arith))
    (λ t. let ih = lowest-least k (m / 2) in rw (test_false (eqb (m % 2) 1) t) (omega arith))

module _ (c : Call) (full : T (lends c)) (s : State) where
  -- an event's map is on the board
  abbrev Fits : Op → Type 0
  Fits OPEN = Unit {0}
  Fits CLOSE = Unit {0}
  Fits ABORT = Unit {0}
  Fits (EVENT v) = (length s.channels ≤ 8) × T (not (bad_map c s))
  Fits (COMMAND n) = Unit {0}

  -- what is kept of it
  event_kept : (v : Event) → ((noted (EVENT v) c).map ≡ lowest 8 c.map) × ((noted (EVENT v) c).key ≡ c.key)
  unfolding noted
  event_kept v = (refl, refl)

  event_refusal : (v : Event) → Fits (EVENT v) → refusal (EVENT v) (noted (EVENT v) c) s ≡ refusal (EVENT v) c s
  unfolding refusal noted bad_map
  event_refusal v f =
      let n = 2 ^ length s.channels in
      let l = ltb→lt c.map n (not_not_t (ltb c.map n) f.1) in
      rw (room_enough c full, lt-ltb c.map n l, lt-ltb (lowest 8 c.map) n (omega (arith, lowest-least 8 c.map)))
    where
      not_not_t : (b : Bool) → T (not (not b)) → T b
      not_not_t true t = tt
      not_not_t false t = t

  event_accept : (v : Event) → Fits (EVENT v) → accept (EVENT v) (noted (EVENT v) c) s ≡ accept (EVENT v) c s
  unfolding accept noted do_event silent
  event_accept v f = rw (lowest_twice (length s.channels) 8 c.map f.0)

  event_refuse : (v : Event) (e : ℕ) → refuse (EVENT v) e (noted (EVENT v) c) s ≡ refuse (EVENT v) e c s
  unfolding refuse noted silent
  event_refuse v e = refl

  event_same : (v : Event) → c.op ≡ EVENT v → Fits (EVENT v) → call s (noted (EVENT v) c) ≡ call s c
  unfolding call noted
  event_same v q f = ap (λ (r : Refusal). answering r (noted (EVENT v) c) s) (event_refusal v f ∙ ap (λ (o : Op). refusal o c s) (sym q)) ∙ go (refusal c.op c s)
    where
      go : (r : Refusal) → answering r (noted (EVENT v) c) s ≡ answering r c s
      go accepted = unfold answering noted in (event_accept v f ∙ ap (λ (o : Op). accept o c s) (sym q))
      go (refused e) = unfold answering noted in (event_refuse v e ∙ ap (λ (o : Op). refuse o e c s) (sym q))

  noted_same : (o : Op) → c.op ≡ o → Fits o → call s (noted o c) ≡ call s c
  noted_same OPEN q f = unfold noted in filled_same c full s
  noted_same CLOSE q f = unfold noted in filled_same c full s
  noted_same ABORT q f = unfold noted in filled_same c full s
  noted_same (EVENT v) q f = event_same v q f
  noted_same (COMMAND n) q f = unfold noted in filled_same c full s

  pub said_same : Fits c.op → call s (said c) ≡ call s c
  unfolding said
  said_same f = noted_same c.op refl f

-- so of a call of the K party's, made on its part of the state
ours_fits : (p : Party) (s : State) (c : Call) → T (sound s) → (full : T (lends c)) → (o : Op) → T (of_party p o c s) → Fits c full (project p s) o
unfolding of_party on_k project bad_map
ours_fits p s c t full OPEN u = tt
ours_fits p s c t full CLOSE u = tt
ours_fits p s c t full ABORT u = tt
ours_fits p s c t full (EVENT v) u =
    let e = length-map s.channels (mask p) in
    let b = not (ltb c.map (2 ^ length s.channels)) in
    (omega (arith, e, leb→le (length s.channels) 8 (parts s t).most), rw e (and_left (not b) _ u))
ours_fits p s c t full (COMMAND n) u = tt

own_same : (p : Party) (s : State) (c : Call) → Ready p s → OfK p s c → call (project p s) (said c) ≡ call (project p s) c
own_same p s c r k = said_same c k.full (project p s) (ours_fits p s c r.sane k.full c.op k.party)

-- ---- a call that names an id of the other half is refused with 4 or 8 in any sound state, and nothing comes of it

missed_by : Call → ℕ
missed_by c = if ltb 63 c.id then BADID else OTHERDESK

missed-mute : (c : Call) → T (leb (missed_by c) OTHERDESK)
unfolding missed_by
missed-mute c = if_elim (λ (e : ℕ). T (leb e OTHERDESK)) (ltb 63 c.id) (λ _. tt) (λ _. tt)

module _ (c : Call) (full : T (lends c)) (s : State) (t : T (sound s)) where
  missed-refusal : (o : Op) → T (misses o c) → refusal o c s ≡ refused (missed_by c)
  unfolding misses refusal first missed_by
  missed-refusal OPEN m = absurd m
  missed-refusal CLOSE m = absurd m
  missed-refusal ABORT m = rw (test_true (sound s) t, room_enough c full, test_true (foreign c) m) (go (ltb 63 c.id))
    where
      go : (b : Bool) → (if b then refused BADID else refused OTHERDESK) ≡ refused (if b then BADID else OTHERDESK)
      go true = refl
      go false = refl
  missed-refusal (EVENT v) m = absurd m
  missed-refusal (COMMAND n) m = rw (test_true (sound s) t, room_enough c full, test_true (foreign c) m) (go (ltb 63 c.id))
    where
      go : (b : Bool) → (if b then refused BADID else refused OTHERDESK) ≡ refused (if b then BADID else OTHERDESK)
      go true = refl
      go false = refl

  missed-call : T (misses c.op c) → call s c ≡ silent (done (missed_by c) 0 c.key NONE) [] s
  unfolding call answering
  missed-call m = rw (missed-refusal c.op m) (go c.op)
    where
      go : (o : Op) → refuse o (missed_by c) c s ≡ silent (done (missed_by c) 0 c.key NONE) [] s
      go OPEN = unfold refuse in refl
      go CLOSE = unfold refuse in refl
      go ABORT = unfold refuse in refl
      go (EVENT v) = unfold refuse in refl
      go (COMMAND n) = unfold refuse in rw (test_true (leb (missed_by c) OTHERDESK) (missed-mute c))

missed_fits : (c : Call) (full : T (lends c)) (s : State) (o : Op) → T (misses o c) → Fits c full s o
unfolding misses
missed_fits c full s OPEN m = absurd m
missed_fits c full s CLOSE m = absurd m
missed_fits c full s ABORT m = tt
missed_fits c full s (EVENT v) m = absurd m
missed_fits c full s (COMMAND n) m = tt

missed-alone : (p : Party) (s : State) (c : Call) → Ready p s → Missing c → call (project p s) (said c) ≡ project_out p (call s c)
unfolding project_out silent own_replies keep
missed-alone p s c r m =
    said_same c m.full (project p s) (missed_fits c m.full (project p s) c.op m.refused)
    ∙ missed-call c m.full (project p s) (project-sound p r.real s r.sane r.entered) m.refused
    ∙ sym (ap (project_out p) (missed-call c m.full s r.sane m.refused))

missed_next : (p : Party) (s : State) (c : Call) → Ready p s → Missing c → (call s c).next ≡ s
unfolding silent
missed_next p s c r m = ap (λ (o : Outcome). o.next) (missed-call c m.full s r.sane m.refused)

-- a call of the K party's does to its part of the state what it does to the state
pub ours-alone : (p : Party) (s : State) (c : Call) → Ready p s → OfK p s c ⊎ Missing c
    → call (project p s) (said c) ≡ project_out p (call s c)
ours-alone p s c r (inl k) = own_same p s c r k ∙ ours_same p s r c (ours_of p s c k)
ours-alone p s c r (inr m) = missed-alone p s c r m

-- ---- every state of a run is one between two calls

locks-ready : (p : Party) (cs : List Channel) (ls : List Lock) → T (all (own_lock p cs) ls) → T (all (fitting_lock p) ls)
unfolding all own_lock fitting_lock
locks-ready p cs [] t = tt
locks-ready p cs (l ∷ ls) t =
    and_both (fitting_lock p l) (all (fitting_lock p) ls)
    (go (eqb l.key p.key) (and_left (own_lock p cs l) (all (own_lock p cs) ls) t))
    (locks-ready p cs ls (and_right (own_lock p cs l) (all (own_lock p cs) ls) t))
  where
    go : (b : Bool) → T (if b then p.mine l.id && lock_fits p cs l else not (p.mine l.id)) → T (if b then p.mine l.id else not (p.mine l.id))
    go true u = and_left (p.mine l.id) (lock_fits p cs l) u
    go false u = u

ready_from : (p : Party) (s : State) → T (sound s) → Loop p s → Ready p s
ready_from p s t lp =
    record {
      sane = t;
      real = lp.real;
      entered = lp.entered;
      fit = lp.fit;
      fit_locks = locks-ready p s.channels s.locks lp.locks_ok;
      fit_waiters = locks-ready p s.channels s.waiters lp.waiters_ok;
      low = lp.low;
    }

-- a call's numbers fit their bytes
bytes-range : (c : Call) → T (in_bytes c) → T (in_range c)
unfolding in_bytes
bytes-range c t = and_left (in_range c) (counted c.op c) t

count_of : (o : Op) (c : Call) → T (counted o c) → Counted o c
unfolding counted
count_of o c t e = leb→le (cycles_in c.combos) CYCLES (subst (λ (x : Op). T (counted x c)) e t)

bytes_count : (c : Call) → T (in_bytes c) → Counted c.op c
unfolding in_bytes
bytes_count c t = count_of c.op c (and_right (in_range c) (counted c.op c) t)

pub theirs_ready : (p : Party) (s : State) (c : Call) → Ready p s → OfOthers p s c → Ready p (call s c).next
theirs_ready p s c r b = ready_from p (call s c).next (call-sound s c (bytes-range c b.fits) (bytes_count c b.fits) r.sane) (theirs_mild p s c r (theirs_of p s c b)).loop

pub ours-ready : (p : Party) (s : State) (c : Call) → Ready p s → OfK p s c ⊎ Missing c → Ready p (call s c).next
ours-ready p s c r (inr m) = subst (Ready p) (sym (missed_next p s c r m)) r
ours-ready p s c r (inl b) =
    ready_from p (call s c).next (call-sound s c (bytes-range c b.fits) (bytes_count c b.fits) r.sane)
    (ours_loop p s r c (ours_of p s c b))

-- ---- a run shows what the K party's calls show, made alone from its part of the state

alone : (p : Party) (s : State) (xs : List Step) → Ready p s → Goes p s xs → seen p s xs ≡ seen p (project p s) (map our (own xs))
unfolding seen own project_out
alone p s [] r k = rw (view_part p s, waiters_part p s)
alone p s (our c ∷ xs) r k =
    rw (
      ours-alone p s c r k.0,
      own_replies_twice p (call s c).replies,
      view_part p (call s c).next,
      waiters_part p (call s c).next,
      alone p (call s c).next xs (ours-ready p s c r k.0) k.1,
    )
alone p s (their c ∷ xs) r k =
    let calm = theirs_mild p s c r (theirs_of p s c k.0) in
    rw calm.quiet
    (alone p (call s c).next xs (theirs_ready p s c r k.0) k.1
    ∙ ap (λ (u : State). seen p u (map our (own xs))) calm.still)

pub part_sees_the_same : (p : Party) (s t : State) (xs ys : List Step) → Begins p s → Begins p t → project p s ≡ project p t → Goes p s xs → Goes p t ys → own xs ≡ own ys
    → seen p s xs ≡ seen p t ys
part_sees_the_same p s t xs ys a b q h k e =
    alone p s xs (start_ready p s a) h
    ∙ ap₂ (λ (u : State) (cs : List Call). seen p u (map our cs)) q e
    ∙ sym (alone p t ys (start_ready p t b) k)

pub core : Demand3Core
core p s xs ys a h k e = part_sees_the_same p s s xs ys a a refl h k e

-- ---- the customer's premises, from them

pub begins_of : (p : Party) (s : State) → Start p s → Begins p s
begins_of p s a =
    record { sane = a.sane; real = a.real; entered = a.entered; high = a.high; low = a.low; none = a.none; owns = a.owns; idle = a.idle }

party_of : (p : Party) (o : Op) (c : Call) (s : State) → T (of_k p o c s) → T (of_party p o c s)
unfolding of_k of_party
party_of p OPEN c s t = t
party_of p CLOSE c s t = t
party_of p ABORT c s t = and_right (eqb c.key p.key) (p.mine c.id) t
party_of p (EVENT v) c s t = t
party_of p (COMMAND n) c s t = t

also : (o : Op) → T (may_send o) → T (may_also o || may_send o)
unfolding may_send may_also
also OPEN t = t
also CLOSE t = t
also ABORT t = t
also (EVENT v) t = t
also (COMMAND n) t = go (eqb n 9) t
  where
    go : (b : Bool) → T (not (eqb n 32) && not b) → T (b || (not (eqb n 32) && not b))
    go true u = tt
    go false u = u

goes_of : (p : Party) (s : State) (xs : List Step) → Keeps p s xs → T (all lends (calls xs)) → T (all in_bytes (calls xs)) → Goes p s xs
unfolding calls all
goes_of p s [] k l f = tt
goes_of p s (our c ∷ xs) k l f =
    let b = k.0 in (
      inl (record {
        party = party_of p c.op c s b.party;
        sends = also c.op b.sends;
        high = b.high;
        full = and_left (lends c) (all lends (calls xs)) l;
        fits = and_left (in_bytes c) (all in_bytes (calls xs)) f;
      }),
      goes_of p (call s c).next xs k.1 (and_right (lends c) (all lends (calls xs)) l) (and_right (in_bytes c) (all in_bytes (calls xs)) f),
    )
goes_of p s (their c ∷ xs) k l f =
    let b = k.0 in (
      record { apart = b.apart; low = b.low; fits = and_left (in_bytes c) (all in_bytes (calls xs)) f },
      goes_of p (call s c).next xs k.1 (and_right (lends c) (all lends (calls xs)) l) (and_right (in_bytes c) (all in_bytes (calls xs)) f),
    )

pub run_goes : (p : Party) (s : State) (xs : List Step) → Run p s xs → Goes p s xs
run_goes p s xs h = goes_of p s xs h.keeps h.full h.fits

pub k_sees_the_same : Demand3
k_sees_the_same p s xs ys a h k e = core p s xs ys (begins_of p s a) (run_goes p s xs h) (run_goes p s ys k) e

-- ---- K's part at the end of a run is what its own calls make of its part at the beginning, so runs can follow one another

part_after : (p : Party) (s : State) (xs : List Step) → Ready p s → Goes p s xs → project p (reached s xs) ≡ reached (project p s) (map our (own xs))
unfolding reached own project_out
part_after p s [] r k = refl
part_after p s (our c ∷ xs) r k =
    part_after p (call s c).next xs (ours-ready p s c r k.0) k.1
    ∙ ap (λ (u : State). reached u (map our (own xs)))
    (sym (ap (λ (o : Outcome). o.next) (ours-alone p s c r k.0)))
part_after p s (their c ∷ xs) r k =
    part_after p (call s c).next xs (theirs_ready p s c r k.0) k.1
    ∙ ap (λ (u : State). reached u (map our (own xs))) (theirs_mild p s c r (theirs_of p s c k.0)).still

pub same_part_after : (p : Party) (s t : State) (xs ys : List Step) → Begins p s → Begins p t → project p s ≡ project p t → Goes p s xs → Goes p t ys → own xs ≡ own ys
    → project p (reached s xs) ≡ project p (reached t ys)
same_part_after p s t xs ys a b q h k e =
    part_after p s xs (start_ready p s a) h
    ∙ ap₂ (λ (u : State) (cs : List Call). reached u (map our cs)) q e
    ∙ sym (part_after p t ys (start_ready p t b) k)

-- ---- as before: two beginnings, and every moment

pub k_sees_its_part : (p : Party) (s t : State) (xs ys : List Step) → Start p s → Start p t → project p s ≡ project p t → Run p s xs → Run p t ys → own xs ≡ own ys
    → seen p s xs ≡ seen p t ys
k_sees_its_part p s t xs ys a b q h k e =
    part_sees_the_same p s t xs ys (begins_of p s a) (begins_of p t b) q (run_goes p s xs h) (run_goes p t ys k) e

left_alone : (p : Party) (s : State) (xs : List Step) (c : Call) → Ready p s → Goes p s (xs ++ their c ∷ []) → Mild p (reached s xs) (call (reached s xs) c)
unfolding reached
left_alone p s [] c r k = theirs_mild p s c r (theirs_of p s c k.0)
left_alone p s (our d ∷ xs) c r k = left_alone p (call s d).next xs c (ours-ready p s d r k.0) k.1
left_alone p s (their d ∷ xs) c r k = left_alone p (call s d).next xs c (theirs_ready p s d r k.0) k.1

pub others_leave_k_alone : (p : Party) (s : State) (xs : List Step) (c : Call) → Start p s → Run p s (xs ++ their c ∷ [])
    → (own_replies p (call (reached s xs) c).replies ≡ []) × (view p (call (reached s xs) c).next ≡ view p (reached s xs))
    × (waiters_of p (call (reached s xs) c).next ≡ waiters_of p (reached s xs))
unfolding view
others_leave_k_alone p s xs c t h =
    let g : Goes p s (xs ++ their c ∷ []) = run_goes p s (xs ++ their c ∷ []) h in
    let m : Mild p (reached s xs) (call (reached s xs) c) = left_alone p s xs c (start_ready p s (begins_of p s t)) g in
    (m.quiet, channels_of (call (reached s xs) c).next (reached s xs) m.still, waiters_of_lem (call (reached s xs) c).next (reached s xs) m.still)
  where
    channels_of : (u v : State) → project p u ≡ project p v → map (mask p) u.channels ≡ map (mask p) v.channels
    channels_of u v e = unfold project in ap (λ (x : State). x.channels) e

    waiters_of_lem : (u v : State) → project p u ≡ project p v → waiters_of p u ≡ waiters_of p v
    waiters_of_lem u v e = unfold waiters_of project own_locks in ap (λ (x : State). x.waiters) e
