-- What a call leaves of the waiting requests: some of them, or all and its own besides, whose id was idle; settling then takes some away.
-- The examples are named here so that they are computed before any law is proved: a wrong definition is told by an example.
-- Assumes nothing.
--
--   asking c       the request with which a call waits
--   Turn c s ws    the waiting requests of s become ws before settling
--   Stays c s ws   they are the same, or all and its own besides
use Prim.Native.Nat.{ℕ, zero, suc, ◌≤◌}
use mathlib.Core.Path.{◌≡◌, refl, subst, sym}
use mathlib.Core.Logic.{◌⊎◌, inl, inr}
use mathlib.Core.Bool.{Bool, true, false, not}
use mathlib.Core.List.{List, [], ◌∷◌, ◌++◌}
use native.Mathlib.Omega.{arith}
use lib.Dec.{T, eqb, ltb}
use lib.ListN.{length, length-map}
use Rattle.widening.specs.machine.Numbers.{nowait, synced, ALLOCFAILED}
use Rattle.std.specs.Prelude.{if◌then◌else◌}
use Rattle.widening.specs.machine.Lists.{all, keep, among, distinct}
use Rattle.widening.specs.machine.State.{Channel, Lock, Request, State, Outcome, Call, Op, OPEN, CLOSE, ABORT, Event, CYCLE_ENDED, GAVE_UP, EVENT, COMMAND}
use Rattle.widening.specs.machine.Maps.{meets, at, lowest}
use Rattle.widening.specs.machine.Choosing.{Look, fails, held, grants, look}
use Rattle.widening.specs.machine.Granting.{granted, cut}
use Rattle.widening.specs.machine.Commands.{finished, silent, each, each_change, matches, mismatch, playing, freeing, happened, leaving, do_free, do_finish, do_pervol, do_lock, do_read, do_write, do_waitcycle, do_event, do_close, do_abort}
use Rattle.widening.specs.machine.Allocating.{enqueue, waits, allocating, do_allocate, opening, do_open}
use Rattle.widening.specs.machine.Settling.{Found, nobody, somebody, Walk, Settled, staying, saying, on_look, walk, walked, go_on, rounds, settle}
use Rattle.widening.specs.machine.Sound.{sound, ids, writes_of}
use Rattle.widening.specs.machine.Kinds.{Kind, RESET, READ, WRITE, UPDATE, CLEAR, STOP, START, FLUSH, FREE, SETPREC, FINISH, PERVOL, LOCK, WAITCYCLE, ALLOCATE, UNKNOWN, kind}
use Rattle.widening.specs.machine.Refusals.{accepted, refusal}
use Rattle.widening.specs.machine.Call.{perform, settling, open_settling, accept}
use Rattle.widening.proofs.machine.Tests.{if_elim}
use Rattle.widening.proofs.machine.Steps.{first_none}
use Rattle.widening.specs.machine_laws.Lists.{Sub, end, skip, take}
use Rattle.widening.proofs.machine_laws.Lists.{sub_refl, sub_keep, sub_map, sub_all, sub_among, sub_distinct, sub_right, sub_trans, ins_all, ins_distinct, pigeon}
use Rattle.widening.specs.machine_laws.Sound.{Parts}
use Rattle.widening.specs.machine_laws.Keeping.{lock_ids, wait_ids}
use Rattle.widening.proofs.machine_laws.KeepingCalls.{id-small, enqueue-ids}
use Rattle.display.specs.Looks.{acting}
use Rattle.display.proofs.Examples.{rows-shown}

pub not_not : (x : Bool) → T (not (not x)) → T x
not_not true t = tt
not_not false t = t

abbrev pub asking : Call → Request
asking c = record { id = c.id; key = c.key; prec = c.prec; impatient = nowait c.flags; combos = c.combos }

abbrev pub Joins : Call → State → List Request → Type 0
Joins c s ws = T (ltb c.id 64) × T (not (among c.id (ids s))) × (ws ≡ enqueue (asking c) s.waiting)

abbrev pub Turn : Call → State → List Request → Type 0
Turn c s ws = Sub ws s.waiting ⊎ Joins c s ws

-- ---- the commands: but for an ABORT, nobody goes

abbrev pub Stays : Call → State → List Request → Type 0
Stays c s ws = (ws ≡ s.waiting) ⊎ Joins c s ws

abbrev Same : State → Outcome → Type 0
Same s o = o.next.waiting ≡ s.waiting

each_same : (n : ℕ) (f : Channel → Channel) (drops : Bool) (c : Call) (s : State) → Same s (each_change n f drops c s)
unfolding each_change each finished cut
each_same n f true c s = refl
each_same n f false c s = refl

event_same : (e : Event) (m : ℕ) (s : State) → (happened e m s).waiting ≡ s.waiting
unfolding happened cut
event_same CYCLE_ENDED m s = refl
event_same GAVE_UP m s = refl

allocating-stays : (l : Look) (c : Call) (s : State) → T (ltb c.id 64) → T (not (among c.id (ids s))) → Stays c s (allocating l c s).next.waiting
unfolding allocating waits finished silent granted
allocating-stays fails c s i n = if_elim (λ (o : Outcome). Stays c s o.next.waiting) (nowait c.flags) (λ _. inl refl) (λ _. inr (i, n, refl))
allocating-stays (held m) c s i n = inr (i, n, refl)
allocating-stays (grants m) c s i n = inl refl

perform-stays : (k : Kind) (c : Call) (s : State) → T (ltb c.id 64) → T (not (among c.id (ids s))) → Stays c s (perform k c s).next.waiting
unfolding perform do_read do_write do_free do_finish do_pervol do_lock do_waitcycle do_allocate each finished silent freeing cut
perform-stays RESET c s i n = inl (each_same _ _ true c s)
perform-stays READ c s i n = inl (if_elim (Same s) (matches c.key (at (lowest (length s.channels) c.map) s.channels)) (λ _. refl) (λ _. refl))
perform-stays WRITE c s i n = inl (if_elim (Same s) (matches c.key (at (lowest (length s.channels) c.map) s.channels)) (λ _. refl) (λ _. refl))
perform-stays UPDATE c s i n = inl (each_same _ _ false c s)
perform-stays CLEAR c s i n = inl (each_same _ _ false c s)
perform-stays STOP c s i n = inl (each_same _ _ false c s)
perform-stays START c s i n = inl (each_same _ _ false c s)
perform-stays FLUSH c s i n = inl (each_same _ _ true c s)
perform-stays FREE c s i n = inl refl
perform-stays SETPREC c s i n = inl (each_same _ _ false c s)
perform-stays FINISH c s i n = inl (if_elim (Same s) (synced c.flags) (λ _. each_same _ _ false c s) (λ _. refl))
perform-stays PERVOL c s i n = inl (each_same _ _ false c s)
perform-stays LOCK c s i n =
    inl
    (if_elim (Same s) (mismatch c.key c.map s.channels) (λ _. refl) (λ _. if_elim (Same s) (eqb c.map 0) (λ _. refl) (λ _. refl)))
perform-stays WAITCYCLE c s i n =
    let h = at (lowest (length s.channels) c.map) s.channels in
    inl
    (if_elim (Same s) (not (matches c.key h)) (λ _. refl) (λ _. if_elim (Same s) (playing h) (λ _. refl) (λ _. refl)))
perform-stays ALLOCATE c s i n = allocating-stays (look c.prec c.combos s.channels) c s i n
perform-stays UNKNOWN c s i n = inl refl

opening_same : (l : Look) (c : Call) (s : State) → Same s (opening l c s)
unfolding opening silent granted
opening_same fails c s = refl
opening_same (held m) c s = refl
opening_same (grants m) c s = refl

-- ---- acting

pub acting-stays : (o : Op) (c : Call) (s : State) → (o ≡ ABORT → ⊥) → refusal o c s ≡ accepted → Stays c s (acting o c s).next.waiting
unfolding acting refusal do_open do_close do_event silent freeing cut
acting-stays OPEN c s n e = inl (opening_same (look c.prec c.combos s.channels) c s)
acting-stays CLOSE c s n e = inl refl
acting-stays ABORT c s n e = absurd (n refl)
acting-stays (EVENT v) c s n e =
    inl
    (if_elim (Same s) (playing (at (lowest (length s.channels) c.map) s.channels)) (λ _. event_same v (lowest (length s.channels) c.map) s) (λ _. refl))
acting-stays (COMMAND k) c s n e =
    let f = first_none _ e in perform-stays (kind k) c s (id-small c.id f.1.1.0) f.1.1.1.1.0

-- an ABORT takes away whoever has its id
pub abort_keeps : (c : Call) (s : State) → (acting ABORT c s).next.waiting ≡ keep (λ (r : Request). not (eqb c.id r.id)) s.waiting
unfolding acting do_abort silent cut leaving
abort_keeps c s = refl

stays_turn : (c : Call) (s : State) {ws : List Request} → Stays c s ws → Turn c s ws
stays_turn c s (inl e) = inl (subst (λ (us : List Request). Sub us s.waiting) (sym e) (sub_refl s.waiting))
stays_turn c s (inr j) = inr j

pub acting_turn : (o : Op) (c : Call) (s : State) → refusal o c s ≡ accepted → Turn c s (acting o c s).next.waiting
acting_turn OPEN c s e = stays_turn c s (acting-stays OPEN c s (λ q. let z : ◌≡◌ {A = ℕ} 0 1 = cc in omega arith) e)
acting_turn CLOSE c s e = stays_turn c s (acting-stays CLOSE c s (λ q. let z : ◌≡◌ {A = ℕ} 0 1 = cc in omega arith) e)
acting_turn ABORT c s e =
    inl (subst (λ (us : List Request). Sub us s.waiting) (sym (abort_keeps c s)) (sub_keep (λ (r : Request). not (eqb c.id r.id)) s.waiting))
acting_turn (EVENT v) c s e = stays_turn c s (acting-stays (EVENT v) c s (λ q. let z : ◌≡◌ {A = ℕ} 0 1 = cc in omega arith) e)
acting_turn (COMMAND k) c s e = stays_turn c s (acting-stays (COMMAND k) c s (λ q. let z : ◌≡◌ {A = ℕ} 0 1 = cc in omega arith) e)

-- ---- how many wait then, and their ids

pub accepted-sound : (o : Op) (c : Call) (s : State) → refusal o c s ≡ accepted → T (sound s)
unfolding refusal
accepted-sound OPEN c s e = not_not (sound s) (first_none _ e).0
accepted-sound CLOSE c s e = not_not (sound s) (first_none _ e).0
accepted-sound ABORT c s e = not_not (sound s) (first_none _ e).0
accepted-sound (EVENT v) c s e = not_not (sound s) (first_none _ e).0
accepted-sound (COMMAND k) c s e = not_not (sound s) (first_none _ e).0

pub waiting-apart : (s : State) → Parts s → T (distinct (wait_ids s.waiting))
unfolding ids
waiting-apart s p = sub_distinct (sub_right (writes_of s.channels ++ lock_ids s.locks ++ lock_ids s.waiters) (sub_refl (wait_ids s.waiting))) p.apart

module _ (c : Call) (s : State) (p : Parts s) where
  -- its own id was idle
  pub idle-waiting : T (not (among c.id (ids s))) → T (not (among c.id (wait_ids s.waiting)))
  unfolding ids
  idle-waiting = sub_among c.id (sub_right (writes_of s.channels ++ lock_ids s.locks ++ lock_ids s.waiters) (sub_refl (wait_ids s.waiting)))

  pub turn_apart : (ws : List Request) → Turn c s ws → T (distinct (wait_ids ws))
  turn_apart ws (inl h) = sub_distinct (sub_map (λ (r : Request). r.id) h) (waiting-apart s p)
  turn_apart ws (inr h) = rw h.2 (ins_distinct (enqueue-ids (asking c) s.waiting) (idle-waiting h.1) (waiting-apart s p))

  pub turn_small : (ws : List Request) → Turn c s ws → T (all (λ i. ltb i 64) (wait_ids ws))
  unfolding ids
  turn_small ws t =
      let a = sub_all (λ i. ltb i 64) (sub_right (writes_of s.channels ++ lock_ids s.locks ++ lock_ids s.waiters) (sub_refl (wait_ids s.waiting))) p.small in
      go a t
    where
      go : T (all (λ i. ltb i 64) (wait_ids s.waiting)) → Turn c s ws → T (all (λ i. ltb i 64) (wait_ids ws))
      go a (inl h) = sub_all (λ i. ltb i 64) (sub_map (λ (r : Request). r.id) h) a
      go a (inr h) = rw h.2 (ins_all (λ i. ltb i 64) (enqueue-ids (asking c) s.waiting) h.0 a)

  -- at most one of each of the 64 ids waits
  pub turn_few : (ws : List Request) → Turn c s ws → length ws ≤ 64
  turn_few ws t =
      subst (λ (n : ℕ). n ≤ 64) (length-map ws (λ (r : Request). r.id)) (pigeon 64 (wait_ids ws) (turn_apart ws t) (turn_small ws t))

-- ---- settle: only requests that waited are left

on_look_sub : (n : ℕ) (l : Look) (r : Request) (rs : List Request) (ls : List Lock) (rest : List Lock → Walk)
    → ((k : List Lock) → Sub (rest k).waiting rs) → Sub (on_look n l r rs ls rest).waiting (r ∷ rs)
unfolding on_look saying staying
on_look_sub n fails r rs ls rest ih =
    if_elim (λ (w : Walk). Sub w.waiting (r ∷ rs)) r.impatient (λ _. skip (ih ls)) (λ _. take (ih ls))
on_look_sub n (held m) r rs ls rest ih = take (ih (keep (λ l. not (meets n m l.map)) ls))
on_look_sub n (grants m) r rs ls rest ih = skip (sub_refl rs)

pub walk_sub : (cs : List Channel) (rs : List Request) (ls : List Lock) → Sub (walk cs rs ls).waiting rs
unfolding walk
walk_sub cs [] ls = end
walk_sub cs (r ∷ rs) ls = on_look_sub (length cs) (look r.prec r.combos cs) r rs ls (walk cs rs) (walk_sub cs rs)

go_on_sub : (f : Found) (w : Walk) (s : State) (again : State → Settled) → Sub w.waiting s.waiting
    → ((u : State) → Sub (again u).state.waiting u.waiting) → Sub (go_on f w s again).state.waiting s.waiting
unfolding go_on walked granted
go_on_sub nobody w s again h ih = h
go_on_sub (somebody r m) w s again h ih = sub_trans (ih (granted m r.key r.prec (walked w s))) h

rounds_sub : (n : ℕ) (s : State) → Sub (rounds n s).state.waiting s.waiting
unfolding rounds
rounds_sub zero s = sub_refl s.waiting
rounds_sub (suc n) s =
    let w = walk s.channels s.waiting s.locks in
    go_on_sub w.found w s (rounds n) (walk_sub s.channels s.waiting s.locks) (rounds_sub n)

pub settle_sub : (s : State) → Sub (settle s).state.waiting s.waiting
unfolding settle
settle_sub s = rounds_sub (suc (length s.waiting)) s

pub accept_sub : (o : Op) (c : Call) (s : State) → Sub (accept o c s).next.waiting (acting o c s).next.waiting
unfolding accept acting settling open_settling
accept_sub OPEN c s =
    if_elim (λ (o : Outcome). Sub o.next.waiting (do_open c s).next.waiting) (eqb (do_open c s).answer.error ALLOCFAILED)
    (λ _. sub_refl (do_open c s).next.waiting) (λ _. settle_sub (do_open c s).next)
accept_sub CLOSE c s = settle_sub (do_close c s).next
accept_sub ABORT c s = settle_sub (do_abort c s).next
accept_sub (EVENT v) c s = settle_sub (do_event v c s).next
accept_sub (COMMAND k) c s = settle_sub (perform (kind k) c s).next
