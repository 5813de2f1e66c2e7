-- A call that the board does not refuse, on the board with free channels behind it: the same answer, the same replies, and the
-- same state with those channels still free behind it. Assumes nothing.
use Prim.Native.Nat.{ℕ, zero, suc, ◌+◌, ◌^◌, ◌≤◌, ◌<◌}
use mathlib.Core.Path.{◌≡◌, refl, ap, ap₂, subst, sym, ◌∙◌}
use mathlib.Core.Logic.{◌⊎◌, inl, inr}
use mathlib.Core.Bool.{Bool, true, false, not, ◌&&◌, true≢false}
use mathlib.Core.List.{List, [], ◌∷◌, ◌++◌, map}
use native.Mathlib.Omega.{arith}
use native.Mathlib.Nat.{pow-le-pow_right}
use lib.Dec.{T, eqb, leb, ltb, leb→le, le→leb, ltb→lt, lt→ltb}
use lib.ListN.{length}
use Rattle.machine_laws.specs.machine.Numbers.{ALLOCFAILED, NONE, CYCLES, CMD_WRITE}
use Rattle.std.specs.Prelude.{if◌then◌else◌}
use Rattle.machine_laws.specs.machine.Lists.{all, any, among}
use Rattle.machine_laws.specs.machine.State.{Channel, Lock, Request, State, Reply, Outcome, Call, Op, OPEN, CLOSE, ABORT, EVENT, COMMAND, free}
use Rattle.machine_laws.specs.machine.Maps.{lowest, named, at}
use Rattle.machine_laws.specs.machine.Sound.{sound_lock, sound_request, ids, sound}
use Rattle.machine_laws.specs.machine.Commands.{reset, same, set_stop, flushed, set_prec, done, finished, silent, matches, set_writes, cycles_in, write_of, do_pervol, do_write, do_close, do_abort, do_event}
use Rattle.machine_laws.specs.machine.Allocating.{do_open}
use Rattle.machine_laws.specs.machine.Settling.{Settled, settle}
use Rattle.machine_laws.specs.machine.Kinds.{Kind, RESET, READ, WRITE, UPDATE, CLEAR, STOP, START, FLUSH, FREE, SETPREC, FINISH, PERVOL, LOCK, WAITCYCLE, ALLOCATE, UNKNOWN, kind, allocates}
use Rattle.machine_laws.specs.machine.Bytes.{number}
use Rattle.machine_laws.specs.machine.Refusals.{Refusal, accepted, refused, first, bad_map, bad_maps, refusal, refuse}
use Rattle.machine_laws.specs.machine.Call.{perform, settling, open_settling, accept, answering, call, in_range}
use Rattle.machine_laws.proofs.machine.Tests.{if_elim, and_left, and_right, and_both, nor_left, nor_right, nor_both, test_false}
use Rattle.machine_laws.proofs.Maps.{length-change}
use Rattle.machine_laws.specs.Sound.{Parts}
use Rattle.machine_laws.proofs.Sound.{unparts, in_use_few}
use Rattle.machine_laws.specs.machine.Steps.{NoneOf}
use Rattle.machine_laws.proofs.machine.Steps.{first_none}
use Rattle.machine_laws.proofs.KeepingSettle.{look_unlocked}
use Rattle.machine_laws.proofs.KeepingCalls.{open_sound, close_sound, abort_sound, event_sound, perform-sound, range-prec, range-key, id-small}
use Rattle.widening.specs.Widening.{wider, widen, widen_o, widen_s, small_list, Few, Waits}
use Rattle.widening.proofs.Sound.{map_more, maps_more, ids-wide, sound-wide}
use Rattle.widening.proofs.Settling.{settle-wide}
use Rattle.widening.proofs.Commands.{Locks, change_each_lem, free_wide, lock-wide, read_wide, write_wide, waitcycle_wide, finish-wide, event_wide, close_wide, abort_wide, allocate_wide, open_wide}

-- ---- what a sound state stores fits its board

request-small : (cs : List Channel) (r : Request) → T (sound_request cs r) → T (small_list (length cs) r.combos)
unfolding sound_request small_list
request-small cs r t =
    let a = leb 1 (length r.combos) && leb (length r.combos) 16 in
    let b = all (λ m. ltb m (2 ^ length cs)) r.combos in
    let d = leb r.key 65535 in
    let e = leb r.prec 255 in
    and_right a b (and_left (a && b) d (and_left (a && b && d) e t))

requests_small : (cs : List Channel) (rs : List Request) → T (all (sound_request cs) rs) → Waits (length cs) rs
unfolding all
requests_small cs [] t = tt
requests_small cs (r ∷ rs) t =
    and_both (small_list (length cs) r.combos) (all (λ r. small_list (length cs) r.combos) rs)
    (request-small cs r (and_left (sound_request cs r) (all (sound_request cs) rs) t))
    (requests_small cs rs (and_right (sound_request cs r) (all (sound_request cs) rs) t))

lock-small : (cs : List Channel) (l : Lock) → T (sound_lock cs l) → T (ltb l.map (2 ^ length cs))
unfolding sound_lock
lock-small cs l t =
    let a = not (eqb l.map 0) in
    let b = ltb l.map (2 ^ length cs) in
    let d = not (eqb l.key 0) in
    let e = named (λ c. c.locked && eqb c.key l.key) l.map cs in
    and_right a b (and_left (a && b) d (and_left (a && b && d) e t))

locks-small : (cs : List Channel) (ls : List Lock) → T (all (sound_lock cs) ls) → Locks (length cs) ls
unfolding all
locks-small cs [] t = tt
locks-small cs (l ∷ ls) t =
    and_both (ltb l.map (2 ^ length cs)) (all (λ l. ltb l.map (2 ^ length cs)) ls)
    (lock-small cs l (and_left (sound_lock cs l) (all (sound_lock cs) ls) t))
    (locks-small cs ls (and_right (sound_lock cs l) (all (sound_lock cs) ls) t))

module _ (s : State) (p : Parts s) where
  pub waits_fit : Waits (length s.channels) s.waiting
  waits_fit = requests_small s.channels s.waiting p.waiting_ok

  pub locks_fit : Locks (length s.channels) s.locks
  locks_fit = locks-small s.channels s.locks p.locks_ok

  pub few_fit : Few s
  few_fit = let h = in_use_few s p in omega arith

-- ---- what a call that is not refused names is on the board

not_not : (x : Bool) → T (not (not x)) → T x
not_not true w = tt
not_not false w = w

pub map_on : (c : Call) (s : State) → T (not (bad_map c s)) → c.map < 2 ^ length s.channels
unfolding bad_map
map_on c s t = ltb→lt c.map (2 ^ length s.channels) (not_not (ltb c.map (2 ^ length s.channels)) t)

pub list_on : (b : ℕ) (ms : List ℕ) → T (not (any (λ m. not (ltb m b)) ms)) → T (all (λ m. ltb m b) ms)
unfolding any all
list_on b [] u = tt
list_on b (m ∷ ms) u =
    and_both (ltb m b) (all (λ x. ltb x b) ms) (not_not (ltb m b) (nor_left (not (ltb m b)) (any (λ x. not (ltb x b)) ms) u))
    (list_on b ms (nor_right (not (ltb m b)) (any (λ x. not (ltb x b)) ms) u))

pub maps_on : (c : Call) (s : State) → T (not (bad_maps c s)) → T (small_list (length s.channels) c.combos)
unfolding bad_maps small_list
maps_on c s t = list_on (2 ^ length s.channels) c.combos t

-- ---- the operations

pub perform-wide : (k : ℕ) (q : Kind) (c : Call) (s : State) → Parts s → T (not (if allocates q then bad_maps c s else bad_map c s))
    → perform q c (widen k s) ≡ widen_o k (perform q c s)
unfolding perform allocates
perform-wide k RESET c s p t = change_each_lem k s 1 reset true c (map_on c s t)
perform-wide k READ c s p t = read_wide k s c (map_on c s t)
perform-wide k WRITE c s p t = write_wide k s c (map_on c s t)
perform-wide k UPDATE c s p t = change_each_lem k s 4 same false c (map_on c s t)
perform-wide k CLEAR c s p t = change_each_lem k s 5 same false c (map_on c s t)
perform-wide k STOP c s p t = change_each_lem k s 6 (set_stop true) false c (map_on c s t)
perform-wide k START c s p t = change_each_lem k s 7 (set_stop false) false c (map_on c s t)
perform-wide k FLUSH c s p t = change_each_lem k s 8 flushed true c (map_on c s t)
perform-wide k FREE c s p t = free_wide k s c (map_on c s t) (locks_fit s p)
perform-wide k SETPREC c s p t = change_each_lem k s 10 (set_prec c.prec) false c (map_on c s t)
perform-wide k FINISH c s p t = finish-wide k s c (map_on c s t)
perform-wide k PERVOL c s p t = unfold do_pervol in change_each_lem k s 12 _ false c (map_on c s t)
perform-wide k LOCK c s p t = lock-wide k s c (map_on c s t)
perform-wide k WAITCYCLE c s p t = waitcycle_wide k s c (map_on c s t)
perform-wide k ALLOCATE c s p t = allocate_wide k c s (maps_on c s t) (few_fit s p)
perform-wide k UNKNOWN c s p t = unfold silent in refl

-- what settling asks of a state
pub record Fit (s : State) : Type 0 where
  pub few : Few s
  pub waits : Waits (length s.channels) s.waiting

pub sound_fit : (s : State) → Parts s → Fit s
sound_fit s p = record { few = few_fit s p; waits = waits_fit s p }

-- a WRITE leaves all of it, whatever numbers it carries
pub write_fit : (c : Call) (s : State) → Fit s → Fit (do_write c s).next
unfolding do_write silent finished
write_fit c s f =
    let m = lowest (length s.channels) c.map in
    let g = set_writes ((at m s.channels).writes ++ write_of c ∷ []) in
    if_elim (λ (o : Outcome). Fit o.next) (matches c.key (at m s.channels))
    (λ _. let e = length-change g m s.channels in record { few = rw e f.few; waits = rw e f.waits })
    (λ _. f)

no_write : (q : Kind) → eqb (number q) CMD_WRITE ≡ false → (q ≡ WRITE) ⊎ (q ≡ WRITE → ⊥)
unfolding number
no_write q e = inr (λ w. true≢false (sym (ap (λ (x : Kind). eqb (number x) CMD_WRITE) w) ∙ e))

is_write : (q : Kind) → (q ≡ WRITE) ⊎ (q ≡ WRITE → ⊥)
unfolding number
is_write RESET = no_write RESET refl
is_write READ = no_write READ refl
is_write WRITE = inl refl
is_write UPDATE = no_write UPDATE refl
is_write CLEAR = no_write CLEAR refl
is_write STOP = no_write STOP refl
is_write START = no_write START refl
is_write FLUSH = no_write FLUSH refl
is_write FREE = no_write FREE refl
is_write SETPREC = no_write SETPREC refl
is_write FINISH = no_write FINISH refl
is_write PERVOL = no_write PERVOL refl
is_write LOCK = no_write LOCK refl
is_write WAITCYCLE = no_write WAITCYCLE refl
is_write ALLOCATE = no_write ALLOCATE refl
is_write UNKNOWN = no_write UNKNOWN refl

settling-wide : (k : ℕ) (o o' : Outcome) → o' ≡ widen_o k o → Fit o.next → settling o' ≡ widen_o k (settling o)
unfolding settling
settling-wide k o o' e f =
    let q = settle-wide k o.next f.few f.waits in
    ap settling e ∙ ap (λ (t : Settled). record { answer = o.answer; replies = o.replies ++ t.replies; next = t.state }) q

pub accept-wide : (k : ℕ) (o : Op) (c : Call) (s : State) → Parts s → T (in_range c) → refusal o c s ≡ accepted
    → accept o c (widen k s) ≡ widen_o k (accept o c s)
unfolding accept refusal open_settling
accept-wide k OPEN c s p r e =
    let n = first_none _ e in
    let w = open_wide k c s (maps_on c s n.1.1.1.0) (few_fit s p) in
    let q : Parts (do_open c s).next = unfold do_open in open_sound _ c s p (look_unlocked c.prec c.combos s.channels) (range-prec c r) (range-key c r) n.1.1.1.1.0 in
    rw w (go (eqb (do_open c s).answer.error ALLOCFAILED) (settling-wide k (do_open c s) (widen_o k (do_open c s)) refl (sound_fit (do_open c s).next q)))
  where
    go : (b : Bool) → settling (widen_o k (do_open c s)) ≡ widen_o k (settling (do_open c s)) → (if b then widen_o k (do_open c s) else settling (widen_o k (do_open c s))) ≡ widen_o k (if b then do_open c s else settling (do_open c s))
    go true x = refl
    go false x = x
accept-wide k CLOSE c s p r e = settling-wide k (do_close c s) (do_close c (widen k s)) (close_wide k s c (locks_fit s p)) (sound_fit (do_close c s).next (close_sound c s p))
accept-wide k ABORT c s p r e = settling-wide k (do_abort c s) (do_abort c (widen k s)) (abort_wide k c s) (sound_fit (do_abort c s).next (abort_sound c s p))
accept-wide k (EVENT v) c s p r e =
    let n = first_none _ e in
    settling-wide k (do_event v c s) (do_event v c (widen k s)) (event_wide k s v c (map_on c s n.1.1.0)) (sound_fit (do_event v c s).next (event_sound v c s p))
accept-wide k (COMMAND j) c s p r e =
    let n = first_none _ e in
    settling-wide k (perform (kind j) c s) (perform (kind j) c (widen k s)) (perform-wide k (kind j) c s p n.1.1.1.1.1.1.1.1.0)
    (go (is_write (kind j))
    (perform-sound (kind j) c s p r (id-small c.id n.1.1.0) n.1.1.1.1.0 n.1.1.1.1.1.1.1.0 n.1.1.1.1.1.1.1.1.0 n.1.1.1.1.1.1.1.1.1.0))
  where
    go : (kind j ≡ WRITE) ⊎ (kind j ≡ WRITE → ⊥) → ((kind j ≡ WRITE → cycles_in c.combos ≤ CYCLES) → Parts (perform (kind j) c s).next)
        → Fit (perform (kind j) c s).next
    go (inl w) f = rw w (unfold perform in write_fit c s (sound_fit s p))
    go (inr w) f = sound_fit (perform (kind j) c s).next (f (λ e. absurd (w e)))

refuse-wide : (k : ℕ) (o : Op) (x : ℕ) (c : Call) (s : State) → refuse o x c (widen k s) ≡ widen_o k (refuse o x c s)
unfolding refuse silent finished
refuse-wide k OPEN x c s = refl
refuse-wide k CLOSE x c s = refl
refuse-wide k ABORT x c s = refl
refuse-wide k (EVENT v) x c s = refl
refuse-wide k (COMMAND n) x c s = go (leb x 8)
  where
    a : Outcome
    a = silent (done x 0 c.key NONE) [] s

    d : Outcome
    d = finished n c (done x 0 c.key NONE) [] s

    go : (b : Bool) → (if b then widen_o k a else widen_o k d) ≡ widen_o k (if b then a else d)
    go true = refl
    go false = refl

-- the whole call: refused by the board's own width, or done on the wide one
pub call-wide : (k : ℕ) (s : State) (c : Call) → Parts s → T (in_range c) → answering (refusal c.op c s) c (widen k s) ≡ widen_o k (call s c)
unfolding call answering
call-wide k s c p r = go (refusal c.op c s) refl
  where
    go : (f : Refusal) → refusal c.op c s ≡ f → answering f c (widen k s) ≡ widen_o k (answering f c s)
    go accepted e = accept-wide k c.op c s p r e
    go (refused x) e = refuse-wide k c.op x c s

-- ---- what the board accepts is accepted by the wider one: its tests are the same, or ask less of a map

none_first : (ts : List (Bool × ℕ)) → NoneOf ts → first ts ≡ accepted
unfolding first
none_first [] n = refl
none_first (t ∷ ts) n = rw (test_false t.0 n.0) (none_first ts n.1)

not_bad : (x : Bool) → T x → T (not (not x))
not_bad true t = tt
not_bad false t = t

list_off : (b : ℕ) (ms : List ℕ) → T (all (λ m. ltb m b) ms) → T (not (any (λ m. not (ltb m b)) ms))
unfolding any all
list_off b [] u = tt
list_off b (m ∷ ms) u =
    nor_both (not (ltb m b)) (any (λ x. not (ltb x b)) ms) (not_bad (ltb m b) (and_left (ltb m b) (all (λ x. ltb x b) ms) u))
    (list_off b ms (and_right (ltb m b) (all (λ x. ltb x b) ms) u))

module _ (k : ℕ) (c : Call) (s : State) where
  bad_map-wide : T (not (bad_map c s)) → T (not (bad_map c (widen k s)))
  unfolding bad_map
  bad_map-wide t = not_bad (ltb c.map (2 ^ length (wider k s.channels))) (map_more k c.map s.channels (not_not (ltb c.map (2 ^ length s.channels)) t))

  bad_maps-wide : T (not (bad_maps c s)) → T (not (bad_maps c (widen k s)))
  unfolding bad_maps
  bad_maps-wide t = list_off (2 ^ length (wider k s.channels)) c.combos (maps_more k s.channels c.combos (list_on (2 ^ length s.channels) c.combos t))

  bad_wide : (b : Bool) → T (not (if b then bad_maps c s else bad_map c s)) → T (not (if b then bad_maps c (widen k s) else bad_map c (widen k s)))
  bad_wide true t = bad_maps-wide t
  bad_wide false t = bad_map-wide t

  module _ (p : Parts s) (h : length s.channels + k ≤ 8) where
    sane : T (not (not (sound (widen k s))))
    sane = not_bad (sound (widen k s)) (unparts (widen k s) (sound-wide k s p h))

    pub accepted-wide : (o : Op) → refusal o c s ≡ accepted → refusal o c (widen k s) ≡ accepted
    unfolding refusal
    accepted-wide OPEN e = let n = first_none _ e in none_first _ (sane, (n.1.0, (n.1.1.0, (bad_maps-wide n.1.1.1.0, (n.1.1.1.1.0, tt)))))
    accepted-wide CLOSE e = let n = first_none _ e in none_first _ (sane, n.1)
    accepted-wide ABORT e = let n = first_none _ e in none_first _ (sane, n.1)
    accepted-wide (EVENT v) e = let n = first_none _ e in none_first _ (sane, (n.1.0, (bad_map-wide n.1.1.0, tt)))
    accepted-wide (COMMAND j) e =
        let n = first_none _ e in
        let i : T (not (among c.id (ids (widen k s)))) = rw (ids-wide k s) n.1.1.1.1.0 in
        let m = n.1.1.1.1.1 in
        none_first _ (sane, (n.1.0, (n.1.1.0, (n.1.1.1.0, (i, (m.0, (m.1.0, (m.1.1.0, (bad_wide (allocates (kind j)) m.1.1.1.0, m.1.1.1.1)))))))))
