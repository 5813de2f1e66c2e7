-- Every operation before settling, with free channels behind the board. Assumes nothing.
use Prim.Native.Nat.{ℕ, zero, suc, pred, ◌+◌, ◌*◌, ◌^◌, ◌≤◌, ◌<◌}
use mathlib.Core.Path.{◌≡◌, refl, ap, ap₂, subst, sym, ◌∙◌}
use mathlib.Core.Bool.{Bool, true, false, not}
use mathlib.Core.List.{List, [], ◌∷◌, ◌++◌, map}
use lib.Dec.{T, eqb, ltb, ltb→lt}
use lib.ListN.{length, length-map}
use Rattle.machine_laws.specs.machine.Numbers.{nowait, synced, NOALLOCATION, NONE, ALLOCFAILED}
use Rattle.std.specs.Prelude.{if◌then◌else◌}
use Rattle.machine_laws.specs.machine.Lists.{all, keep}
use Rattle.machine_laws.specs.machine.State.{Channel, Lock, Request, State, Reply, Answer, Outcome, Event, CYCLE_ENDED, GAVE_UP, Call, free, with_channels, with_locks, with_waiters, frees}
use Rattle.machine_laws.specs.machine.Maps.{minus, lowest, named, change, at}
use Rattle.machine_laws.specs.machine.Choosing.{Look, fails, held, grants, look}
use Rattle.machine_laws.specs.machine.Granting.{key_for, aborted, aborted_in, cut, cut_replies, dropped, granted}
use Rattle.machine_laws.specs.machine.Commands.{matches, matching, mismatch, done, pending, finished, silent, freed, set_lock, set_writes, cleared, is_empty, ended, freeing, freeing_replies, each, each_change, do_free, do_lock, front, playing, do_read, write_of, do_write, do_waitcycle, in_progress, front_only, front_gone, front_cycled, cut_fronts, front_replies, event_replies, happened, on_front, remember_finish, do_finish, do_event, owned, do_close, aborted_writes, aborted_waits, without, led_by, aborted_by, leaving, do_abort}
use Rattle.machine_laws.specs.machine.Allocating.{enqueue, waits, allocating, do_allocate, opening, do_open}
use Rattle.machine_laws.specs.machine.Kinds.{Kind, RESET, READ, WRITE, UPDATE, CLEAR, STOP, START, FLUSH, FREE, SETPREC, LOCK, ALLOCATE, UNKNOWN}
use Rattle.machine_laws.specs.machine.Call.{perform}
use Rattle.machine_laws.proofs.machine.Tests.{and_left, and_right, by_test, test_true, test_false}
use Rattle.machine_laws.proofs.Maps.{lowest-small}
use Rattle.widening.specs.Widening.{wider, widen, widen_o, small_list, Few}
use Rattle.widening.proofs.Maps.{length-wider, named-wide, change-wide, at_wide, matching-wide, in_progress-wide, led_wide, owned-wide, fronts_wide, aborted-wide, lowest-wide, minus-wide, matching-small, in_progress-small, led_small, owned-small}
use Rattle.widening.proofs.Choosing.{BelowL, look_below, look_wide}
use Rattle.widening.proofs.Keys.{key_for-wide, on_wide, cut_wide, cut_says, dropped-wide, granted-wide}

-- ---- the locks

abbrev pub Locks : ℕ → List Lock → Type 0
Locks n ls = T (all (λ l. ltb l.map (2 ^ n)) ls)

cleared-wide : (n k f : ℕ) (ls : List Lock) → Locks n ls → cleared (n + k) f ls ≡ cleared n f ls
unfolding cleared all
cleared-wide n k f [] t = refl
cleared-wide n k f (l ∷ ls) t =
    let a = ltb→lt l.map (2 ^ n) (and_left (ltb l.map (2 ^ n)) (all (λ l. ltb l.map (2 ^ n)) ls) t) in
    let b = and_right (ltb l.map (2 ^ n)) (all (λ l. ltb l.map (2 ^ n)) ls) t in
    ap₂ (λ (x : ℕ) (y : List Lock). record { id = l.id; key = l.key; map = x } ∷ y) (minus-wide n k l.map f a) (unfold cleared in cleared-wide n k f ls b)

-- ---- one operation at a time

module _ (k : ℕ) (s : State) where
  abbrev cs : List Channel
  cs = s.channels

  change-state : (f : Channel → Channel) (m : ℕ) → m < 2 ^ length cs → with_channels (change f m (wider k cs)) (widen k s) ≡ widen k (with_channels (change f m cs) s)
  change-state f m h = ap (λ (x : List Channel). with_channels x s) (change-wide f k m cs h)

  cut_state : (f : Channel → Channel) (m : ℕ) → m < 2 ^ length cs → with_channels (change f m (wider k cs)) (cut m (widen k s)) ≡ widen k (with_channels (change f m cs) (cut m s))
  cut_state f m h = ap₂ (λ (x : List Channel) (u : State). with_channels x u) (change-wide f k m cs h) (cut_wide k m s h)

  cleared-state : (f : ℕ) → Locks (length cs) s.locks → cleared (length (wider k cs)) f s.locks ≡ cleared (length cs) f s.locks
  cleared-state f t = ap (λ (n : ℕ). cleared n f s.locks) (length-wider k cs) ∙ cleared-wide (length cs) k f s.locks t

  freeing-wide : (f : ℕ) → f < 2 ^ length cs → Locks (length cs) s.locks → freeing f (widen k s) ≡ widen k (freeing f s)
  unfolding freeing
  freeing-wide f h t =
      rw (cut_wide k f s h, change-wide freed k f cs h, cleared-state f t) refl

  freeing_says : (f : ℕ) → f < 2 ^ length cs → Locks (length cs) s.locks → freeing_replies f (widen k s) ≡ freeing_replies f s
  unfolding freeing_replies
  freeing_says f h t = ap₂ (λ (x : List Reply) (y : List Lock). x ++ map (ended 0) (keep is_empty y)) (dropped-wide k f s h) (cleared-state f t)

  mismatch-wide : (key m : ℕ) → m < 2 ^ length cs → mismatch key m (wider k cs) ≡ mismatch key m cs
  unfolding mismatch
  mismatch-wide key m h = ap not (named-wide (matches key) k m cs h)

  finished-wide : (n : ℕ) (c : Call) (a : Answer) (rs : List Reply) (u : State) → finished n c a rs (widen k u) ≡ widen_o k (finished n c a rs u)
  unfolding finished
  finished-wide n c a rs u = refl

  silent-wide : (a : Answer) (rs : List Reply) (u : State) → silent a rs (widen k u) ≡ widen_o k (silent a rs u)
  unfolding silent
  silent-wide a rs u = refl

  each_wide : (n : ℕ) (c : Call) (rs : List Reply) (u : State) → c.map < 2 ^ length cs → each n c rs (widen k u) (widen k s) ≡ widen_o k (each n c rs u s)
  unfolding each
  each_wide n c rs u h =
      ap₂ (λ (m : ℕ) (b : Bool). finished n c (done (if b then NOALLOCATION else 0) m c.key NONE) rs (widen k u)) (matching-wide c.key k c.map cs) (mismatch-wide c.key c.map h)
      ∙ finished-wide n c (done (if mismatch c.key c.map cs then NOALLOCATION else 0) (matching c.key c.map cs) c.key NONE) rs u

  pub change_each_lem : (n : ℕ) (f : Channel → Channel) (drops : Bool) (c : Call) → c.map < 2 ^ length cs → each_change n f drops c (widen k s) ≡ widen_o k (each_change n f drops c s)
  unfolding each_change
  change_each_lem n f true c h =
      let m = matching c.key c.map cs in
      let l = matching-small c.key c.map cs in
      ap (λ (x : ℕ). each n c (dropped x (widen k s)) (with_channels (change f x (wider k cs)) (cut x (widen k s))) (widen k s)) (matching-wide c.key k c.map cs)
      ∙ ap₂ (λ (x : List Reply) (u : State). each n c x u (widen k s)) (dropped-wide k m s l) (cut_state f m l)
      ∙ each_wide n c (dropped m s) (with_channels (change f m cs) (cut m s)) h
  change_each_lem n f false c h =
      let m = matching c.key c.map cs in
      ap (λ (x : ℕ). each n c [] (with_channels (change f x (wider k cs)) (widen k s)) (widen k s)) (matching-wide c.key k c.map cs)
      ∙ ap (λ (u : State). each n c [] u (widen k s)) (change-state f m (matching-small c.key c.map cs))
      ∙ each_wide n c [] (with_channels (change f m cs) s) h

  pub free_wide : (c : Call) → c.map < 2 ^ length cs → Locks (length cs) s.locks → do_free c (widen k s) ≡ widen_o k (do_free c s)
  unfolding do_free
  free_wide c h t =
      let m = matching c.key c.map cs in
      ap (λ (x : ℕ). each 9 c (freeing_replies x (widen k s)) (freeing x (widen k s)) (widen k s)) (matching-wide c.key k c.map cs)
      ∙ ap₂ (λ (x : List Reply) (u : State). each 9 c x u (widen k s)) (freeing_says m (matching-small c.key c.map cs) t) (freeing-wide m (matching-small c.key c.map cs) t)
      ∙ each_wide 9 c (freeing_replies m s) (freeing m s) h

  pub lock-wide : (c : Call) → c.map < 2 ^ length cs → do_lock c (widen k s) ≡ widen_o k (do_lock c s)
  unfolding do_lock finished silent
  lock-wide c h = rw (mismatch-wide c.key c.map h, change-wide set_lock k c.map cs h) (go (mismatch c.key c.map cs) (eqb c.map 0))
    where
      a : Outcome
      a = finished 13 c (done NOALLOCATION 0 c.key NONE) [] s

      b : Outcome
      b = finished 13 c (done 0 0 c.key NONE) [] s

      d : Outcome
      d = silent (pending c.key) [] (with_locks (s.locks ++ record { id = c.id; key = c.key; map = c.map } ∷ []) (with_channels (change set_lock c.map cs) s))

      go : (x y : Bool) → (if x then widen_o k a else if y then widen_o k b else widen_o k d) ≡ widen_o k (if x then a else if y then b else d)
      go true y = refl
      go false true = refl
      go false false = refl

  low_wide : (m : ℕ) → m < 2 ^ length cs → lowest (length (wider k cs)) m ≡ lowest (length cs) m
  low_wide m h = ap (λ (n : ℕ). lowest n m) (length-wider k cs) ∙ lowest-wide (length cs) k m h

  if_widen : (b : Bool) (x y : Outcome) → (if b then widen_o k x else widen_o k y) ≡ widen_o k (if b then x else y)
  if_widen true x y = refl
  if_widen false x y = refl

  pub read_wide : (c : Call) → c.map < 2 ^ length cs → do_read c (widen k s) ≡ widen_o k (do_read c s)
  unfolding do_read finished
  read_wide c h = rw (low_wide c.map h, at_wide k (lowest (length cs) c.map) cs) (if_widen (matches c.key (at (lowest (length cs) c.map) cs)) _ _)

  pub write_wide : (c : Call) → c.map < 2 ^ length cs → do_write c (widen k s) ≡ widen_o k (do_write c s)
  unfolding do_write finished silent
  write_wide c h =
      let m = lowest (length cs) c.map in
      rw (low_wide c.map h, at_wide k m cs, change-wide (set_writes ((at m cs).writes ++ write_of c ∷ [])) k m cs (lowest-small (length cs) c.map))
      (if_widen (matches c.key (at m cs)) _ _)

  pub waitcycle_wide : (c : Call) → c.map < 2 ^ length cs → do_waitcycle c (widen k s) ≡ widen_o k (do_waitcycle c s)
  unfolding do_waitcycle finished silent
  waitcycle_wide c h =
      let m = lowest (length cs) c.map in
      rw (low_wide c.map h, at_wide k m cs) (go (not (matches c.key (at m cs))) (playing (at m cs)))
    where
      a : Outcome
      a = finished 14 c (done NOALLOCATION 0 c.key NONE) [] s

      b : Outcome
      b = silent (pending c.key) [] (with_waiters (s.waiters ++ record { id = c.id; key = c.key; map = lowest (length cs) c.map } ∷ []) s)

      d : Outcome
      d = finished 14 c (done 0 (lowest (length cs) c.map) c.key NONE) [] s

      go : (x y : Bool) → (if x then widen_o k a else if y then widen_o k b else widen_o k d) ≡ widen_o k (if x then a else if y then b else d)
      go true y = refl
      go false true = refl
      go false false = refl

  -- the front writes that are cut, and who waited for a cycle of theirs
  fronts_says : (m : ℕ) → m < 2 ^ length cs → front_replies m (widen k s) ≡ front_replies m s
  fronts_says m l = ap₂ (λ (x y : List Reply). x ++ y) (ap (aborted_in m) (fronts_wide k cs) ∙ aborted-wide k m (map front_only cs)) (cut_says k m s l)

  pub finish-wide : (c : Call) → c.map < 2 ^ length cs → do_finish c (widen k s) ≡ widen_o k (do_finish c s)
  unfolding do_finish
  finish-wide c h =
      by_test (synced c.flags)
      (λ t. rw (test_true (synced c.flags) t) (change_each_lem 11 (on_front remember_finish) false c h))
      (λ t. rw (test_false (synced c.flags) t) go)
    where
      m : ℕ
      m = in_progress (matching c.key c.map cs) cs

      l : m < 2 ^ length cs
      l = in_progress-small (matching c.key c.map cs) cs

      n : ℕ
      n = in_progress (matching c.key c.map (wider k cs)) (wider k cs)

      go : each 11 c (front_replies n (widen k s)) (cut_fronts n (widen k s)) (widen k s) ≡ widen_o k (each 11 c (front_replies m s) (cut_fronts m s) s)
      go =
          ap (λ (x : ℕ). each 11 c (front_replies x (widen k s)) (cut_fronts x (widen k s)) (widen k s))
          (ap (λ (x : ℕ). in_progress x (wider k cs)) (matching-wide c.key k c.map cs) ∙ in_progress-wide k (matching c.key c.map cs) cs)
          ∙ ap₂ (λ (x : List Reply) (u : State). each 11 c x u (widen k s)) (fronts_says m l) (cut_state front_gone m l)
          ∙ each_wide 11 c (front_replies m s) (cut_fronts m s) h

  event_says : (v : Event) (m : ℕ) → m < 2 ^ length cs → event_replies v m (widen k s) ≡ event_replies v m s
  unfolding event_replies
  event_says CYCLE_ENDED m l = rw (at_wide k m cs, on_wide k m cs l) refl
  event_says GAVE_UP m l = fronts_says m l

  happened-wide : (v : Event) (m : ℕ) → m < 2 ^ length cs → happened v m (widen k s) ≡ widen k (happened v m s)
  unfolding happened
  happened-wide CYCLE_ENDED m l = cut_state front_cycled m l
  happened-wide GAVE_UP m l = cut_state front_gone m l

  pub event_wide : (v : Event) (c : Call) → c.map < 2 ^ length cs → do_event v c (widen k s) ≡ widen_o k (do_event v c s)
  unfolding do_event silent
  event_wide v c h =
      let m = lowest (length cs) c.map in
      let l = lowest-small (length cs) c.map in
      rw (low_wide c.map h, at_wide k m cs, event_says v m l, happened-wide v m l) (if_widen (playing (at m cs)) _ _)

  pub close_wide : (c : Call) → Locks (length cs) s.locks → do_close c (widen k s) ≡ widen_o k (do_close c s)
  unfolding do_close silent
  close_wide c t =
      let m = owned c.key cs in
      rw (owned-wide c.key k cs, freeing_says m (owned-small c.key cs) t, freeing-wide m (owned-small c.key cs) t) refl

-- ---- ABORT

abort_frees : (i k : ℕ) → aborted_writes i (frees k) ≡ []
unfolding aborted_writes frees aborted keep
abort_frees i zero = refl
abort_frees i (suc k) = abort_frees i k

abort_says : (i k : ℕ) (cs : List Channel) → aborted_writes i (wider k cs) ≡ aborted_writes i cs
unfolding aborted_writes
abort_says i k [] = abort_frees i k
abort_says i k (c ∷ cs) = ap (λ (x : List Reply). aborted c.key (keep (λ w. eqb i w.id) c.writes) ++ x) (abort_says i k cs)

without_frees : (i k : ℕ) → map (without i) (frees k) ≡ frees k
unfolding frees without keep
without_frees i zero = refl
without_frees i (suc k) = ap (λ (x : List Channel). free ∷ x) (without_frees i k)

without_wide : (i k : ℕ) (cs : List Channel) → map (without i) (wider k cs) ≡ wider k (map (without i) cs)
without_wide i k [] = without_frees i k
without_wide i k (c ∷ cs) = ap (λ (x : List Channel). without i c ∷ x) (without_wide i k cs)

aborted_by-wide : (i k : ℕ) (s : State) → aborted_by i (widen k s) ≡ aborted_by i s
unfolding aborted_by
aborted_by-wide i k s = rw (abort_says i k s.channels) refl

leaving-wide : (i k : ℕ) (s : State) → leaving i (widen k s) ≡ widen k (leaving i s)
unfolding leaving
leaving-wide i k s = rw (without_wide i k s.channels) refl

leaving-long : (i : ℕ) (s : State) → length (leaving i s).channels ≡ length s.channels
unfolding leaving
leaving-long i s = length-map s.channels (without i)

pub abort_wide : (k : ℕ) (c : Call) (s : State) → do_abort c (widen k s) ≡ widen_o k (do_abort c s)
unfolding do_abort silent
abort_wide k c s =
    let m = led_by c.id s.channels in
    let l = led_small c.id s.channels in
    let l' : m < 2 ^ length (leaving c.id s).channels = rw (leaving-long c.id s) l in
    rw (led_wide c.id k s.channels, aborted_by-wide c.id k s, cut_says k m s l, leaving-wide c.id k s, cut_wide k m (leaving c.id s) l') refl

-- ---- ALLOCATE and OPEN

allocating-wide : (k : ℕ) (l : Look) (c : Call) (s : State) → BelowL (2 ^ length s.channels) l → Few s → allocating l c (widen k s) ≡ widen_o k (allocating l c s)
unfolding allocating waits finished silent
allocating-wide k fails c s b f = go (nowait c.flags)
  where
    go : (x : Bool) → (if x then widen_o k (finished 32 c (done ALLOCFAILED 0 c.key NONE) [] s) else widen_o k (waits c s))
        ≡ widen_o k (if x then finished 32 c (done ALLOCFAILED 0 c.key NONE) [] s else waits c s)
    go true = refl
    go false = refl
allocating-wide k (held m) c s b f = refl
allocating-wide k (grants m) c s b f =
    rw (key_for-wide c.key k s f, dropped-wide k m s b, granted-wide m c.key c.prec k s b f) refl

pub allocate_wide : (k : ℕ) (c : Call) (s : State) → T (small_list (length s.channels) c.combos) → Few s → do_allocate c (widen k s) ≡ widen_o k (do_allocate c s)
unfolding do_allocate
allocate_wide k c s t f =
    rw (look_wide c.prec k s.channels c.combos t)
    (allocating-wide k (look c.prec c.combos s.channels) c s (look_below (length s.channels) c.prec c.combos s.channels t) f)

opening-wide : (k : ℕ) (l : Look) (c : Call) (s : State) → BelowL (2 ^ length s.channels) l → Few s → opening l c (widen k s) ≡ widen_o k (opening l c s)
unfolding opening silent
opening-wide k fails c s b f = refl
opening-wide k (held m) c s b f = refl
opening-wide k (grants m) c s b f =
    rw (key_for-wide c.key k s f, dropped-wide k m s b, granted-wide m c.key c.prec k s b f) refl

pub open_wide : (k : ℕ) (c : Call) (s : State) → T (small_list (length s.channels) c.combos) → Few s → do_open c (widen k s) ≡ widen_o k (do_open c s)
unfolding do_open
open_wide k c s t f =
    rw (look_wide c.prec k s.channels c.combos t)
    (opening-wide k (look c.prec c.combos s.channels) c s (look_below (length s.channels) c.prec c.combos s.channels t) f)
