-- The looks with free channels behind the board are the same: every walk reaches the same requests (crate `widening`). So are the
-- numbers, and the display.
-- Assumes nothing.
use Prim.Native.Nat.{ℕ, zero, suc, ◌+◌, ◌*◌, ◌%◌, ◌^◌, ◌≤◌, ◌<◌}
use mathlib.Core.Path.{◌≡◌, refl, ap, ap₂, ◌∙◌}
use mathlib.Core.Bool.{not, ◌&&◌}
use mathlib.Core.List.{List, [], ◌∷◌, ◌++◌}
use native.Mathlib.Omega.{arith}
use lib.Dec.{T, eqb, ltb, ltb→lt}
use lib.ListN.{length, get_or, take}
use Rattle.widening.specs.machine.Numbers.{ALLOCFAILED, CYCLES}
use Rattle.std.specs.Prelude.{if◌then◌else◌}
use Rattle.widening.specs.machine.Lists.{all, any, among, keep}
use Rattle.widening.specs.machine.State.{Channel, Lock, Request, State, Outcome, Call, Op, OPEN, CLOSE, ABORT, EVENT, COMMAND, free, frees}
use Rattle.widening.specs.machine.Maps.{odd, half, meets, lowest, at}
use Rattle.widening.specs.machine.Choosing.{Look, fails, held, grants, look}
use Rattle.widening.specs.machine.Granting.{key_for, granted, taken}
use Rattle.widening.specs.machine.Commands.{cycles_in}
use Rattle.widening.specs.machine.Allocating.{do_open}
use Rattle.widening.specs.machine.Settling.{Found, nobody, somebody, Walk, walk, walked}
use Rattle.widening.specs.machine.Sound.{ids}
use Rattle.widening.specs.machine.Kinds.{Kind, RESET, READ, WRITE, UPDATE, CLEAR, STOP, START, FLUSH, FREE, SETPREC, FINISH, PERVOL, LOCK, WAITCYCLE, ALLOCATE, UNKNOWN, kind, allocates, carries}
use Rattle.widening.specs.machine.Refusals.{Refusal, accepted, refused, bad_map, bad_maps, bad_list, bad_numbers, refusal}
use Rattle.widening.specs.machine.Rule.{channel}
use Rattle.widening.specs.machine.Call.{perform, answering, call, in_range}
use Rattle.widening.proofs.machine.Tests.{if_elim, and_left, and_right, and_both, nor_left, nor_right}
use Rattle.widening.proofs.machine.Steps.{first_none}
use Rattle.widening.specs.machine.InBytes.{two_bytes}
use Rattle.widening.proofs.machine_laws.Maps.{length-change}
use Rattle.widening.specs.machine_laws.Sound.{Parts}
use Rattle.widening.proofs.machine_laws.KeepingSettle.{look_unlocked}
use Rattle.widening.proofs.machine_laws.KeepingCalls.{open_sound, close_sound, abort_sound, event_sound, perform-sound, range-prec, range-key, id-small}
use Rattle.widening.specs.machine_laws.Lists.{Sub}
use Rattle.widening.proofs.machine_laws.Lists.{sub_all, sub_length}
use Rattle.widening.specs.Widening.{wider, widen, widen_o, small_list, Few, Waits}
use Rattle.widening.proofs.Choosing.{look_wide}
use Rattle.widening.proofs.Keys.{granted-wide}
use Rattle.widening.proofs.Settling.{FoundFits, walk_fits, walk-wide}
use Rattle.widening.proofs.Calls.{locks_fit, few_fit, Fit, sound_fit, write_fit, map_on, maps_on, perform-wide, call-wide}
use Rattle.widening.proofs.Commands.{event_wide, close_wide, abort_wide, open_wide}
use Rattle.display.specs.Looks.{beyond, reached, look_on, looks_in, looks, acting, looks_after, looked_by, looked}
use Rattle.display.specs.Display.{NUMBERS, names, naming, writes_on, number, corrected, looks_of, displayed}
use Rattle.display.proofs.Acting.{walk_sub}

-- ---- a walk

pub reached-wide : (k : ℕ) (cs : List Channel) (rs : List Request) → Waits (length cs) rs → reached (wider k cs) rs ≡ reached cs rs
unfolding reached all
reached-wide k cs [] t = refl
reached-wide k cs (r ∷ rs) t =
    let a = and_left (small_list (length cs) r.combos) (all (λ r. small_list (length cs) r.combos) rs) t in
    let b = and_right (small_list (length cs) r.combos) (all (λ r. small_list (length cs) r.combos) rs) t in
    ap₂ (λ (l : Look) (n : ℕ). suc (beyond l n)) (look_wide r.prec k cs r.combos a) (reached-wide k cs rs b)

-- ---- the walks of a settling

granted_fit : (m key prec : ℕ) (w : Walk) (s : State) → Sub w.waiting s.waiting → Fit s → Fit (granted m key prec (walked w s))
unfolding granted walked
granted_fit m key prec w s h f =
    let e = length-change (taken (key_for key (walked w s)) prec) m s.channels in
    record {
      few = rw e (let l = sub_length h in let q = f.few in omega arith);
      waits = rw e (sub_all (λ (r : Request). small_list (length s.channels) r.combos) h f.waits);
    }

look_on-wide : (k : ℕ) (g : Found) (w : Walk) (s : State) (again : State → ℕ) → FoundFits (length s.channels) g → Sub w.waiting s.waiting → Fit s
    → ((u : State) → Fit u → again (widen k u) ≡ again u) → look_on g w (widen k s) again ≡ look_on g w s again
unfolding look_on walked
look_on-wide k nobody w s again b h f ih = refl
look_on-wide k (somebody r m) w s again b h f ih =
    ap again (granted-wide m r.key r.prec k (walked w s) b (let l = sub_length h in let q = f.few in omega arith))
    ∙ ih (granted m r.key r.prec (walked w s)) (granted_fit m r.key r.prec w s h f)

looks_in-wide : (n k : ℕ) (s : State) → Fit s → looks_in n (widen k s) ≡ looks_in n s
unfolding looks_in
looks_in-wide zero k s f = refl
looks_in-wide (suc n) k s f =
    let w = walk s.channels s.waiting s.locks in
    ap₂ ◌+◌ (reached-wide k s.channels s.waiting f.waits)
    (ap (λ (x : Walk). look_on x.found x (widen k s) (looks_in n)) (walk-wide k s.channels s.waiting f.waits s.locks)
    ∙ look_on-wide k w.found w s (looks_in n) (walk_fits (length s.channels) s.channels s.waiting f.waits s.locks).found
    (walk_sub s.channels s.waiting s.locks) f (looks_in-wide n k))

looks_fit : (k : ℕ) (s : State) → Fit s → looks (widen k s) ≡ looks s
unfolding looks
looks_fit k s f = looks_in-wide (suc (length s.waiting)) k s f

pub looks-wide : (k : ℕ) (s : State) → Parts s → looks (widen k s) ≡ looks s
looks-wide k s p = looks_fit k s (sound_fit s p)

-- ---- what a call comes to before it settles fits the board

module _ (c : Call) (s : State) (p : Parts s) (r : T (in_range c)) where
  -- of another kind
  other : ◌≡◌ {A = ℕ} 0 1 → cycles_in c.combos ≤ CYCLES
  other e = absurd (omega arith)

  perform_fit : (k : Kind) → T (ltb c.id 64) → T (not (among c.id (ids s))) → T (not (allocates k && bad_list c))
      → T (not (if allocates k then bad_maps c s else bad_map c s)) → T (not (carries k && bad_numbers c)) → Fit (perform k c s).next
  perform_fit RESET i n l m v = sound_fit _ (perform-sound RESET c s p r i n l m v (λ e. other cc))
  perform_fit READ i n l m v = sound_fit _ (perform-sound READ c s p r i n l m v (λ e. other cc))
  perform_fit WRITE i n l m v = unfold perform in write_fit c s (sound_fit s p)
  perform_fit UPDATE i n l m v = sound_fit _ (perform-sound UPDATE c s p r i n l m v (λ e. other cc))
  perform_fit CLEAR i n l m v = sound_fit _ (perform-sound CLEAR c s p r i n l m v (λ e. other cc))
  perform_fit STOP i n l m v = sound_fit _ (perform-sound STOP c s p r i n l m v (λ e. other cc))
  perform_fit START i n l m v = sound_fit _ (perform-sound START c s p r i n l m v (λ e. other cc))
  perform_fit FLUSH i n l m v = sound_fit _ (perform-sound FLUSH c s p r i n l m v (λ e. other cc))
  perform_fit FREE i n l m v = sound_fit _ (perform-sound FREE c s p r i n l m v (λ e. other cc))
  perform_fit SETPREC i n l m v = sound_fit _ (perform-sound SETPREC c s p r i n l m v (λ e. other cc))
  perform_fit FINISH i n l m v = sound_fit _ (perform-sound FINISH c s p r i n l m v (λ e. other cc))
  perform_fit PERVOL i n l m v = sound_fit _ (perform-sound PERVOL c s p r i n l m v (λ e. other cc))
  perform_fit LOCK i n l m v = sound_fit _ (perform-sound LOCK c s p r i n l m v (λ e. other cc))
  perform_fit WAITCYCLE i n l m v = sound_fit _ (perform-sound WAITCYCLE c s p r i n l m v (λ e. other cc))
  perform_fit ALLOCATE i n l m v = sound_fit _ (perform-sound ALLOCATE c s p r i n l m v (λ e. other cc))
  perform_fit UNKNOWN i n l m v = sound_fit _ (perform-sound UNKNOWN c s p r i n l m v (λ e. other cc))

  acting_fit : (o : Op) → refusal o c s ≡ accepted → Fit (acting o c s).next
  unfolding acting refusal do_open
  acting_fit OPEN e =
      sound_fit _
      (open_sound (look c.prec c.combos s.channels) c s p (look_unlocked c.prec c.combos s.channels) (range-prec c r) (range-key c r) (first_none _ e).1.1.1.1.0)
  acting_fit CLOSE e = sound_fit _ (close_sound c s p)
  acting_fit ABORT e = sound_fit _ (abort_sound c s p)
  acting_fit (EVENT v) e = sound_fit _ (event_sound v c s p)
  acting_fit (COMMAND j) e =
      let n = first_none _ e in
      perform_fit (kind j) (id-small c.id n.1.1.0) n.1.1.1.1.0 n.1.1.1.1.1.1.1.0 n.1.1.1.1.1.1.1.1.0 n.1.1.1.1.1.1.1.1.1.0

-- ---- and is the same on the wide board

pub acting-wide : (k : ℕ) (o : Op) (c : Call) (s : State) → Parts s → refusal o c s ≡ accepted → acting o c (widen k s) ≡ widen_o k (acting o c s)
unfolding acting refusal
acting-wide k OPEN c s p e = open_wide k c s (maps_on c s (first_none _ e).1.1.1.0) (few_fit s p)
acting-wide k CLOSE c s p e = close_wide k s c (locks_fit s p)
acting-wide k ABORT c s p e = abort_wide k c s
acting-wide k (EVENT v) c s p e = event_wide k s v c (map_on c s (first_none _ e).1.1.0)
acting-wide k (COMMAND j) c s p e = perform-wide k (kind j) c s p (first_none _ e).1.1.1.1.1.1.1.1.0

after-wide : (k : ℕ) (o : Op) (u : Outcome) (n : ℕ) → Fit u.next → looks_after o (widen_o k u) n ≡ looks_after o u n
unfolding looks_after
after-wide k OPEN u n f = ap (λ (x : ℕ). if eqb u.answer.error ALLOCFAILED then n else x) (looks_fit k u.next f)
after-wide k CLOSE u n f = looks_fit k u.next f
after-wide k ABORT u n f = looks_fit k u.next f
after-wide k (EVENT v) u n f = looks_fit k u.next f
after-wide k (COMMAND j) u n f = looks_fit k u.next f

-- the whole call: refused by the board's own width, or done on the wide one
pub looked-wide : (k : ℕ) (s : State) (c : Call) (n : ℕ) → Parts s → T (in_range c) → looked_by (refusal c.op c s) c (widen k s) n ≡ looked s c n
unfolding looked looked_by
looked-wide k s c n p r = go (refusal c.op c s) refl
  where
    go : (f : Refusal) → refusal c.op c s ≡ f → looked_by f c (widen k s) n ≡ looked_by f c s n
    go accepted e =
        ap (λ (u : Outcome). looks_after c.op u n) (acting-wide k c.op c s p e)
        ∙ after-wide k c.op (acting c.op c s) n (acting_fit c s p r c.op e)
    go (refused x) e = refl

-- ---- the numbers: a channel behind the board is free, and no channel is taken for one

pub free_behind : (k i : ℕ) → get_or (frees k) i free ≡ free
unfolding frees
free_behind zero i = refl
free_behind (suc k) zero = refl
free_behind (suc k) (suc i) = free_behind k i

pub channel-wide : (k i : ℕ) (cs : List Channel) → channel (wider k cs) i ≡ channel cs i
channel-wide k i [] = free_behind k i
channel-wide k zero (c ∷ cs) = refl
channel-wide k (suc i) (c ∷ cs) = channel-wide k i cs

pub number-wide : (k j : ℕ) (s : State) → number j (widen k s) ≡ number j s
unfolding number naming writes_on
number-wide k j s =
    ap (λ (c : Channel). if odd j then length (keep (names (half j)) s.waiting) else length c.writes) (channel-wide k (half j) s.channels)

-- ---- displayed

pub corrected-wide : (k : ℕ) (s t : State) (j : ℕ) (bs : List ℕ) → corrected (widen k s) (widen k t) j bs ≡ corrected s t j bs
unfolding corrected
corrected-wide k s t j [] = refl
corrected-wide k s t j (b ∷ bs) =
    let e = number-wide k j s in
    let f = number-wide k j t in
    ap₂ (λ (x : ℕ) (xs : List ℕ). x ∷ xs) (ap₂ (λ (n m : ℕ). (b + m + 255 * n) % 256) e f) (corrected-wide k s t (suc j) bs)

-- the display of a board is the one that its call, done on the wide board, shows
pub displayed-wide : (k : ℕ) (s : State) (c : Call) (d : List ℕ) → Parts s → T (in_range c)
    → corrected (widen k s) (answering (refusal c.op c s) c (widen k s)).next 0 (take NUMBERS d)
    ++ two_bytes (looked_by (refusal c.op c s) c (widen k s) (looks_of d)) ≡ displayed s c d
unfolding displayed
displayed-wide k s c d p r =
    ap₂ (λ (t : State) (n : ℕ). corrected (widen k s) t 0 (take NUMBERS d) ++ two_bytes n)
    (ap (λ (o : Outcome). o.next) (call-wide k s c p r)) (looked-wide k s c (looks_of d) p r)
    ∙ ap (λ (xs : List ℕ). xs ++ two_bytes (looked s c (looks_of d))) (corrected-wide k s (call s c).next 0 (take NUMBERS d))
