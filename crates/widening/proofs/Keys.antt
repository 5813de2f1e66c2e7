-- The new key, the cut, and the grant, with free channels behind the board: key 0 counts for nothing, and more candidates are not
-- needed. Assumes nothing.
use Prim.Native.Nat.{ℕ, zero, suc, ◌+◌, ◌^◌, ◌≤◌, ◌<◌}
use mathlib.Core.Path.{◌≡◌, refl, ap, ap₂, subst, sym, ◌∙◌}
use mathlib.Core.Bool.{Bool, true, false, not, ◌&&◌, ◌||◌}
use mathlib.Core.List.{List, [], ◌∷◌, ◌++◌, map}
use native.Mathlib.Omega.{arith}
use native.Mathlib.Nat.{zero-add, suc-add}
use lib.Dec.{T, T_not, eqb, ltb, ltb→lt}
use lib.ListN.{length}
use Rattle.std.specs.Prelude.{if◌then◌else◌}
use Rattle.machine_laws.specs.machine.Lists.{among, any, keep}
use Rattle.machine_laws.specs.machine.State.{Channel, Lock, Request, State, Reply, frees, with_waiters}
use Rattle.machine_laws.specs.machine.Maps.{change}
use Rattle.machine_laws.specs.machine.Granting.{after, in_use, first_unused, new_key, key_for, last_for, on_channels, given_up, cut, cut_replies, dropped, taken, granted}
use Rattle.machine_laws.proofs.machine.Tests.{if_elim, by_test, test_true, test_false, eqb_false}
use Rattle.machine_laws.proofs.Granting.{new_key-unused, in_use-length}
use Rattle.widening.specs.Widening.{wider, widen, Few}
use Rattle.widening.proofs.Maps.{change-wide, length-frees, length-wider, meets-wide, aborted-wide}

after_one : (k : ℕ) → 1 ≤ after k
unfolding after
after_one k = if_elim (λ (j : ℕ). 1 ≤ j) (ltb k 65535) (λ _. omega arith) (λ _. omega arith)

abbrev keys_of : List Channel → List ℕ
keys_of cs = map (λ c. c.key) cs

among-frees : (j k : ℕ) (ws : List ℕ) → 1 ≤ j → among j (keys_of (frees k) ++ ws) ≡ among j ws
unfolding frees among any
among-frees j zero ws h = refl
among-frees j (suc k) ws h = rw (eqb_false j 0 (λ e. absurd (omega arith))) (among-frees j k ws h)

among-wide : (j k : ℕ) (cs : List Channel) (ws : List ℕ) → 1 ≤ j → among j (keys_of (wider k cs) ++ ws) ≡ among j (keys_of cs ++ ws)
unfolding among any
among-wide j k [] ws h = unfold among any in among-frees j k ws h
among-wide j k (c ∷ cs) ws h = ap (λ (b : Bool). eqb j c.key || b) (among-wide j k cs ws h)

-- the walk over the candidates looks at numbers above 0 only
first_same : (n j k : ℕ) (cs : List Channel) (ws : List ℕ) → 1 ≤ j
    → first_unused n j (keys_of (wider k cs) ++ ws) ≡ first_unused n j (keys_of cs ++ ws)
unfolding first_unused
first_same zero j k cs ws h = refl
first_same (suc n) j k cs ws h = rw (among-wide j k cs ws h, first_same n (after j) k cs ws (after_one j))

first_more : (n i j : ℕ) (used : List ℕ) → T (not (among (first_unused n j used) used)) → first_unused (n + i) j used ≡ first_unused n j used
unfolding first_unused
first_more zero i j used t = rw (zero-add i) (go i)
  where
    go : (i : ℕ) → first_unused i j used ≡ j
    go zero = unfold first_unused in refl
    go (suc i) = unfold first_unused in (rw (test_false (among j used) t) refl)
first_more (suc n) i j used t =
    rw (suc-add n i)
    (by_test (among j used)
    (λ u. rw (test_true (among j used) u) (first_more n i (after j) used (subst (λ (b : Bool). T (not (among (if b then first_unused n (after j) used else j) used))) (test_true (among j used) u) t)))
    (λ u. rw (test_false (among j used) u) refl))

fuel_wide : (k : ℕ) (s : State) → length (in_use (widen k s)) ≡ length (in_use s) + k → T (not (among (new_key s) (in_use s))) → new_key (widen k s) ≡ new_key s
unfolding new_key
fuel_wide k s e u =
    let n = length (in_use s) in
    let d : first_unused (n + k) (after s.last) (in_use (widen k s)) ≡ first_unused (n + k) (after s.last) (in_use s) =
    unfold in_use in first_same (length (in_use s) + k) (after s.last) k s.channels (map (λ r. r.key) s.waiting ++ s.opens) (after_one s.last) in
    ap (λ (n : ℕ). first_unused n (after s.last) (in_use (widen k s))) e
    ∙ d
    ∙ first_more (length (in_use s)) k (after s.last) (in_use s) u

pub new_key-wide : (k : ℕ) (s : State) → Few s → new_key (widen k s) ≡ new_key s
new_key-wide k s f =
    let a = in_use-length s in
    let b = in_use-length (widen k s) in
    let d = length-wider k s.channels in
    fuel_wide k s (omega arith) (new_key-unused s (omega arith))

pub key_for-wide : (key k : ℕ) (s : State) → Few s → key_for key (widen k s) ≡ key_for key s
unfolding key_for
key_for-wide zero k s f = new_key-wide k s f
key_for-wide (suc key) k s f = refl

last_for-wide : (key k : ℕ) (s : State) → Few s → last_for key (widen k s) ≡ last_for key s
unfolding last_for
last_for-wide zero k s f = new_key-wide k s f
last_for-wide (suc key) k s f = refl

-- ---- the cut: a map on the board names no channel behind it

pub on_wide : (k m : ℕ) (cs : List Channel) → m < 2 ^ length cs → on_channels (length (wider k cs)) m ≡ on_channels (length cs) m
unfolding on_channels
on_wide k m cs h =
    let q : on_channels (length cs + k) m ≡ on_channels (length cs) m = λ i w. meets-wide (length cs) k m w.map h i in
    ap (λ (n : ℕ). on_channels n m) (length-wider k cs) ∙ q

pub cut_wide : (k m : ℕ) (s : State) → m < 2 ^ length s.channels → cut m (widen k s) ≡ widen k (cut m s)
unfolding cut
cut_wide k m s h =
    ap (λ (on : Lock → Bool). widen k (with_waiters (keep (λ w. not (on w)) s.waiters) s)) (on_wide k m s.channels h)

pub cut_says : (k m : ℕ) (s : State) → m < 2 ^ length s.channels → cut_replies m (widen k s) ≡ cut_replies m s
unfolding cut_replies
cut_says k m s h = ap (λ (on : Lock → Bool). map given_up (keep on s.waiters)) (on_wide k m s.channels h)

pub dropped-wide : (k m : ℕ) (s : State) → m < 2 ^ length s.channels → dropped m (widen k s) ≡ dropped m s
unfolding dropped
dropped-wide k m s h = ap₂ (λ (x y : List Reply). x ++ y) (aborted-wide k m s.channels) (cut_says k m s h)

-- ---- the grant

pub granted-wide : (m key prec k : ℕ) (s : State) → m < 2 ^ length s.channels → Few s
    → granted m key prec (widen k s) ≡ widen k (granted m key prec s)
unfolding granted
granted-wide m key prec k s h f =
    let a = key_for-wide key k s f in
    let b = last_for-wide key k s f in
    let d = change-wide (taken (key_for key s) prec) k m s.channels h in
    rw (a, b, d, cut_wide k m s h) refl
