-- What a map below 2 to the number of channels names is the same with free channels behind them. Assumes nothing.
use Prim.Native.Nat.{ℕ, zero, suc, ◌+◌, ◌*◌, ◌/◌, ◌%◌, ◌^◌, ◌≤◌, ◌<◌}
use mathlib.Core.Path.{◌≡◌, refl, ap, ap₂, sym, ◌∙◌}
use mathlib.Core.Bool.{Bool, true, false, not, ◌&&◌, ◌||◌}
use mathlib.Core.List.{List, [], ◌∷◌, ◌++◌, map}
use native.Mathlib.Omega.{arith}
use native.Mathlib.Nat.{pow-suc, zero-add, suc-add}
use lib.Dec.{T, T_not, eqb, eqb→eq}
use lib.ListN.{length, length-append}
use Rattle.std.specs.Prelude.{if◌then◌else◌}
use Rattle.machine_laws.specs.machine.State.{Channel, Reply, free, is_free, frees}
use Rattle.machine_laws.specs.machine.Maps.{odd, half, bit, minus, meets, lowest, named, change, at}
use Rattle.machine_laws.specs.machine.Choosing.{highest, stolen}
use Rattle.machine_laws.specs.machine.Granting.{aborted, aborted_in}
use Rattle.machine_laws.specs.machine.Commands.{matches, matching, playing, in_progress, front_only, owned, leads, led_by}
use Rattle.machine_laws.specs.machine.Sound.{writes_of}
use Rattle.machine_laws.proofs.machine.Tests.{by_test, test_true, test_false, eqb_false}
use Rattle.machine_laws.proofs.Maps.{bit-small}
use Rattle.widening.specs.Widening.{wider}

-- ---- frees

pub length-frees : (k : ℕ) → length (frees k) ≡ k
unfolding frees
length-frees zero = refl
length-frees (suc k) = ap suc (length-frees k)

pub length-wider : (k : ℕ) (cs : List Channel) → length (wider k cs) ≡ length cs + k
length-wider k cs = length-append cs (frees k) ∙ ap (λ (x : ℕ). length cs + x) (length-frees k)

-- ---- small maps

pub half-small : (n m : ℕ) → m < 2 ^ suc n → half m < 2 ^ n
unfolding half
half-small n m h = let e = pow-suc 2 n in omega arith

pub none : (m : ℕ) → m < 2 ^ 0 → m ≡ 0
none m h = omega arith

-- ---- named

named-frees : (p : Channel → Bool) (k : ℕ) → named p 0 (frees k) ≡ true
unfolding named frees odd half
named-frees p zero = refl
named-frees p (suc k) = named-frees p k

pub named-wide : (p : Channel → Bool) (k m : ℕ) (cs : List Channel) → m < 2 ^ length cs → named p m (wider k cs) ≡ named p m cs
unfolding named
named-wide p k m [] h = rw (none m h) (named-frees p k)
named-wide p k m (c ∷ cs) h = ap (λ (b : Bool). (not (odd m) || p c) && b) (named-wide p k (half m) cs (half-small (length cs) m h))

-- ---- change

change-frees : (f : Channel → Channel) (k : ℕ) → change f 0 (frees k) ≡ frees k
unfolding change frees odd half
change-frees f zero = refl
change-frees f (suc k) = ap (λ (x : List Channel). free ∷ x) (change-frees f k)

pub change-wide : (f : Channel → Channel) (k m : ℕ) (cs : List Channel) → m < 2 ^ length cs → change f m (wider k cs) ≡ wider k (change f m cs)
unfolding change
change-wide f k m [] h = rw (none m h) (change-frees f k)
change-wide f k m (c ∷ cs) h = ap (λ (x : List Channel). (if odd m then f c else c) ∷ x) (change-wide f k (half m) cs (half-small (length cs) m h))

-- ---- at, highest, stolen, matching, owned, replies: a free channel adds nothing, named or not

at_frees : (k m : ℕ) → at m (frees k) ≡ free
unfolding at frees
at_frees zero m = refl
at_frees (suc k) m = go (odd m) (at_frees k (half m))
  where
    go : (b : Bool) → at (half m) (frees k) ≡ free → (if b then free else at (half m) (frees k)) ≡ free
    go true e = refl
    go false e = e

pub at_wide : (k m : ℕ) (cs : List Channel) → at m (wider k cs) ≡ at m cs
unfolding at
at_wide k m [] = at_frees k m
at_wide k m (c ∷ cs) = ap (λ (x : Channel). if odd m then c else x) (at_wide k (half m) cs)

pub and_no : (b : Bool) → b && false ≡ false
and_no true = refl
and_no false = refl

highest-frees : (k m : ℕ) → highest m (frees k) ≡ 0
unfolding highest frees
highest-frees zero m = refl
highest-frees (suc k) m = rw (and_no (odd m)) (highest-frees k (half m))

pub highest-wide : (k m : ℕ) (cs : List Channel) → highest m (wider k cs) ≡ highest m cs
unfolding highest
highest-wide k m [] = highest-frees k m
highest-wide k m (c ∷ cs) = rw (highest-wide k (half m) cs)

stolen-frees : (k m : ℕ) → stolen m (frees k) ≡ 0
unfolding stolen frees
stolen-frees zero m = refl
stolen-frees (suc k) m = rw (and_no (odd m)) (stolen-frees k (half m))

pub stolen-wide : (k m : ℕ) (cs : List Channel) → stolen m (wider k cs) ≡ stolen m cs
unfolding stolen
stolen-wide k m [] = stolen-frees k m
stolen-wide k m (c ∷ cs) = rw (stolen-wide k (half m) cs)

matches_free : (key : ℕ) → matches key free ≡ false
unfolding matches
matches_free key =
    by_test (eqb key 0)
    (λ t. rw (test_true (eqb key 0) t))
    (λ t. let e : eqb 0 key ≡ false = eqb_false 0 key (λ q. T_not (eqb key 0) t (rw (sym q) tt)) in rw (e, test_false (eqb key 0) t))

matching-frees : (key k m : ℕ) → matching key m (frees k) ≡ 0
unfolding matching frees bit
matching-frees key zero m = refl
matching-frees key (suc k) m = rw (matches_free key, and_no (odd m), matching-frees key k (half m))

pub matching-wide : (key k m : ℕ) (cs : List Channel) → matching key m (wider k cs) ≡ matching key m cs
unfolding matching
matching-wide key k m [] = matching-frees key k m
matching-wide key k m (c ∷ cs) = ap (bit (odd m && matches key c)) (matching-wide key k (half m) cs)

in_progress-frees : (k m : ℕ) → in_progress m (frees k) ≡ 0
unfolding in_progress playing frees bit
in_progress-frees zero m = refl
in_progress-frees (suc k) m = rw (and_no (odd m), in_progress-frees k (half m))

pub in_progress-wide : (k m : ℕ) (cs : List Channel) → in_progress m (wider k cs) ≡ in_progress m cs
unfolding in_progress
in_progress-wide k m [] = in_progress-frees k m
in_progress-wide k m (c ∷ cs) = ap (bit (odd m && playing c)) (in_progress-wide k (half m) cs)

led_frees : (i k : ℕ) → led_by i (frees k) ≡ 0
unfolding led_by leads frees bit
led_frees i zero = refl
led_frees i (suc k) = rw (led_frees i k)

pub led_wide : (i k : ℕ) (cs : List Channel) → led_by i (wider k cs) ≡ led_by i cs
unfolding led_by
led_wide i k [] = led_frees i k
led_wide i k (c ∷ cs) = ap (bit (leads i c.writes)) (led_wide i k cs)

owned-frees : (key k : ℕ) → owned key (frees k) ≡ 0
unfolding owned frees bit
owned-frees key zero = refl
owned-frees key (suc k) = rw (matches_free key, owned-frees key k)

pub owned-wide : (key k : ℕ) (cs : List Channel) → owned key (wider k cs) ≡ owned key cs
unfolding owned
owned-wide key k [] = owned-frees key k
owned-wide key k (c ∷ cs) = ap (bit (matches key c)) (owned-wide key k cs)

aborted-frees : (k m : ℕ) → aborted_in m (frees k) ≡ []
unfolding aborted_in frees aborted
aborted-frees zero m = refl
aborted-frees (suc k) m = go (odd m) (aborted-frees k (half m))
  where
    go : (b : Bool) → aborted_in (half m) (frees k) ≡ [] → (if b then [] else []) ++ aborted_in (half m) (frees k) ≡ []
    go true e = e
    go false e = e

pub aborted-wide : (k m : ℕ) (cs : List Channel) → aborted_in m (wider k cs) ≡ aborted_in m cs
unfolding aborted_in
aborted-wide k m [] = aborted-frees k m
aborted-wide k m (c ∷ cs) = ap (λ (x : List Reply). (if odd m then aborted c.key c.writes else []) ++ x) (aborted-wide k (half m) cs)

fronts_frees : (k : ℕ) → map front_only (frees k) ≡ frees k
unfolding frees
fronts_frees zero = refl
fronts_frees (suc k) = ap (λ (x : List Channel). free ∷ x) (fronts_frees k)

pub fronts_wide : (k : ℕ) (cs : List Channel) → map front_only (wider k cs) ≡ wider k (map front_only cs)
fronts_wide k [] = fronts_frees k
fronts_wide k (c ∷ cs) = ap (λ (x : List Channel). front_only c ∷ x) (fronts_wide k cs)

writes_frees : (k : ℕ) → writes_of (frees k) ≡ []
unfolding writes_of frees
writes_frees zero = refl
writes_frees (suc k) = writes_frees k

pub writes_wide : (k : ℕ) (cs : List Channel) → writes_of (wider k cs) ≡ writes_of cs
unfolding writes_of
writes_wide k [] = writes_frees k
writes_wide k (c ∷ cs) = ap (λ (x : List ℕ). map (λ w. w.id) c.writes ++ x) (writes_wide k cs)

-- ---- lowest, minus, meets: of n bits, and of k more

lowest_none : (k : ℕ) → lowest k 0 ≡ 0
unfolding lowest odd half bit
lowest_none zero = refl
lowest_none (suc k) = rw (lowest_none k)

pub lowest-wide : (n k m : ℕ) → m < 2 ^ n → lowest (n + k) m ≡ lowest n m
unfolding lowest
lowest-wide zero k m h = rw (zero-add k, none m h) (lowest_none k)
lowest-wide (suc n) k m h = rw (suc-add n k) (ap (λ (x : ℕ). if odd m then 1 else bit false x) (lowest-wide n k (half m) (half-small n m h)))

minus_none : (k f : ℕ) → minus k 0 f ≡ 0
unfolding minus odd half bit
minus_none zero f = refl
minus_none (suc k) f = rw (minus_none k (f / 2))

pub minus-wide : (n k m f : ℕ) → m < 2 ^ n → minus (n + k) m f ≡ minus n m f
unfolding minus
minus-wide zero k m f h = rw (zero-add k, none m h) (minus_none k f)
minus-wide (suc n) k m f h = rw (suc-add n k) (ap (bit (odd m && not (odd f))) (minus-wide n k (half m) (half f) (half-small n m h)))

meets_none : (k f : ℕ) → meets k 0 f ≡ false
unfolding meets odd half
meets_none zero f = refl
meets_none (suc k) f = meets_none k (f / 2)

pub meets-wide : (n k m f : ℕ) → m < 2 ^ n → meets (n + k) m f ≡ meets n m f
unfolding meets
meets-wide zero k m f h = rw (zero-add k, none m h) (meets_none k f)
meets-wide (suc n) k m f h = rw (suc-add n k) (ap (λ (b : Bool). odd m && odd f || b) (meets-wide n k (half m) (half f) (half-small n m h)))

-- ---- maps that are made are on the board

pub matching-small : (key m : ℕ) (cs : List Channel) → matching key m cs < 2 ^ length cs
unfolding matching
matching-small key m [] = omega arith
matching-small key m (c ∷ cs) = bit-small (odd m && matches key c) (length cs) (matching key (half m) cs) (matching-small key (half m) cs)

pub in_progress-small : (m : ℕ) (cs : List Channel) → in_progress m cs < 2 ^ length cs
unfolding in_progress
in_progress-small m [] = omega arith
in_progress-small m (c ∷ cs) = bit-small (odd m && playing c) (length cs) (in_progress (half m) cs) (in_progress-small (half m) cs)

pub led_small : (i : ℕ) (cs : List Channel) → led_by i cs < 2 ^ length cs
unfolding led_by
led_small i [] = omega arith
led_small i (c ∷ cs) = bit-small (leads i c.writes) (length cs) (led_by i cs) (led_small i cs)

pub owned-small : (key : ℕ) (cs : List Channel) → owned key cs < 2 ^ length cs
unfolding owned
owned-small key [] = omega arith
owned-small key (c ∷ cs) = bit-small (matches key c) (length cs) (owned key cs) (owned-small key cs)
