-- What the code's steps say of the machine's tests: the fifteen commands by their numbers, an outstanding id by its entry, a list of
-- tests by its first that is met. Assumes nothing.
use Prim.Native.Nat.{ℕ, zero, suc, ◌+◌, ◌*◌, ◌≤◌, ◌<◌}
use mathlib.Core.Path.{◌≡◌, refl, ap, sym, ◌∙◌}
use mathlib.Core.Bool.{Bool, true, false, not, ◌&&◌, ◌||◌}
use mathlib.Core.List.{List, [], ◌∷◌, ◌++◌, map}
use native.Mathlib.Omega.{arith}
use borrow.Author.Tests.{eqb-true, eqb-false, lt-ltb, le-ltb, le-leb, lt-leb, eq-eqb, ne_eqb, not-true, not-false}
use lib.Dec.{T, eqb, leb, ltb}
use lib.ListN.{length, get_or}
use Rattle.memory.specs.Splice.{block}
use Rattle.numbers.specs.table.Entry.{write_entry, span_entry, wait_entry}
use Rattle.std.specs.Prelude.{if◌then◌else◌}
use Rattle.store.specs.machine.Lists.{any, all, among}
use Rattle.store.specs.machine.State.{Channel as ChannelM, State as StateM}
use Rattle.store.specs.machine.Commands.{period_in, volume_in}
use Rattle.store.specs.machine.Sound.{sound_tone, ids}
use Rattle.store.specs.machine.Kinds.{kind, unknown, allocates}
use Rattle.store.specs.machine.Refusals.{first, refused}
use Rattle.store.proofs.machine.Tests.{by_test, test_true, test_false, and_left, and_right}
use Rattle.machine_laws.specs.Sound.{Parts}
use Rattle.store.specs.Store.{Item, write_item, lock_item, waiter_item, wait_item, write_items, items, lookup, keys, Each, table_of}
use Rattle.store.proofs.Store.{keys-items, parts_long, block_table_of}
use Rattle.steps.specs.declared.Refusal.{Refusal}
use Rattle.steps.specs.declared.Refusal.TheVariants.{NoRoom, BadId, OtherDesk, InUse, NotOpen, NoCmd, BadLength, BadAddress, OpenFail}
use Rattle.steps.specs.Steps.{number_of, number, high, used, wrong_numbers, list_tests, number_tests}

-- ---- a list of tests: its first is met, or is passed

pub met : (b : Bool) (e : ℕ) (ts : List (Bool × ℕ)) → b ≡ true → e ≡ number_of (first ((b, e) ∷ ts))
unfolding first
met b e ts h = rw h

pub past : (b : Bool) (e : ℕ) (ts : List (Bool × ℕ)) {n : ℕ} → b ≡ false → n ≡ number_of (first ts) → n ≡ number_of (first ((b, e) ∷ ts))
unfolding first
past b e ts h q = rw h q

pub none : 0 ≡ number_of (first [])
unfolding first
none = refl

pub high_true : {b m : ℕ} → b ≤ m → high b m ≡ true
high_true {b} {m} h = rw (le-ltb m b h)

pub high_false : {b m : ℕ} → m < b → high b m ≡ false
high_false {b} {m} h = rw (lt-ltb m b h)

pub unknown-met : {b k : Bool} → b ≡ not k → not b ≡ true → k ≡ true
unknown-met {b} {k} e h = not-false k (sym e ∙ not-true b h)

pub unknown_past : {b k : Bool} → b ≡ not k → not b ≡ false → k ≡ false
unknown_past {b} {k} e h = not-true k (sym e ∙ not-false b h)

-- tests in front of others: one of them is met, or all are passed
pub number-some : (e : Refusal) → number e ≡ 0 → ⊥
number-some NoRoom q = omega arith
number-some BadId q = omega arith
number-some OtherDesk q = omega arith
number-some InUse q = omega arith
number-some NotOpen q = omega arith
number-some NoCmd q = omega arith
number-some BadLength q = omega arith
number-some BadAddress q = omega arith
number-some OpenFail q = omega arith

pub met_before : (e : Refusal) (ts us : List (Bool × ℕ)) → number e ≡ number_of (first ts) → number e ≡ number_of (first (ts ++ us))
unfolding first
met_before e [] us q = absurd (number-some e q)
met_before e (t ∷ ts) us q = go t.0 q (met_before e ts us)
  where
    go : (b : Bool) → number e ≡ number_of (if b then refused t.1 else first ts) → (number e ≡ number_of (first ts) → number e ≡ number_of (first (ts ++ us)))
        → number e ≡ number_of (if b then refused t.1 else first (ts ++ us))
    go true z f = z
    go false z f = f z

-- no test has the number 0
abbrev pub Numbered : List (Bool × ℕ) → Type 0
Numbered ts = T (all (λ t. not (eqb t.1 0)) ts)

pub all_past : (ts us : List (Bool × ℕ)) → Numbered ts → 0 ≡ number_of (first ts) → {n : ℕ} → n ≡ number_of (first us) → n ≡ number_of (first (ts ++ us))
unfolding first all
all_past [] us m q z = z
all_past (t ∷ ts) us m q {n} z = go t.0 t.1 m q (λ k y. all_past ts us k y z)
  where
    go : (b : Bool) (e : ℕ) → T (not (eqb e 0) && all (λ t. not (eqb t.1 0)) ts) → 0 ≡ number_of (if b then refused e else first ts)
        → (Numbered ts → 0 ≡ number_of (first ts) → n ≡ number_of (first (ts ++ us))) → n ≡ number_of (if b then refused e else first (ts ++ us))
    go true zero k y f = absurd k
    go true (suc e) k y f = absurd (omega arith)
    go false zero k y f = absurd k
    go false (suc e) k y f = f (and_right (not (eqb (suc e) 0)) (all (λ t. not (eqb t.1 0)) ts) k) y

pub list_past : (bound : ℕ) (ms : List ℕ) (us : List (Bool × ℕ)) → 0 ≡ number_of (first (list_tests bound ms)) → {n : ℕ} → n ≡ number_of (first us)
    → n ≡ number_of (first (list_tests bound ms ++ us))
unfolding all
list_past bound ms us q e = all_past (list_tests bound ms) us tt q e

-- a command's last three tests: the combinations where it allocates, else the map, and then the numbers of one that carries them
module _ (k a b d g : Bool) where
  pub reads-list : k ≡ true → g ≡ false → first ((k && a, 252) ∷ (if k then b else d, 251) ∷ (g, 252) ∷ []) ≡ first ((a, 252) ∷ (b, 251) ∷ [])
  unfolding first
  reads-list e f = rw (e, f)

  pub reads-map : k ≡ false → d ≡ true → 251 ≡ number_of (first ((k && a, 252) ∷ (if k then b else d, 251) ∷ (g, 252) ∷ []))
  unfolding first
  reads-map e f = rw (e, f)

  pub reads-numbers : k ≡ false → d ≡ false → number_of (first ((k && a, 252) ∷ (if k then b else d, 251) ∷ (g, 252) ∷ [])) ≡ number_of (first ((g, 252) ∷ []))
  unfolding first
  reads-numbers e f = rw (e, f)

-- the test of a map: it is met, or passed
pub map-met : (d : Bool) (e : Refusal) → number e ≡ number_of (first ((d, 251) ∷ [])) → (d ≡ true) × (number e ≡ 251)
unfolding first
map-met true e q = (refl, q)
map-met false e q = absurd (number-some e q)

pub map_past : (d : Bool) → 0 ≡ number_of (first ((d, 251) ∷ [])) → d ≡ false
unfolding first
map_past true e = absurd (omega arith)
map_past false e = refl

-- ---- the numbers that WRITE and PERVOL carry

none_right : (ms : List ℕ) → length ms ≡ 0 → wrong_numbers ms ≡ false
unfolding sound_tone period_in volume_in
none_right [] h = refl
none_right (m ∷ ms) h = absurd (omega arith)

pub numbers_none : (ms : List ℕ) → length ms ≡ 0 → 0 ≡ number_of (first (number_tests ms))
unfolding first
numbers_none ms h = rw (none_right ms h) refl

pub numbers_other : (ms : List ℕ) → (length ms ≡ 0 → ⊥) → (length ms ≡ 6 → ⊥) → 252 ≡ number_of (first (number_tests ms))
unfolding first
numbers_other ms h g = rw (ne_eqb (length ms) 0 h, ne_eqb (length ms) 6 g) refl

-- six bytes are in range where their period and volume are
six-tone : (ms : List ℕ) → length ms ≡ 6
    → sound_tone (65536 * get_or ms 2 0 + (256 * get_or ms 3 0 + get_or ms 4 0)) (get_or ms 5 0) ≡ sound_tone (period_in ms) (volume_in ms)
unfolding period_in volume_in
six-tone [] h = absurd (omega arith)
six-tone (m ∷ ms) h = refl

module _ (ms : List ℕ) (h : length ms ≡ 6) where
  abbrev pub tested : Bool
  tested = sound_tone (65536 * get_or ms 2 0 + (256 * get_or ms 3 0 + get_or ms 4 0)) (get_or ms 5 0)

  pub numbers_good : tested ≡ true → 0 ≡ number_of (first (number_tests ms))
  unfolding first
  numbers_good e = let n : length ms ≡ 0 → ⊥ = λ z. omega arith in rw (ne_eqb (length ms) 0 n, eq-eqb (length ms) 6 h, sym (six-tone ms h) ∙ e) refl

  pub numbers_bad : tested ≡ false → 252 ≡ number_of (first (number_tests ms))
  unfolding first
  numbers_bad e = let n : length ms ≡ 0 → ⊥ = λ z. omega arith in rw (ne_eqb (length ms) 0 n, eq-eqb (length ms) 6 h, sym (six-tone ms h) ∙ e) refl

-- ---- combinations, found by their places

any_at : (p : ℕ → Bool) (ms : List ℕ) (i : ℕ) → i < length ms → p (get_or ms i 0) ≡ true → any p ms ≡ true
unfolding any
any_at p [] i h e = absurd (omega arith)
any_at p (m ∷ ms) zero h e = rw e
any_at p (m ∷ ms) (suc i) h e = by_test (p m) (λ t. rw (test_true (p m) t)) (λ t. rw (test_false (p m) t) (any_at p ms i (omega arith) e))

any_nowhere : (p : ℕ → Bool) (ms : List ℕ) → ((i : ℕ) → i < length ms → p (get_or ms i 0) ≡ false) → any p ms ≡ false
unfolding any
any_nowhere p [] h = refl
any_nowhere p (m ∷ ms) h = rw (h 0 (omega arith)) (any_nowhere p ms (λ i l. h (suc i) (omega (arith, l))))

pub any_tested : (top : ℕ) (ms : List ℕ) (r : Bool) → (r ≡ true → (i : ℕ) × (i < length ms) × (top < get_or ms i 0))
    → (r ≡ false → (i : ℕ) → i < length ms → get_or ms i 0 ≤ top) → r ≡ any (high (top + 1)) ms
any_tested top ms true f g = let (i, l, h) = f refl in sym (any_at (high (top + 1)) ms i l (high_true (omega (arith, h))))
any_tested top ms false f g = sym (any_nowhere (high (top + 1)) ms (λ i l. high_false (omega (arith, g refl i l))))

-- ---- the commands: one computed test of the numbers of a byte

abbrev fifteen : ℕ → Bool
fifteen n = leb n 14 && leb 1 n || eqb n 32

abbrev alike : Bool → Bool → Bool
alike true b = b
alike false b = not b

alike_same : (a b : Bool) → T (alike a b) → a ≡ b
alike_same true b t = sym (test_true b t)
alike_same false b t = sym (test_false b t)

unfoldable below : ℕ → List ℕ
below zero = []
below (suc n) = n ∷ below n

all_below : (p : ℕ → Bool) (n i : ℕ) → i < n → T (all p (below n)) → T (p i)
unfolding all below
all_below p zero i h t = absurd (omega arith)
all_below p (suc n) i h t =
    by_test (eqb i n) (λ u. rw (eqb-true i n (test_true (eqb i n) u)) (and_left (p n) (all p (below n)) t))
    (λ u. let g = eqb-false i n (test_false (eqb i n) u) in all_below p n i (omega arith) (and_right (p n) (all p (below n)) t))

abbrev sorted : ℕ → Bool
sorted n = alike (fifteen n) (not (unknown (kind n))) && alike (eqb n 32) (allocates (kind n))

all_sorted : T (all sorted (below 256))
unfolding all below kind unknown allocates
all_sorted = tt

module _ (n : ℕ) (h : n < 256) where
  known-fifteen : fifteen n ≡ not (unknown (kind n))
  known-fifteen = alike_same (fifteen n) (not (unknown (kind n))) (and_left (alike (fifteen n) (not (unknown (kind n)))) (alike (eqb n 32) (allocates (kind n))) (all_below sorted 256 n h all_sorted))

  pub known-low : 1 ≤ n → n ≤ 14 → true ≡ not (unknown (kind n))
  known-low a b = let e : fifteen n ≡ true = rw (le-leb n 14 b, le-leb 1 n a) in sym e ∙ known-fifteen

  pub known-late : 14 < n → eqb n 32 ≡ not (unknown (kind n))
  known-late a = let e : fifteen n ≡ eqb n 32 = rw (lt-leb n 14 a) in sym e ∙ known-fifteen

  pub allocates_32 : eqb n 32 ≡ allocates (kind n)
  allocates_32 = alike_same (eqb n 32) (allocates (kind n)) (and_right (alike (fifteen n) (not (unknown (kind n)))) (alike (eqb n 32) (allocates (kind n))) (all_below sorted 256 n h all_sorted))

pub known_none : (n : ℕ) → n ≡ 0 → false ≡ not (unknown (kind n))
unfolding kind unknown
known_none n e = rw e

-- ---- an outstanding id's entry begins with a command

abbrev Begun : List Item → Type 0
Begun xs = Each (λ x. eqb (get_or x.entry 0 0) 0 ≡ false) xs

begun-append : (xs ys : List Item) → Begun xs → Begun ys → Begun (xs ++ ys)
begun-append [] ys l m = m
begun-append (x ∷ xs) ys l m = (l.0, begun-append xs ys l.1 m)

begun-map {ℓ} : {A : Type ℓ} (f : A → Item) → ((a : A) → eqb (get_or (f a).entry 0 0) 0 ≡ false) → (ys : List A) → Begun (map f ys)
begun-map f h [] = tt
begun-map f h (y ∷ ys) = (h y, begun-map f h ys)

begun_writes : (cs : List ChannelM) → Begun (write_items cs)
unfolding write_items write_entry
begun_writes [] = tt
begun_writes (c ∷ cs) = begun-append (map (write_item c.key) c.writes) (write_items cs) (begun-map (write_item c.key) (λ i. refl) c.writes) (begun_writes cs)

begun-items : (s : StateM) → Begun (items s)
unfolding items span_entry wait_entry
begun-items s =
    begun-append (write_items s.channels ++ map lock_item s.locks ++ map waiter_item s.waiters) (map wait_item s.waiting)
    (begun-append (write_items s.channels ++ map lock_item s.locks) (map waiter_item s.waiters)
    (begun-append (write_items s.channels) (map lock_item s.locks) (begun_writes s.channels) (begun-map lock_item (λ l. refl) s.locks))
    (begun-map waiter_item (λ w. refl) s.waiters))
    (begun-map wait_item (λ r. refl) s.waiting)

begun-lookup : (i : ℕ) (xs : List Item) → Begun xs → not (eqb (get_or (lookup i xs) 0 0) 0) ≡ among i (keys xs)
unfolding lookup among any
begun-lookup i [] b = refl
begun-lookup i (x ∷ xs) b = go (eqb i x.id) (begun-lookup i xs b.1)
  where
    go : (t : Bool) → not (eqb (get_or (lookup i xs) 0 0) 0) ≡ any (eqb i) (keys xs) → not (eqb (get_or (if t then x.entry else lookup i xs) 0 0) 0) ≡ (t || any (eqb i) (keys xs))
    go true e = rw b.0
    go false e = e

pub used-among : (s : StateM) → Parts s → (tb : List ℕ) → tb ≡ table_of s → (i : ℕ) → i < 64 → used tb i ≡ among i (ids s)
used-among s p tb h i g =
    let e : block 23 tb i ≡ lookup i (items s) = ap (λ (l : List ℕ). block 23 l i) h ∙ block_table_of s i (parts_long s p) g in
    ap (λ (l : List ℕ). not (eqb (get_or l 0 0) 0)) e ∙ begun-lookup i (items s) (begun-items s) ∙ ap (among i) (keys-items s)
