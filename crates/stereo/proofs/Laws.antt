-- Why the maker and the checker agree with the request: a map that meets the wish is below 16, so that it stands in the list of
-- those wished; and a list in which each of these stands once and nothing else stands has each number as often as it should.
-- Assumes nothing.
use Prim.Native.Nat.{ℕ, zero, suc, ◌≤◌, ◌<◌}
use mathlib.Core.Path.{◌≡◌, refl, ap, subst, sym, ◌∙◌}
use mathlib.Core.Bool.{Bool, true, false, not, ◌&&◌, ◌||◌}
use mathlib.Core.Logic.{◌↔◌}
use mathlib.Core.List.{List, [], ◌∷◌, ◌++◌, append-nil, map}
use native.Mathlib.Omega.{arith}
use lib.Dec.{T, T_not, not_T, eqb, leb, ltb, eqb→eq, eqb_refl, leb→le, nleb→lt, ltb→lt, nltb→le}
use borrow.Author.Tests.{le-leb}
use lib.ListN.{length, length-append}
use Rattle.machine_laws.specs.machine.Lists.{all, any, keep, among}
use Rattle.machine_laws.proofs.machine.Tests.{and_left, and_right, and_both, or_map, eqb_flip, test_true, test_false, by_test}
use Rattle.machine_laws.proofs.Lists.{keep_append, keep_all, among_all, among-append}
use Rattle.wishes.specs.Wishes.{named, lefts, rights, meets}
use Rattle.stereo.specs.Stereo.{below, wished, times, accepts, Accepted, ascending}

or_one : (a b : Bool) → T a → T (a || b)
or_one true b t = tt
or_one false b t = absurd t

or_other : (a b : Bool) → T b → T (a || b)
or_other true b t = tt
or_other false b t = t

or_else : (a b : Bool) → (T a → ⊥) → T (a || b) → T b
or_else true b f t = absurd (f tt)
or_else false b f t = t

self : (m : ℕ) → T (among m (m ∷ []))
unfolding among any
self m = or_one (eqb m m) false (eqb_refl m)

-- ---- below, keep

-- the maps below the next number: one more where it meets the wish
pub next_meets : (p : ℕ → Bool) (m : ℕ) → T (p m) → keep p (below (suc m)) ≡ keep p (below m) ++ m ∷ []
unfolding below keep
next_meets p m t = keep_append p (below m) (m ∷ []) ∙ rw (test_true (p m) t) refl

pub next_misses : (p : ℕ → Bool) (m : ℕ) → T (not (p m)) → keep p (below (suc m)) ≡ keep p (below m)
unfolding below keep
next_misses p m t = keep_append p (below m) (m ∷ []) ∙ rw (test_false (p m) t) (append-nil (keep p (below m)))

-- the longer the list that is walked, the more are kept
grows : (p : ℕ → Bool) (m n : ℕ) → m ≤ n → length (keep p (below m)) ≤ length (keep p (below n))
grows p m zero h = subst (λ (k : ℕ). length (keep p (below k)) ≤ length (keep p (below 0))) (sym (zeroth m h)) (omega arith)
  where
    zeroth : (k : ℕ) → k ≤ 0 → k ≡ 0
    zeroth k g = omega arith
grows p m (suc n) h = by_test (leb m n) (λ t. later (grows p m n (leb→le m n t))) (λ t. subst (λ (k : ℕ). length (keep p (below k)) ≤ length (keep p (below (suc n)))) (sym (last t)) (omega arith))
  where
    later : length (keep p (below m)) ≤ length (keep p (below n)) → length (keep p (below m)) ≤ length (keep p (below (suc n)))
    later g = by_test (p n)
        (λ t. let e = ap (λ (xs : List ℕ). length xs) (next_meets p n t) ∙ length-append (keep p (below n)) (n ∷ []) in omega arith)
        (λ t. let e = ap (λ (xs : List ℕ). length xs) (next_misses p n t) in omega arith)

    last : T (not (leb m n)) → m ≡ suc n
    last t = let g = nleb→lt m n t in omega arith

below_has : (m n : ℕ) → m < n → T (among m (below n))
unfolding below
below_has m zero h = absurd (omega arith)
below_has m (suc n) h = rw (among-append m (below n) (n ∷ [])) (by_test (ltb m n)
    (λ t. or_one (among m (below n)) (among m (n ∷ [])) (below_has m n (ltb→lt m n t)))
    (λ t. or_other (among m (below n)) (among m (n ∷ [])) (last (nltb→le m n t))))
  where
    last : n ≤ m → T (among m (n ∷ []))
    last g = let e : m ≡ n = omega arith in subst (λ (k : ℕ). T (among m (k ∷ []))) e (self m)

keep_has : (p : ℕ → Bool) (m : ℕ) (xs : List ℕ) → T (p m) → T (among m xs) → T (among m (keep p xs))
unfolding keep among any
keep_has p m [] h t = t
keep_has p m (x ∷ xs) h t = by_test (p x)
    (λ q. rw (test_true (p x) q) (or_map (eqb m x) (eqb m x) (among m xs) (among m (keep p xs)) (λ u. u) (keep_has p m xs h) t))
    (λ q. rw (test_false (p x) q) (keep_has p m xs h (or_else (eqb m x) (among m xs)
    (λ u. T_not (p x) q (subst (λ (k : ℕ). T (p k)) (eqb→eq m x u) h)) t)))

-- ---- wished

meets-small : (l r m : ℕ) → T (meets l r m) → m < 16
unfolding meets
meets-small l r m t =
    ltb→lt m 16 (and_left (ltb m 16) (eqb (lefts m) l) (and_left (ltb m 16 && eqb (lefts m) l) (eqb (rights m) r) t))

-- every map that meets the wish is among those wished, and nothing else is
pub wished_has : (l r m : ℕ) → T (meets l r m) → T (among m (wished l r))
unfolding wished
wished_has l r m t = keep_has (meets l r) m (below 16) t (below_has m 16 (meets-small l r m t))

wished-meets : (l r : ℕ) → T (all (meets l r) (wished l r))
unfolding wished
wished-meets l r = keep_all (meets l r) (below 16)

-- what holds at 0, 1 and 2 holds of every number that may be wished
two : (P : ℕ → Type 0) → P 0 → P 1 → P 2 → (l : ℕ) → l ≤ 2 → P l
two P a b c zero h = a
two P a b c (suc zero) h = b
two P a b c (suc (suc zero)) h = c
two P a b c (suc (suc (suc l))) h = absurd (omega arith)

nine : (p : ℕ → ℕ → Bool) → T (all (λ a. all (p a) (0 ∷ 1 ∷ 2 ∷ [])) (0 ∷ 1 ∷ 2 ∷ [])) → (l r : ℕ) → l ≤ 2 → r ≤ 2 → T (p l r)
unfolding all among any
nine p t l r h g =
    let among_two : (k : ℕ) → k ≤ 2 → T (among k (0 ∷ 1 ∷ 2 ∷ [])) = two (λ k. T (among k (0 ∷ 1 ∷ 2 ∷ []))) tt tt tt in
    among_all (p l) r (0 ∷ 1 ∷ 2 ∷ []) (among_all (λ a. all (p a) (0 ∷ 1 ∷ 2 ∷ [])) l (0 ∷ 1 ∷ 2 ∷ []) t (among_two l h)) (among_two r g)

-- "fewer than 4 maps": no wish has more than four
pub few : (l r : ℕ) → l ≤ 2 → r ≤ 2 → length (wished l r) ≤ 4
unfolding wished meets lefts rights named below keep all
few l r h g = leb→le (length (wished l r)) 4 (nine (λ a b. leb (length (wished a b)) 4) tt l r h g)

-- there is room for the next one
pub room : (l r m : ℕ) → l ≤ 2 → r ≤ 2 → m < 16 → T (meets l r m) → length (keep (meets l r) (below m)) < 4
unfolding wished
room l r m h g k t =
    let f = few l r h g in
    let w = grows (meets l r) (suc m) 16 (omega arith) in
    let e = ap (λ (xs : List ℕ). length xs) (next_meets (meets l r) m t) ∙ length-append (keep (meets l r) (below m)) (m ∷ []) in
    omega arith

-- ---- times

-- what does not stand in a list of others
times_none : (q : ℕ → Bool) (b : ℕ) (ms : List ℕ) → T (all q ms) → T (not (q b)) → times b ms ≡ 0
unfolding all times
times_none q b [] t n = refl
times_none q b (m ∷ ms) t n =
    let other : eqb m b ≡ false = test_false (eqb m b) (not_T (eqb m b)
    (λ u. T_not (q b) n (subst (λ (k : ℕ). T (q k)) (eqb→eq m b u) (and_left (q m) (all q ms) t)))) in
    rw other (times_none q b ms (and_right (q m) (all q ms) t) n)

times_some : (b : ℕ) (ms : List ℕ) → T (among b ms) → 0 < times b ms
unfolding times among any
times_some b [] t = absurd t
times_some b (m ∷ ms) t = by_test (eqb m b)
    (λ u. rw (test_true (eqb m b) u) (omega arith))
    (λ u. rw (test_false (eqb m b) u) (times_some b ms (or_else (eqb b m) (among b ms)
    (λ v. T_not (eqb m b) u (eqb_flip b m v)) t)))

all_of : (q : ℕ → Bool) (ms : List ℕ) → ((b : ℕ) → T (among b ms) → T (q b)) → T (all q ms)
unfolding all among any
all_of q [] h = tt
all_of q (m ∷ ms) h =
    and_both (q m) (all q ms) (h m (or_one (eqb m m) (among m ms) (eqb_refl m)))
    (all_of q ms (λ b t. h b (or_other (eqb b m) (among b ms) t)))

-- ---- accepts

-- "The checker accepts exactly the lists that hold every map meeting the wish, each once, in any order, and nothing else."
pub accepts_exactly : (l r : ℕ) (ms : List ℕ) → T (accepts l r ms) ↔ Accepted l r ms
unfolding accepts
accepts_exactly l r ms = (
  λ t. let u = and_left (leb l 2 && leb r 2 && all (meets l r) ms) (all (λ m. eqb (times m ms) 1) (wished l r)) t in
      let once = and_right (leb l 2 && leb r 2 && all (meets l r) ms) (all (λ m. eqb (times m ms) 1) (wished l r)) t in
      let v = and_left (leb l 2 && leb r 2) (all (meets l r) ms) u in
      let alone = and_right (leb l 2 && leb r 2) (all (meets l r) ms) u in
      record {
        left = leb→le l 2 (and_left (leb l 2) (leb r 2) v);
        right = leb→le r 2 (and_right (leb l 2) (leb r 2) v);
        places =
            λ b. by_test (meets l r b)
            (λ m. rw (test_true (meets l r b) m) (eqb→eq (times b ms) 1
            (among_all (λ x. eqb (times x ms) 1) b (wished l r) once (wished_has l r b m))))
            (λ m. rw (test_false (meets l r b) m) (times_none (meets l r) b ms alone m));
      },
  λ a. and_both (leb l 2 && leb r 2 && all (meets l r) ms) (all (λ m. eqb (times m ms) 1) (wished l r))
      (and_both (leb l 2 && leb r 2) (all (meets l r) ms)
      (and_both (leb l 2) (leb r 2) (rw (le-leb l 2 a.left) tt) (rw (le-leb r 2 a.right) tt))
      (all_of (meets l r) ms (λ b t. stands a b t)))
      (all_of (λ m. eqb (times m ms) 1) (wished l r) (λ b t. once a b t)),
)
  where
    stands : Accepted l r ms → (b : ℕ) → T (among b ms) → T (meets l r b)
    stands a b t = by_test (meets l r b) (λ m. m)
        (λ m. absurd (let e : times b ms ≡ 0 = a.places b ∙ rw (test_false (meets l r b) m) refl in
        let s = times_some b ms t in omega arith))

    once : Accepted l r ms → (b : ℕ) → T (among b (wished l r)) → T (eqb (times b ms) 1)
    once a b t =
        let m = among_all (meets l r) b (wished l r) (wished-meets l r) t in
        rw (a.places b, test_true (meets l r b) m) tt

-- "What our maker writes, in ascending order, is always accepted."
pub wished-accepted : (l r : ℕ) → l ≤ 2 → r ≤ 2 → T (accepts l r (wished l r))
unfolding accepts wished meets lefts rights named below keep times all
wished-accepted l r h g = nine (λ a b. accepts a b (wished a b)) tt l r h g

pub ascending-told : map ascending ((1 ∷ 2 ∷ 4 ∷ []) ∷ (1 ∷ 4 ∷ 2 ∷ []) ∷ (1 ∷ 1 ∷ []) ∷ []) ≡ true ∷ false ∷ false ∷ []
unfolding ascending all
ascending-told = refl

pub wished_ascends : (l r : ℕ) → l ≤ 2 → r ≤ 2 → T (ascending (wished l r))
unfolding ascending wished meets lefts rights named below keep all
wished_ascends l r h g = nine (λ a b. ascending (wished a b)) tt l r h g

-- #108: "One left and one right gives 03, 05, 0A and 0C. None and none gives 00 alone."; "channels 0 and 3 sound left, 1 and 2 right"
pub sides : (wished 1 1 ≡ 3 ∷ 5 ∷ 10 ∷ 12 ∷ []) × (wished 0 0 ≡ 0 ∷ []) × (wished 2 0 ≡ 9 ∷ []) × (wished 0 2 ≡ 6 ∷ [])
unfolding wished meets lefts rights named below keep
sides = (refl, refl, refl, refl)
