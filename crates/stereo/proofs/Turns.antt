-- The turns of the loops: what is left of a list, done by the definition, gives the whole.
-- Assumes nothing.
use Prim.Native.Nat.{ℕ, suc, ◌+◌, ◌≤◌, ◌<◌}
use mathlib.Core.Path.{◌≡◌, refl, ap, subst, sym, ◌∙◌}
use mathlib.Core.Bool.{Bool, true, false, not, ◌&&◌}
use mathlib.Core.List.{List, [], ◌∷◌, ◌++◌}
use native.Mathlib.Omega.{arith}
use native.Mathlib.Numerals.{add-one}
use borrow.Author.Tests.{lt-ltb, le-ltb, lt-leb, le-leb}
use lib.Dec.{T, not_T, eqb, eqb→eq}
use lib.ListN.{length, length-append, set}
use Rattle.std.specs.Prelude.{if◌then◌else◌}
use Rattle.std.specs.List.{filter, list_all}
use Rattle.machine_laws.specs.machine.Lists.{all, keep}
use Rattle.machine_laws.proofs.machine.Tests.{test_true, test_false}
use Rattle.machine_laws.proofs.Lists.{all_append, among_all}
use Rattle.memory.specs.Splice.{splice}
use Rattle.memory.proofs.Splice.{splice_none, splice_snoc, length-splice}
use Rattle.wishes.specs.Wishes.{meets}
use Rattle.stereo.specs.Stereo.{below, wished, refusal, count, made, Makes, times, accepts}
use Rattle.stereo.proofs.Laws.{next_meets, next_misses, room, wished_has}

-- ---- lists, as the standard library counts and tests them

pub counted : (b : ℕ) (ms : List ℕ) → length (filter (λ m. eqb m b) ms) ≡ times b ms
unfolding times
counted b [] = refl
counted b (m ∷ ms) = go (eqb m b) (counted b ms)
  where
    go : (t : Bool) → length (filter (λ x. eqb x b) ms) ≡ times b ms
        → length (if t then m ∷ filter (λ x. eqb x b) ms else filter (λ x. eqb x b) ms) ≡ (if t then suc (times b ms) else times b ms)
    go true h = ap suc h
    go false h = h

pub all_tested : (p : ℕ → Bool) (ms : List ℕ) → list_all p ms ≡ all p ms
unfolding all
all_tested p [] = refl
all_tested p (m ∷ ms) = ap (λ (b : Bool). p m && b) (all_tested p ms)

-- ---- fill

-- the maps below m that meet the wish stand at the front of the room
pub record Filled (l r : ℕ) (ms₀ ms : List ℕ) (n m : ℕ) : Type 0 where
  pub inside : m ≤ 16
  pub count : n ≡ length (keep (meets l r) (below m))
  pub fits : n ≤ length ms₀
  pub bytes : ms ≡ splice ms₀ 0 (keep (meets l r) (below m))

pub filled_start : (l r : ℕ) (ms : List ℕ) → Filled l r ms ms 0 0
unfolding below keep
filled_start l r ms = record { inside = omega arith; count = refl; fits = omega arith; bytes = sym (splice_none ms 0) }

module _ {l r : ℕ} {ms₀ ms : List ℕ} {n m : ℕ} (t : Filled l r ms₀ ms n m) where
  pub filled-length : 4 ≤ length ms₀ → length ms ≡ length ms₀
  filled-length g =
      let k = t.count in
      let f = t.fits in
      rw t.bytes (length-splice ms₀ 0 (keep (meets l r) (below m)) (omega arith))

  module _ (h : l ≤ 2) (g : r ≤ 2) (k : 4 ≤ length ms₀) (u : m < 16) (b : Bool) (e : b ≡ meets l r m) where
    -- there is room for a map that meets the wish
    pub filled_room : b ≡ true → n < 4
    filled_room q = let f = t.count in let w = room l r m h g u (subst (λ (x : Bool). T x) (sym q ∙ e) tt) in omega arith

    pub filled_hit : b ≡ true → Filled l r ms₀ (set ms n m) (n + 1) (m + 1)
    filled_hit q =
        let hit : T (meets l r m) = subst (λ (x : Bool). T x) (sym q ∙ e) tt in
        let w = filled_room q in
        let old = keep (meets l r) (below m) in
        let more = next_meets (meets l r) m hit in
        let at : 0 + length old ≡ n = let f = t.count in omega arith in
        let f = t.fits in
        record {
          inside = omega arith;
          count = rw (add-one m, more) (let c = t.count in let a = length-append old (m ∷ []) in omega arith);
          fits = omega arith;
          bytes =
              rw (add-one m, more)
              (subst (λ (i : ℕ). set ms i m ≡ splice ms₀ 0 (old ++ m ∷ [])) at
              (subst (λ (xs : List ℕ). set xs (0 + length old) m ≡ splice ms₀ 0 (old ++ m ∷ [])) (sym t.bytes)
              (splice_snoc ms₀ 0 old m (omega arith))));
        }

    pub filled_miss : b ≡ false → Filled l r ms₀ ms n (m + 1)
    filled_miss q =
        let miss : T (not (meets l r m)) = subst (λ (x : Bool). T (not x)) (sym q ∙ e) tt in
        let same = next_misses (meets l r) m miss in
        record {
          inside = omega arith;
          count = rw (add-one m, same) t.count;
          fits = t.fits;
          bytes = rw (add-one m, same) t.bytes;
        }

  pub filled_end : 16 ≤ m → (n ≡ length (wished l r)) × (ms ≡ splice ms₀ 0 (wished l r))
  unfolding wished
  filled_end h =
      let i = t.inside in
      let e : m ≡ 16 = omega arith in (
        t.count ∙ ap (λ (k : ℕ). length (keep (meets l r) (below k))) e,
        t.bytes ∙ ap (λ (k : ℕ). splice ms₀ 0 (keep (meets l r) (below k))) e,
      )

-- ---- each_once

-- of the maps below m that meet the wish, each stands once
pub record Once (l r : ℕ) (ms : List ℕ) (m : ℕ) : Type 0 where
  pub inside : m ≤ 16
  pub each : T (all (λ x. eqb (times x ms) 1) (keep (meets l r) (below m)))

pub once_start : (l r : ℕ) (ms : List ℕ) → Once l r ms 0
unfolding below keep all
once_start l r ms = record { inside = omega arith; each = tt }

module _ {l r : ℕ} {ms : List ℕ} {m : ℕ} (t : Once l r ms m) where
  pub once_end : 16 ≤ m → true ≡ all (λ x. eqb (times x ms) 1) (wished l r)
  unfolding wished
  once_end h =
      let i = t.inside in
      let e : m ≡ 16 = omega arith in
      sym (test_true (all (λ x. eqb (times x ms) 1) (keep (meets l r) (below 16)))
      (subst (λ (k : ℕ). T (all (λ x. eqb (times x ms) 1) (keep (meets l r) (below k)))) e t.each))

  module _ (u : m < 16) (b : Bool) (e : b ≡ meets l r m) where
    pub once_miss : b ≡ false → Once l r ms (m + 1)
    once_miss q =
        let miss : T (not (meets l r m)) = subst (λ (x : Bool). T (not x)) (sym q ∙ e) tt in
        record { inside = omega arith; each = rw (add-one m, next_misses (meets l r) m miss) t.each }

    pub once_hit : b ≡ true → times m ms ≡ 1 → Once l r ms (m + 1)
    unfolding all
    once_hit q s =
        let hit : T (meets l r m) = subst (λ (x : Bool). T x) (sym q ∙ e) tt in
        record {
          inside = omega arith;
          each = rw (add-one m, next_meets (meets l r) m hit)
              (all_append (λ x. eqb (times x ms) 1) (keep (meets l r) (below m)) (m ∷ []) t.each (rw s tt));
        }

    pub once_stop : b ≡ true → (times m ms ≡ 1 → ⊥) → false ≡ all (λ x. eqb (times x ms) 1) (wished l r)
    once_stop q s =
        let hit : T (meets l r m) = subst (λ (x : Bool). T x) (sym q ∙ e) tt in
        sym (test_false (all (λ x. eqb (times x ms) 1) (wished l r)) (not_T (all (λ x. eqb (times x ms) 1) (wished l r)) (λ a.
        s (eqb→eq (times m ms) 1 (among_all (λ x. eqb (times x ms) 1) m (wished l r) a (wished_has l r m hit))))))

-- ---- make

module _ (l r : ℕ) (ms : List ℕ) where
  pub left_refused : 2 < l → Makes l r ms (record { error = 11; count = 0 }) ms
  unfolding refusal count made
  left_refused h = record { error = rw (lt-ltb 2 l h) refl; number = rw (lt-ltb 2 l h) refl; bytes = rw (lt-ltb 2 l h) refl }

  module _ (h : l ≤ 2) where
    pub right-refused : 2 < r → Makes l r ms (record { error = 11; count = 0 }) ms
    unfolding refusal count made
    right-refused g = record { error = rw (le-ltb 2 l h, lt-ltb 2 r g) refl; number = rw (le-ltb 2 l h, lt-ltb 2 r g) refl; bytes = rw (le-ltb 2 l h, lt-ltb 2 r g) refl }

    module _ (g : r ≤ 2) where
      pub room_refused : length ms < 4 → Makes l r ms (record { error = 12; count = 0 }) ms
      unfolding refusal count made
      room_refused k = record { error = rw (le-ltb 2 l h, le-ltb 2 r g, lt-ltb (length ms) 4 k) refl; number = rw (le-ltb 2 l h, le-ltb 2 r g, lt-ltb (length ms) 4 k) refl; bytes = rw (le-ltb 2 l h, le-ltb 2 r g, lt-ltb (length ms) 4 k) refl }

      pub made_whole : 4 ≤ length ms → (n : ℕ) (ms' : List ℕ) → n ≡ length (wished l r) → ms' ≡ splice ms 0 (wished l r)
          → Makes l r ms (record { error = 0; count = n }) ms'
      unfolding refusal count made
      made_whole k n ms' e f = record { error = rw (le-ltb 2 l h, le-ltb 2 r g, le-ltb (length ms) 4 k) refl; number = rw (le-ltb 2 l h, le-ltb 2 r g, le-ltb (length ms) 4 k) e; bytes = rw (le-ltb 2 l h, le-ltb 2 r g, le-ltb (length ms) 4 k) f }

-- ---- accepts

module _ (l r : ℕ) (ms : List ℕ) where
  pub left_high : 2 < l → false ≡ accepts l r ms
  unfolding accepts
  left_high h = rw (lt-leb l 2 h) refl

  module _ (h : l ≤ 2) where
    pub right-high : 2 < r → false ≡ accepts l r ms
    unfolding accepts
    right-high g = rw (le-leb l 2 h, lt-leb r 2 g) refl

    module _ (g : r ≤ 2) (a : Bool) (e : a ≡ all (meets l r) ms) where
      pub something_else : a ≡ false → false ≡ accepts l r ms
      unfolding accepts
      something_else q = rw (le-leb l 2 h, le-leb r 2 g, sym e ∙ q) refl

      pub last_told : (b : Bool) → a ≡ true → b ≡ all (λ m. eqb (times m ms) 1) (wished l r) → b ≡ accepts l r ms
      unfolding accepts
      last_told b q f = rw (le-leb l 2 h, le-leb r 2 g, sym e ∙ q) f
