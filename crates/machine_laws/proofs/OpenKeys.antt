-- The table of open keys, document 02, #105: an OPEN's entry behind the others and a CLOSE's taken out leave it sound; a CLOSE
-- with one key leaves the entries of every other.
-- Assumes nothing.
use Prim.Native.Nat.{ℕ, ◌+◌, ◌≤◌, ◌<◌}
use mathlib.Core.Path.{◌≡◌, subst, sym}
use mathlib.Core.Bool.{Bool, true, false, not, ◌&&◌, ◌||◌}
use mathlib.Core.List.{List, [], ◌∷◌, ◌++◌}
use native.Mathlib.Omega.{arith}
use lib.Dec.{T, T_not, eqb, eqb→eq, eqb-suc-zero, leb, leb→le, le→leb}
use lib.ListN.{length, length-append}
use Rattle.machine.specs.Numbers.{ENTRIES, KEYS}
use Rattle.std.specs.Prelude.{if◌then◌else◌}
use Rattle.machine.specs.Lists.{all, among, any}
use Rattle.machine.specs.Commands.{closed}
use Rattle.machine.specs.Sound.{sound_opens}
use Rattle.machine.proofs.Tests.{and_left, and_right, and_both, or_left, or_map, by_test, test_true, test_false}
use Rattle.machine_laws.specs.Lists.{Sub, skip, take, end}
use Rattle.machine_laws.proofs.Lists.{sub_refl, sub_all, sub_length, all_append, among_all, among-append}

abbrev entry : ℕ → Bool
entry k = leb 1 k && leb k KEYS

-- ---- an entry more, where there is room

pub opened-sound : (ks : List ℕ) (k : ℕ) → T (sound_opens ks) → length ks < ENTRIES → (1 ≤ k) × (k ≤ KEYS) → T (sound_opens (ks ++ k ∷ []))
unfolding sound_opens all
opened-sound ks k t h r =
    and_both (leb (length (ks ++ k ∷ [])) ENTRIES) (all entry (ks ++ k ∷ []))
    (rw (length-append ks (k ∷ [])) (le→leb (length ks + 1) ENTRIES (omega arith)))
    (all_append entry ks (k ∷ []) (and_right (leb (length ks) ENTRIES) (all entry ks) t)
    (and_both (entry k) true (and_both (leb 1 k) (leb k KEYS) (le→leb 1 k r.0) (le→leb k KEYS r.1)) tt))

pub opened-keeps : (ks : List ℕ) (j k : ℕ) → T (among j ks) → T (among j (ks ++ k ∷ []))
opened-keeps ks j k t = rw (among-append j ks (k ∷ [])) (or_left (among j ks) (among j (k ∷ [])) t)

-- ---- an entry less

pub closed_sub : (k : ℕ) (ks : List ℕ) → Sub (closed k ks) ks
unfolding closed
closed_sub k [] = end
closed_sub k (x ∷ xs) = go (eqb k x) (closed_sub k xs)
  where
    go : (b : Bool) → Sub (closed k xs) xs → Sub (if b then xs else x ∷ closed k xs) (x ∷ xs)
    go true ih = skip (sub_refl xs)
    go false ih = take ih

pub closed-sound : (k : ℕ) (ks : List ℕ) → T (sound_opens ks) → T (sound_opens (closed k ks))
unfolding sound_opens
closed-sound k ks t =
    let h = leb→le (length ks) ENTRIES (and_left (leb (length ks) ENTRIES) (all entry ks) t) in
    let l = sub_length (closed_sub k ks) in
    and_both (leb (length (closed k ks)) ENTRIES) (all entry (closed k ks))
    (le→leb (length (closed k ks)) ENTRIES (omega arith))
    (sub_all entry (closed_sub k ks) (and_right (leb (length ks) ENTRIES) (all entry ks) t))

-- an entry of another key stays
pub closed-keeps : (j k : ℕ) (ks : List ℕ) → T (not (eqb k j)) → T (among j ks) → T (among j (closed k ks))
unfolding closed among any
closed-keeps j k [] n t = t
closed-keeps j k (x ∷ xs) n t =
    by_test (eqb k x)
    (λ a. rw (test_true (eqb k x) a) (or_second (eqb j x) (any (eqb j) xs) (λ b. T_not (eqb k j) n (subst (λ (z : ℕ). T (eqb k z)) (sym (eqb→eq j x b)) a)) t))
    (λ a. rw (test_false (eqb k x) a) (or_map (eqb j x) (eqb j x) (any (eqb j) xs) (any (eqb j) (closed k xs)) (λ b. b) (closed-keeps j k xs n) t))
  where
    or_second : (a b : Bool) → (T a → ⊥) → T (a || b) → T b
    or_second true b f u = absurd (f tt)
    or_second false b f u = u

-- ---- a key that has an entry

pub entry-sound : (k : ℕ) (ks : List ℕ) → T (among k ks) → T (sound_opens ks) → T (sound_opens (k ∷ []))
unfolding sound_opens all
entry-sound k ks t u =
    and_both (entry k) true (among_all entry k ks (and_right (leb (length ks) ENTRIES) (all entry ks) u) t) tt

pub not_empty : (k : ℕ) (ks : List ℕ) → T (among k ks) → eqb (length ks) 0 ≡ false
unfolding among any
not_empty k [] t = absurd t
not_empty k (x ∷ xs) t = eqb-suc-zero (length xs)
