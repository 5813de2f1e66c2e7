-- Why 32 records are enough for each desk: no id is replied to twice in a call, and a desk has 32 ids.
-- Assumes nothing.
use Prim.Native.Nat.{ℕ, zero, suc, ◌+◌, ◌≤◌, ◌<◌}
use mathlib.Core.Path.{◌≡◌, refl, ◌∙◌}
use mathlib.Core.Bool.{Bool, true, false, not}
use mathlib.Core.List.{List, [], ◌∷◌, map}
use native.Mathlib.Omega.{arith}
use lib.Dec.{T, T_not, eqb, ltb, eqb_refl, ltb→lt, nltb→le}
use lib.ListN.{length, length-append, length-map}
use Rattle.std.specs.Prelude.{if◌then◌else◌}
use Rattle.machine.specs.Lists.{any, all, among, distinct, keep}
use Rattle.machine.specs.State.{State, Reply, Call}
use Rattle.machine.specs.Desks.{DESK_A, DESK_B, HALF, desk_of, replies_to, halves}
use Rattle.machine.specs.Bytes.{run}
use Rattle.machine.specs.Sound.{sound}
use Rattle.machine.specs.Call.{call}
use Rattle.machine.proofs.Tests.{and_both, and_left, and_right, by_test, test_true, test_false}
use Rattle.machine_laws.specs.Lists.{Sub, count}
use Rattle.machine_laws.proofs.Lists.{sub_all, sub_keep, sub_map, among_all, keep_all, within-length}
use Rattle.machine_laws.proofs.Counting.{count_sub, count-distinct, distinct-count}
use Rattle.machine_laws.specs.Replies.{heard}
use Rattle.machine_laws.proofs.Replies.{call-replies, replied-small}

-- ---- the ids of a desk

among_run : (a n i : ℕ) → a ≤ i → i < a + n → T (among i (run a n))
unfolding among any run
among_run a zero i h g = absurd (omega arith)
among_run a (suc n) i h g =
    by_test (eqb i a) (λ t. rw (test_true (eqb i a) t) tt)
    (λ t. rw (test_false (eqb i a) t) (among_run (suc a) n i (let e : i ≡ a → ⊥ = λ q. T_not (eqb i a) t (rw q (eqb_refl a)) in omega arith) (omega arith)))

of_a_lem : (i : ℕ) → T (eqb (desk_of i) DESK_A) → i < HALF
unfolding desk_of
of_a_lem i t = by_test (ltb i HALF) (λ u. ltb→lt i HALF u) (λ u. absurd (rw (test_false (ltb i HALF) u) at t))

of_b_lem : (i : ℕ) → T (eqb (desk_of i) DESK_B) → HALF ≤ i
unfolding desk_of
of_b_lem i t = by_test (ltb i HALF) (λ u. absurd (rw (test_true (ltb i HALF) u) at t)) (λ u. nltb→le i HALF u)

-- ---- the replies to a desk

heard_all : (q : ℕ → Bool) (xs : List Reply) → T (all (λ (r : Reply). q r.id) xs) → T (all q (heard xs))
unfolding all
heard_all q [] t = tt
heard_all q (x ∷ xs) t =
    and_both (q x.id) (all q (heard xs)) (and_left (q x.id) (all (λ (r : Reply). q r.id) xs) t)
    (heard_all q xs (and_right (q x.id) (all (λ (r : Reply). q r.id) xs) t))

module _ (rs : List Reply) (apart : T (distinct (heard rs))) (small : T (all (λ i. ltb i 64) (heard rs))) (d : ℕ) where
  mine : Sub (heard (replies_to d rs)) (heard rs)
  unfolding replies_to
  mine = sub_map (λ (r : Reply). r.id) (sub_keep (λ (r : Reply). eqb (desk_of r.id) d) rs)

  mine-apart : T (distinct (heard (replies_to d rs)))
  mine-apart = count-distinct (heard (replies_to d rs)) (λ i. let h = distinct-count i (heard rs) apart in let k = count_sub i mine in omega arith)

  mine-small : (i : ℕ) → T (among i (heard (replies_to d rs))) → i < 64
  mine-small i t = ltb→lt i 64 (among_all (λ j. ltb j 64) i (heard (replies_to d rs)) (sub_all (λ j. ltb j 64) mine small) t)

  mine_its : (i : ℕ) → T (among i (heard (replies_to d rs))) → T (eqb (desk_of i) d)
  unfolding replies_to
  mine_its i t =
      among_all (λ j. eqb (desk_of j) d) i (heard (replies_to d rs))
      (heard_all (λ j. eqb (desk_of j) d) (replies_to d rs) (keep_all (λ (r : Reply). eqb (desk_of r.id) d) rs)) t

-- #109: at most 32 in each half
pub half_fits : (rs : List Reply) → T (distinct (heard rs)) → T (all (λ i. ltb i 64) (heard rs))
    → (length (replies_to DESK_A rs) ≤ HALF) × (length (replies_to DESK_B rs) ≤ HALF)
unfolding run
half_fits rs apart small =
    let a = within-length (heard (replies_to DESK_A rs)) (run 0 HALF) (mine-apart rs apart small DESK_A)
    (λ i t. among_run 0 HALF i (omega arith) (of_a_lem i (mine_its rs apart small DESK_A i t))) in
    let b = within-length (heard (replies_to DESK_B rs)) (run HALF HALF) (mine-apart rs apart small DESK_B)
    (λ i t. among_run HALF HALF i (of_b_lem i (mine_its rs apart small DESK_B i t)) (mine-small rs apart small DESK_B i t)) in
    (simp length-map at a, simp length-map at b)

pub call-halves : (s : State) (c : Call) → T (sound s)
    → (length (replies_to DESK_A (call s c).replies) ≤ HALF) × (length (replies_to DESK_B (call s c).replies) ≤ HALF)
call-halves s c t = half_fits (call s c).replies (call-replies s c t).0 (replied-small s c t)

-- every reply is to one of the two
two_halves : (rs : List Reply) → length (replies_to DESK_A rs) + length (replies_to DESK_B rs) ≡ length rs
unfolding replies_to keep desk_of
two_halves [] = refl
two_halves (r ∷ rs) =
    let h = two_halves rs in
    by_test (ltb r.id HALF) (λ t. rw (test_true (ltb r.id HALF) t) (omega arith)) (λ t. rw (test_false (ltb r.id HALF) t) (omega arith))

pub length-halves : (rs : List Reply) → length (halves rs) ≡ length rs
unfolding halves
length-halves rs = length-append (replies_to DESK_A rs) (replies_to DESK_B rs) ∙ two_halves rs
