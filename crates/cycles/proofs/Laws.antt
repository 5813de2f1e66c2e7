-- What is made of the bytes of a write is what the machine makes of the write. Assumes nothing.
use Prim.Native.Nat.{ℕ, zero, suc, ◌-◌, ◌/◌, ◌%◌, ◌<◌}
use mathlib.Core.Path.{◌≡◌, refl, ap, ◌∙◌}
use mathlib.Core.Bool.{Bool, true, false, not, ◌&&◌, ◌||◌}
use mathlib.Core.List.{List, [], ◌∷◌}
use mathlib.Core.Option.{Option, none, some}
use native.Mathlib.Omega.{arith}
use lib.Dec.{T, eqb, eqb→eq, T_not, not_T}
use lib.ListN.{length, get_or, length-set}
use Rattle.std.specs.Prelude.{if◌then◌else◌}
use Rattle.machine.specs.State.{Write}
use Rattle.machine.specs.Granting.{aborted}
use Rattle.machine.specs.Commands.{toned, counted_down, is_last, last_replies, cycled}
use Rattle.machine.proofs.Tests.{if_elim, by_test, test_true, test_false, and_left, and_right}
use Rattle.table.specs.Entry.{number_bytes}
use Rattle.cycles.specs.declared.Turn.TheVariants.{Cut, Over, On}
use Rattle.cycles.specs.Cycles.{turn_in, turn_of, applied_in, counted_in, next_in, next_of, turn_replies, turn_queue}

-- ---- whether it ends

-- the two bytes of a count are 0 and 1 where the count is 1
last_is : (n : ℕ) → (eqb (n / 256) 0 && eqb (n % 256) 1) ≡ eqb n 1
last_is n =
    by_test (eqb n 1)
    (λ t. rw (eqb→eq n 1 t) refl)
    (λ t. rw (test_false (eqb n 1) t)
    (test_false (eqb (n / 256) 0 && eqb (n % 256) 1)
    (not_T (eqb (n / 256) 0 && eqb (n % 256) 1)
    (λ u. let a = eqb→eq (n / 256) 0 (and_left (eqb (n / 256) 0) (eqb (n % 256) 1) u) in
    let b = eqb→eq (n % 256) 1 (and_right (eqb (n / 256) 0) (eqb (n % 256) 1) u) in
    let z : n ≡ 1 = omega arith in
    T_not (eqb n 1) t (rw z tt)))))

pub turn_is : (w : Write) → turn_in (number_bytes w) ≡ turn_of w
unfolding turn_in turn_of number_bytes
turn_is w = by_finish w.finish
  where
    by_finish : (f : Bool) → (if eqb (if f then 1 else 0) 1 then Cut else if eqb (w.cycles / 256) 0 && eqb (w.cycles % 256) 1 then Over else On) ≡ (if f then Cut else if eqb w.cycles 1 then Over else On)
    by_finish true = refl
    by_finish false = rw (last_is w.cycles) refl

-- ---- with what it goes on

applied_is : (w : Write) (q : Option (ℕ × ℕ)) → w.pervol ≡ q → applied_in (number_bytes w) ≡ number_bytes (toned q w)
unfolding applied_in toned number_bytes
applied_is w none e = rw e refl
applied_is w (some q) e = rw e refl

-- the two bytes of a count, one less: the low byte lends from the high one
count-bytes : (n : ℕ) (r : List ℕ) → counted_in (n / 256 ∷ n % 256 ∷ r) ≡ (n - 1) / 256 ∷ (n - 1) % 256 ∷ r
unfolding counted_in
count-bytes n r =
    by_test (eqb (n % 256) 0)
    (λ t. let low = eqb→eq (n % 256) 0 t in
    by_test (eqb (n / 256) 0)
    (λ u. let high = eqb→eq (n / 256) 0 u in
    let z : n ≡ 0 = omega arith in
    rw z refl)
    (λ u. let high = ne_of (n / 256) u in
    let x : (n - 1) / 256 ≡ n / 256 - 1 = omega arith in
    let y : (n - 1) % 256 ≡ 255 = omega arith in
    rw (test_true (eqb (n % 256) 0) t, test_false (eqb (n / 256) 0) u, x, y) refl))
    (λ t. let low = ne_of (n % 256) t in
    let x : (n - 1) / 256 ≡ n / 256 = omega arith in
    let y : (n - 1) % 256 ≡ n % 256 - 1 = omega arith in
    rw (test_false (eqb (n % 256) 0) t, x, y) refl)
  where
    ne_of : (x : ℕ) → T (not (eqb x 0)) → 0 < x
    ne_of zero t = absurd t
    ne_of (suc x) t = omega arith

counted_is : (w : Write) → counted_in (number_bytes w) ≡ number_bytes (counted_down w)
unfolding number_bytes
counted_is w = count-bytes w.cycles _

pub next_is : (w : Write) → next_in (number_bytes w) ≡ number_bytes (next_of w)
next_is w = ap counted_in (applied_is w w.pervol refl) ∙ counted_is (toned w.pervol w)

-- and twelve they stay
pub next_long : (b : List ℕ) → length (next_in b) ≡ length b
unfolding applied_in counted_in
next_long b = counted-long (applied_in b) ∙ applied_long
  where
    counted-long : (c : List ℕ) → length (counted_in c) ≡ length c
    counted-long c =
        if_elim (λ (x : List ℕ). length x ≡ length c) (eqb (get_or c 1 0) 0)
        (λ _. if_elim (λ (x : List ℕ). length x ≡ length c) (eqb (get_or c 0 0) 0) (λ _. refl) (λ _. simp length-set))
        (λ _. simp length-set)

    applied_long : length (applied_in b) ≡ length b
    applied_long = if_elim (λ (x : List ℕ). length x ≡ length b) (eqb (get_or b 7 0) 1) (λ _. simp length-set) (λ _. refl)

-- a write keeps its id
toned-id : (q : Option (ℕ × ℕ)) (w : Write) → (toned q w).id ≡ w.id
unfolding toned
toned-id none w = refl
toned-id (some q) w = refl

pub next_id : (w : Write) → (next_of w).id ≡ w.id
next_id w = toned-id w.pervol w

-- ---- the machine's queue, by the turn of its front write

module _ (w : Write) (ws : List Write) where
  pub turn_replies_lem : (m k : ℕ) → last_replies m k (w ∷ ws) ≡ turn_replies (turn_of w) m k w
  unfolding turn_of last_replies aborted
  turn_replies_lem m k = by_finish w.finish (eqb w.cycles 1)
    where
      by_finish : (f l : Bool)
          → (if f then aborted k (w ∷ []) else if l then record { id = w.id; command = 3; error = 0; map = m; key = k } ∷ [] else [])
          ≡ turn_replies (if f then Cut else if l then Over else On) m k w
      by_finish true l = refl
      by_finish false true = refl
      by_finish false false = refl

  pub turn_queue_lem : cycled (w ∷ ws) ≡ turn_queue (turn_of w) w ws
  unfolding turn_of cycled is_last
  turn_queue_lem = by_finish w.finish (eqb w.cycles 1)
    where
      by_finish : (f l : Bool) → (if f || l then ws else next_of w ∷ ws) ≡ turn_queue (if f then Cut else if l then Over else On) w ws
      by_finish true l = refl
      by_finish false true = refl
      by_finish false false = refl
