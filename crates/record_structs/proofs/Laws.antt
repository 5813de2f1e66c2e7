-- The structs of the records that crate `records` fills are those of the waiting requests, in order. Assumes nothing.
use Prim.Native.Nat.{ℕ, zero, suc, ◌+◌, ◌*◌}
use mathlib.Core.Path.{◌≡◌, refl, ap, ap₂, ◌∙◌}
use mathlib.Core.Bool.{Bool, true, false}
use mathlib.Core.List.{List, [], ◌∷◌, ◌++◌, map, append_assoc}
use native.Mathlib.Omega.{arith}
use lib.Dec.{eqb}
use lib.ListN.{length, get_or, drop}
use Rattle.std.specs.Prelude.{if◌then◌else◌}
use Rattle.machine.specs.State.{Channel, Request}
use Rattle.machine.specs.Choosing.{look}
use Rattle.display.specs.Display.{holds, record_of, records}
use Rattle.record_structs.specs.declared.Waiter.{Waiter}
use Rattle.record_structs.specs.RecordStructs.{waiter_at, waiters_from, written, waiter_of}

-- ---- a record behind another

next_byte : (a b c d : ℕ) (bs : List ℕ) (i k : ℕ) → get_or (a ∷ b ∷ c ∷ d ∷ bs) (suc i * 4 + k) 0 ≡ get_or bs (i * 4 + k) 0
next_byte a b c d bs i k =
    let e : suc i * 4 + k ≡ suc (suc (suc (suc (i * 4 + k)))) = omega arith in
    ap (λ (j : ℕ). get_or (a ∷ b ∷ c ∷ d ∷ bs) j 0) e

next_first : (a b c d : ℕ) (bs : List ℕ) (i : ℕ) → get_or (a ∷ b ∷ c ∷ d ∷ bs) (suc i * 4) 0 ≡ get_or bs (i * 4) 0
next_first a b c d bs i =
    let e : suc i * 4 ≡ suc (suc (suc (suc (i * 4)))) = omega arith in
    ap (λ (j : ℕ). get_or (a ∷ b ∷ c ∷ d ∷ bs) j 0) e

next_waiter : (a b c d : ℕ) (bs : List ℕ) (i : ℕ) → waiter_at (a ∷ b ∷ c ∷ d ∷ bs) (suc i) ≡ waiter_at bs i
next_waiter a b c d bs i j =
    record {
      id = next_first a b c d bs i j;
      prec = next_byte a b c d bs i 1 j;
      held = eqb (next_byte a b c d bs i 2 j) 1;
      desk = next_byte a b c d bs i 3 j;
    }

next_waiters : (a b c d : ℕ) (bs : List ℕ) (i n : ℕ) → waiters_from (a ∷ b ∷ c ∷ d ∷ bs) (suc i) n ≡ waiters_from bs i n
unfolding waiters_from
next_waiters a b c d bs i zero = refl
next_waiters a b c d bs i (suc n) = ap₂ (λ (w : Waiter) (ws : List Waiter). w ∷ ws) (next_waiter a b c d bs i) (next_waiters a b c d bs (suc i) n)

-- ---- a record is its request's

mark_back : (h : Bool) → eqb (if h then 1 else 0) 1 ≡ h
mark_back true = refl
mark_back false = refl

first_waiter : (cs : List Channel) (r : Request) (bs : List ℕ) → waiter_at (record_of cs r ++ bs) 0 ≡ waiter_of cs r
unfolding record_of
first_waiter cs r bs j = record { id = r.id; prec = (waiter_of cs r).prec; held = mark_back (holds (look r.prec r.combos cs)) j; desk = (waiter_of cs r).desk }

rest-waiters : (cs : List Channel) (r : Request) (bs : List ℕ) (n : ℕ) → waiters_from (record_of cs r ++ bs) 1 n ≡ waiters_from bs 0 n
unfolding record_of
rest-waiters cs r bs n = next_waiters _ _ _ _ bs 0 n

-- whatever stands behind the last record
pub structs_of : (cs : List Channel) (rs : List Request) (bs : List ℕ) → waiters_from (records cs rs ++ bs) 0 (length rs) ≡ map (waiter_of cs) rs
unfolding waiters_from records
structs_of cs [] bs = refl
structs_of cs (r ∷ rs) bs =
    let e = append_assoc (record_of cs r) (records cs rs) bs in
    ap₂ (λ (w : Waiter) (ws : List Waiter). w ∷ ws)
    (ap (λ (l : List ℕ). waiter_at l 0) e ∙ first_waiter cs r (records cs rs ++ bs))
    (ap (λ (l : List ℕ). waiters_from l 1 (length rs)) e ∙ (rest-waiters cs r (records cs rs ++ bs) (length rs) ∙ structs_of cs rs bs))

-- so the slice holds the waiting requests in front, and the rest of it stays
pub all_written : (cs : List Channel) (rs : List Request) (bs : List ℕ) (ws : List Waiter)
    → written (records cs rs ++ bs) (length rs) ws ≡ map (waiter_of cs) rs ++ drop (length rs) ws
unfolding written
all_written cs rs bs ws = ap (λ (l : List Waiter). l ++ drop (length rs) ws) (structs_of cs rs bs)
