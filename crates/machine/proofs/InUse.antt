-- Why a key is in use exactly if a channel, a waiting request or the table has it: the list of keys in use is those three, whole.
-- Assumes nothing.
--
--   eight_board      a board of eight with a key on each channel, two requests that wait and 32 entries; the last key is the one before all
use Prim.Native.Nat.{ℕ, zero, suc, ◌<◌}
use mathlib.Core.Path.{◌≡◌, refl, sym}
use mathlib.Core.Bool.{Bool, true, false, ◌||◌}
use mathlib.Core.Logic.{◌⊎◌, inl, inr, ◌↔◌}
use mathlib.Core.List.{List, [], ◌∷◌, ◌++◌, map}
use native.Mathlib.Omega.{arith}
use lib.Dec.{T, eqb, eqb→eq, eqb_refl}
use lib.ListN.{length, get_or, replicate}
use Rattle.machine.specs.Lists.{among, any}
use Rattle.machine.specs.State.{State}
use Rattle.machine.specs.Granting.{in_use, new_key}
use Rattle.machine.specs.Rule.{Stands, InUse}
use Rattle.machine.specs.Machine.{machine}
use Rattle.machine.specs.Walks.{chan, lock, wait, stands}
use Rattle.machine.proofs.Tests.{or_left, or_right}

-- ---- an example

abbrev eight_board : State
eight_board =
    stands
    (chan 2 128 true false [] ∷ chan 3 128 false false [] ∷ chan 4 128 false false [] ∷ chan 5 128 false false []
    ∷ chan 6 128 false false [] ∷ chan 7 128 false false [] ∷ chan 8 128 false false [] ∷ chan 9 128 false false [] ∷ [])
    (lock 14 2 1 ∷ []) [] (wait 15 10 128 false (1 ∷ []) ∷ wait 16 11 128 false (2 ∷ []) ∷ []) (replicate 31 12 ++ 13 ∷ []) 1

-- each of the keys 2 to 13 is in use, and 14, which is but an id, is not
pub unlike_all_of_eight : new_key eight_board ≡ 14
unfolding machine
unlike_all_of_eight = refl

-- ---- laws

-- a number is among others exactly if it stands at one of their places
among-stands : (k : ℕ) (ks : List ℕ) → T (among k ks) → Stands k ks
unfolding among any
among-stands k [] t = absurd t
among-stands k (x ∷ xs) t = go (eqb k x) refl (among-stands k xs) t
  where
    go : (b : Bool) → eqb k x ≡ b → (T (among k xs) → Stands k xs) → T (b || among k xs) → Stands k (x ∷ xs)
    go true e ih u = (zero, omega arith, sym (eqb→eq k x (rw e tt)))
    go false e ih u = let s = ih u in (suc s.0, omega (arith, s.1), s.2)

stands-among : (k : ℕ) (ks : List ℕ) → Stands k ks → T (among k ks)
unfolding among any
stands-among k [] s = absurd (omega (arith, s.1))
stands-among k (x ∷ xs) (zero, l, e) = or_left (eqb k x) (among k xs) (rw e (eqb_refl k))
stands-among k (x ∷ xs) (suc i, l, e) = or_right (eqb k x) (among k xs) (stands-among k xs (i, omega arith, e))

among_both : (k : ℕ) (xs ys : List ℕ) → T (among k (xs ++ ys)) ↔ (T (among k xs) ⊎ T (among k ys))
unfolding among any
among_both k [] ys = (inr, from)
  where
    from : ⊥ ⊎ T (among k ys) → T (among k ys)
    from (inl t) = absurd t
    from (inr t) = t
among_both k (x ∷ xs) ys = go (eqb k x) (among_both k xs ys)
  where
    go : (b : Bool) → T (among k (xs ++ ys)) ↔ (T (among k xs) ⊎ T (among k ys))
        → T (b || among k (xs ++ ys)) ↔ (T (b || among k xs) ⊎ T (among k ys))
    go true ih = (λ t. inl tt, λ t. tt)
    go false ih = ih

-- #105: "every key on a channel, in a waiting request or in the table", and no other
pub in_use_iff : (s : State) (k : ℕ) → T (among k (in_use s)) ↔ InUse s k
unfolding in_use
in_use_iff s k = (λ t. to ((among_both k cs (rs ++ s.opens)).0 t), from)
  where
    cs : List ℕ
    cs = map (λ c. c.key) s.channels

    rs : List ℕ
    rs = map (λ r. r.key) s.waiting

    later : T (among k rs) ⊎ T (among k s.opens) → Stands k rs ⊎ Stands k s.opens
    later (inl t) = inl (among-stands k rs t)
    later (inr t) = inr (among-stands k s.opens t)

    to : T (among k cs) ⊎ T (among k (rs ++ s.opens)) → InUse s k
    to (inl t) = inl (among-stands k cs t)
    to (inr t) = inr (later ((among_both k rs s.opens).0 t))

    back : Stands k rs ⊎ Stands k s.opens → T (among k (rs ++ s.opens))
    back (inl t) = (among_both k rs s.opens).1 (inl (stands-among k rs t))
    back (inr t) = (among_both k rs s.opens).1 (inr (stands-among k s.opens t))

    from : InUse s k → T (among k (cs ++ (rs ++ s.opens)))
    from (inl t) = (among_both k cs (rs ++ s.opens)).1 (inl (stands-among k cs t))
    from (inr t) = (among_both k cs (rs ++ s.opens)).1 (inr (back t))
