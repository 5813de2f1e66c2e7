-- By its entry one tells who waits.
-- Assumes nothing.
use Prim.Native.Nat.{ℕ, zero, suc, ◌≤◌, ◌<◌}
use mathlib.Core.Path.{◌≡◌, refl, ap, sym, subst, ◌∙◌}
use mathlib.Core.Bool.{Bool, true, false, not, ◌&&◌, ◌||◌}
use mathlib.Core.List.{List, [], ◌∷◌, ◌++◌, map}
use lib.Dec.{T, eqb, eqb→eq}
use lib.ListN.{length, get_or}
use Rattle.answers.specs.machine.Numbers.{ADCMD_ALLOCATE}
use Rattle.std.specs.Prelude.{if◌then◌else◌}
use Rattle.answers.specs.machine.Lists.{any, among, distinct}
use Rattle.answers.specs.machine.State.{Write, Channel as ChannelM, Lock, Request, State as StateM}
use Rattle.answers.proofs.machine.Tests.{and_left, and_right, by_test, test_true, test_false, nor_right}
use Rattle.display.specs.machine_laws.Keeping.{wait_ids}
use Rattle.table.specs.memory.Splice.{block}
use Rattle.table.specs.Entry.{write_entry, span_entry, wait_entry}
use Rattle.answers.specs.store.declared.State.{State}
use Rattle.answers.specs.store.Store.{Item, write_item, lock_item, waiter_item, wait_item, write_items, items, keys, Each, lookup, state_in, Held}
use Rattle.answers.proofs.store.Store.{parts_long, block_table_of, apart-items, held_parts}
use Rattle.deciding.specs.Deciding.{waits_in}

-- ---- who waits, by the table

abbrev Other : Item → Type 0
Other x = eqb (get_or x.entry 0 0) ADCMD_ALLOCATE ≡ false

each_append : (xs ys : List Item) → Each Other xs → Each Other ys → Each Other (xs ++ ys)
each_append [] ys a b = b
each_append (x ∷ xs) ys a b = (a.0, each_append xs ys a.1 b)

other_writes : (k : ℕ) (ws : List Write) → Each Other (map (write_item k) ws)
unfolding write_entry
other_writes k [] = tt
other_writes k (w ∷ ws) = (refl, other_writes k ws)

other_channels : (cs : List ChannelM) → Each Other (write_items cs)
unfolding write_items
other_channels [] = tt
other_channels (c ∷ cs) = each_append (map (write_item c.key) c.writes) (write_items cs) (other_writes c.key c.writes) (other_channels cs)

other_locks : (ls : List Lock) → Each Other (map lock_item ls)
unfolding span_entry
other_locks [] = tt
other_locks (l ∷ ls) = (refl, other_locks ls)

other_waiters : (ws : List Lock) → Each Other (map waiter_item ws)
unfolding span_entry
other_waiters [] = tt
other_waiters (w ∷ ws) = (refl, other_waiters ws)

wait-keys : (rs : List Request) → keys (map wait_item rs) ≡ wait_ids rs
wait-keys [] = refl
wait-keys (r ∷ rs) = ap (λ (l : List ℕ). r.id ∷ l) (wait-keys rs)

absent_right : (i : ℕ) (xs ys : List Item) → T (not (among i (keys (xs ++ ys)))) → T (not (among i (keys ys)))
unfolding among any
absent_right i [] ys n = n
absent_right i (x ∷ xs) ys n = absent_right i xs ys (nor_right (eqb i x.id) (among i (keys (xs ++ ys))) n)

waits-lookup : (i : ℕ) (rs : List Request) → eqb (get_or (lookup i (map wait_item rs)) 0 0) ADCMD_ALLOCATE ≡ among i (wait_ids rs)
unfolding lookup among any wait_entry
waits-lookup i [] = refl
waits-lookup i (r ∷ rs) = go (eqb i r.id) (waits-lookup i rs)
  where
    go : (b : Bool) → eqb (get_or (lookup i (map wait_item rs)) 0 0) ADCMD_ALLOCATE ≡ among i (wait_ids rs)
        → eqb (get_or (if b then wait_entry r else lookup i (map wait_item rs)) 0 0) ADCMD_ALLOCATE ≡ (b || among i (wait_ids rs))
    go true e = unfold wait_entry in refl
    go false e = e

kind-lookup : (i : ℕ) (xs : List Item) (rs : List Request) → Each Other xs → T (distinct (keys (xs ++ map wait_item rs)))
    → eqb (get_or (lookup i (xs ++ map wait_item rs)) 0 0) ADCMD_ALLOCATE ≡ among i (wait_ids rs)
unfolding lookup distinct
kind-lookup i [] rs o d = waits-lookup i rs
kind-lookup i (x ∷ xs) rs o d =
    by_test (eqb i x.id)
    (λ t. let e = eqb→eq i x.id t in
    ap (λ (b : Bool). eqb (get_or (if b then x.entry else lookup i (xs ++ map wait_item rs)) 0 0) ADCMD_ALLOCATE) (test_true (eqb i x.id) t)
    ∙ (o.0 ∙ sym (test_false (among i (wait_ids rs)) (absent e))))
    (λ t. ap (λ (b : Bool). eqb (get_or (if b then x.entry else lookup i (xs ++ map wait_item rs)) 0 0) ADCMD_ALLOCATE) (test_false (eqb i x.id) t)
    ∙ kind-lookup i xs rs o.1 (and_right (not (among x.id (keys (xs ++ map wait_item rs)))) (distinct (keys (xs ++ map wait_item rs))) d))
  where
    absent : i ≡ x.id → T (not (among i (wait_ids rs)))
    absent e =
        subst (λ (l : List ℕ). T (not (among i l))) (wait-keys rs)
        (absent_right i xs (map wait_item rs)
        (subst (λ (k : ℕ). T (not (among k (keys (xs ++ map wait_item rs))))) (sym e)
        (and_left (not (among x.id (keys (xs ++ map wait_item rs)))) (distinct (keys (xs ++ map wait_item rs))) d)))

pub waits_is : {st : State} {tb : List ℕ} → Held st tb → (i : ℕ) → i < 64 → waits_in tb i ≡ among i (wait_ids (state_in st tb).waiting)
unfolding items
waits_is {st} {tb} h i l =
    let s = state_in st tb in
    let p = held_parts h in
    ap (λ (x : List ℕ). eqb (get_or x 0 0) ADCMD_ALLOCATE) (ap (λ (x : List ℕ). block 23 x i) h.table ∙ block_table_of s i (parts_long s p) l)
    ∙ kind-lookup i (write_items s.channels ++ map lock_item s.locks ++ map waiter_item s.waiters) s.waiting
    (each_append (write_items s.channels ++ map lock_item s.locks) (map waiter_item s.waiters)
    (each_append (write_items s.channels) (map lock_item s.locks) (other_channels s.channels) (other_locks s.locks))
    (other_waiters s.waiters))
    (apart-items s p)
