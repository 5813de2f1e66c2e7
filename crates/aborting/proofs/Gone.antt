-- Items without an id: its entry is idle, and every other is as before. What an id is among things that have one: nowhere, or in one
-- place. Assumes nothing.
use Prim.Native.Nat.{ℕ, ◌+◌, ◌*◌, ◌<◌}
use mathlib.Core.Path.{◌≡◌, refl, ap, ap₂, sym, subst, ◌∙◌}
use mathlib.Core.Bool.{Bool, true, false, not}
use mathlib.Core.List.{List, [], ◌∷◌, ◌++◌, map}
use native.Mathlib.Nat.{zero-add}
use native.Mathlib.Omega.{arith}
use lib.Dec.{T, eqb, eqb→eq}
use lib.ListN.{length}
use Rattle.memory.specs.Splice.{splice}
use Rattle.locks.specs.table.Entry.{idle}
use Rattle.std.specs.Prelude.{if◌then◌else◌}
use Rattle.answers.specs.machine.Lists.{any, among, keep, distinct}
use Rattle.answers.specs.machine.State.{Channel as ChannelM, Lock, Reply, State as StateM}
use Rattle.answers.specs.machine.Commands.{without, leaving}
use Rattle.answers.proofs.machine.Tests.{by_test, test_true, test_false, nor_left, nor_right, and_left, and_right}
use Rattle.channel.proofs.machine_laws.Lists.{among-append, keep_append, keep_length, sub_keep}
use Rattle.channel.specs.machine_laws.Sound.{Parts}
use Rattle.answers.specs.store.Store.{Item, write_item, lock_item, waiter_item, wait_item, write_items, items, lookup, entries, table_of, Long, Good}
use Rattle.answers.proofs.store.Entries.{entries-splice, lookup_there, good_sub}
use Rattle.answers.proofs.store.Store.{parts_long, good_of}

-- ---- items

gone : ℕ → List Item → List Item
gone i xs = keep (λ x. not (eqb i x.id)) xs

gone_none : (i : ℕ) (xs : List Item) → lookup i (gone i xs) ≡ idle
unfolding gone keep lookup
gone_none i [] = refl
gone_none i (x ∷ xs) = go (eqb i x.id) refl (gone_none i xs)
  where
    go : (b : Bool) → eqb i x.id ≡ b → lookup i (gone i xs) ≡ idle → lookup i (if not b then x ∷ gone i xs else gone i xs) ≡ idle
    go true e ih = ih
    go false e ih = unfold lookup in rw e ih

gone_other : (i k : ℕ) (xs : List Item) → (k ≡ i → ⊥) → lookup k (gone i xs) ≡ lookup k xs
unfolding gone keep lookup
gone_other i k [] h = refl
gone_other i k (x ∷ xs) h = go (eqb i x.id) refl (gone_other i k xs h)
  where
    go : (b : Bool) → eqb i x.id ≡ b → lookup k (gone i xs) ≡ lookup k xs → lookup k (if not b then x ∷ gone i xs else gone i xs) ≡ lookup k (x ∷ xs)
    go true e ih = ih ∙ sym (lookup_there k x xs (λ z. h (z ∙ sym (eqb→eq i x.id (subst T (sym e) tt)))))
    go false e ih = unfold lookup in ap (λ (l : List ℕ). if eqb k x.id then x.entry else l) ih

gone_entries : (i : ℕ) (xs : List Item) → i < 64 → Long xs → splice (entries 64 0 xs) (i * 23) idle ≡ entries 64 0 (gone i xs)
gone_entries i xs h l =
    entries-splice 64 i 0 xs (gone i xs) idle h l refl (rw zero-add (gone_none i xs)) (λ k g. gone_other i k xs (rw zero-add at g))

gone_append : (i : ℕ) (xs ys : List Item) → gone i (xs ++ ys) ≡ gone i xs ++ gone i ys
unfolding gone
gone_append i xs ys = keep_append (λ x. not (eqb i x.id)) xs ys

module _ {A : Type 0} (f : A → Item) (i : ℕ) where
  gone_map : (xs : List A) → gone i (map f xs) ≡ map f (keep (λ x. not (eqb i (f x).id)) xs)
  unfolding gone keep
  gone_map [] = refl
  gone_map (x ∷ xs) = go (not (eqb i (f x).id)) (gone_map xs)
    where
      go : (b : Bool) → gone i (map f xs) ≡ map f (keep (λ y. not (eqb i (f y).id)) xs)
          → (if b then f x ∷ gone i (map f xs) else gone i (map f xs)) ≡ map f (if b then x ∷ keep (λ y. not (eqb i (f y).id)) xs else keep (λ y. not (eqb i (f y).id)) xs)
      go true e = ap (λ (l : List Item). f x ∷ l) e
      go false e = e

gone_channels : (i : ℕ) (cs : List ChannelM) → gone i (write_items cs) ≡ write_items (map (without i) cs)
unfolding write_items without gone keep
gone_channels i [] = refl
gone_channels i (c ∷ cs) =
    gone_append i (map (write_item c.key) c.writes) (write_items cs) ∙ ap₂ ◌++◌ (gone_map (write_item c.key) i c.writes) (gone_channels i cs)

-- ---- an id among things

one_of : (i x : ℕ) (l : List ℕ) → T (among i (x ∷ l)) → (eqb i x ≡ false) → T (among i l)
unfolding among any
one_of i x l t e = rw e at t

nowhere {ℓ} : {A : Type ℓ} (i : ℕ) → T (among i []) → A
unfolding among any
nowhere i t = absurd t

pub clear_of : (i : ℕ) (xs ys : List ℕ) → T (distinct (xs ++ ys)) → T (among i xs) → T (not (among i ys))
unfolding distinct among any
clear_of i [] ys d t = absurd t
clear_of i (x ∷ xs) ys d t =
    by_test (eqb i x)
    (λ u. let n : T (not (among i (xs ++ ys))) = subst (λ (y : ℕ). T (not (among y (xs ++ ys)))) (sym (eqb→eq i x u)) (and_left (not (among x (xs ++ ys))) (distinct (xs ++ ys)) d) in nor_right (among i xs) (among i ys) (rw (among-append i xs ys) at n))
    (λ u. clear_of i xs ys (and_right (not (among x (xs ++ ys))) (distinct (xs ++ ys)) d) (one_of i x xs t (test_false (eqb i x) u)))

pub some_long : (i : ℕ) (xs : List ℕ) → T (among i xs) → 0 < length xs
some_long i [] t = nowhere i t
some_long i (x ∷ xs) t = omega arith

module _ {A : Type 0} (f : A → Item) (h : A → Reply) (i : ℕ) where
  abbrev pub ids_of : List A → List ℕ
  ids_of xs = map (λ x. (f x).id) xs

  -- nowhere: nothing is replied, the entry is another's, and all stay
  pub record None (xs : List A) (rest : List Item) : Type 0 where
    pub reply : map h (keep (λ x. eqb i (f x).id) xs) ≡ []
    pub entry : lookup i (map f xs ++ rest) ≡ lookup i rest
    pub kept : keep (λ x. not (eqb i (f x).id)) xs ≡ xs

  pub none : (xs : List A) (rest : List Item) → T (not (among i (ids_of xs))) → None xs rest
  unfolding among any lookup keep
  none [] rest t = record { reply = refl; entry = refl; kept = refl }
  none (x ∷ xs) rest t =
      let e = test_false (eqb i (f x).id) (nor_left (eqb i (f x).id) (among i (ids_of xs)) t) in
      let n = none xs rest (nor_right (eqb i (f x).id) (among i (ids_of xs)) t) in
      record { reply = rw e n.reply; entry = rw e n.entry; kept = rw e (ap (λ (l : List A). x ∷ l) n.kept) }

  -- in one place: that is replied, its entry is the id's, and one less stays
  pub record Found (xs : List A) (rest : List Item) : Type 0 where
    pub at : A
    pub id : (f at).id ≡ i
    pub reply : map h (keep (λ x. eqb i (f x).id) xs) ≡ h at ∷ []
    pub entry : lookup i (map f xs ++ rest) ≡ (f at).entry
    pub fewer : length (keep (λ x. not (eqb i (f x).id)) xs) < length xs

  further : (x : A) (xs : List A) (rest : List Item) → eqb i (f x).id ≡ false → Found xs rest → Found (x ∷ xs) rest
  unfolding lookup keep
  further x xs rest e r =
      let k = r.fewer in
      record { at = r.at; id = r.id; reply = rw e r.reply; entry = rw e r.entry; fewer = rw e (omega arith) }

  pub found : (xs : List A) (rest : List Item) → T (distinct (ids_of xs)) → T (among i (ids_of xs)) → Found xs rest
  unfolding lookup keep distinct
  found [] rest d t = nowhere i t
  found (x ∷ xs) rest d t =
      by_test (eqb i (f x).id)
      (λ u.
      let q = eqb→eq i (f x).id u in
      let e = test_true (eqb i (f x).id) u in
      let n : T (not (among i (ids_of xs))) = subst (λ (y : ℕ). T (not (among y (ids_of xs)))) (sym q) (and_left (not (among (f x).id (ids_of xs))) (distinct (ids_of xs)) d) in
      let k = keep_length (λ (y : A). not (eqb i (f y).id)) xs in
      record { at = x; id = sym q; reply = rw e (ap (λ (l : List Reply). h x ∷ l) (none xs rest n).reply); entry = rw e refl; fewer = rw e (omega arith) })
      (λ u.
      let e = test_false (eqb i (f x).id) u in
      further x xs rest e (found xs rest (and_right (not (among (f x).id (ids_of xs))) (distinct (ids_of xs)) d) (one_of i (f x).id (ids_of xs) t e)))

-- ---- of a state

module _ (i : ℕ) (s : StateM) (p : Parts s) (t : T (not (among i (map (λ (l : Lock). l.id) s.locks)))) where
  gone_items : gone i (items s) ≡ items (leaving i s)
  unfolding items leaving
  gone_items =
      let A = write_items s.channels in
      let B = map lock_item s.locks in
      let C = map waiter_item s.waiters in
      let D = map wait_item s.waiting in
      let l : gone i B ≡ B = gone_map lock_item i s.locks ∙ ap (map lock_item) (none lock_item (λ x. record { id = x.id; command = 13; error = 0; map = 0; key = 0 }) i s.locks [] t).kept in
      gone_append i (A ++ B ++ C) D
      ∙ ap₂ ◌++◌ (gone_append i (A ++ B) C ∙ ap₂ ◌++◌ (gone_append i A B ∙ ap₂ ◌++◌ (gone_channels i s.channels) l) (gone_map waiter_item i s.waiters)) (gone_map wait_item i s.waiting)

  pub left_table : i < 64 → splice (table_of s) (i * 23) idle ≡ table_of (leaving i s)
  unfolding table_of
  left_table h = gone_entries i (items s) h (parts_long s p) ∙ ap (entries 64 0) gone_items

  pub left_good : Good (items (leaving i s))
  unfolding gone
  left_good = subst Good gone_items (good_sub (sub_keep (λ x. not (eqb i x.id)) (items s)) (good_of s p))
