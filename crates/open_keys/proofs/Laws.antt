-- The methods said of lists: each keeps a table that lies as `keys_of` says, and does to its list what its name says.
-- Assumes nothing.
use Prim.Native.Nat.{ℕ, suc, ◌+◌, ◌-◌, ◌≤◌, ◌<◌}
use mathlib.Core.Path.{◌≡◌, refl, ap, ap₂, sym, ◌∙◌}
use mathlib.Core.Bool.{Bool, true, false, cond, ◌||◌}
use mathlib.Core.List.{List, [], ◌∷◌, ◌++◌, append_assoc}
use native.Mathlib.Omega.{arith}
use lib.Dec.{eqb, ltb, ltb→lt, nltb→le}
use lib.ListN.{length, take, drop, get_or, set, replicate, length-append, length-take, length-drop, length-replicate, length-set, replicate-append-replicate}
use lib.Seq.{drop-cons, set-append_seam, take-append-le, drop-append-le, take-append_seam, length-take-le}
use borrow.Author.Tests.{eq-eqb, ne_eqb}
use Rattle.std.specs.declared.option.Option.{Option}
use Rattle.std.specs.declared.option.Option.TheVariants.{Some, None}
use Rattle.std.proofs.lemmas.List.Recursion.{is_position_or_len}
use Rattle.machine.specs.Numbers.{ENTRIES}
use Rattle.std.specs.Prelude.{if◌then◌else◌}
use Rattle.machine.specs.Lists.{among, any}
use Rattle.machine.specs.Commands.{closed}
use Rattle.queue.specs.Queue.{remove_at}
use Rattle.machine.proofs.Tests.{by_test, test_true, test_false}
use Rattle.open_keys.specs.declared.Keys.{Keys}
use Rattle.open_keys.specs.OpenKeys.{pad, keys_of, keys_in, Tidy, index_of, place_of}

-- ---- keys_of

pub length-pad : (l : List ℕ) → length l ≤ ENTRIES → length (pad l) ≡ ENTRIES
length-pad l h = simp (length-append, length-replicate) (omega arith)

pub keys_in_keys_of : (l : List ℕ) → keys_in (keys_of l) ≡ l
keys_in_keys_of l = take-append_seam l _

pub tidy_of : {q : Keys} (l : List ℕ) → q ≡ keys_of l → Tidy q
tidy_of l e = e ∙ ap keys_of (sym (ap keys_in e ∙ keys_in_keys_of l))

-- ---- add

add_pad : (l : List ℕ) (k : ℕ) → length l < ENTRIES → set (pad l) (length l) k ≡ pad (l ++ k ∷ [])
add_pad l k h =
    let e : ENTRIES - length l ≡ suc (ENTRIES - (length l + 1)) = omega arith in
    rw (e, set-append_seam, append_assoc, length-append)

pub added_of : (l : List ℕ) (k : ℕ) → length l < ENTRIES
    → ◌≡◌ {A = Keys} (record { n = length l + 1; keys = set (pad l) (length l) k }) (keys_of (l ++ k ∷ []))
added_of l k h =
    let e = add_pad l k h in
    let f : length l + 1 ≡ length (l ++ k ∷ []) = simp length-append in
    cc

-- ---- close

remove_pad : (l : List ℕ) (k : ℕ) → k < length l → length l ≤ ENTRIES → remove_at (pad l) k ≡ pad (take k l ++ drop (suc k) l)
remove_pad l k h g =
    let h1 : k ≤ length l = omega arith in
    let e : ENTRIES - length (take k l ++ drop (suc k) l) ≡ (ENTRIES - length l) + 1 = simp (length-append, length-take, length-drop) (omega arith) in
    rw (e, ← (replicate-append-replicate {A = ℕ} (ENTRIES - length l) 1 0), take-append-le k l, drop-append-le (suc k) l) (simp append_assoc)

pub removed_of : (l : List ℕ) (k : ℕ) → k < length l → length l ≤ ENTRIES
    → ◌≡◌ {A = Keys} (record { n = length l - 1; keys = remove_at (pad l) k }) (keys_of (take k l ++ drop (suc k) l))
removed_of l k h g =
    let e = remove_pad l k h g in
    let f : length l - 1 ≡ length (take k l ++ drop (suc k) l) = simp (length-append, length-take, length-drop) (omega arith) in
    cc

-- ---- where a key stands

index_below : (key : ℕ) (l : List ℕ) → index_of key l ≤ length l
index_below key [] = omega arith
index_below key (x ∷ l) = go (eqb key x) (index_below key l)
  where
    go : (b : Bool) → index_of key l ≤ length l → cond b 0 (suc (index_of key l)) ≤ suc (length l)
    go true h = omega arith
    go false h = omega arith

-- it stands somewhere exactly if it is among them
pub index_among : (key : ℕ) (l : List ℕ) → (index_of key l < length l → among key l ≡ true) × (length l ≤ index_of key l → among key l ≡ false)
unfolding among any
index_among key [] = (λ h. absurd (omega arith), λ h. refl)
index_among key (x ∷ l) = go (eqb key x) (index_among key l)
  where
    go : (b : Bool) → (index_of key l < length l → any (eqb key) l ≡ true) × (length l ≤ index_of key l → any (eqb key) l ≡ false)
        → (cond b 0 (suc (index_of key l)) < suc (length l) → (b || any (eqb key) l) ≡ true) × (suc (length l) ≤ cond b 0 (suc (index_of key l)) → (b || any (eqb key) l) ≡ false)
    go true ih = (λ h. refl, λ h. absurd (omega arith))
    go false ih = (λ h. ih.0 (omega arith), λ h. ih.1 (omega arith))

-- "CLOSE removes the oldest entry with its key"
pub index_closed : (key : ℕ) (l : List ℕ) → index_of key l < length l → closed key l ≡ take (index_of key l) l ++ drop (suc (index_of key l)) l
unfolding closed
index_closed key [] h = absurd (omega arith)
index_closed key (x ∷ l) h = go (eqb key x) (index_closed key l) h
  where
    go : (b : Bool) → (index_of key l < length l → closed key l ≡ take (index_of key l) l ++ drop (suc (index_of key l)) l)
        → cond b 0 (suc (index_of key l)) < suc (length l)
        → (if b then l else x ∷ closed key l) ≡ take (cond b 0 (suc (index_of key l))) (x ∷ l) ++ drop (suc (cond b 0 (suc (index_of key l)))) (x ∷ l)
    go true ih g = refl
    go false ih g = ap (λ (ks : List ℕ). x ∷ ks) (ih (omega arith))

pub index_absent : (key : ℕ) (l : List ℕ) → length l ≤ index_of key l → closed key l ≡ l
unfolding closed
index_absent key [] h = refl
index_absent key (x ∷ l) h = go (eqb key x) (index_absent key l) h
  where
    go : (b : Bool) → (length l ≤ index_of key l → closed key l ≡ l) → suc (length l) ≤ cond b 0 (suc (index_of key l)) → (if b then l else x ∷ closed key l) ≡ x ∷ l
    go true ih g = absurd (omega arith)
    go false ih g = ap (λ (ks : List ℕ). x ∷ ks) (ih (omega arith))

-- ---- turns of the loops

-- a turn of the search
pub index_here : (key : ℕ) (l : List ℕ) (i : ℕ) → i < length l → get_or l i 0 ≡ key → index_of key (drop i l) ≡ 0
index_here key l i h e = rw (drop-cons l i 0, eq-eqb _ _ (sym e))

pub index_turn : (key : ℕ) (l : List ℕ) (i : ℕ) → i < length l → (get_or l i 0 ≡ key → ⊥) → index_of key (drop i l) ≡ suc (index_of key (drop (suc i) l))
index_turn key l i h e = rw (drop-cons l i 0, ne_eqb _ _ (λ q. e (sym q)))

pub place_is : (key : ℕ) (l : List ℕ) → place_of key l ≡ cond (ltb (index_of key l) (length l)) (Some (index_of key l)) None
place_is key l =
    let step : (x : ℕ) (xs : List ℕ) → index_of key (x ∷ xs) ≡ cond (eqb key x) 0 (1 + index_of key xs) =
    λ x xs. let e : suc (index_of key xs) ≡ 1 + index_of key xs = omega arith in ap (λ (n : ℕ). cond (eqb key x) 0 n) e in
    ap (λ (n : ℕ). cond (ltb n (length l)) (Some n) None) (sym (is_position_or_len (index_of key) (λ x. eqb key x) refl step l))

-- ---- the methods, of a table that is tidy

module _ (q : Keys) (t : Tidy q) where
  tidy-n : q.n ≡ length (keys_in q)
  tidy-n = ap (λ (x : Keys). x.n) t

  tidy-keys : q.keys ≡ pad (keys_in q)
  tidy-keys = ap (λ (x : Keys). x.keys) t

  pub add_tidy : (k : ℕ) → q.n < ENTRIES → ◌≡◌ {A = Keys} (record { n = q.n + 1; keys = set q.keys q.n k }) (keys_of (keys_in q ++ k ∷ []))
  add_tidy k h =
      ap₂ (λ (n : ℕ) (ks : List ℕ). record { n = n + 1; keys = set ks n k }) tidy-n tidy-keys
      ∙ added_of (keys_in q) k (omega (arith, tidy-n, h))

  pub close_absent : (k : ℕ) → q.n ≤ index_of k (keys_in q) → q ≡ keys_of (closed k (keys_in q))
  close_absent k h = t ∙ ap keys_of (sym (index_absent k (keys_in q) (omega (arith, tidy-n, h))))

  pub close_tidy : (k i : ℕ) → i ≡ index_of k (keys_in q) → q.n ≤ ENTRIES → i < q.n
      → ◌≡◌ {A = Keys} (record { n = q.n - 1; keys = remove_at q.keys i }) (keys_of (closed k (keys_in q)))
  close_tidy k i e h g =
      ap₂ (λ (n : ℕ) (ks : List ℕ). record { n = n - 1; keys = remove_at ks i }) tidy-n tidy-keys
      ∙ removed_of (keys_in q) i (omega (arith, tidy-n, g)) (omega (arith, tidy-n, h))
      ∙ ap (λ (j : ℕ). keys_of (take j (keys_in q) ++ drop (suc j) (keys_in q))) e
      ∙ ap keys_of (sym (index_closed k (keys_in q) (omega (arith, tidy-n, g, e))))

pub has_is : (q : Keys) (k : ℕ) → length q.keys ≡ ENTRIES → q.n ≤ ENTRIES → ltb (index_of k (keys_in q)) q.n ≡ among k (keys_in q)
has_is q k h g =
    let e : length (keys_in q) ≡ q.n = length-take-le q.n q.keys (omega arith) in
    by_test (ltb (index_of k (keys_in q)) q.n)
    (λ t. test_true (ltb (index_of k (keys_in q)) q.n) t ∙ sym ((index_among k (keys_in q)).0 (omega (arith, e, ltb→lt (index_of k (keys_in q)) q.n t))))
    (λ t. test_false (ltb (index_of k (keys_in q)) q.n) t ∙ sym ((index_among k (keys_in q)).1 (omega (arith, e, nltb→le (index_of k (keys_in q)) q.n t))))
