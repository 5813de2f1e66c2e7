-- Turns of the loops that abort: what is left to do gives the whole. Assumes nothing.
use Prim.Native.Nat.{ℕ, zero, suc, ◌+◌, ◌*◌, ◌/◌, ◌^◌, ◌≤◌, ◌<◌}
use mathlib.Core.Path.{◌≡◌, refl, ap, sym, ◌∙◌}
use mathlib.Core.Bool.{true, false}
use mathlib.Core.List.{List, [], ◌∷◌, ◌++◌, map}
use native.Mathlib.Omega.{arith}
use native.Mathlib.Numerals.{add-one}
use native.Mathlib.Nat.{div-one}
use lib.ListN.{length, drop, get_or, length-append, length-map, drop_of_length-le}
use lib.Seq.{drop-cons}
use Rattle.memory.specs.Splice.{splice}
use Rattle.memory.proofs.Splice.{splice_none, length-splice}
use Rattle.queue.specs.Queue.{list_of}
use Rattle.channel.specs.declared.Channel.{Channel}
use Rattle.channel.proofs.Turns.{half_pow}
use Rattle.locks.specs.table.Entry.{idle}
use Rattle.locks.specs.reply.Replies.{encode, sent}
use Rattle.locks.proofs.reply.Laws.{length-sent, sent-append}
use Rattle.machine.specs.State.{Write, Reply}
use Rattle.machine.specs.Maps.{odd}
use Rattle.machine.specs.Granting.{aborted, aborted_in}
use Rattle.locks.specs.store.Store.{write_in, Small}
use Rattle.dropped_writes.specs.DroppedWrites.{idled, writes_in, Writable, Writables, held_in}

-- ---- small ids

pub small_at : (is : List ℕ) (i : ℕ) → Small is → i < length is → get_or is i 0 < 64
small_at [] i s h = absurd (omega arith)
small_at (j ∷ is) zero s h = s.0
small_at (j ∷ is) (suc i) s h = small_at is i s.1 (omega arith)

pub length-idled : (is tb : List ℕ) → Small is → length tb ≡ 1472 → length (idled is tb) ≡ 1472
unfolding idled
length-idled [] tb s e = e
length-idled (i ∷ is) tb s e = length-idled is (splice tb (i * 23) idle) s.1 (length-splice tb (i * 23) idle (omega (arith, s.0)) ∙ e)

pub idled-append : (is js tb : List ℕ) → idled (is ++ js) tb ≡ idled js (idled is tb)
unfolding idled
idled-append [] js tb = refl
idled-append (i ∷ is) js tb = idled-append is js (splice tb (i * 23) idle)

-- the replies to the writes of these ids
abbrev pub aborted_at : List ℕ → ℕ → List ℕ → List Reply
aborted_at tb k is = aborted k (map (write_in tb) is)

pub length-aborted : (tb : List ℕ) (k : ℕ) (is : List ℕ) → length (aborted_at tb k is) ≡ length is
unfolding aborted
length-aborted tb k is = length-map (map (write_in tb) is) _ ∙ length-map is _

-- a write's reply tells nothing of its numbers, so any table will do
pub aborted_at_lem : (tb tb' : List ℕ) (k : ℕ) (is : List ℕ) → aborted_at tb k is ≡ aborted_at tb' k is
unfolding aborted
aborted_at_lem tb tb' k [] = refl
aborted_at_lem tb tb' k (i ∷ is) = ap (λ (rs : List Reply). record { id = i; command = 3; error = 254; map = 0; key = k } ∷ rs) (aborted_at_lem tb tb' k is)

pub ids_in : (tb is : List ℕ) → map (λ (w : Write). w.id) (map (write_in tb) is) ≡ is
ids_in tb [] = refl
ids_in tb (i ∷ is) = ap (λ (js : List ℕ). i ∷ js) (ids_in tb is)

-- ---- one channel's writes

-- after i turns, with the ids from i on still to do
pub record Aborting (key n : ℕ) (is tb₀ l₀ : List ℕ) (tb l : List ℕ) (at i : ℕ) : Type 0 where
  pub within : i ≤ length is
  pub count : at ≡ n + i
  pub tall : length tb ≡ 1472
  pub long : length l ≡ length l₀
  pub cleared : idled (drop i is) tb ≡ idled is tb₀
  pub replied : sent l at (aborted_at tb₀ key (drop i is)) ≡ sent l₀ n (aborted_at tb₀ key is)

pub aborting_start : (key n : ℕ) (is tb l : List ℕ) → length tb ≡ 1472 → Aborting key n is tb l tb l n 0
aborting_start key n is tb l e = record { within = omega arith; count = omega arith; tall = e; long = refl; cleared = refl; replied = refl }

module _ {key n : ℕ} {is tb₀ l₀ tb l : List ℕ} {at i : ℕ} (a : Aborting key n is tb₀ l₀ tb l at i) where
  pub aborting_turn : Small is → i < length is → n * 6 + length is * 6 ≤ length l₀
      → Aborting key n is tb₀ l₀ (splice tb (get_or is i 0 * 23) idle)
      (splice l (at * 6) (encode (record { id = get_or is i 0; command = 3; error = 254; map = 0; key = key }))) (at + 1) (i + 1)
  unfolding idled aborted
  aborting_turn s h r =
      let d = get_or is i 0 in
      let x : Reply = record { id = d; command = 3; error = 254; map = 0; key = key } in
      let b : d < 64 = small_at is i s h in
      let c = a.count in
      let g = a.long in
      let q = drop-cons is i 0 h in
      let t = a.tall in
      record {
        within = omega arith;
        count = omega arith;
        tall = length-splice tb (d * 23) idle (omega arith) ∙ a.tall;
        long = length-splice l (at * 6) (encode x) (omega arith) ∙ a.long;
        cleared = rw (add-one i) (rw q at a.cleared);
        replied = rw (add-one i) (sent-append l at (x ∷ []) (aborted_at tb₀ key (drop (suc i) is)) (omega arith) ∙ (rw q at a.replied));
      }

  pub aborting_end : length is ≤ i → (at ≡ n + length is) × (l ≡ sent l₀ n (aborted_at tb₀ key is)) × (tb ≡ idled is tb₀)
  unfolding idled aborted
  aborting_end h =
      let e : drop i is ≡ [] = drop_of_length-le is h in
      (omega (arith, a.count, a.within), rw (e, splice_none) at a.replied, rw e at a.cleared)

  pub aborting_room : i < length is → n * 6 + length is * 6 ≤ length l₀ → at * 6 + 6 ≤ length l
  aborting_room h r = let c = a.count in let g = a.long in omega arith

-- ---- the channels that a map names

abbrev pub rest_in : List ℕ → ℕ → ℕ → List Channel → List Reply
rest_in tb m i cs = aborted_in (m / 2 ^ i) (held_in tb (drop i cs))

abbrev pub rest_of : List ℕ → ℕ → ℕ → List Channel → List ℕ
rest_of tb m i cs = writes_in (m / 2 ^ i) (held_in tb (drop i cs))

pub record AbortingIn (m n : ℕ) (cs : List Channel) (tb₀ l₀ : List ℕ) (tb l : List ℕ) (at i : ℕ) : Type 0 where
  pub within : i ≤ length cs
  pub count : at + length (rest_in tb₀ m i cs) ≡ n + length (rest_in tb₀ m 0 cs)
  pub tall : length tb ≡ 1472
  pub long : length l ≡ length l₀
  pub cleared : idled (rest_of tb₀ m i cs) tb ≡ idled (rest_of tb₀ m 0 cs) tb₀
  pub replied : sent l at (rest_in tb₀ m i cs) ≡ sent l₀ n (rest_in tb₀ m 0 cs)

pub in_start : (m n : ℕ) (cs : List Channel) (tb l : List ℕ) → length tb ≡ 1472 → AbortingIn m n cs tb l tb l n 0
in_start m n cs tb l e = record { within = omega arith; count = refl; tall = e; long = refl; cleared = refl; replied = refl }

pub writable_at : (cs : List Channel) (i : ℕ) (d : Channel) → Writables cs → i < length cs → Writable (get_or cs i d)
writable_at [] i d w h = absurd (omega arith)
writable_at (c ∷ cs) zero d w h = w.0
writable_at (c ∷ cs) (suc i) d w h = writable_at cs i d w.1 (omega arith)

module _ (tb₀ : List ℕ) (m : ℕ) (cs : List Channel) (i : ℕ) (d : Channel) (h : i < length cs) where
  named-replies : odd (m / 2 ^ i) ≡ true → rest_in tb₀ m i cs ≡ aborted_at tb₀ (get_or cs i d).key (list_of (get_or cs i d).writes) ++ rest_in tb₀ m (suc i) cs
  unfolding aborted_in
  named-replies e = rw (drop-cons cs i d h, e, half_pow)

  named_writes : odd (m / 2 ^ i) ≡ true → rest_of tb₀ m i cs ≡ list_of (get_or cs i d).writes ++ rest_of tb₀ m (suc i) cs
  unfolding writes_in
  named_writes e = rw (drop-cons cs i d h, e, half_pow, ids_in tb₀ (list_of (get_or cs i d).writes))

  passed-replies : odd (m / 2 ^ i) ≡ false → rest_in tb₀ m i cs ≡ rest_in tb₀ m (suc i) cs
  unfolding aborted_in
  passed-replies e = rw (drop-cons cs i d h, e, half_pow)

  passed_writes : odd (m / 2 ^ i) ≡ false → rest_of tb₀ m i cs ≡ rest_of tb₀ m (suc i) cs
  unfolding writes_in
  passed_writes e = rw (drop-cons cs i d h, e, half_pow)

module _ {m n : ℕ} {cs : List Channel} {tb₀ l₀ tb l : List ℕ} {at i : ℕ} (d : Channel) (a : AbortingIn m n cs tb₀ l₀ tb l at i) (h : i < length cs) where
  pub in_room : odd (m / 2 ^ i) ≡ true → n * 6 + length (rest_in tb₀ m 0 cs) * 6 ≤ length l₀ → at * 6 + length (list_of (get_or cs i d).writes) * 6 ≤ length l
  in_room e r =
      let c = a.count in
      let g = a.long in
      let q = ap length (named-replies tb₀ m cs i d h e) ∙ length-append (aborted_at tb₀ (get_or cs i d).key (list_of (get_or cs i d).writes)) (rest_in tb₀ m (suc i) cs) in
      let b = length-aborted tb₀ (get_or cs i d).key (list_of (get_or cs i d).writes) in
      omega arith

  pub in_named : odd (m / 2 ^ i) ≡ true → Writables cs → n * 6 + length (rest_in tb₀ m 0 cs) * 6 ≤ length l₀
      → AbortingIn m n cs tb₀ l₀ (idled (list_of (get_or cs i d).writes) tb) (sent l at (aborted_at tb (get_or cs i d).key (list_of (get_or cs i d).writes))) (at + length (list_of (get_or cs i d).writes)) (i + 1)
  in_named e w r =
      let c = get_or cs i d in
      let is = list_of c.writes in
      let x = aborted_at tb₀ c.key is in
      let b = length-aborted tb₀ c.key is in
      let y = aborted_at_lem tb tb₀ c.key is in
      let k = a.count in
      let ro = in_room e r in
      let p = named-replies tb₀ m cs i d h e in
      let q = ap length p ∙ length-append x (rest_in tb₀ m (suc i) cs) in
      let f : at * 6 + length x * 6 ≤ length l = omega arith in
      record {
        within = omega arith;
        count = rw (add-one i) (omega arith);
        tall = length-idled is tb (writable_at cs i d w h).1 a.tall;
        long = rw y (length-sent l at x f ∙ a.long);
        cleared = rw (add-one i) (sym (idled-append is (rest_of tb₀ m (suc i) cs) tb) ∙ (rw (named_writes tb₀ m cs i d h e) at a.cleared));
        replied = rw (y, add-one i, ← b) (sent-append l at x (rest_in tb₀ m (suc i) cs) f ∙ (rw p at a.replied));
      }

  pub in_passed : odd (m / 2 ^ i) ≡ false → AbortingIn m n cs tb₀ l₀ tb l at (i + 1)
  in_passed e =
      let p = passed-replies tb₀ m cs i d h e in
      record {
        within = omega arith;
        count = rw (add-one i, ← p) a.count;
        tall = a.tall;
        long = a.long;
        cleared = rw (add-one i, ← (passed_writes tb₀ m cs i d h e)) a.cleared;
        replied = rw (add-one i, ← p) a.replied;
      }

pub in_end : {m n : ℕ} {cs : List Channel} {tb₀ l₀ tb l : List ℕ} {at i : ℕ} → AbortingIn m n cs tb₀ l₀ tb l at i → length cs ≤ i
    → (at ≡ n + length (aborted_in m (held_in tb₀ cs))) × (l ≡ sent l₀ n (aborted_in m (held_in tb₀ cs))) × (tb ≡ idled (writes_in m (held_in tb₀ cs)) tb₀)
unfolding aborted_in writes_in idled
in_end {m} {cs = cs} {i = i} a h =
    let e : drop i cs ≡ [] = drop_of_length-le cs h in
    let one : m / 2 ^ 0 ≡ m = div-one m in
    (omega (arith, rw (e, one) at a.count), rw (e, splice_none, one) at a.replied, rw (e, one) at a.cleared)

pub in_fits : (tb₀ : List ℕ) (m n : ℕ) (cs : List Channel) (k : ℕ) → n * 6 + length (aborted_in m (held_in tb₀ cs)) * 6 ≤ k → n * 6 + length (rest_in tb₀ m 0 cs) * 6 ≤ k
in_fits tb₀ m n cs k h = rw (div-one m) h
