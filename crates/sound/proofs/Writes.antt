-- Why the test of the writes is right: each entry is that of a sound write, and since no id stands twice only the first of a queue is
-- in front, so only it remembers anything. Assumes nothing.
use Prim.Native.Nat.{ℕ, zero, suc}
use mathlib.Core.Path.{◌≡◌, refl, ap, subst, sym, ◌∙◌}
use mathlib.Core.Bool.{Bool, true, false, not, ◌&&◌, ◌||◌}
use mathlib.Core.List.{List, [], ◌∷◌, map}
use native.Mathlib.Omega.{arith}
use lib.Dec.{T, T_not, not_T, eqb, leb, eqb→eq, eqb_refl}
use lib.ListN.{length, take, get_or, length-map}
use Rattle.memory.specs.Splice.{block}
use Rattle.queue.specs.Queue.{list_of}
use Rattle.board.specs.channel.declared.Channel.{Channel}
use Rattle.board.specs.channel.Channel.{channel_in}
use Rattle.table_rest.specs.table.Entry.{write_entry}
use Rattle.std.specs.Prelude.{if◌then◌else◌}
use Rattle.machine_laws.specs.machine.Lists.{any, all, among, distinct}
use Rattle.machine_laws.specs.machine.State.{Write}
use Rattle.machine_laws.specs.machine.Sound.{sound_write, forgets, sound_writes, sound_channel}
use Rattle.machine_laws.proofs.machine.Tests.{test_true, test_false, and_left, and_right, and_both, nor_left, nor_right, eqb_flip}
use Rattle.board.specs.store.Store.{write_item, write_in}
use Rattle.table_rest.specs.shapes.Shapes.{blank}
use Rattle.table_rest.specs.entries.Entries.{same, write_test}
use Rattle.table_rest.proofs.entries.Cases.{same_eq, same_refl}
use Rattle.table_rest.specs.placing.Placing.{write_of}
use Rattle.sound.proofs.Entries.{Stored}

-- ---- one channel: its numbers stand in the table

pub write_ids : (tb is : List ℕ) → map (λ (w : Write). w.id) (map (write_in tb) is) ≡ is
write_ids tb [] = refl
write_ids tb (i ∷ is) = ap (λ (l : List ℕ). i ∷ l) (write_ids tb is)

none_sound : (f : ℕ → Write) (is : List ℕ) → T (eqb (length (map f is)) 0) → T (sound_writes (map f is))
unfolding sound_writes
none_sound f [] t = tt
none_sound f (i ∷ is) t = absurd (let e = eqb→eq (suc (length (map f is))) 0 t in omega arith)

module _ (f : ℕ → Write) (c : Channel) where
  writes : List Write
  writes = map f (list_of c.writes)

  counted : length writes ≡ length (list_of c.writes)
  unfolding writes
  counted = length-map (list_of c.writes) f

  pub channel-sound : T (blank c) → T (sound_writes (map f (list_of c.writes))) → T (sound_channel (channel_in f c))
  unfolding blank sound_channel
  channel-sound t u = rw (length-map (list_of c.writes) f) (go (eqb c.key 0) t)
    where
      a : Bool
      a = eqb c.prec 128 && not c.locked && not c.stopped && eqb (length (list_of c.writes)) 0

      b : Bool
      b = leb c.key 65535 && leb c.prec 255

      go : (x : Bool) → T (if x then a else b) → T (if x then a else b && sound_writes (map f (list_of c.writes)))
      go true v = v
      go false v = and_both b (sound_writes (map f (list_of c.writes))) v u

  pub sound-channel : T (sound_channel (channel_in f c)) → T (blank c) × T (sound_writes (map f (list_of c.writes)))
  unfolding blank sound_channel
  sound-channel t = go (eqb c.key 0) (rw (length-map (list_of c.writes) f) at t)
    where
      d : Bool
      d = eqb c.prec 128 && not c.locked && not c.stopped

      e : Bool
      e = eqb (length (list_of c.writes)) 0

      b : Bool
      b = leb c.key 65535 && leb c.prec 255

      go : (x : Bool) → T (if x then d && e else b && sound_writes (map f (list_of c.writes)))
          → T (if x then d && e else b) × T (sound_writes (map f (list_of c.writes)))
      go true v = (v, none_sound f (list_of c.writes) (rw (length-map (list_of c.writes) f) (and_right d e v)))
      go false v = (and_left b (sound_writes (map f (list_of c.writes))) v, and_right b (sound_writes (map f (list_of c.writes))) v)

-- ---- the writes of a queue

-- what stands first in a queue is first in its list
first_is : (n : ℕ) (ids is : List ℕ) (i : ℕ) → take n ids ≡ i ∷ is → get_or ids 0 0 ≡ i
first_is zero ids is i e = absurd (let z : ◌≡◌ {A = ℕ} 0 (suc (length is)) = ap length e in omega arith)
first_is (suc n) [] is i e = absurd (let z : ◌≡◌ {A = ℕ} 0 (suc (length is)) = ap length e in omega arith)
first_is (suc n) (x ∷ ids) is i e = ap (λ (l : List ℕ). get_or l 0 0) e

module _ (tb : List ℕ) (k : ℕ) where
  -- a write behind the front
  abbrev behind : ℕ → Bool
  behind i = write_test k false tb i

  record Good (front : Bool) (i : ℕ) : Type 0 where
    sane : T (sound_write (write_in tb i))
    alone : T (front || forgets (write_in tb i))
    entry : block 23 tb i ≡ write_entry k (write_in tb i)

  tested : (front : Bool) (i : ℕ) → T (write_test k front tb i) → Good front i
  unfolding write_test
  tested front i t =
      let a = sound_write (write_in tb i) in
      let b = front || forgets (write_in tb i) in
      let d = same (block 23 tb i) (write_entry k (write_in tb i)) in
      let u = and_left (a && b) d t in
      record { sane = and_left a b u; alone = and_right a b u; entry = same_eq _ _ (test_true d (and_right (a && b) d t)) }

  test_of : (front : Bool) (i : ℕ) → Good front i → T (write_test k front tb i)
  unfolding write_test
  test_of front i g =
      let a = sound_write (write_in tb i) in
      let b = front || forgets (write_in tb i) in
      let d = same (block 23 tb i) (write_entry k (write_in tb i)) in
      and_both (a && b) d (and_both a b g.sane g.alone) (subst (λ (x : Bool). T x) (sym (ap (λ (x : List ℕ). same x (write_entry k (write_in tb i))) g.entry ∙ same_refl (write_entry k (write_in tb i)))) tt)

  -- an id that is not the first is behind the front
  module _ (lead : ℕ) where
    rest_in_lem : (is : List ℕ) → T (not (among lead is)) → T (all (λ i. write_test k (eqb i lead) tb i) is)
        → T (all (λ v. sound_write v && forgets v) (map (write_in tb) is)) × Stored tb (map (write_item k) (map (write_in tb) is))
    unfolding all among any
    rest_in_lem [] n t = (tt, tt)
    rest_in_lem (i ∷ is) n t =
        let e : eqb i lead ≡ false = test_false (eqb i lead) (not_T (eqb i lead) (λ u. T_not (eqb lead i) (nor_left (eqb lead i) (among lead is) n) (eqb_flip i lead u))) in
        let a = write_test k (eqb i lead) tb i in
        let r = all (λ i. write_test k (eqb i lead) tb i) is in
        let g = tested false i (subst (λ (x : Bool). T (write_test k x tb i)) e (and_left a r t)) in
        let s = rest_in_lem is (nor_right (eqb lead i) (among lead is) n) (and_right a r t) in
        let v = sound_write (write_in tb i) && forgets (write_in tb i) in
        let w = all (λ v. sound_write v && forgets v) (map (write_in tb) is) in
        (and_both v w (and_both (sound_write (write_in tb i)) (forgets (write_in tb i)) g.sane g.alone) s.0, (g.entry, s.1))

    rest_of : (is : List ℕ) → T (not (among lead is)) → T (all (λ v. sound_write v && forgets v) (map (write_in tb) is))
        → Stored tb (map (write_item k) (map (write_in tb) is)) → T (all (λ i. write_test k (eqb i lead) tb i) is)
    unfolding all among any
    rest_of [] n t s = tt
    rest_of (i ∷ is) n t s =
        let e : eqb i lead ≡ false = test_false (eqb i lead) (not_T (eqb i lead) (λ u. T_not (eqb lead i) (nor_left (eqb lead i) (among lead is) n) (eqb_flip i lead u))) in
        let a = write_test k (eqb i lead) tb i in
        let r = all (λ i. write_test k (eqb i lead) tb i) is in
        let p = sound_write (write_in tb i) in
        let q = forgets (write_in tb i) in
        let w = all (λ v. sound_write v && forgets v) (map (write_in tb) is) in
        let v = and_left (p && q) w t in
        and_both a r
        (subst (λ (x : Bool). T (write_test k x tb i)) (sym e) (test_of false i (record { sane = and_left p q v; alone = and_right p q v; entry = s.0 })))
        (rest_of is (nor_right (eqb lead i) (among lead is) n) (and_right (p && q) w t) s.1)

  queue_in_lem : (lead : ℕ) (is : List ℕ) → ((i : ℕ) (js : List ℕ) → is ≡ i ∷ js → lead ≡ i) → T (distinct is)
      → T (all (λ i. write_test k (eqb i lead) tb i) is) → T (sound_writes (map (write_in tb) is)) × Stored tb (map (write_item k) (map (write_in tb) is))
  unfolding sound_writes all distinct
  queue_in_lem lead [] h d t = (tt, tt)
  queue_in_lem lead (i ∷ is) h d t =
      let e = h i is refl in
      let n : T (not (among lead is)) = rw e (and_left (not (among i is)) (distinct is) d) in
      let a = write_test k (eqb i lead) tb i in
      let r = all (λ i. write_test k (eqb i lead) tb i) is in
      let g = tested (eqb i lead) i (and_left a r t) in
      let s = rest_in_lem lead is n (and_right a r t) in
      (and_both (sound_write (write_in tb i)) (all (λ v. sound_write v && forgets v) (map (write_in tb) is)) g.sane s.0, (g.entry, s.1))

  queue_of_lem : (lead : ℕ) (is : List ℕ) → ((i : ℕ) (js : List ℕ) → is ≡ i ∷ js → lead ≡ i) → T (distinct is)
      → T (sound_writes (map (write_in tb) is)) → Stored tb (map (write_item k) (map (write_in tb) is)) → T (all (λ i. write_test k (eqb i lead) tb i) is)
  unfolding sound_writes all distinct
  queue_of_lem lead [] h d t s = tt
  queue_of_lem lead (i ∷ is) h d t s =
      let e = h i is refl in
      let n : T (not (among lead is)) = rw e (and_left (not (among i is)) (distinct is) d) in
      let a = write_test k (eqb i lead) tb i in
      let r = all (λ i. write_test k (eqb i lead) tb i) is in
      let p = sound_write (write_in tb i) in
      let w = all (λ v. sound_write v && forgets v) (map (write_in tb) is) in
      let f : eqb i lead ≡ true = test_true (eqb i lead) (rw e (eqb_refl i)) in
      and_both a r
      (subst (λ (x : Bool). T (write_test k x tb i)) (sym f) (test_of true i (record { sane = and_left p w t; alone = tt; entry = s.0 })))
      (rest_of lead is n (and_right p w t) s.1)

module _ (tb : List ℕ) (c : Channel) (d : T (distinct (list_of c.writes))) where
  lead_is : (i : ℕ) (js : List ℕ) → list_of c.writes ≡ i ∷ js → get_or c.writes.ids 0 0 ≡ i
  lead_is i js e = first_is c.writes.n c.writes.ids js i e

  pub writes_in_lem : T (all (write_of c tb) (list_of c.writes))
      → T (sound_writes (map (write_in tb) (list_of c.writes))) × Stored tb (map (write_item c.key) (map (write_in tb) (list_of c.writes)))
  writes_in_lem t = queue_in_lem tb c.key (get_or c.writes.ids 0 0) (list_of c.writes) lead_is d t

  pub writes_of_lem : T (sound_writes (map (write_in tb) (list_of c.writes))) → Stored tb (map (write_item c.key) (map (write_in tb) (list_of c.writes)))
      → T (all (write_of c tb) (list_of c.writes))
  writes_of_lem t s = queue_of_lem tb c.key (get_or c.writes.ids 0 0) (list_of c.writes) lead_is d t s
