-- Why the test of a write's entry is right: the bytes that it compares with are those of the write that can be read, and its numbers
-- pass exactly where that write is sound. Assumes nothing.
use Prim.Native.Nat.{ℕ, ◌+◌, ◌*◌, ◌/◌, ◌%◌, ◌≤◌, ◌<◌}
use mathlib.Core.Path.{◌≡◌, refl, ap, subst, sym, ◌∙◌}
use mathlib.Core.Bool.{Bool, true, false, not, ◌&&◌, ◌||◌}
use mathlib.Core.List.{List, [], ◌∷◌, ◌++◌, append-nil}
use native.Mathlib.Omega.{arith}
use native.Mathlib.Nat.{zero-add}
use borrow.Author.Tests.{not-true, not-false}
use lib.Dec.{T, T_not}
use lib.ListN.{length, get_or, take, drop, replicate, length-take, length-drop, drop_of_length-le}
use lib.Seq.{get_or-take, get_or-drop}
use Rattle.memory.specs.Splice.{splice, block}
use Rattle.memory.proofs.Splice.{block_byte}
use Rattle.numbers.specs.table.Entry.{padded, number_bytes, write_entry, list_in, numbers_in}
use Rattle.store.specs.machine.Sound.{sound_write, forgets}
use Rattle.store.proofs.machine.Tests.{by_test, test_true, test_false, and_left, and_right}
use Rattle.numbers.specs.Numbers.{sound_numbers, Bytes}
use Rattle.numbers.proofs.Laws.{numbers-told}
use Rattle.store.specs.Store.{write_in}
use Rattle.store.proofs.Store.{write_list}
use Rattle.entries.specs.Entries.{same, write_test}
use Rattle.entries.proofs.Cases.{length-entry, and_off, same_eq, same_refl, differs, filled}

-- twelve bytes copied over twelve
pub copied : (ms : List ℕ) → length ms ≡ 12 → splice (replicate 12 0) 0 ms ≡ ms
unfolding splice
copied ms h =
    let n : length {A = ℕ} (replicate 12 0) ≤ 0 + length ms = omega arith in
    let e : ◌≡◌ {A = List ℕ} (drop (0 + length ms) (replicate 12 0)) [] = drop_of_length-le (replicate 12 0) n in
    rw (e, append-nil) refl

module _ (key : ℕ) (front : Bool) (tb : List ℕ) (i : ℕ) (h : i < 64) (l : length tb ≡ 1472) where
  abbrev entry : List ℕ
  entry = block 23 tb i

  abbrev wanted : List ℕ
  wanted = write_entry key (write_in tb i)

  none_such : (entry ≡ wanted → ⊥) → false ≡ write_test key front tb i
  unfolding write_test
  none_such d = rw (differs entry wanted d) (sym (and_off (sound_write (write_in tb i) && (front || forgets (write_in tb i)))))

  pub other_command_lem : (get_or tb (i * 23) 0 ≡ 3 → ⊥) → false ≡ write_test key front tb i
  unfolding write_entry
  other_command_lem n =
      none_such
      (λ e. n (let z : i * 23 + 0 ≡ i * 23 = omega arith in
      sym (ap (λ (x : ℕ). get_or tb x 0) z) ∙ (sym (block_byte 23 tb i 0 (omega arith)) ∙ ap (λ (x : List ℕ). get_or x 0 0) e)))

  pub other_count : (get_or entry 6 0 ≡ 12 → ⊥) → false ≡ write_test key front tb i
  unfolding write_entry
  other_count n = none_such (λ e. n (ap (λ (x : List ℕ). get_or x 6 0) e))

  module _ (n : get_or entry 6 0 ≡ 12) where
    pub list-long : length (list_in entry) ≡ 12
    list-long = let e = length-entry tb i h l in simp (length-take, length-drop) (omega arith)

    pub other_numbers : sound_numbers front (list_in entry) ≡ false → false ≡ write_test key front tb i
    unfolding write_test
    other_numbers f =
        let a = sound_write (write_in tb i) in
        let b = front || forgets (write_in tb i) in
        let d = same entry wanted in
        by_test ((a && b) && d)
        (λ t.
        let s : list_in entry ≡ number_bytes (write_in tb i) = ap list_in (same_eq entry wanted (test_true d (and_right (a && b) d t))) ∙ write_list key (write_in tb i) in
        let u = and_left (a && b) d t in
        let v = (numbers-told i front (list_in entry) list-long).1 s (and_left a b u) (and_right a b u) in
        absurd (subst (λ (x : Bool). T x) f v))
        (λ t. sym (test_false ((a && b) && d) t))

    module _ (fits : (j : ℕ) → get_or tb j 0 < 256) where
      byte_small : (k : ℕ) → k < 12 → get_or (list_in entry) k 0 < 256
      byte_small k s =
          let e : get_or (list_in entry) k 0 ≡ get_or tb (i * 23 + (7 + k)) 0 =
          get_or-take (get_or entry 6 0) (drop 7 entry) k 0 (omega arith) ∙ (get_or-drop 7 entry k 0 ∙ block_byte 23 tb i (7 + k) (omega arith)) in
          rw e (fits (i * 23 + (7 + k)))

      small : Bytes (list_in entry)
      small =
          record {
            first = byte_small 0 (omega arith);
            second = byte_small 1 (omega arith);
            fourth = byte_small 3 (omega arith);
            fifth = byte_small 4 (omega arith);
            tenth = byte_small 9 (omega arith);
            eleventh = byte_small 10 (omega arith);
          }

      pub told : sound_numbers front (list_in entry) ≡ true → {want : List ℕ} {r : Bool}
          → want ≡ splice (3 ∷ (key / 256) ∷ (key % 256) ∷ 0 ∷ 0 ∷ 0 ∷ 12 ∷ replicate 16 0) 7 (list_in entry) → r ≡ same entry want
          → r ≡ write_test key front tb i
      unfolding write_test write_entry
      told f {want} {r} q e =
          let s = (numbers-told i front (list_in entry) list-long).0 small (subst (λ (x : Bool). T x) (sym f) tt) in
          let hs : List ℕ = 3 ∷ (key / 256) ∷ (key % 256) ∷ 0 ∷ 0 ∷ 0 ∷ 12 ∷ [] in
          let g : want ≡ hs ++ padded (list_in entry) = q ∙ filled hs (list_in entry) refl (let z = list-long in omega arith) in
          let k : want ≡ wanted = g ∙ ap (λ (x : List ℕ). hs ++ padded x) s.0 in
          e ∙ rw (k, test_true (sound_write (write_in tb i)) s.1, test_true (front || forgets (write_in tb i)) s.2) refl
