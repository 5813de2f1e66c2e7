-- Numbers that agree with a fresh state, corrected to another, are the count over that one; free channels behind a board count nothing.
-- Assumes nothing.
use Prim.Native.Nat.{ℕ, zero, suc, ◌-◌, ◌+◌, ◌≤◌, ◌<◌}
use mathlib.Core.Path.{◌≡◌, refl, ap, ap₂, sym, subst, ◌∙◌}
use mathlib.Core.List.{List, [], ◌∷◌, ◌++◌, map}
use native.Mathlib.Omega.{arith}
use lib.Dec.{T}
use lib.ListN.{length, take, drop, get_or, replicate, length-map, length-take}
use Rattle.table.specs.memory.Splice.{splice, block}
use Rattle.table.proofs.memory.Splice.{splice_all}
use Rattle.widening.specs.machine.State.{State, frees, fresh_on}
use Rattle.widening.specs.machine.Machine.{machine}
use Rattle.widening.specs.machine.Lists.{keep}
use Rattle.widening.specs.machine.InBytes.{two_bytes}
use Rattle.display.specs.machine_laws.Sound.{Parts}
use Rattle.display.proofs.machine_laws.Sound.{parts}
use Rattle.widening.specs.Widening.{widen}
use Rattle.display.specs.Display.{NUMBERS, number, numbers_from, numbers, corrected}
use Rattle.display.proofs.Numbers.{number_most, corrected_agrees, fresh-numbers}
use Rattle.display.proofs.Wide.{number-wide}
use Rattle.correcting.specs.lanes.Lanes.{word_of, weights}
use Rattle.correcting.proofs.lanes.Laws.{weights_most}
use Rattle.correcting.specs.channel_numbers.ChannelNumbers.{count_at, moved, Moves}
use Rattle.correcting.proofs.channel_numbers.Laws.{moves_held, moved-corrected}
use Rattle.table.specs.Entry.{list_in}
use Rattle.queue.specs.Queue.{list_of}
use Rattle.board.specs.store.declared.State.{State as Struct}
use Rattle.board.specs.store.Store.{struct_of, entries, items, write_items, table_of, state_in as wide_in, Held as WideHeld, lookup, request_in}
use Rattle.board.proofs.store.Store.{held_of as wide_held, state_in_of as wide_in_of, held_parts as wide_parts, waiting-count}
use Rattle.board.specs.declared.Board.{Board}
use Rattle.board.specs.Board.{state_in, Held}
use Rattle.board.proofs.Laws.{held_wide, fresh-sane}
use Rattle.recounting.specs.Recounting.{counted}

fresh_parts : Parts (fresh_on 8)
fresh_parts = parts (fresh_on 8) (fresh-sane 8 tt)

fresh-table : table_of (fresh_on 8) ≡ replicate 1472 0
unfolding machine table_of items write_items entries lookup frees
fresh-table = refl

pub fresh_held : WideHeld (struct_of (fresh_on 8)) (replicate 1472 0)
unfolding frees
fresh_held = subst (λ t. WideHeld (struct_of (fresh_on 8)) t) fresh-table (wide_held (fresh_on 8) fresh_parts refl)

pub fresh_in : wide_in (struct_of (fresh_on 8)) (replicate 1472 0) ≡ fresh_on 8
fresh_in = subst (λ t. wide_in (struct_of (fresh_on 8)) t ≡ fresh_on 8) fresh-table (wide_in_of (fresh_on 8) fresh_parts)

numbers-wide : (k n j : ℕ) (s : State) → numbers_from n j (widen k s) ≡ numbers_from n j s
unfolding numbers_from
numbers-wide k zero j s = refl
numbers-wide k (suc n) j s = ap₂ (λ (x : ℕ) (xs : List ℕ). x ∷ xs) (number-wide k j s) (numbers-wide k n (suc j) s)

-- nobody waits in a fresh state: all who wait have joined
all_joined : {st : Struct} {tb : List ℕ} {j : ℕ} → WideHeld st tb → j ≡ weights (wide_in st tb).waiting
    → Moves (wide_in (struct_of (fresh_on 8)) (replicate 1472 0)) (wide_in st tb) (count_at (map (λ c. c.writes.n) st.channels) j) (count_at (map (λ c. c.writes.n) (struct_of (fresh_on 8)).channels) 0)
unfolding weights keep
all_joined {st} {tb} {j} h e =
    moves_held fresh_held h
    record {
      js = (wide_in st tb).waiting;
      few = omega (arith, length-map (list_of st.waiting) (request_in tb), (waiting-count h).0, (waiting-count h).1);
      joins = e;
      less = λ c. omega arith;
      balance = omega (arith, e);
    }

module _ {b : Board} {tb : List ℕ} (h : Held b tb) where
  corrected-counted : corrected (wide_in (struct_of (fresh_on 8)) (replicate 1472 0)) (wide_in b.state tb) 0 (replicate 16 0) ≡ numbers (state_in b tb)
  corrected-counted =
      let k = 8 - length (state_in b tb).channels in
      let w = held_wide h in
      let few : (j : ℕ) → number j (wide_in b.state tb) < 256 = λ j. let m = number_most j (wide_in b.state tb) (wide_parts w.0) in omega arith in
      let a = corrected_agrees (fresh_on 8) (wide_in b.state tb) few 16 0 in
      let n : numbers_from 16 0 (wide_in b.state tb) ≡ numbers (state_in b tb) = ap (numbers_from 16 0) w.1 ∙ numbers-wide k 16 0 (state_in b tb) in
      ap₂ (λ x y. corrected x (wide_in b.state tb) 0 y) fresh_in (sym (fresh-numbers 8)) ∙ (a ∙ n)

  pub recounted : (z : List ℕ) → length z ≡ 18 → {st : Struct} → st ≡ struct_of (fresh_on 8) → {j : ℕ} → j ≡ weights (wide_in b.state tb).waiting
      → moved (count_at (map (λ c. c.writes.n) b.state.channels) j) (count_at (map (λ c. c.writes.n) st.channels) 0) 0 (take 16 (splice z 0 (replicate 18 0))) ++ two_bytes 0
      ≡ counted (state_in b tb)
  recounted z l {st} q {j} e =
      let m = all_joined (held_wide h).0 e in
      let f : take 16 (splice z 0 (replicate 18 0)) ≡ replicate 16 0 = ap (take 16) (splice_all z (replicate 18 0) (sym l)) in
      ap (λ x. x ++ two_bytes 0)
      (ap₂ (λ (x : Struct) (y : List ℕ). moved (count_at (map (λ c. c.writes.n) b.state.channels) j) (count_at (map (λ c. c.writes.n) x.channels) 0) 0 y) q f
      ∙ (moved-corrected m 0 (replicate 16 0) (omega arith) ∙ corrected-counted))

-- ---- the words added up

pub words_more : (tb ids : List ℕ) (i : ℕ) → i < length ids
    → weights (map (request_in tb) (take (i + 1) ids)) ≡ weights (map (request_in tb) (take i ids)) + word_of (list_in (block 23 tb (get_or ids i 0)))
unfolding weights
words_more tb [] i h = absurd (omega arith)
words_more tb (x ∷ xs) zero h = omega arith
words_more tb (x ∷ xs) (suc i) h = let e : suc i + 1 ≡ suc (i + 1) = omega arith in rw e (omega (arith, words_more tb xs i (omega arith)))

pub words_fit : (tb ids : List ℕ) (i : ℕ) → i ≤ 64 → weights (map (request_in tb) (take i ids)) ≤ 4629771061636907072
words_fit tb ids i h = omega (arith, weights_most (map (request_in tb) (take i ids)), length-map (take i ids) (request_in tb), length-take i ids)
