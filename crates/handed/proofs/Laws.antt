-- The arms of `op_of` are the tests of the log, and eight stores make an answer. Assumes nothing.
use Prim.Native.Nat.{ℕ, ◌/◌, ◌%◌, ◌<◌}
use mathlib.Core.Path.{◌≡◌}
use mathlib.Core.List.{List, [], ◌∷◌}
use native.Mathlib.Omega.{arith}
use lib.ListN.{get_or}
use borrow.Author.Tests.{eq-eqb, ne_eqb}
use Rattle.answers.specs.machine.Log.{op_of}
use Rattle.answers.specs.machine.InBytes.{mark_of}
use Rattle.answers.specs.declared.Answer.{Answer}
use Rattle.refusals.specs.declared.Op.TheVariants.{Open, Close, Abort, CycleEnded, GaveUp, Command}
use Rattle.refusals.specs.Refusals.{op_for}
use Rattle.handed.specs.Handed.{answer_bytes}

-- ---- the operation

module _ (b : ℕ) where
  pub op_open : b ≡ 0xF0 → Open ≡ op_for (op_of b)
  unfolding op_of
  op_open h = rw (eq-eqb b 0xF0 h)

  pub op_close : b ≡ 0xF1 → Close ≡ op_for (op_of b)
  unfolding op_of
  op_close h = rw (ne_eqb b 0xF0 (λ z. omega arith), eq-eqb b 0xF1 h)

  pub op_abort : b ≡ 0xF2 → Abort ≡ op_for (op_of b)
  unfolding op_of
  op_abort h = rw (ne_eqb b 0xF0 (λ z. omega arith), ne_eqb b 0xF1 (λ z. omega arith), eq-eqb b 0xF2 h)

  pub op_cycle : b ≡ 0xF3 → CycleEnded ≡ op_for (op_of b)
  unfolding op_of
  op_cycle h = rw (ne_eqb b 0xF0 (λ z. omega arith), ne_eqb b 0xF1 (λ z. omega arith), ne_eqb b 0xF2 (λ z. omega arith), eq-eqb b 0xF3 h)

  pub op_up : b ≡ 0xF4 → GaveUp ≡ op_for (op_of b)
  unfolding op_of
  op_up h =
      rw (ne_eqb b 0xF0 (λ z. omega arith), ne_eqb b 0xF1 (λ z. omega arith), ne_eqb b 0xF2 (λ z. omega arith), ne_eqb b 0xF3 (λ z. omega arith), eq-eqb b 0xF4 h)

  pub op-command : (b ≡ 0xF0 → ⊥) → (b ≡ 0xF1 → ⊥) → (b ≡ 0xF2 → ⊥) → (b ≡ 0xF3 → ⊥) → (b ≡ 0xF4 → ⊥) → Command ≡ op_for (op_of b)
  unfolding op_of
  op-command n₀ n₁ n₂ n₃ n₄ = rw (ne_eqb b 0xF0 n₀, ne_eqb b 0xF1 n₁, ne_eqb b 0xF2 n₂, ne_eqb b 0xF3 n₃, ne_eqb b 0xF4 n₄)

-- ---- the answer

pub answer-told : (a : Answer) (p q : ℕ) {m : ℕ} {k : List ℕ} → m ≡ mark_of a.outstanding → a.key < 65536
    → k ≡ (a.key / 256) % 256 ∷ (a.key % 256) ∷ []
    → m ∷ a.error ∷ a.map ∷ get_or k 0 0 ∷ get_or k 1 0 ∷ a.extra ∷ p ∷ q ∷ [] ≡ answer_bytes a p q
unfolding answer_bytes
answer-told a p q e h f =
    let d : (a.key / 256) % 256 ≡ a.key / 256 = omega arith in
    rw (e, f, d)
