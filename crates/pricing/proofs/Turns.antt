-- Turns of the loop over the channels that a map names: after i turns, what is left gives the whole. And costs by the mask of the
-- allocated channels. Assumes nothing.
use Prim.Native.Nat.{ℕ, ◌+◌, ◌*◌, ◌/◌, ◌^◌, ◌≤◌, ◌<◌, max}
use mathlib.Core.Path.{◌≡◌, refl}
use mathlib.Core.Bool.{true, false}
use mathlib.Core.List.{List, [], ◌∷◌, map}
use native.Mathlib.Nat.{div-one}
use native.Mathlib.Numerals.{add-one}
use native.Mathlib.Omega.{arith}
use lib.Bits.{bit_and}
use lib.ListN.{length, drop, get_or, drop_of_length-le}
use lib.Seq.{drop-cons}
use Rattle.machine.specs.State.{Channel as ChannelM, is_free}
use Rattle.machine.specs.Maps.{odd, half}
use Rattle.machine.specs.Choosing.{highest, stolen}
use Rattle.channel.proofs.Turns.{half_pow}
use Rattle.standing.specs.declared.Standing.{Standing}
use Rattle.standing.specs.Standing.{failing, Stood}
use Rattle.standing.proofs.Masks.{failing-odd, failing-half}
use Rattle.pricing.specs.Pricing.{highest_of, count_of, price, Priced}

-- ---- costs, by the mask of the allocated channels

pub highest-mask : (m : ℕ) (cs : List ChannelM) → highest_of (bit_and m (failing is_free cs)) (map (λ c. c.prec) cs) ≡ highest m cs
unfolding highest_of highest
highest-mask m [] = refl
highest-mask m (c ∷ cs) = rw (failing-odd is_free c cs m, failing-half is_free c cs m, highest-mask (half m) cs)

pub count-mask : (m : ℕ) (cs : List ChannelM) → count_of (bit_and m (failing is_free cs)) (map (λ c. c.prec) cs) ≡ stolen m cs
unfolding count_of stolen
count-mask m [] = refl
count-mask m (c ∷ cs) = rw (failing-odd is_free c cs m, failing-half is_free c cs m, count-mask (half m) cs)

-- ---- the highest precedence so far, and how many are stolen

pub record Summed (m : ℕ) (ps : List ℕ) (top many i : ℕ) : Type 0 where
  pub same : max top (highest_of (m / 2 ^ i) (drop i ps)) ≡ highest_of m ps
  pub sums : many + count_of (m / 2 ^ i) (drop i ps) ≡ count_of m ps
  pub few : many ≤ i
  pub within : i ≤ 8
  pub eight : length ps ≡ 8

pub summed_start : (m : ℕ) (ps : List ℕ) → length ps ≡ 8 → Summed m ps 0 0 0
summed_start m ps h =
    record { same = rw div-one (omega arith); sums = rw div-one (omega arith); few = omega arith; within = omega arith; eight = h }

module _ {m : ℕ} {ps : List ℕ} {top many i : ℕ} (t : Summed m ps top many i) where
  module _ (l : i < 8) where
    h : i < length ps
    h = omega (arith, t.eight)

    pub summed_more : odd (m / 2 ^ i) ≡ true → Summed m ps (max top (get_or ps i 0)) (many + 1) (i + 1)
    unfolding highest_of count_of
    summed_more e =
        record {
          same = rw (add-one i) (let s = rw (drop-cons ps i 0 h, e, half_pow) at t.same in omega arith);
          sums = rw (add-one i) (let s = rw (drop-cons ps i 0 h, e, half_pow) at t.sums in omega arith);
          few = omega (arith, t.few);
          within = omega arith;
          eight = t.eight;
        }

    pub summed_skip : odd (m / 2 ^ i) ≡ false → Summed m ps top many (i + 1)
    unfolding highest_of count_of
    summed_skip e =
        record {
          same = rw (add-one i) (rw (drop-cons ps i 0 h, e, half_pow) at t.same);
          sums = rw (add-one i) (rw (drop-cons ps i 0 h, e, half_pow) at t.sums);
          few = omega (arith, t.few);
          within = omega arith;
          eight = t.eight;
        }

  module _ (l : 8 ≤ i) where
    end : length ps ≤ i
    end = omega (arith, t.eight)

    pub summed_top : top ≡ highest_of m ps
    unfolding highest_of
    summed_top = omega (arith, rw (drop_of_length-le ps end) at t.same)

    pub summed_many : many ≡ count_of m ps
    unfolding count_of
    summed_many = omega (arith, rw (drop_of_length-le ps end) at t.sums)

-- the price, by the mask of the allocated channels
pub priced_by : (m : ℕ) (s : Standing) (cs : List ChannelM) → Stood cs s → {r : ℕ} → count_of (bit_and m s.busy) s.precs < 256
    → r ≡ highest_of (bit_and m s.busy) s.precs * 256 + count_of (bit_and m s.busy) s.precs → Priced m cs r
unfolding price
priced_by m s cs q h e =
    let a = rw (q.busy, q.precs, highest-mask m cs, count-mask m cs) at e in
    let b = rw (q.busy, q.precs, count-mask m cs) at h in
    record { is = a; few = b }
