-- One entry retuned, and the turns of the loop over the channels: what is left to do gives the whole. Assumes nothing.
use Prim.Native.Nat.{ℕ, suc, ◌+◌, ◌*◌, ◌/◌, ◌^◌, ◌≤◌, ◌<◌}
use mathlib.Core.Path.{◌≡◌, refl, ap, ap₂, sym, ◌∙◌}
use mathlib.Core.Bool.{Bool, true, false}
use mathlib.Core.List.{List, [], ◌∷◌, ◌++◌, append-nil}
use native.Mathlib.Omega.{arith}
use native.Mathlib.Numerals.{add-one}
use native.Mathlib.Nat.{div-one}
use lib.Dec.{T_not, eqb, eqb→eq, eqb_refl}
use lib.ListN.{length, drop, get_or, replicate, length-append, length-take, length-drop, length-replicate, length-set, drop_of_length-le}
use lib.Seq.{drop-cons}
use Rattle.memory.specs.Splice.{splice, block}
use Rattle.memory.proofs.Splice.{length-splice, block_same, block_other}
use Rattle.std.specs.Prelude.{if◌then◌else◌}
use Rattle.answers.specs.machine.Maps.{odd, half}
use Rattle.answers.proofs.machine.Tests.{by_test}
use Rattle.channel.specs.declared.Channel.{Channel}
use Rattle.channel.proofs.Turns.{half_pow}
use Rattle.numbers.specs.table.Entry.{head_bytes, padded, key_in, list_in}
use Rattle.retuning.specs.declared.Tune.{Tune}
use Rattle.retuning.specs.declared.Tune.TheVariants.{Set, Later, Finish, Next}
use Rattle.retuning.proofs.cycles.Laws.{next_long}
use Rattle.retuning.specs.Retuning.{retuned_of}
use Rattle.tuning.specs.Tuning.{tuned_entry, tuned_at, front_of, tune_each, Tunable}

-- ---- one entry

length-block : (tb : List ℕ) (i : ℕ) → i < 64 → length tb ≡ 1472 → length (block 23 tb i) ≡ 23
unfolding block
length-block tb i h t = simp (length-take, length-drop) (omega arith)

length-list : (e : List ℕ) → length e ≡ 23 → get_or e 6 0 ≡ 12 → length (list_in e) ≡ 12
length-list e h n = rw n (simp (length-take, length-drop) (omega arith))

pub list-long : (tb : List ℕ) (i : ℕ) → i < 64 → length tb ≡ 1472 → get_or (block 23 tb i) 6 0 ≡ 12 → length (list_in (block 23 tb i)) ≡ 12
list-long tb i h t n = length-list (block 23 tb i) (length-block tb i h t) n

-- twelve bytes copied over twelve are those bytes
pub copied : (l : List ℕ) → length l ≡ 12 → splice (replicate 12 0) 0 l ≡ l
unfolding splice
copied l h = rw h (append-nil l)

pub tuned_is : (how : Tune) (a tb : List ℕ) (i k : ℕ) (l b c : List ℕ) → length l ≡ 12 → k ≡ key_in (block 23 tb i) → l ≡ list_in (block 23 tb i)
    → b ≡ splice (replicate 12 0) 0 l → c ≡ retuned_of how b a
    → splice tb (i * 23) (head_bytes (record { command = 3; key = k; map = 0; prec = 0; impatient = 0; n = 12 }) ++ padded c) ≡ tuned_at how a tb i
unfolding tuned_at tuned_entry
tuned_is how a tb i k l b c h e f g j =
    ap₂ (λ (y : ℕ) (v : List ℕ). splice tb (i * 23) (head_bytes (record { command = 3; key = y; map = 0; prec = 0; impatient = 0; n = 12 }) ++ padded v)) e
    (j ∙ ap (λ (v : List ℕ). retuned_of how v a) (g ∙ copied l h ∙ f))

retuned_long : (how : Tune) (b a : List ℕ) → length (retuned_of how b a) ≡ length b
retuned_long Set b a = simp length-set
retuned_long Later b a = simp length-set
retuned_long Finish b a = simp length-set
retuned_long Next b a = next_long b

entry-long : (how : Tune) (a e : List ℕ) → length (list_in e) ≡ 12 → length (tuned_entry how a e) ≡ 23
unfolding tuned_entry
entry-long how a e h =
    let q = retuned_long how (list_in e) a in
    simp (length-append, length-replicate) (omega arith)

-- ---- the other entries of writes stay such

module _ (how : Tune) (a tb : List ℕ) (i : ℕ) (h : i < 64) (t : length tb ≡ 1472) (n : get_or (block 23 tb i) 6 0 ≡ 12) where
  long : length (tuned_entry how a (block 23 tb i)) ≡ 23
  long = entry-long how a (block 23 tb i) (list-long tb i h t n)

  pub tuned-tall : length (tuned_at how a tb i) ≡ 1472
  unfolding tuned_at
  tuned-tall =
      let l = long in
      length-splice tb (i * 23) (tuned_entry how a (block 23 tb i)) (omega arith) ∙ t

  same_count : get_or (tuned_entry how a (block 23 tb i)) 6 0 ≡ 12
  unfolding tuned_entry
  same_count = refl

  keeps-count : (j : ℕ) → get_or (block 23 tb j) 6 0 ≡ 12 → get_or (block 23 (tuned_at how a tb i) j) 6 0 ≡ 12
  unfolding tuned_at
  keeps-count j g =
      by_test (eqb j i)
      (λ u. rw (eqb→eq j i u, block_same 23 tb i (tuned_entry how a (block 23 tb i)) long (omega arith)) same_count)
      (λ u. rw (block_other 23 tb i j (tuned_entry how a (block 23 tb i)) long (omega arith) (λ e. T_not (eqb j i) u (rw e (eqb_refl i)))) g)

  pub keeps_tunable : (m : ℕ) (cs : List Channel) → Tunable m cs tb → Tunable m cs (tuned_at how a tb i)
  keeps_tunable m [] s = tt
  keeps_tunable m (c ∷ cs) s = (λ o. ((s.0 o).0, keeps-count (front_of c) (s.0 o).1), keeps_tunable (half m) cs s.1)

-- ---- the channels that a map names

pub record Tuning (how : Tune) (a : List ℕ) (m : ℕ) (cs : List Channel) (tb₀ tb : List ℕ) (i : ℕ) : Type 0 where
  pub tall : length tb ≡ 1472
  pub able : Tunable (m / 2 ^ i) (drop i cs) tb
  pub rest : tune_each how a (m / 2 ^ i) (drop i cs) tb ≡ tune_each how a m cs tb₀

pub tuning_start : (how : Tune) (a : List ℕ) (m : ℕ) (cs : List Channel) (tb : List ℕ) → length tb ≡ 1472 → Tunable m cs tb → Tuning how a m cs tb tb 0
tuning_start how a m cs tb t s = record { tall = t; able = rw (div-one m) s; rest = rw (div-one m) refl }

module _ {how : Tune} {a : List ℕ} {m : ℕ} {cs : List Channel} {tb₀ tb : List ℕ} {i : ℕ} (d : Channel) (t : Tuning how a m cs tb₀ tb i) (h : i < length cs) where
  -- its turn
  turn : (b : Bool) → odd (m / 2 ^ i) ≡ b
      → tune_each how a (half (m / 2 ^ i)) (drop (suc i) cs) (if b then tuned_at how a tb (front_of (get_or cs i d)) else tb) ≡ tune_each how a m cs tb₀
  unfolding tune_each
  turn b e =
      ap (λ (y : Bool). tune_each how a (half (m / 2 ^ i)) (drop (suc i) cs) (if y then tuned_at how a tb (front_of (get_or cs i d)) else tb)) (sym e)
      ∙ sym (ap (λ (l : List Channel). tune_each how a (m / 2 ^ i) l tb) (drop-cons cs i d h))
      ∙ t.rest

  able_now : Tunable (m / 2 ^ i) (get_or cs i d ∷ drop (suc i) cs) tb
  able_now = rw (drop-cons cs i d h) at t.able

  -- the front of a channel that the map names
  pub tuning_front : odd (m / 2 ^ i) ≡ true → (front_of (get_or cs i d) < 64) × (get_or (block 23 tb (front_of (get_or cs i d))) 6 0 ≡ 12)
  tuning_front e = able_now.0 e

  pub tuning-named : odd (m / 2 ^ i) ≡ true → Tuning how a m cs tb₀ (tuned_at how a tb (front_of (get_or cs i d))) (i + 1)
  tuning-named e =
      let f = tuning_front e in
      let j = front_of (get_or cs i d) in
      record {
        tall = tuned-tall how a tb j f.0 t.tall f.1;
        able = rw (add-one i, ← (half_pow m i)) (keeps_tunable how a tb j f.0 t.tall f.1 (half (m / 2 ^ i)) (drop (suc i) cs) able_now.1);
        rest = rw (add-one i, ← (half_pow m i)) (turn true e);
      }

  pub tuning-passed : odd (m / 2 ^ i) ≡ false → Tuning how a m cs tb₀ tb (i + 1)
  tuning-passed e =
      record { tall = t.tall; able = rw (add-one i, ← (half_pow m i)) able_now.1; rest = rw (add-one i, ← (half_pow m i)) (turn false e) }

pub tuning_end : {how : Tune} {a : List ℕ} {m : ℕ} {cs : List Channel} {tb₀ tb : List ℕ} {i : ℕ} → Tuning how a m cs tb₀ tb i → length cs ≤ i
    → tb ≡ tune_each how a m cs tb₀
unfolding tune_each
tuning_end {cs = cs} {i = i} t h = let e : drop i cs ≡ [] = drop_of_length-le cs h in rw e at t.rest
