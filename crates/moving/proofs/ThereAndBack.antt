-- There and back: a state has one text in each form, so a text moved to the other form and back is what it was. Assumes nothing.
use Prim.Native.Nat.{ℕ, ◌≤◌, ◌<◌}
use mathlib.Core.Path.{◌≡◌, refl, ap, sym, subst, ◌∙◌}
use mathlib.Core.List.{List}
use native.Mathlib.Omega.{arith}
use lib.Dec.{T, leb, leb→le, nleb→lt}
use lib.ListN.{length, take}
use Rattle.machine.specs.State.{State}
use Rattle.machine.specs.Sound.{sound}
use Rattle.machine.proofs.Tests.{by_test}
use Rattle.loading.specs.saved.Saved.{text, TextOf}
use Rattle.loading.specs.saving.Saving.{Unwritten}
use Rattle.accepting2.specs.read_back.ReadBack.{Bytes}
use Rattle.loading.proofs.accepting.Accepting.{text_or_not}
use Rattle.accepting2.specs.number_lines.NumberLines.{number_lines}
use Rattle.accepting2.specs.saved2.Saved2.{number_frames, text2, TextOf2}
use Rattle.accepting2.specs.saving2.Saving2.{Fills}
use Rattle.accepting2.proofs.saving2.Laws2.{taken_front}
use Rattle.accepting2.specs.read_back2.ReadBack2.{text_with}
use Rattle.accepting2.proofs.read_back2.ReadBack2.{numbers-counted, one_form}
use Rattle.accepting2.proofs.Accepting2.{saved2_or_not}
use Rattle.moving.specs.Moving.{MovesNew, MovesOld}

-- ---- what was written

never {ℓ} : {R : Type ℓ} {c n : ℕ} {l l' : List ℕ} → 0 < c → Unwritten c l 0 n l' → R
never h u = let e = u.error in absurd (omega arith)

-- where no refusal was answered, the bytes stand there
filled : {vs l l' : List ℕ} {n : ℕ} → Fills vs l 0 n l' → take n l' ≡ vs
filled {vs} {l} f =
    by_test (leb (length vs) (length l)) (λ t. taken_front (f.full (leb→le (length vs) (length l) t)).put)
    (λ t. never (omega arith) (f.short (nleb→lt (length vs) (length l) t)))

-- where there is room, no refusal is answered
pub fitting : {vs l l' : List ℕ} {e n : ℕ} → Fills vs l e n l' → length vs ≤ length l → (e ≡ 0) × (n ≡ length vs) × (take n l' ≡ vs)
fitting f h = let w = f.full h in (w.error, let k = w.put.next in omega arith, taken_front w.put)

-- ---- there and back

module _ {t l l' : List ℕ} {n : ℕ} where
  pub new_of : MovesNew t l 0 n l' → (s : State) → TextOf 4 s t → TextOf2 4 s (take n l')
  new_of a s h = record { sane = h.sane; width = h.width; saved = filled (a.moved s h) }

  pub old_of : MovesOld t l 0 n l' → (s : State) → TextOf2 4 s t → TextOf 4 s (take n l')
  old_of a s h = record { sane = h.sane; width = h.width; saved = filled (a.moved s h) }

  -- "There and back leaves an old text as it was, byte for byte."
  pub there_and_back : MovesNew t l 0 n l' → {k k' : List ℕ} {e m : ℕ} → length t ≤ length k → MovesOld (take n l') k e m k' → (e ≡ 0) × (m ≡ length t) × (take m k' ≡ t)
  there_and_back a {k} {k'} {e} {m} h b =
      text_or_not t
      (λ s q. let x = q.saved in let j = ap length x in let y = fitting (b.moved s (new_of a s q)) (omega arith) in
      (y.0, y.1 ∙ sym j, y.2 ∙ sym x))
      (λ z. never (omega arith) (a.refused z))

  -- "A new text with four channels moves back to the old text it came from": and from there to the new one
  pub back_and_there : MovesOld t l 0 n l' → {k k' : List ℕ} {e m : ℕ} → length t ≤ length k → MovesNew (take n l') k e m k' → (e ≡ 0) × (m ≡ length t) × (take m k' ≡ t)
  back_and_there a {k} {k'} {e} {m} h b =
      saved2_or_not 4 t tt
      (λ s q. let x = q.saved in let j = ap length x in let y = fitting (b.moved s (old_of a s q)) (omega arith) in
      (y.0, y.1 ∙ sym j, y.2 ∙ sym x))
      (λ z. saved2_or_not 8 t tt (λ s q. never (omega arith) (a.eight s q)) (λ w. never (omega arith) (a.refused z w)))

-- ---- refused

module _ {t l l' : List ℕ} {e n : ℕ} where
  -- "one with eight is refused with 10"
  pub eight-refused : {s : State} → TextOf2 8 s t → MovesOld t l e n l' → Unwritten 10 l e n l'
  eight-refused {s} h a = a.eight s h

  -- the wrong form
  pub old_refused : {s : State} {m : ℕ} → TextOf m s t → MovesOld t l e n l' → Unwritten 9 l e n l'
  old_refused h a = a.refused (λ u q. one_form h q) (λ u q. one_form h q)

  pub new_refused : {s : State} {m : ℕ} → TextOf2 m s t → MovesNew t l e n l' → Unwritten 9 l e n l'
  new_refused h a = a.refused (λ u q. one_form q h)

  -- "as when its numbers disagree with a count"
  pub uncounted_refused : (s : State) → T (sound s) → (d : List ℕ) → Bytes d → (number_lines (length s.channels) d ≡ number_frames (length s.channels) s → ⊥)
      → t ≡ text_with (number_lines (length s.channels) d) s → MovesOld t l e n l' → Unwritten 9 l e n l'
  uncounted_refused s sane d bs z x a =
      a.refused (λ u h. z (numbers-counted s sane d bs (subst (λ y. TextOf2 4 u y) x h))) (λ u h. z (numbers-counted s sane d bs (subst (λ y. TextOf2 8 u y) x h)))
