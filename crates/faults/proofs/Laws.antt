-- The tests of a frame are those of its kind; a text's fault is that of its first line, or of what is left behind it. Assumes nothing.
use Prim.Native.Nat.{ℕ, zero, suc, ◌+◌, ◌-◌, ◌≤◌, ◌<◌}
use mathlib.Core.Path.{◌≡◌, refl, ap, sym, ◌∙◌}
use mathlib.Core.Bool.{Bool, true, false, ◌&&◌}
use mathlib.Core.List.{List, [], ◌∷◌, ◌++◌, append_assoc, append-nil}
use native.Mathlib.Omega.{arith}
use borrow.Author.Tests.{eq-eqb, ne_eqb, lt-ltb}
use lib.Dec.{T, eqb, ltb}
use lib.ListN.{length, get_or, take, drop, length-drop, drop_of_length-le, get_or-eq_default}
use lib.Pointwise.{pointwise}
use lib.Seq.{drop-drop}
use Rattle.std.specs.Option.{option_eq}
use Rattle.std.specs.Prelude.{Some, None, if◌then◌else◌}
use Rattle.machine.specs.Log.{LF}
use Rattle.machine.proofs.Tests.{by_test, test_true, test_false}
use Rattle.reading.specs.gathering.Lumps.{front, ended, used}
use Rattle.reading.proofs.gathering.Lumps.{front_open, front_used, used-within}
use Rattle.reading.specs.hex_lines.HexLines.{octets_of}
use Rattle.reading.proofs.sheet.Taking.{rest_is_drop}
use Rattle.faults.specs.Faults.{told, length_of, length_in, frame_of, lacking, fault_from, fault}

-- ---- numbers that are told

pub told_some : {n m : ℕ} → 0 < n → n ≡ m → Some n ≡ told m
unfolding told
told_some {n = zero} h e = absurd (omega arith)
told_some {n = suc n} h e = rw (sym e)

pub told_none : {m : ℕ} → 0 ≡ m → None ≡ told m
unfolding told
told_none e = rw (sym e)

pub told_eq : {n : ℕ} (m : ℕ) → 0 < n → option_eq eqb (Some n) (told m) ≡ eqb n m
unfolding told
told_eq {n = n} zero h = sym (ne_eqb n 0 (λ e. absurd (omega arith)))
told_eq (suc m) h = refl

-- ---- kinds

module _ (f : List ℕ) where
  pub kind_1 : get_or f 0 0 ≡ 0xD1 → 12 ≡ length_of f
  unfolding length_of
  kind_1 h = rw h

  pub kind_2 : get_or f 0 0 ≡ 0xD2 → 7 + get_or f 6 0 ≡ length_of f
  unfolding length_of
  kind_2 h = rw h

  pub kind_2_short : get_or f 0 0 ≡ 0xD2 → length f < 7 → 7 ≡ length_of f
  kind_2_short h n = ap (λ (x : ℕ). 7 + x) (sym (get_or-eq_default f 0 {n = 6} (omega arith))) ∙ kind_2 h

  pub kind_3 : get_or f 0 0 ≡ 0xD3 → 5 ≡ length_of f
  unfolding length_of
  kind_3 h = rw h

  pub kind_4 : get_or f 0 0 ≡ 0xD4 → 5 ≡ length_of f
  unfolding length_of
  kind_4 h = rw h

  pub kind_5 : get_or f 0 0 ≡ 0xD5 → 9 ≡ length_of f
  unfolding length_of
  kind_5 h = rw h

  pub kind_6 : get_or f 0 0 ≡ 0xD6 → 3 ≡ length_of f
  unfolding length_of
  kind_6 h = rw h

  pub kind_7 : get_or f 0 0 ≡ 0xD7 → 3 ≡ length_of f
  unfolding length_of
  kind_7 h = rw h

  pub no_kind : (get_or f 0 0 ≡ 0xD1 → ⊥) → (get_or f 0 0 ≡ 0xD2 → ⊥) → (get_or f 0 0 ≡ 0xD3 → ⊥) → (get_or f 0 0 ≡ 0xD4 → ⊥) → (get_or f 0 0 ≡ 0xD5 → ⊥) → (get_or f 0 0 ≡ 0xD6 → ⊥)
      → (get_or f 0 0 ≡ 0xD7 → ⊥) → 0 ≡ length_of f
  unfolding length_of
  no_kind a b c d e g h = rw (ne_eqb _ _ a, ne_eqb _ _ b, ne_eqb _ _ c, ne_eqb _ _ d, ne_eqb _ _ e, ne_eqb _ _ g, ne_eqb _ _ h)

  -- the second form's own, and no others
  pub kind_8 : {v : ℕ} → v ≡ 2 → get_or f 0 0 ≡ 0xD8 → 2 ≡ length_in v f
  unfolding length_in
  kind_8 e h = rw (e, h)

  pub kind_9 : {v : ℕ} → v ≡ 2 → get_or f 0 0 ≡ 0xD9 → 4 ≡ length_in v f
  unfolding length_in
  kind_9 e h = rw (e, h)

  pub kind_of_both : {v : ℕ} → v ≡ 2 → (get_or f 0 0 ≡ 0xD8 → ⊥) → (get_or f 0 0 ≡ 0xD9 → ⊥) → length_of f ≡ length_in v f
  unfolding length_in
  kind_of_both e a b = rw (e, ne_eqb _ _ a, ne_eqb _ _ b)

  pub kind_of_first : {v : ℕ} → (v ≡ 2 → ⊥) → length_of f ≡ length_in v f
  unfolding length_in
  kind_of_first e = rw (ne_eqb _ _ e)

-- ---- frames

opening : (v : ℕ) (f : List ℕ) → pointwise eqb f (0xD0 ∷ v ∷ []) ≡ (eqb (length f) 2 && (eqb (get_or f 0 0) 0xD0 && eqb (get_or f 1 0) v))
opening v [] = refl
opening v (a ∷ []) = by_test (eqb a 0xD0) (λ y. rw (test_true (eqb a 0xD0) y)) (λ y. rw (test_false (eqb a 0xD0) y))
opening v (a ∷ b ∷ []) =
    by_test (eqb a 0xD0)
    (λ y. by_test (eqb b v)
    (λ x. rw (test_true (eqb a 0xD0) y, test_true (eqb b v) x))
    (λ x. rw (test_true (eqb a 0xD0) y, test_false (eqb b v) x)))
    (λ y. rw (test_false (eqb a 0xD0) y))
opening v (a ∷ b ∷ c ∷ t) =
    let n : eqb (length (a ∷ b ∷ c ∷ t)) 2 ≡ false = ne_eqb (length (a ∷ b ∷ c ∷ t)) 2 (λ e. absurd (omega arith)) in
    by_test (eqb a 0xD0)
    (λ y. by_test (eqb b v)
    (λ x. rw (n, test_true (eqb a 0xD0) y, test_true (eqb b v) x))
    (λ x. rw (n, test_true (eqb a 0xD0) y, test_false (eqb b v) x)))
    (λ y. rw (n, test_false (eqb a 0xD0) y))

module _ (v k : ℕ) (f : List ℕ) where
  pub first : k ≡ 0 → pointwise eqb f (0xD0 ∷ v ∷ []) ≡ frame_of v k f
  unfolding frame_of
  first z = rw z (opening v f)

  pub later_none : (k ≡ 0 → ⊥) → length f ≡ 0 → false ≡ frame_of v k f
  unfolding frame_of
  later_none z e = rw (ne_eqb k 0 z, e)

  pub later_some : (k ≡ 0 → ⊥) → 0 < length f → {n : ℕ} → n ≡ length_in v f → eqb (length f) n ≡ frame_of v k f
  unfolding frame_of
  later_some z h e = rw (ne_eqb k 0 z, lt-ltb 0 (length f) h, e)

-- ---- lines

fault-ended : (v k : ℕ) (p bs : List ℕ) → ended bs ≡ true
    → fault_from v k p bs ≡ (if frame_of v k (octets_of (p ++ front bs)) then fault_from v (k + 1) [] (drop (used bs) bs) else k + 1)
unfolding fault_from ended front used
fault-ended v k p [] h = absurd (let z : ◌≡◌ {A = ℕ} 0 1 = cc in omega arith)
fault-ended v k p (b ∷ bs) h =
    by_test (eqb b LF)
    (λ y. rw (test_true (eqb b LF) y, append-nil p))
    (λ y. let e = test_false (eqb b LF) y in rw e (fault-ended v k (p ++ (b ∷ [])) bs (rw e at h) ∙ rw (append_assoc p (b ∷ []) (front bs))))

fault_open : (v k : ℕ) (p bs : List ℕ) → ended bs ≡ false → fault_from v k p bs ≡ lacking k (p ++ bs)
unfolding fault_from ended
fault_open v k p [] h = rw (append-nil p)
fault_open v k p (b ∷ bs) h =
    by_test (eqb b LF)
    (λ y. absurd (let e : true ≡ false = rw (test_true (eqb b LF) y) at h in let z : ◌≡◌ {A = ℕ} 0 1 = cc in omega arith))
    (λ y. let e = test_false (eqb b LF) y in rw e (fault_open v k (p ++ (b ∷ [])) bs (rw e at h) ∙ rw (append_assoc p (b ∷ []) bs)))

lacking_some : (k : ℕ) (l : List ℕ) → 0 < length l → lacking k l ≡ k + 1
lacking_some k [] h = absurd (omega arith)
lacking_some k (b ∷ l) h = refl

-- the line that begins at a place of the text, with n bytes before its LF
module _ (v : ℕ) (text : List ℕ) (k at n : ℕ) (h : at < length text) (g : n ≡ length (front (take (length text - at) (drop at text)))) where
  whole : n ≡ length (front (drop at text))
  whole = g ∙ ap (λ (l : List ℕ). length (front l)) (rest_is_drop at text)

  rest : length (drop at text) ≡ length text - at
  rest = length-drop at text

  pub without_end : at + n ≡ length text → fault_from v k [] (drop at text) ≡ k + 1
  without_end e =
      let w = whole in
      let r = rest in
      let bs = drop at text in
      by_test (ended bs)
      (λ y. let u = front_used bs (test_true (ended bs) y) in let v = used-within bs in absurd (omega arith))
      (λ y. fault_open v k [] bs (test_false (ended bs) y) ∙ lacking_some k bs (omega arith))

  with_end : (at + n ≡ length text → ⊥) → ended (drop at text) ≡ true
  with_end e =
      let bs = drop at text in
      by_test (ended bs)
      (λ y. test_true (ended bs) y)
      (λ y. let o = ap length (front_open bs (test_false (ended bs) y)) in let w = whole in let r = rest in absurd (e (omega arith)))

  next : (at + n ≡ length text → ⊥) → drop (used (drop at text)) (drop at text) ≡ drop (at + n + 1) text
  next e =
      let u = front_used (drop at text) (with_end e) in
      let w = whole in
      drop-drop (used (drop at text)) at text ∙ ap (λ (i : ℕ). drop i text) (let z : at + used (drop at text) ≡ at + n + 1 = omega arith in z)

  pub good_line : (at + n ≡ length text → ⊥) → frame_of v k (octets_of (front (drop at text))) ≡ true → fault_from v k [] (drop at text) ≡ fault_from v (k + 1) [] (drop (at + n + 1) text)
  good_line e f = fault-ended v k [] (drop at text) (with_end e) ∙ rw (f, next e)

  pub bad_line : (at + n ≡ length text → ⊥) → frame_of v k (octets_of (front (drop at text))) ≡ false → fault_from v k [] (drop at text) ≡ k + 1
  bad_line e f = fault-ended v k [] (drop at text) (with_end e) ∙ rw f

-- ---- a text

pub no_bytes : (v : ℕ) (text : List ℕ) → length text ≡ 0 → 1 ≡ fault v text
unfolding fault
no_bytes v [] h = refl
no_bytes v (b ∷ t) h = absurd (omega arith)

pub some_bytes : (v : ℕ) (text : List ℕ) → (length text ≡ 0 → ⊥) → fault_from v 0 [] text ≡ fault v text
unfolding fault
some_bytes v [] h = absurd (h refl)
some_bytes v (b ∷ t) h = refl

pub all_passed : (v : ℕ) (text : List ℕ) (k at : ℕ) → length text ≤ at → fault_from v k [] (drop at text) ≡ fault v text → 0 ≡ fault v text
unfolding fault_from
all_passed v text k at h e = ap (fault_from v k []) (sym (drop_of_length-le text h)) ∙ e
