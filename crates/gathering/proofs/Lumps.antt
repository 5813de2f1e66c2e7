-- What the first LF parts: a lump behind a lump, the lines of a log from their front, and what stands of a line after a lump.
-- Assumes nothing.
use Prim.Native.Nat.{ℕ, zero, suc, ◌+◌, ◌-◌, ◌≤◌, ◌<◌}
use mathlib.Core.Path.{◌≡◌, refl, ap, sym, ◌∙◌}
use mathlib.Core.Bool.{true, false}
use mathlib.Core.List.{List, [], ◌∷◌, ◌++◌, append_assoc, append-nil}
use native.Mathlib.Nat.{zero-add}
use native.Mathlib.Decide.{dec_lt}
use native.Mathlib.Omega.{arith}
use borrow.Author.Tests.{eqb-true, eqb-false, eq-eqb, ne_eqb}
use lib.Dec.{eqb}
use lib.ListN.{length, get_or, take, drop, length-take, length-append}
use lib.Seq.{take_all, length-take-le, take-take, take_at, take-append-add, take-append-le, drop-append-add, drop-append-le}
use Rattle.std.specs.Prelude.{◌≢◌, Option, Some, None, MatchOption, unwrap_or}
use Rattle.memory.specs.Splice.{splice}
use Rattle.digits.specs.machine.State.{State as StateM}
use Rattle.digits.specs.machine.Log.{LF, opened, lines, unhex, frame, feed}
use Rattle.digits.proofs.machine.Tests.{by_test, test_true, test_false}
use Rattle.gathering.specs.declared.Gathered.{Gathered}
use Rattle.digits.proofs.Laws.{take_527_malformed}
use Rattle.gathering.specs.Lumps.{front, ended, used, LINE, kept, Gathers, Stands}

-- ---- by the first byte

module _ (b : ℕ) (bs : List ℕ) where
  module _ (h : b ≡ LF) where
    front_LF : front (b ∷ bs) ≡ []
    unfolding front
    front_LF = rw (eq-eqb b LF h)

    ended-LF : ended (b ∷ bs) ≡ true
    unfolding ended
    ended-LF = rw (eq-eqb b LF h)

    used-LF : used (b ∷ bs) ≡ 1
    unfolding used
    used-LF = rw (eq-eqb b LF h)

    lines-LF : lines (b ∷ bs) ≡ [] ∷ lines bs
    unfolding lines
    lines-LF = rw (eq-eqb b LF h)

  module _ (h : b ≡ LF → ⊥) where
    front_other : front (b ∷ bs) ≡ b ∷ front bs
    unfolding front
    front_other = rw (ne_eqb b LF h)

    ended_other : ended (b ∷ bs) ≡ ended bs
    unfolding ended
    ended_other = rw (ne_eqb b LF h)

    used_other : used (b ∷ bs) ≡ suc (used bs)
    unfolding used
    used_other = rw (ne_eqb b LF h)

    lines_other : lines (b ∷ bs) ≡ opened b (lines bs)
    unfolding lines
    lines_other = rw (ne_eqb b LF h)

by_LF : {A : Type 0} (b : ℕ) → (b ≡ LF → A) → ((b ≡ LF → ⊥) → A) → A
by_LF b f g = by_test (eqb b LF) (λ t. f (eqb-true b LF (test_true (eqb b LF) t))) (λ t. g (eqb-false b LF (test_false (eqb b LF) t)))

-- ---- where the first LF stands

-- or the length, where there is none
front_ends : (bs : List ℕ) (i : ℕ) → i ≤ length bs → ((k : ℕ) → k < i → get_or bs k 0 ≢ LF) → (i < length bs → get_or bs i 0 ≡ LF) → i ≡ length (front bs)
unfolding front
front_ends [] i h before here = omega arith
front_ends (b ∷ bs) zero h before here = sym (ap length (front_LF b bs (here (omega arith))))
front_ends (b ∷ bs) (suc i) h before here =
    let e = front_ends bs i (omega arith) (λ k l. before (suc k) (omega arith)) (λ l. here (omega arith)) in
    ap suc e ∙ sym (ap length (front_other b bs (before 0 (omega arith))))

abbrev pub FirstLF : List ℕ → Option ℕ → Type 0
FirstLF bs r = MatchOption r ((k : ℕ) → k < length bs → get_or bs k 0 ≢ LF) (λ i. (i < length bs) × (get_or bs i 0 ≡ LF) × ((k : ℕ) → k < i → get_or bs k 0 ≢ LF))

pub front_found : (bs : List ℕ) (r : Option ℕ) → FirstLF bs r → unwrap_or r (length bs) ≡ length (front bs)
front_found bs None h = front_ends bs (length bs) (omega arith) h (λ l. absurd (omega arith))
front_found bs (Some i) h = front_ends bs i (omega arith) h.2 (λ _. h.1)

-- ---- a lump behind a lump

no_end : {A : Type 0} (b : ℕ) (a : List ℕ) → b ≡ LF → ended (b ∷ a) ≡ false → A
no_end b a e h = absurd (let z : true ≡ false = sym (ended-LF b a e) ∙ h in let y : ◌≡◌ {A = ℕ} 0 1 = cc in omega arith)

no_false : {A : Type 0} → ended [] ≡ true → A
unfolding ended
no_false h = absurd (let y : ◌≡◌ {A = ℕ} 0 1 = cc in omega arith)

-- where the first has no LF
pub front_open : (a : List ℕ) → ended a ≡ false → front a ≡ a
unfolding front
front_open [] h = refl
front_open (b ∷ a) h = by_LF b (λ e. no_end b a e h) (λ n. front_other b a n ∙ ap (λ (l : List ℕ). b ∷ l) (front_open a (sym (ended_other b a n) ∙ h)))

pub used_open : (a : List ℕ) → ended a ≡ false → used a ≡ length a
unfolding used
used_open [] h = refl
used_open (b ∷ a) h = by_LF b (λ e. no_end b a e h) (λ n. used_other b a n ∙ ap suc (used_open a (sym (ended_other b a n) ∙ h)))

module _ (c : List ℕ) where
  pub front_append_open : (a : List ℕ) → ended a ≡ false → front (a ++ c) ≡ a ++ front c
  front_append_open [] h = refl
  front_append_open (b ∷ a) h =
      by_LF b (λ e. no_end b a e h) (λ n. front_other b (a ++ c) n ∙ ap (λ (l : List ℕ). b ∷ l) (front_append_open a (sym (ended_other b a n) ∙ h)))

  pub ended-append_open : (a : List ℕ) → ended a ≡ false → ended (a ++ c) ≡ ended c
  ended-append_open [] h = refl
  ended-append_open (b ∷ a) h = by_LF b (λ e. no_end b a e h) (λ n. ended_other b (a ++ c) n ∙ ended-append_open a (sym (ended_other b a n) ∙ h))

  pub used-append_open : (a : List ℕ) → ended a ≡ false → used (a ++ c) ≡ length a + used c
  used-append_open [] h = sym (zero-add (used c))
  used-append_open (b ∷ a) h =
      by_LF b (λ e. no_end b a e h)
      (λ n. let q = used-append_open a (sym (ended_other b a n) ∙ h) in let p = used_other b (a ++ c) n in omega arith)

  pub rest-append_open : (a : List ℕ) → ended a ≡ false → drop (used (a ++ c)) (a ++ c) ≡ drop (used c) c
  rest-append_open a h = rw (used-append_open a h) (drop-append-add a c (used c))

  -- where the first has one
  pub front_append-ended : (a : List ℕ) → ended a ≡ true → front (a ++ c) ≡ front a
  front_append-ended [] h = no_false h
  front_append-ended (b ∷ a) h =
      by_LF b (λ e. front_LF b (a ++ c) e ∙ sym (front_LF b a e))
      (λ n. front_other b (a ++ c) n ∙ (ap (λ (l : List ℕ). b ∷ l) (front_append-ended a (sym (ended_other b a n) ∙ h)) ∙ sym (front_other b a n)))

  pub ended-append-ended : (a : List ℕ) → ended a ≡ true → ended (a ++ c) ≡ true
  ended-append-ended [] h = no_false h
  ended-append-ended (b ∷ a) h =
      by_LF b (λ e. ended-LF b (a ++ c) e) (λ n. ended_other b (a ++ c) n ∙ ended-append-ended a (sym (ended_other b a n) ∙ h))

  pub used-append-ended : (a : List ℕ) → ended a ≡ true → used (a ++ c) ≡ used a
  used-append-ended [] h = no_false h
  used-append-ended (b ∷ a) h =
      by_LF b (λ e. used-LF b (a ++ c) e ∙ sym (used-LF b a e))
      (λ n. used_other b (a ++ c) n ∙ (ap suc (used-append-ended a (sym (ended_other b a n) ∙ h)) ∙ sym (used_other b a n)))

pub used-within : (a : List ℕ) → used a ≤ length a
unfolding used
used-within [] = omega arith
used-within (b ∷ a) = by_LF b (λ e. let p = used-LF b a e in omega arith) (λ n. let p = used_other b a n in let q = used-within a in omega arith)

pub rest-append-ended : (c a : List ℕ) → ended a ≡ true → drop (used (a ++ c)) (a ++ c) ≡ drop (used a) a ++ c
rest-append-ended c a h = rw (used-append-ended c a h) (drop-append-le (used a) a c (used-within a))

-- ---- front by its length

pub front_within : (a : List ℕ) → length (front a) ≤ length a
unfolding front
front_within [] = omega arith
front_within (b ∷ a) = by_LF b (λ e. let p = ap length (front_LF b a e) in omega arith) (λ n. let p = ap length (front_other b a n) in let q = front_within a in omega arith)

pub front_take : (a : List ℕ) → take (length (front a)) a ≡ front a
unfolding front
front_take [] = refl
front_take (b ∷ a) = by_LF b (λ e. rw (front_LF b a e)) (λ n. rw (front_other b a n, front_take a))

pub front_used : (a : List ℕ) → ended a ≡ true → used a ≡ length (front a) + 1
front_used [] h = no_false h
front_used (b ∷ a) h =
    by_LF b (λ e. rw (used-LF b a e, front_LF b a e))
    (λ n. let p = used_other b a n in let q = ap length (front_other b a n) in let r = front_used a (sym (ended_other b a n) ∙ h) in omega arith)

-- an LF stands behind the front, or the front is all
ended-inside : (a : List ℕ) → length (front a) < length a → ended a ≡ true
ended-inside a h =
    by_test (ended a) (λ t. test_true (ended a) t)
    (λ t. absurd (let p = ap length (front_open a (test_false (ended a) t)) in omega arith))

ended_outside : (a : List ℕ) → length a ≤ length (front a) → ended a ≡ false
ended_outside a h =
    by_test (ended a) (λ t. absurd (let p = front_used a (test_true (ended a) t) in let q = used-within a in omega arith)) (λ t. test_false (ended a) t)

-- ---- lines

pub lines_none : lines [] ≡ []
unfolding lines
lines_none = refl

pub lines-ended : (bs : List ℕ) → ended bs ≡ true → lines bs ≡ front bs ∷ lines (drop (used bs) bs)
lines-ended [] h = no_false h
lines-ended (b ∷ bs) h =
    by_LF b (λ e. rw (lines-LF b bs e, front_LF b bs e, used-LF b bs e))
    (λ n. let q = lines-ended bs (sym (ended_other b bs n) ∙ h) in rw (lines_other b bs n, front_other b bs n, used_other b bs n, q) (unfold opened in refl))

pub lines_last : (bs : List ℕ) → ended bs ≡ false → (bs ≡ [] → ⊥) → lines bs ≡ bs ∷ []
unfolding lines opened
lines_last [] h n = absurd (n refl)
lines_last (b ∷ []) h n = by_LF b (λ e. no_end b [] e h) (λ m. lines_other b [] m)
lines_last (b ∷ c ∷ bs) h n =
    by_LF b (λ e. no_end b (c ∷ bs) e h)
    (λ m. let q = lines_last (c ∷ bs) (sym (ended_other b (c ∷ bs) m) ∙ h) (λ z. let y : ◌≡◌ {A = ℕ} 0 1 = cc in omega arith) in
    rw (lines_other b (c ∷ bs) m, q))

-- ---- Gathers

-- the promise leaves one outcome
pub one_gathering : {l : List ℕ} {n : ℕ} {bs : List ℕ} {g₁ g₂ : Gathered} {l₁ l₂ : List ℕ} → Gathers l n bs g₁ l₁ → Gathers l n bs g₂ l₂ → (g₁ ≡ g₂) × (l₁ ≡ l₂)
one_gathering a b = (a.answer ∙ sym b.answer, a.filled ∙ sym b.filled)

module _ (n : ℕ) (bs : List ℕ) (k : ℕ) (h : k ≤ length (front bs)) (g : k ≤ 527 - n) (m : k < length (front bs) → k ≡ 527 - n) where
  kept_take : kept n bs ≡ take k bs
  kept_take = elim (dec_lt k (length (front bs))) [
    | yes z ↦ let e = m z in rw (← (front_take bs), ← e) (take-take k (length (front bs)) bs h)
    | no z ↦ let e : k ≡ length (front bs) = omega arith in rw (e, front_take bs) (take_all (527 - n) (front bs) (omega arith))
  ]

  pub taken-length : k ≡ length (take k bs)
  taken-length = let f = front_within bs in sym (length-take-le k bs (omega arith))

  -- with and without an LF
  module _ (l l' : List ℕ) (w : l' ≡ splice l n (take k bs)) where
    pub gathers_ended : length (front bs) < length bs → Gathers l n bs record { n = n + k; used = length (front bs) + 1; ended = true } l'
    gathers_ended e =
        let z = ended-inside bs e in
        record { answer = rw (kept_take, ← taken-length, z, front_used bs z); filled = w ∙ rw kept_take }

    pub gathers_open : length bs ≤ length (front bs) → Gathers l n bs record { n = n + k; used = length (front bs); ended = false } l'
    gathers_open e =
        let z = ended_outside bs e in
        let u : used bs ≡ length (front bs) = used_open bs z ∙ ap length (sym (front_open bs z)) in
        record { answer = rw (kept_take, ← taken-length, z, u); filled = w ∙ rw kept_take }

-- ---- lump by lump

pub stands_none : (l : List ℕ) → Stands l 0 []
stands_none l = record { bytes = refl; count = refl }

cut_append : (w : ℕ) (p f : List ℕ) (n : ℕ) → n ≡ length (take w p) → take w p ++ take (w - n) f ≡ take w (p ++ f)
cut_append w p f n e = elim (dec_lt (length p) w) [
  | yes k ↦
      let a : take w p ≡ p = take_all w p (omega arith) in
      let b : n ≡ length p = e ∙ ap length a in
      let c : length p + (w - n) ≡ w = omega arith in
      rw a (rw c at (sym (take-append-add p f (w - n))))
  | no k ↦
      let d = length-take-le w p (omega arith) in
      let b : w - n ≡ 0 = omega arith in
      rw b (append-nil (take w p) ∙ sym (take-append-le w p f (omega arith)))
]

module _ {l : List ℕ} {n : ℕ} {p : List ℕ} (t : Stands l n p) where
  pub stands-within : n ≤ LINE
  stands-within = let e = t.count in let f = length-take LINE p in omega arith

  pub stands_more : {bs : List ℕ} {g : Gathered} {l' : List ℕ} → Gathers l n bs g l' → Stands l' g.n (p ++ front bs)
  unfolding splice
  stands_more {bs} {g} {l'} w =
      let vs = kept n bs in
      let a : take n l ++ vs ≡ take LINE (p ++ front bs) = rw t.bytes (cut_append LINE p (front bs) n t.count) in
      let m : length (take n l) ≡ n = ap length t.bytes ∙ sym t.count in
      let d : length (take n l ++ vs) ≡ n + length vs = length-append (take n l) vs ∙ ap (λ (x : ℕ). x + length vs) m in
      let c : g.n ≡ n + length vs = ap (λ (x : Gathered). x.n) w.answer in
      let x : l' ≡ (take n l ++ vs) ++ drop (n + length vs) l = w.filled ∙ sym (append_assoc (take n l) vs _) in
      record { bytes = rw (c, x) (take_at (take n l ++ vs) _ (n + length vs) d ∙ a); count = c ∙ (sym d ∙ ap length a) }

  -- a line that is cut reads as it does whole
  pub stands-frame : frame (unhex (take n l)) ≡ frame (unhex p)
  stands-frame = rw t.bytes (take_527_malformed p)

  pub stands-feed : (s : StateM) → feed s (take n l) ≡ feed s p
  unfolding feed
  stands-feed s = rw stands-frame

pub front_has_none : (a : List ℕ) → ended (front a) ≡ false
unfolding front ended
front_has_none [] = refl
front_has_none (b ∷ a) = by_LF b (λ e. rw (front_LF b a e)) (λ n. rw (front_other b a n) (ended_other b (front a) n ∙ front_has_none a))

-- a line whose bytes so far are p ends in the lump a
pub lines_step : (p a rest : List ℕ) → ended p ≡ false → ended a ≡ true → lines (p ++ (a ++ rest)) ≡ (p ++ front a) ∷ lines (drop (used a) a ++ rest)
lines_step p a rest h g =
    let c = a ++ rest in
    let e : ended (p ++ c) ≡ true = ended-append_open c p h ∙ ended-append-ended rest a g in
    lines-ended (p ++ c) e
    ∙ rw (front_append_open c p h, front_append-ended rest a g, rest-append_open c p h, rest-append-ended rest a g)

-- it goes on past the lump a
pub lines_on : (p a rest : List ℕ) → ended p ≡ false → ended a ≡ false → (ended (p ++ a) ≡ false) × (lines (p ++ (a ++ rest)) ≡ lines ((p ++ a) ++ rest))
lines_on p a rest h g = (ended-append_open a p h ∙ g, ap lines (sym (append_assoc p a rest)))
