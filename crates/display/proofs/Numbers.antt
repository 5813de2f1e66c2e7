-- The numbers of the display: of a sound state each is at most 64, so a byte holds it; a number corrected is off by as much as before.
-- Assumes nothing.
use Prim.Native.Nat.{ℕ, zero, suc, ◌+◌, ◌*◌, ◌%◌, ◌≤◌, ◌<◌}
use mathlib.Core.Path.{◌≡◌, refl, ap, ap₂, ◌∙◌}
use mathlib.Core.List.{List, [], ◌∷◌, map}
use native.Mathlib.Omega.{arith}
use lib.ListN.{length, get_or, take, replicate, length-append, length-map}
use Rattle.std.specs.Prelude.{if◌then◌else◌}
use Rattle.widening.specs.machine.Lists.{keep}
use Rattle.widening.specs.machine.State.{Write, Channel, State, fresh_on}
use Rattle.widening.specs.machine.Maps.{odd, half}
use Rattle.widening.specs.machine.Rule.{channel}
use Rattle.widening.specs.machine.Sound.{writes_of}
use Rattle.widening.proofs.machine.Tests.{if_elim}
use Rattle.widening.proofs.machine_laws.Lists.{keep_length}
use Rattle.widening.specs.machine_laws.Sound.{Parts}
use Rattle.widening.proofs.machine_laws.Sound.{ids_few}
use Rattle.display.specs.Display.{NUMBERS, blank, names, naming, writes_on, number, numbers_from, numbers, corrected}
use Rattle.display.proofs.Wide.{free_behind}

-- ---- number: at most 64

writes_most : (i : ℕ) (cs : List Channel) → length (channel cs i).writes ≤ length (writes_of cs)
unfolding writes_of
writes_most i [] = omega arith
writes_most zero (c ∷ cs) =
    rw (length-append (map (λ (w : Write). w.id) c.writes) (writes_of cs), length-map c.writes (λ (w : Write). w.id)) (omega arith)
writes_most (suc i) (c ∷ cs) =
    rw (length-append (map (λ (w : Write). w.id) c.writes) (writes_of cs), length-map c.writes (λ (w : Write). w.id))
    (omega (arith, writes_most i cs))

pub number_most : (j : ℕ) (s : State) → Parts s → number j s ≤ 64
unfolding number naming writes_on
number_most j s p =
    let h = ids_few s p in
    if_elim (λ (n : ℕ). n ≤ 64) (odd j) (λ _. omega (arith, h, keep_length (names (half j)) s.waiting))
    (λ _. omega (arith, h, writes_most (half j) s.channels))

-- ---- corrected

pub corrected-length : (s t : State) (j : ℕ) (bs : List ℕ) → length (corrected s t j bs) ≡ length bs
unfolding corrected
corrected-length s t j [] = refl
corrected-length s t j (b ∷ bs) = ap suc (corrected-length s t (suc j) bs)

pub corrected_at : (s t : State) (j : ℕ) (bs : List ℕ) (i : ℕ) → i < length bs
    → get_or (corrected s t j bs) i 0 ≡ (get_or bs i 0 + number (j + i) t + 255 * number (j + i) s) % 256
unfolding corrected
corrected_at s t j [] i h = absurd (omega arith)
corrected_at s t j (b ∷ bs) zero h = ap (λ (x : ℕ). (b + number x t + 255 * number x s) % 256) (let e : j ≡ j + 0 = omega arith in e)
corrected_at s t j (b ∷ bs) (suc i) h =
    corrected_at s t (suc j) bs i (omega arith)
    ∙ ap (λ (x : ℕ). (get_or bs i 0 + number x t + 255 * number x s) % 256) (let e : suc j + i ≡ j + suc i = omega arith in e)

pub corrected_byte : (s t : State) (j : ℕ) (bs : List ℕ) (i : ℕ) → get_or (corrected s t j bs) i 0 < 256
unfolding corrected
corrected_byte s t j [] i = omega arith
corrected_byte s t j (b ∷ bs) zero = omega arith
corrected_byte s t j (b ∷ bs) (suc i) = corrected_byte s t (suc j) bs i

-- "where they agreed with a count over the state before a call, have them agree after it"
pub corrected_agrees : (s t : State) → ((j : ℕ) → number j t < 256) → (n j : ℕ) → corrected s t j (numbers_from n j s) ≡ numbers_from n j t
unfolding corrected numbers_from
corrected_agrees s t h zero j = refl
corrected_agrees s t h (suc n) j = ap₂ (λ (x : ℕ) (xs : List ℕ). x ∷ xs) (omega (arith, h j)) (corrected_agrees s t h n (suc j))

-- where nothing changes, bytes stay
pub corrected_same : (s : State) (j : ℕ) (bs : List ℕ) → ((i : ℕ) → get_or bs i 0 < 256) → corrected s s j bs ≡ bs
unfolding corrected
corrected_same s j [] h = refl
corrected_same s j (b ∷ bs) h = ap₂ (λ (x : ℕ) (xs : List ℕ). x ∷ xs) (omega (arith, h 0)) (corrected_same s (suc j) bs (λ i. h (suc i)))

-- ---- the fresh device

pub fresh-number : (n j : ℕ) → number j (fresh_on n) ≡ 0
unfolding number naming writes_on keep
fresh-number n j =
    if_elim (λ (x : ℕ). x ≡ 0) (odd j) (λ _. refl) (λ _. ap (λ (c : Channel). length c.writes) (free_behind n (half j)))

zeros : (s : State) → ((j : ℕ) → number j s ≡ 0) → (n j : ℕ) → numbers_from n j s ≡ replicate n 0
unfolding numbers_from
zeros s h zero j = refl
zeros s h (suc n) j = ap₂ (λ (x : ℕ) (xs : List ℕ). x ∷ xs) (h j) (zeros s h n (suc j))

-- "on a fresh device they are 0"
pub fresh-numbers : (n : ℕ) → numbers (fresh_on n) ≡ take NUMBERS blank
fresh-numbers n = zeros (fresh_on n) (fresh-number n) NUMBERS 0
