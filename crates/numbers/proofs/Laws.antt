-- What the test of a write's numbers comes to: bytes pass exactly where they are those of the write that can be read from them, and
-- that write is sound. Assumes nothing.
use Prim.Native.Nat.{ℕ, zero, suc, ◌+◌, ◌*◌, ◌/◌, ◌%◌, ◌≤◌, ◌<◌}
use mathlib.Core.Path.{◌≡◌, refl, ap, subst, sym, ◌∙◌}
use mathlib.Core.Bool.{Bool, true, false, not, ◌&&◌, ◌||◌}
use native.Mathlib.Omega.{arith}
use borrow.Author.Tests.{le-leb, lt-leb, eq-eqb}
use lib.Dec.{T, eqb, leb, eqb→eq, leb→le, le→leb}
use mathlib.Core.List.{List, [], ◌∷◌}
use lib.ListN.{length, get_or, drop}
use mathlib.Core.Option.{Option, none, some}
use Rattle.std.specs.Prelude.{if◌then◌else◌}
use Rattle.machine.specs.State.{Write}
use Rattle.machine.specs.Sound.{sound_tone, sound_pervol, sound_write, no_pervol, forgets}
use Rattle.machine.proofs.Tests.{by_test, test_true, test_false, and_left, and_right, and_both}
use Rattle.machine.specs.Commands.{cycles_in, period_in, volume_in}
use Rattle.table.specs.Entry.{tone_bytes, pervol_bytes, number_bytes, tone_at, numbers_in}
use Rattle.numbers.specs.Numbers.{carried, pervol_kept, sound_numbers, Bytes, Told}

-- ---- sound_tone

and_false : (b : Bool) → (b && false) ≡ false
and_false true = refl
and_false false = refl

pub tone-long : (p v : ℕ) → 65536 < p → sound_tone p v ≡ false
unfolding sound_tone
tone-long p v h = rw (lt-leb p 65536 h, and_false) refl

pub tone-short : (p v : ℕ) → p < 124 → sound_tone p v ≡ false
unfolding sound_tone
tone-short p v h = rw (lt-leb 124 p h) refl

pub tone_good : (p v : ℕ) → 124 ≤ p → p ≤ 65536 → v ≤ 64 → sound_tone p v ≡ true
unfolding sound_tone
tone_good p v h g k = rw (le-leb 124 p h, le-leb p 65536 g, le-leb v 64 k) refl

pub tone-tested : (p v : ℕ) → 124 ≤ p → p ≤ 65536 → leb v 64 ≡ sound_tone p v
unfolding sound_tone
tone-tested p v h g = rw (le-leb 124 p h, le-leb p 65536 g) refl

-- ---- number_bytes

-- six bytes are the numbers that they carry
pub of_six : (ms : List ℕ) → length ms ≡ 6 → get_or ms 1 0 < 256 → get_or ms 3 0 < 256 → get_or ms 4 0 < 256
    → number_bytes (carried 0 ms)
    ≡ get_or ms 0 0 ∷ get_or ms 1 0 ∷ get_or ms 2 0 ∷ get_or ms 3 0 ∷ get_or ms 4 0 ∷ get_or ms 5 0 ∷ 0 ∷ 0 ∷ 0 ∷ 0 ∷ 0 ∷ 0 ∷ []
unfolding number_bytes cycles_in period_in volume_in
of_six [] h g k j = absurd (omega arith)
of_six (a ∷ []) h g k j = absurd (omega arith)
of_six (a ∷ b ∷ []) h g k j = absurd (omega arith)
of_six (a ∷ b ∷ c ∷ []) h g k j = absurd (omega arith)
of_six (a ∷ b ∷ c ∷ d ∷ []) h g k j = absurd (omega arith)
of_six (a ∷ b ∷ c ∷ d ∷ e ∷ []) h g k j = absurd (omega arith)
of_six (a ∷ b ∷ c ∷ d ∷ e ∷ f ∷ []) h g k j =
    let q : (256 * a + b) / 256 ≡ a = omega arith in
    let r : (256 * a + b) % 256 ≡ b = omega arith in
    let x : (65536 * c + (256 * d + e)) / 65536 ≡ c = omega arith in
    let y : (65536 * c + (256 * d + e)) / 256 % 256 ≡ d = omega arith in
    let z : (65536 * c + (256 * d + e)) % 256 ≡ e = omega arith in
    rw (q, r, x, y, z) refl
of_six (a ∷ b ∷ c ∷ d ∷ e ∷ f ∷ i ∷ ms) h g k j = absurd (omega arith)

-- none are 1, 124 and 64
pub of_none : (ms : List ℕ) → length ms ≡ 0 → number_bytes (carried 0 ms) ≡ 0 ∷ 1 ∷ 0 ∷ 0 ∷ 124 ∷ 64 ∷ 0 ∷ 0 ∷ 0 ∷ 0 ∷ 0 ∷ 0 ∷ []
unfolding number_bytes cycles_in period_in volume_in
of_none [] h = refl
of_none (m ∷ ms) h = absurd (omega arith)

-- ---- sound_numbers

-- three bytes of a period are those of the number that they make
tone-bytes : (c d e v : ℕ) → d < 256 → e < 256 → tone_bytes (65536 * c + (256 * d + e)) v ≡ c ∷ d ∷ e ∷ v ∷ []
tone-bytes c d e v h g =
    let x : (65536 * c + (256 * d + e)) / 65536 ≡ c = omega arith in
    let y : (65536 * c + (256 * d + e)) / 256 % 256 ≡ d = omega arith in
    let z : (65536 * c + (256 * d + e)) % 256 ≡ e = omega arith in
    rw (x, y, z) refl

-- a mark of 0 or 1
mark_byte : (g : ℕ) → g ≤ 1 → (if eqb g 1 then 1 else 0) ≡ g
mark_byte zero h = refl
mark_byte (suc zero) h = refl
mark_byte (suc (suc g)) h = absurd (omega arith)

byte_mark : (g : ℕ) → g ≡ (if eqb g 1 then 1 else 0) → g ≤ 1
byte_mark g e = by_test (eqb g 1) (λ t. let q = eqb→eq g 1 t in omega arith) (λ t. let q : g ≡ 0 = rw (test_false (eqb g 1) t) at e in omega arith)

module _ (h k l m n : ℕ) where
  abbrev later : Bool → Option (ℕ × ℕ)
  later t = if t then some (65536 * k + (256 * l + m), n) else none

  abbrev kept : Bool → Bool
  kept t = if t then sound_tone (65536 * k + (256 * l + m)) n else eqb h 0 && (eqb k 0 && (eqb l 0 && (eqb m 0 && eqb n 0)))

  later-bytes : (t : Bool) → eqb h 1 ≡ t → T (kept t) → l < 256 → m < 256 → pervol_bytes (later t) ≡ h ∷ k ∷ l ∷ m ∷ n ∷ []
  later-bytes true e u x y = rw (tone-bytes k l m n x y, eqb→eq h 1 (rw e tt)) refl
  later-bytes false e u x y =
      let v = eqb k 0 && (eqb l 0 && (eqb m 0 && eqb n 0)) in
      let w = eqb l 0 && (eqb m 0 && eqb n 0) in
      let z = eqb m 0 && eqb n 0 in
      let u1 = and_right (eqb h 0) v u in
      let u2 = and_right (eqb k 0) w u1 in
      let u3 = and_right (eqb l 0) z u2 in
      rw (
        eqb→eq h 0 (and_left (eqb h 0) v u),
        eqb→eq k 0 (and_left (eqb k 0) w u1),
        eqb→eq l 0 (and_left (eqb l 0) z u2),
        eqb→eq m 0 (and_left (eqb m 0) (eqb n 0) u3),
        eqb→eq n 0 (and_right (eqb m 0) (eqb n 0) u3),
      )
      refl

  later-sound : (t : Bool) → T (kept t) → T (sound_pervol (later t))
  unfolding sound_pervol
  later-sound true u = u
  later-sound false u = tt

  sound-later : (t : Bool) → T (sound_pervol (later t)) → h ∷ k ∷ l ∷ m ∷ n ∷ [] ≡ pervol_bytes (later t) → T (kept t)
  unfolding sound_pervol
  sound-later true u e = u
  sound-later false u e =
      let h0 : h ≡ 0 = ap (λ (x : List ℕ). get_or x 0 0) e in
      let k0 : k ≡ 0 = ap (λ (x : List ℕ). get_or x 1 0) e in
      let l0 : l ≡ 0 = ap (λ (x : List ℕ). get_or x 2 0) e in
      let m0 : m ≡ 0 = ap (λ (x : List ℕ). get_or x 3 0) e in
      let n0 : n ≡ 0 = ap (λ (x : List ℕ). get_or x 4 0) e in
      rw (h0, k0, l0, m0, n0) tt

  none_later : (t : Bool) → eqb h 1 ≡ t → h ≡ 0 → T (no_pervol (later t))
  unfolding no_pervol
  none_later true e z = absurd (let q = eqb→eq h 1 (rw e tt) in omega arith)
  none_later false e z = tt

  later_none : (t : Bool) → T (no_pervol (later t)) → h ∷ k ∷ l ∷ m ∷ n ∷ [] ≡ pervol_bytes (later t) → h ≡ 0
  unfolding no_pervol
  later_none true u e = absurd u
  later_none false u e = ap (λ (x : List ℕ). get_or x 0 0) e

unmarked : (g : ℕ) → g ≤ 1 → T (not (eqb g 1)) → g ≡ 0
unmarked zero h t = refl
unmarked (suc zero) h t = absurd t
unmarked (suc (suc g)) h t = absurd (omega arith)

or_true : (a b : Bool) → T (a || b) → T (not a) → T b
or_true true b t u = absurd u
or_true false b t u = t

or_when : (a b : Bool) → (T (not a) → T b) → T (a || b)
or_when true b f = tt
or_when false b f = f tt

module _ (i : ℕ) (front : Bool) (a b c d e f g h k l m n : ℕ) where
  abbrev spelt : List ℕ
  spelt = a ∷ b ∷ c ∷ d ∷ e ∷ f ∷ g ∷ h ∷ k ∷ l ∷ m ∷ n ∷ []

  abbrev tone : Bool
  tone = sound_tone (65536 * c + (256 * d + e)) f

  abbrev lone : Bool
  lone = eqb g 0 && eqb h 0

  abbrev count : Bool
  count = leb (256 * a + b) 65535

  record Sane : Type 0 where
    tone_ok : T tone
    mark : T (leb g 1)
    later : T (pervol_kept spelt)
    alone : T (front || lone)

  sane : T (sound_numbers front spelt) → Sane
  unfolding sound_numbers
  sane t =
      let q = leb g 1 in
      let r = pervol_kept spelt in
      let u = front || lone in
      let t1 = and_right tone (q && (r && u)) t in
      let t2 = and_right q (r && u) t1 in
      record { tone_ok = and_left tone (q && (r && u)) t; mark = and_left q (r && u) t1; later = and_left r u t2; alone = and_right r u t2 }

  sane_test : Sane → T (sound_numbers front spelt)
  unfolding sound_numbers
  sane_test s =
      let q = leb g 1 in
      let r = pervol_kept spelt in
      let u = front || lone in
      and_both tone (q && (r && u)) s.tone_ok (and_both q (r && u) s.mark (and_both r u s.later s.alone))

  module _ (z : Bytes spelt) where
    spelt-bytes : Sane → spelt ≡ number_bytes (numbers_in i spelt)
    unfolding number_bytes pervol_kept
    spelt-bytes s =
        let x : (256 * a + b) / 256 ≡ a = let y = z.second in omega arith in
        let y : (256 * a + b) % 256 ≡ b = let w = z.second in omega arith in
        let tones = tone-bytes c d e f z.fourth z.fifth in
        sym
        (rw (
          x,
          y,
          ap (λ (w : List ℕ). get_or w 0 0) tones,
          ap (λ (w : List ℕ). get_or w 1 0) tones,
          ap (λ (w : List ℕ). get_or w 2 0) tones,
          mark_byte g (leb→le g 1 s.mark),
          later-bytes h k l m n (eqb h 1) refl s.later z.tenth z.eleventh,
        )
        refl)

    spelt-sound : Sane → T (sound_write (numbers_in i spelt))
    unfolding sound_write pervol_kept
    spelt-sound s =
        let p = sound_pervol (later h k l m n (eqb h 1)) in
        and_both (count && tone) p (and_both count tone (le→leb (256 * a + b) 65535 (let u = z.first in let v = z.second in omega arith)) s.tone_ok) (later-sound h k l m n (eqb h 1) s.later)

    spelt_front : Sane → T (front || forgets (numbers_in i spelt))
    unfolding forgets
    spelt_front s =
        or_when front (not (eqb g 1) && no_pervol (later h k l m n (eqb h 1)))
        (λ u. let v = or_true front lone s.alone u in
        let g0 = eqb→eq g 0 (and_left (eqb g 0) (eqb h 0) v) in
        let h0 = eqb→eq h 0 (and_right (eqb g 0) (eqb h 0) v) in
        and_both (not (eqb g 1)) (no_pervol (later h k l m n (eqb h 1))) (rw g0 tt) (none_later h k l m n (eqb h 1) refl h0))

  spelt-sane : spelt ≡ number_bytes (numbers_in i spelt) → T (sound_write (numbers_in i spelt)) → T (front || forgets (numbers_in i spelt)) → Sane
  unfolding number_bytes pervol_kept sound_write forgets
  spelt-sane q t u =
      let p = sound_pervol (later h k l m n (eqb h 1)) in
      let g1 : g ≤ 1 = byte_mark g (ap (λ (y : List ℕ). get_or y 6 0) q) in
      let tail : h ∷ k ∷ l ∷ m ∷ n ∷ [] ≡ pervol_bytes (later h k l m n (eqb h 1)) = ap (drop 7) q in
      record {
        tone_ok = and_right count tone (and_left (count && tone) p t);
        mark = le→leb g 1 g1;
        later = sound-later h k l m n (eqb h 1) (and_right (count && tone) p t) tail;
        alone = or_when front lone
            (λ v. let w = or_true front (not (eqb g 1) && no_pervol (later h k l m n (eqb h 1))) u v in
            let g0 = unmarked g g1 (and_left (not (eqb g 1)) (no_pervol (later h k l m n (eqb h 1))) w) in
            let h0 = later_none h k l m n (eqb h 1) (and_right (not (eqb g 1)) (no_pervol (later h k l m n (eqb h 1))) w) tail in
            rw (g0, h0) tt);
      }

pub numbers-told : (i : ℕ) (front : Bool) (b : List ℕ) → length b ≡ 12 → Told i front b
numbers-told i front [] q = absurd (omega arith)
numbers-told i front (a ∷ []) q = absurd (omega arith)
numbers-told i front (a ∷ b ∷ []) q = absurd (omega arith)
numbers-told i front (a ∷ b ∷ c ∷ []) q = absurd (omega arith)
numbers-told i front (a ∷ b ∷ c ∷ d ∷ []) q = absurd (omega arith)
numbers-told i front (a ∷ b ∷ c ∷ d ∷ e ∷ []) q = absurd (omega arith)
numbers-told i front (a ∷ b ∷ c ∷ d ∷ e ∷ f ∷ []) q = absurd (omega arith)
numbers-told i front (a ∷ b ∷ c ∷ d ∷ e ∷ f ∷ g ∷ []) q = absurd (omega arith)
numbers-told i front (a ∷ b ∷ c ∷ d ∷ e ∷ f ∷ g ∷ h ∷ []) q = absurd (omega arith)
numbers-told i front (a ∷ b ∷ c ∷ d ∷ e ∷ f ∷ g ∷ h ∷ k ∷ []) q = absurd (omega arith)
numbers-told i front (a ∷ b ∷ c ∷ d ∷ e ∷ f ∷ g ∷ h ∷ k ∷ l ∷ []) q = absurd (omega arith)
numbers-told i front (a ∷ b ∷ c ∷ d ∷ e ∷ f ∷ g ∷ h ∷ k ∷ l ∷ m ∷ []) q = absurd (omega arith)
numbers-told i front (a ∷ b ∷ c ∷ d ∷ e ∷ f ∷ g ∷ h ∷ k ∷ l ∷ m ∷ n ∷ []) q = (
  λ z t. let s = sane i front a b c d e f g h k l m n t in (
    spelt-bytes i front a b c d e f g h k l m n z s,
    spelt-sound i front a b c d e f g h k l m n z s,
    spelt_front i front a b c d e f g h k l m n z s,
  ),
  λ p t u. sane_test i front a b c d e f g h k l m n (spelt-sane i front a b c d e f g h k l m n p t u),
)
numbers-told i front (a ∷ b ∷ c ∷ d ∷ e ∷ f ∷ g ∷ h ∷ k ∷ l ∷ m ∷ n ∷ x ∷ xs) q = absurd (omega arith)
