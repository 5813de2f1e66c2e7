-- The tests of the code are those of `refusal`; what is let in is a port, and has a display and room; a port is the port of its parts.
-- Assumes nothing.
use Prim.Native.Nat.{ℕ, ◌+◌, ◌*◌, ◌/◌, ◌%◌, ◌≤◌, ◌<◌}
use mathlib.Core.Path.{◌≡◌, refl, ap, ap₂, sym, ◌∙◌}
use mathlib.Core.Bool.{Bool, true, false, ◌&&◌}
use mathlib.Core.List.{List, ◌∷◌}
use native.Mathlib.Omega.{arith}
use borrow.Author.Tests.{eq-eqb, le-leb, lt-leb}
use lib.Dec.{T, eqb, leb, eqb→eq, leb→le}
use lib.ListN.{length, get_or, drop}
use lib.Seq.{drop-cons}
use Rattle.machine.specs.Lists.{all}
use Rattle.machine.proofs.Tests.{by_test, test_true, test_false, and_left, and_right}
use Rattle.display.specs.Display.{DISPLAY}
use Rattle.image.specs.Image.{is_byte}
use Rattle.image.proofs.Round.{bytes_each}
use Rattle.gathering.specs.Lumps.{LINE}
use Rattle.port.specs.sizes.Sizes.{PORT, ROOM}
use Rattle.port.specs.Port.{started_in, line_in, port_of}
use Rattle.admitting.specs.Admitting.{is_port, refusal_for, refusal, Proper}

-- ---- the tests

proper : (p : List ℕ) → T (is_port p) → Proper p
unfolding is_port
proper p t =
    let u = and_right (eqb (length p) PORT) (leb (started_in p) LINE && all is_byte p) t in
    record {
      long = eqb→eq (length p) PORT (and_left (eqb (length p) PORT) (leb (started_in p) LINE && all is_byte p) t);
      few = leb→le (started_in p) LINE (and_left (leb (started_in p) LINE) (all is_byte p) u);
      bytes = and_right (leb (started_in p) LINE) (all is_byte p) u;
    }

pub is_port_lem : (p : List ℕ) → Proper p → T (is_port p)
unfolding is_port
is_port_lem p h = rw (eq-eqb (length p) PORT h.long, le-leb (started_in p) LINE h.few) h.bytes

-- no port, whatever the room
no_port : (b : Bool) → 1 ≡ refusal_for false b
no_port true = refl
no_port false = refl

module _ (p : List ℕ) (shown room : ℕ) where
  -- whatever is no port, or no display
  pub bad_lent : (T (is_port p && eqb shown DISPLAY) → ⊥) → 1 ≡ refusal p shown room
  unfolding refusal
  bad_lent h =
      by_test (is_port p && eqb shown DISPLAY) (λ t. absurd (h t)) (λ t. rw (test_false (is_port p && eqb shown DISPLAY) t) (no_port (leb ROOM room)))

  pub bad_size : (length p ≡ PORT → ⊥) → 1 ≡ refusal p shown room
  bad_size h = bad_lent (λ t. h (proper p (and_left (is_port p) (eqb shown DISPLAY) t)).long)

  pub bad_display : (shown ≡ DISPLAY → ⊥) → 1 ≡ refusal p shown room
  bad_display h = bad_lent (λ t. h (eqb→eq shown DISPLAY (and_right (is_port p) (eqb shown DISPLAY) t)))

  pub bad_count : LINE < started_in p → 1 ≡ refusal p shown room
  bad_count h = bad_lent (λ t. let f = (proper p (and_left (is_port p) (eqb shown DISPLAY) t)).few in omega arith)

  module _ (h : Proper p) (d : shown ≡ DISPLAY) where
    good_lent : is_port p && eqb shown DISPLAY ≡ true
    good_lent = rw (test_true (is_port p) (is_port_lem p h), eq-eqb shown DISPLAY d)

    pub small_room : room < ROOM → 12 ≡ refusal p shown room
    unfolding refusal
    small_room g = rw (good_lent, lt-leb ROOM room g)

    pub no_refusal : ROOM ≤ room → 0 ≡ refusal p shown room
    unfolding refusal
    no_refusal g = rw (good_lent, le-leb ROOM room g)

-- a call that is not refused has a port, a display and room
none_refused : (a b : Bool) → refusal_for a b ≡ 0 → T a × T b
none_refused true true e = (tt, tt)
none_refused true false e = absurd (omega arith)
none_refused false true e = absurd (omega arith)
none_refused false false e = absurd (omega arith)

pub allowed : (p : List ℕ) (shown room : ℕ) → refusal p shown room ≡ 0 → Proper p × (shown ≡ DISPLAY) × (ROOM ≤ room)
unfolding refusal
allowed p shown room e =
    let t = none_refused (is_port p && eqb shown DISPLAY) (leb ROOM room) e in
    (proper p (and_left (is_port p) (eqb shown DISPLAY) t.0), eqb→eq shown DISPLAY (and_right (is_port p) (eqb shown DISPLAY) t.0), leb→le ROOM room t.1)

-- a port is the port of its parts
pub port_again : (p : List ℕ) → Proper p → port_of (started_in p) (line_in p) ≡ p
port_again p h =
    let a = get_or p 0 0 in
    let b = get_or p 1 0 in
    let k : b < 256 = bytes_each p h.bytes 1 in
    let l = h.long in
    let x : (a * 256 + b) / 256 ≡ a = omega arith in
    let y : (a * 256 + b) % 256 ≡ b = omega arith in
    ap₂ (λ (x y : ℕ). x ∷ y ∷ drop 2 p) x y ∙ sym (drop-cons p 0 0 (omega arith) ∙ ap (λ (x : List ℕ). a ∷ x) (drop-cons p 1 0 (omega arith)))
