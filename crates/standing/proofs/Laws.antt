-- A promise of all channels of a standing is never empty: each standing is that of some. Assumes nothing.
use Prim.Native.Nat.{ℕ, suc, ◌^◌, ◌<◌}
use mathlib.Core.Path.{◌≡◌, refl, ap, ap₂, sym, ◌∙◌}
use mathlib.Core.Bool.{Bool, true, false, not}
use mathlib.Core.List.{List, [], ◌∷◌, map}
use native.Mathlib.Nat.{pow-suc}
use native.Mathlib.Omega.{arith}
use lib.Dec.{eqb}
use lib.ListN.{length}
use Rattle.std.specs.Prelude.{if◌then◌else◌}
use Rattle.machine.specs.State.{Channel, is_free}
use Rattle.machine.specs.Maps.{odd, half, bit}
use Rattle.channel.proofs.machine_laws.Maps.{bit_of}
use Rattle.standing.specs.declared.Standing.{Standing}
use Rattle.standing.specs.Standing.{failing, Stood}

-- ---- a standing is that of some channels, and channels have one

pub one_standing : (cs : List Channel) (a b : Standing) → Stood cs a → Stood cs b → a ≡ b
one_standing cs a b s t =
    let x = s.busy ∙ sym t.busy in
    let y = s.locked ∙ sym t.locked in
    let z = s.precs ∙ sym t.precs in
    λ i. record { busy = x i; locked = y i; precs = z i }

-- a channel of a precedence, allocated or not, locked or not
some : ℕ → Bool → Bool → Channel
some p b l = record { key = (if b then 1 else 0); prec = p; locked = l; stopped = false; writes = [] }

these : ℕ → ℕ → List ℕ → List Channel
these b l [] = []
these b l (p ∷ ps) = some p (odd b) (odd l) ∷ these (half b) (half l) ps

these_precs : (b l : ℕ) (ps : List ℕ) → ps ≡ map (λ c. c.prec) (these b l ps)
unfolding these some
these_precs b l [] = refl
these_precs b l (p ∷ ps) = ap (λ (x : List ℕ). p ∷ x) (these_precs (half b) (half l) ps)

half_lt : (n m : ℕ) → m < 2 ^ suc n → half m < 2 ^ n
unfolding half
half_lt n m h = omega (arith, pow-suc 2 n)

these_busy : (b l : ℕ) (ps : List ℕ) → b < 2 ^ length ps → b ≡ failing is_free (these b l ps)
unfolding these some failing
these_busy b l [] h = omega arith
these_busy b l (p ∷ ps) h = sym (bit_of b) ∙ ap₂ bit (go (odd b)) (these_busy (half b) (half l) ps (half_lt (length ps) b h))
  where
    go : (x : Bool) → x ≡ not (eqb (if x then 1 else 0) 0)
    go true = refl
    go false = refl

these_locked : (b l : ℕ) (ps : List ℕ) → l < 2 ^ length ps → l ≡ failing (λ c. not c.locked) (these b l ps)
unfolding these some failing
these_locked b l [] h = omega arith
these_locked b l (p ∷ ps) h = sym (bit_of l) ∙ ap₂ bit (go (odd l)) (these_locked (half b) (half l) ps (half_lt (length ps) l h))
  where
    go : (x : Bool) → x ≡ not (not x)
    go true = refl
    go false = refl

pub some_channels : (t : Standing) → t.busy < 256 → t.locked < 256 → length t.precs ≡ 8 → (cs : List Channel) × Stood cs t
some_channels t b l e = (
  these t.busy t.locked t.precs,
  record {
    busy = these_busy t.busy t.locked t.precs (rw e b);
    locked = these_locked t.busy t.locked t.precs (rw e l);
    precs = these_precs t.busy t.locked t.precs;
  },
)

-- so a promise of all its channels has one answer
pub one_answer : {A : Type 0} (t : Standing) → t.busy < 256 → t.locked < 256 → length t.precs ≡ 8 → (f : List Channel → A) {a b : A}
    → ((cs : List Channel) → Stood cs t → a ≡ f cs) → ((cs : List Channel) → Stood cs t → b ≡ f cs) → a ≡ b
one_answer t p q r f x y = let s = some_channels t p q r in x s.0 s.1 ∙ sym (y s.0 s.1)
