-- A port's parts are read back from it, and a port is made of its parts. Assumes nothing.
use Prim.Native.Nat.{ℕ}
use mathlib.Core.Path.{◌≡◌, refl, ap, ◌∙◌}
use mathlib.Core.List.{List, ◌++◌}
use native.Mathlib.Omega.{arith}
use native.Mathlib.Nat.{div-add-mod'}
use lib.ListN.{length}
use Rattle.machine.specs.InBytes.{two_bytes}
use Rattle.memory.specs.Splice.{splice}
use Rattle.memory.proofs.Splice.{splice_then}
use Rattle.image.proofs.Laws.{splice_whole}
use Rattle.gathering.specs.Lumps.{LINE}
use Rattle.sizes.specs.Sizes.{PORT}
use Rattle.port.specs.Port.{started_in, line_in, port_of}

-- ---- a port and its parts

-- keep's two stores
pub port_kept : (p l : List ℕ) (n m : ℕ) {p₁ p₂ : List ℕ} → length p ≡ PORT → length l ≡ LINE → m ≡ n → p₁ ≡ splice p 0 (two_bytes m) → p₂ ≡ splice p₁ 2 l → p₂ ≡ port_of n l
port_kept p l n m h g e a b =
    b ∙ ap (λ (x : List ℕ). splice x 2 l) (a ∙ ap (λ (k : ℕ). splice p 0 (two_bytes k)) e) ∙ splice_then p 0 (two_bytes n) l 2 refl (omega arith) ∙ splice_whole p (two_bytes n ++ l) (omega arith)

module _ (n : ℕ) (l : List ℕ) where
  pub started_back : started_in (port_of n l) ≡ n
  started_back = div-add-mod' n 256

  pub line_back : line_in (port_of n l) ≡ l
  line_back = refl
