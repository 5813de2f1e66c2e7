-- `open_at` meets its contract: the count stands in front of the keys. Assumes nothing.
use mathlib.Core.Path.{ap}
use mathlib.Core.List.{List}
use lib.ListN.{get_or}
use Prim.Native.Nat.{ℕ}
use Rattle.open_keys.specs.declared.Keys.{Keys}
use Rattle.image.specs.Image.{open_at}
use Rattle.decoding.proofs.open_at.Goals as goal

pub returns : goal.returns
unfolding open_at
returns c =
    let a = c.args in
    ap {A = List ℕ} {B = Keys} (λ (ks : List ℕ). record { n = get_or a.bytes.now a.at 0; keys = ks }) c.keys_at-keys.ensures
