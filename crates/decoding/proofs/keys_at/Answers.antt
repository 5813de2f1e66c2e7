-- `keys_at` meets its contract: the keys at 32 places, one after another, are those of the definition. Assumes nothing.
use Prim.Native.Nat.{◌+◌, ◌*◌}
use mathlib.Core.Path.{◌∙◌}
use Rattle.std.proofs.Common.{rules}
use borrow.Author.Tests.{tests}
use Rattle.image.specs.Image.{key_at}
use Rattle.decoding.proofs.Made.{made, keys_made}
use Rattle.decoding.proofs.keys_at.Goals as goal

pub returns : goal.returns
returns c =
    let a = c.args in
    made _ (λ i. key_at a.bytes.now (a.at + 2 * i)) _ _ (λ i y q k. search (rules, tests)) 0 c.from_fn.ensures.items
    ∙ keys_made a.bytes.now a.at
