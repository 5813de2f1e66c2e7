-- `has` meets its contract: the key stands before the end exactly if it is among the keys. Assumes nothing.
use mathlib.Core.Path.{◌≡◌, ap, ◌∙◌}
use lib.ListN.{length}
use lib.Dec.{ltb}
use lib.Seq.{length-take-le}
use borrow.Author.Rules.{rules}
use Rattle.std.specs.Option.{is_some}
use Rattle.queue.proofs.Laws.{told}
use Rattle.open_keys.specs.OpenKeys.{keys_in, index_of}
use Rattle.open_keys.proofs.Laws.{has_is, place_is}
use Rattle.open_keys.proofs.Keys.has.Goals as goal

pub returns : goal.returns
returns c =
    let q = c.args.self in
    let k = c.args.key in
    let few : length (keys_in q) ≡ q.n = length-take-le q.n q.keys (search rules) in
    c.is_some.ensures
    ∙ told (index_of k (keys_in q)) (length (keys_in q)) (c.find.ensures ∙ place_is k (keys_in q)) ∙ ap (ltb (index_of k (keys_in q))) few ∙ has_is q k (search rules) (search rules)
