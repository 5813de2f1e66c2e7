-- `close` meets its contract: what stands behind the key's first place moves up. Assumes nothing.
use mathlib.Core.Path.{◌≡◌, ◌∙◌}
use native.Mathlib.Omega.{arith}
use lib.ListN.{length}
use lib.Seq.{length-take-le}
use borrow.Author.Rules.{rules}
use Rattle.queue.proofs.Laws.{found, missing}
use Rattle.open_keys.specs.OpenKeys.{keys_in, index_of}
use Rattle.open_keys.proofs.Laws.{place_is, close_absent, close_tidy}
use Rattle.open_keys.proofs.Keys.close.Goals as goal

pub returns-in-Some : goal.returns-in-Some
returns-in-Some c =
    let q = c.args.self in
    let k = c.args.key in
    let ks = keys_in q in
    let few : length ks ≡ q.n = length-take-le q.n q.keys (search rules) in
    let f = found (index_of k ks) (length ks) (c.find.ensures ∙ place_is k ks) c.in-Some.is in
    rw c.close_up.ensures (close_tidy q (search rules) k _ f.0 (search rules) (omega (arith, f.1, few)))

pub returns-in-None : goal.returns-in-None
returns-in-None c =
    let q = c.args.self in
    let k = c.args.key in
    let ks = keys_in q in
    let few : length ks ≡ q.n = length-take-le q.n q.keys (search rules) in
    close_absent q (search rules) k (omega (arith, few, missing (index_of k ks) (length ks) (c.find.ensures ∙ place_is k ks) c.in-None.is))
