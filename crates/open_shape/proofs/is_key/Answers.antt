-- `is_key` meets its contract: its argument has two bytes. Assumes nothing.
use Prim.Native.Nat.{◌≤◌}
use Rattle.open_shape.proofs.Laws.{key_is}
use borrow.Author.Rules.{rules}
use Rattle.open_shape.proofs.is_key.Goals as goal

pub returns : goal.returns
returns c = let h : c.args.k ≤ 65535 = search rules in key_is _ h
