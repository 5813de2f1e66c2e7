-- `falling` meets its contract: the walk over the requests left, from the last precedence on, is the whole walk. Assumes nothing.
use mathlib.Core.Path.{refl}
use lib.Dec.{ltb→lt}
use Rattle.table_rest.proofs.Turns.{fell_stop, fell_more, fell_end}
use Rattle.placing.proofs.Cases.{all_at}
use borrow.Author.Rules.{rules}
use Rattle.table_rest.proofs.falling.Goals as goal

pub loop-id-init : goal.loop-id-init
loop-id-init c = record { rest = refl }

pub prec-p-requires : goal.prec-p-requires
prec-p-requires c = (ltb→lt _ 64 (all_at _ _ c.loop-id.id-index 0 c.requires.2 (search rules)), search rules)

pub returns-then-p-last : goal.returns-then-p-last
returns-then-p-last c = fell_stop c.loop-id.invariant (search rules) _ c.prec-p.ensures c.if-p-last.true

pub loop-id-preserved : goal.loop-id-preserved
loop-id-preserved c = fell_more c.loop-id.invariant (search rules) _ c.prec-p.ensures c.if-p-last.false

pub returns : goal.returns
returns c = fell_end c.loop-id.invariant (search rules)
