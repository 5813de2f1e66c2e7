-- `once` meets its contract: where the map names the channel its head is stored again. Assumes nothing.
use mathlib.Core.Path.{ap, sym, ◌∙◌}
use Rattle.image.proofs.Laws.{whole_long}
use Rattle.lent_channels.specs.declared.Channel.{Channel as Head}
use Rattle.named_channels.specs.Named.{changed_head}
use Rattle.named_channels.proofs.Turning.{once-named, once-passed}
use Rattle.named_channels.proofs.once.Goals as goal

pub head-c-requires : goal.head-c-requires
head-c-requires c = (c.requires.1, whole_long _ c.requires.0)

pub put_head-requires : goal.put_head-requires
put_head-requires c = (c.requires.1, whole_long _ c.requires.0)

pub shape_of-state : goal.shape_of-state
shape_of-state c = c.put_head.ensures.long

pub returns-then-names : goal.returns-then-names
returns-then-names c =
    let p = c.requires in
    let a = c.args in
    once-named a.how a.map a.i p.0 p.2 p.3 (sym c.names.ensures ∙ c.if-names.true) (c.changed-d.ensures ∙ ap (λ (h : Head). changed_head a.how h) c.head-c.ensures) c.put_head.ensures

pub returns-else-names : goal.returns-else-names
returns-else-names c =
    let a = c.args in
    once-passed a.how a.map a.i a.state.now c.requires.0 (sym c.names.ensures ∙ c.if-names.false)
