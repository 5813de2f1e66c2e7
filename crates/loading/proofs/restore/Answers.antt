-- `restore` meets its contract: the whole table is written, and what was read is held, so that it can be counted. Assumes nothing.
use mathlib.Core.Path.{refl, sym, subst, ◌∙◌}
use native.Mathlib.Omega.{arith}
use Rattle.image.specs.Image.{Saved}
use Rattle.image.proofs.board.Laws.{held_length}
use Rattle.memory.proofs.Splice.{splice_all}
use Rattle.loading.proofs.restore.Goals as goal

pub copy-requires : goal.copy-requires
copy-requires c =
    let f = held_length c.requires.0 in
    let t = c.requires.1.table in
    omega arith

pub returns : goal.returns
returns c =
    let h = c.requires.0 in
    record {
      result = refl;
      state = subst (λ b. Saved b c.save.new.bytes) h.struct c.save.ensures;
      table = c.copy.ensures ∙ splice_all c.args.table.now _ (held_length h ∙ sym c.requires.1.table) ∙ h.table;
      display = c.recount.ensures;
    }
