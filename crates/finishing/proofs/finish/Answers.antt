-- `finish` meets its contract: without room nothing is done, and with it what `take_end` answered is put on the page. Assumes nothing.
use mathlib.Core.Path.{refl, sym, ◌∙◌}
use borrow.Author.Tests.{leb-true}
use Rattle.finishing.proofs.Laws.{end_few, end_size, end_held, end_put, full-stays}
use Rattle.finishing.proofs.finish.Goals as goal

pub returns-then-not-room : goal.returns-then-not-room
returns-then-not-room c =
    let a = c.args in (
      c.requires.0,
      full-stays a.show c.requires.1 a.display.now a.line.now a.n a.page.now a.at
          (sym c.room.ensures ∙ c.if-not-room.true),
    )

pub slice_bounds-put-end : goal.slice_bounds-put-end
slice_bounds-put-end c =
    end_size c.take_end-last.ensures.1
    c.requires.1 refl

pub put-requires : goal.put-requires
put-requires c =
    let held = c.requires.1 in
    let e = c.take_end-last.ensures in
    let fits = sym c.room.ensures ∙ c.if-not-room.false in
    (e.0, end_few e.1 held, sym (end_size e.1 held refl), end_held e.1 held, leb-true _ _ fits)

pub returns : goal.returns
returns c =
    let e = c.take_end-last.ensures in (
      e.0,
      end_put e.1 c.requires.1
          (sym c.room.ensures ∙ c.if-not-room.false) c.put.ensures,
    )
