-- `recount` meets its contract: a fresh display agrees with a fresh state, so corrected to the state it is the count. Assumes nothing.
use Prim.Native.Nat.{ℕ}
use mathlib.Core.Path.{ap, ◌∙◌}
use mathlib.Core.List.{List, ◌++◌, map}
use lib.ListN.{take}
use Rattle.widening.specs.machine.InBytes.{two_bytes}
use Rattle.waiting.proofs.Finding.{readable}
use Rattle.correcting.specs.channel_numbers.ChannelNumbers.{count_at, moved}
use Rattle.board.proofs.Laws.{held_wide}
use Rattle.recounting.proofs.Recounting.{recounted}
use Rattle.recounting.proofs.recount.Goals as goal

pub words_of-waiting-requires : goal.words_of-waiting-requires
words_of-waiting-requires c = readable (held_wide c.requires.0).0

pub returns : goal.returns
returns c =
    let st = c.args.b.state in
    c.show.ensures
    ∙ (ap (λ (x : List ℕ). moved (count_at (map (λ c. c.writes.n) st.channels) c.words_of-waiting.result)
    (count_at (map (λ c. c.writes.n) c.fresh-fresh.result.channels) 0) 0 (take 16 x) ++ two_bytes 0)
    c.clear.ensures
    ∙ recounted c.requires.0 c.args.display.now c.requires.1 c.fresh-fresh.ensures c.words_of-waiting.ensures)
