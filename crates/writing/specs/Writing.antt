-- Where a write joins. Assumes nothing.
--
--   joined r ms       the write that a request with the numbers ms makes
--   Joins i r ms s .. the promise of `join`: the write at the back of channel i, and its entry in the table
use Rattle.std.specs.Prelude.{ℕ, ◌*◌, ◌≡◌, List}
use Rattle.memory.specs.Splice.{splice}
use Rattle.numbers.specs.table.Entry.{write_entry}
use Rattle.answers.specs.machine.State.{Write}
use Rattle.numbers.specs.Numbers.{carried}
use Rattle.answers.specs.store.declared.State.{State}
use Rattle.answers.specs.store.Store.{struct_of, state_in}
use Rattle.answers.specs.declared.Request.{Request}
use Rattle.play.specs.Play.{with_back}

abbrev pub joined : Request → List ℕ → Write
joined r ms = carried r.id ms

abbrev pub Joins : ℕ → Request → List ℕ → State → List ℕ → State → List ℕ → Type 0
Joins i r ms s tb t tb' = (t ≡ struct_of (with_back i (joined r ms) (state_in s tb))) × (tb' ≡ splice tb (r.id * 23) (write_entry r.key (joined r ms)))
