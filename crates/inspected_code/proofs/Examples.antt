-- What a run of the code is, what it leaves and what is handed in, by computation, of the run of crates/nothing_left.
-- Assumes nothing.
use mathlib.Core.Path.{◌≡◌, refl}
use mathlib.Core.List.{List, [], ◌∷◌, ◌++◌, map}
use lib.ListN.{length, get_or, replicate, take}
use Rattle.machine.specs.State.{COMMAND, fresh_on, frees}
use Rattle.machine.specs.Machine.{machine}
use Rattle.machine.specs.Walks.{asks}
use Rattle.memory.specs.Splice.{block, splice}
use Rattle.display.specs.Looks.{beyond, reached, look_on, looks_in, looks, acting, looks_after, looked_by, looked}
use Rattle.display.specs.Display.{blank, names, writes_on, naming, number, corrected, displayed}
use Rattle.table.specs.Entry.{number_bytes, write_entry, wait_entry, span_entry}
use Rattle.board.specs.store.Store.{items, write_items, lookup, entries, table_of}
use Rattle.board.specs.Board.{fresh_board}
use Rattle.slipped.proofs.nothing_left.Witness.{run}
use Rattle.inspected_code.specs.Inspected.{Step, turns, board_after, table_after, display_after, handed}
use Rattle.inspected_code.proofs.Made.{made}

abbrev steps : List Step
steps = made (fresh_on 4) blank run

-- each answer's error, and how many replies it reports
pub happens : (map (λ t. t.outcome.answer.error) (turns steps) ≡ 0 ∷ 0 ∷ 0 ∷ 0 ∷ 0 ∷ 0 ∷ 4 ∷ 0 ∷ [])
    × (map (λ t. t.outcome.n) (turns steps) ≡ 0 ∷ 0 ∷ 0 ∷ 0 ∷ 1 ∷ 0 ∷ 0 ∷ 3 ∷ [])
unfolding machine frees
happens = (refl, refl)

-- the last key issued after nothing, six calls and all of them
pub leaves : map (λ k. (board_after (fresh_board 4) (take k steps)).state.last) (0 ∷ 6 ∷ 8 ∷ []) ≡ 0 ∷ 1 ∷ 3 ∷ []
unfolding machine frees board_after
leaves = refl

-- the first byte of the entries 7 and 8
pub tables : map (λ k. get_or (table_after (table_of (fresh_on 4)) (take k steps)) 161 0 ∷ get_or (table_after (table_of (fresh_on 4)) (take k steps)) 184 0 ∷ []) (0 ∷ 6 ∷ 8 ∷ [])
    ≡ (0 ∷ 0 ∷ []) ∷ (32 ∷ 13 ∷ []) ∷ (0 ∷ 0 ∷ []) ∷ []
unfolding machine frees table_after table_of entries lookup items write_items write_entry wait_entry number_bytes span_entry block splice
tables = refl

-- the display where the ALLOCATE that fails comes third
abbrev short : List Step
short = made (fresh_on 4) blank (take 2 run ++ asks (COMMAND 32) 9 0 0 128 0 (2 ∷ []) 64 ∷ [])

pub shows : map (λ k. display_after blank (take k short)) (0 ∷ 2 ∷ 3 ∷ []) ≡ blank ∷ blank ∷ (0 ∷ 0 ∷ 0 ∷ 1 ∷ replicate 13 0 ++ 1 ∷ []) ∷ []
unfolding machine frees display_after beyond reached look_on looks_in looks acting looks_after looked_by looked names writes_on naming number corrected displayed
shows = refl

-- what the first three calls were handed: command, id, combinations, and the length of the reply list
pub hands : map (λ h. (h.request.command ∷ h.request.id ∷ length h.lent ∷ []) ++ h.combos) (map handed (take 3 (turns steps)))
    ≡ (0 ∷ 0 ∷ 384 ∷ []) ∷ (32 ∷ 5 ∷ 384 ∷ 3 ∷ []) ∷ (13 ∷ 6 ∷ 384 ∷ []) ∷ []
unfolding machine handed
hands = refl
