-- The run of crates/nothing_left, and the FREE of crates/slipped, as a program in C makes them; and what a run at the boundary leaves
-- and what is handed in, by computation, of three calls.
-- Assumes nothing.
--
--   early, frees9, late   the calls: before the FREE, the FREE, behind it
use Prim.Native.Nat.{ℕ}
use mathlib.Core.Path.{◌≡◌, refl}
use mathlib.Core.List.{List, [], ◌∷◌, ◌++◌, map}
use lib.ListN.{length, get_or, replicate, take}
use Rattle.machine.specs.State.{fresh_on, frees}
use Rattle.machine.specs.Desks.{desk_of}
use Rattle.machine.specs.Machine.{machine}
use Rattle.memory.specs.Splice.{block, splice}
use Rattle.display.specs.Looks.{beyond, reached, look_on, looks_in, looks, acting, looks_after, looked_by, looked}
use Rattle.display.specs.Display.{blank, names, writes_on, naming, number, corrected, displayed}
use Rattle.table.specs.Entry.{number_bytes, write_entry, wait_entry, span_entry}
use Rattle.image.specs.store.Store.{items, write_items, lookup, entries, table_of}
use Rattle.image.specs.Image.{channel_bytes, channels_bytes, image_of}
use Rattle.c_runs.specs.handed.Handed.{answer_bytes}
use Rattle.c_runs.specs.CRuns.{Turn}
use Rattle.c_runs.specs.Made.{Ask, bytes_of}
use Rattle.slipped.proofs.nothing_left.Witness.{run}
use Rattle.inspected_bytes.specs.Inspected.{state_after, table_after, display_after, handed, back}
use Rattle.inspected_bytes.proofs.Made.{made, spelts}

-- operation, id, flags, map, precedence, key, combinations; the desk is the id's
abbrev pub ask : ℕ → ℕ → ℕ → ℕ → ℕ → ℕ → List ℕ → Ask
ask op i f m p k l = record { desk = desk_of i; op = op; id = i; flags = f; map = m; prec = p; key = k; combos = l }

abbrev pub early : List Ask
early =
    ask 0xF0 0 0 0 0 0 []
    ∷ ask 32 5 1 0 10 1 (3 ∷ [])
    ∷ ask 13 6 0 1 0 1 []
    ∷ ask 13 8 0 2 0 1 []
    ∷ ask 32 7 64 0 20 0 (1 ∷ [])
    ∷ ask 32 9 0 0 0 0 (2 ∷ [])
    ∷ ask 2 64 0 1 0 1 []
    ∷ []

abbrev pub frees9 : Ask
frees9 = ask 9 11 0 15 0 9 []

abbrev pub late : List Ask
late = ask 9 10 1 3 0 1 [] ∷ []

-- they are the calls of that run
pub same_run : spelts (early ++ late) ≡ run
unfolding machine
same_run = refl

-- OPEN, an ALLOCATE that is granted, one that waits
abbrev short : List Turn
short = made (fresh_on 4) blank (ask 0xF0 0 0 0 0 0 [] ∷ ask 32 5 0 0 10 1 (3 ∷ []) ∷ ask 32 9 0 0 0 0 (2 ∷ []) ∷ [])

-- the results, the bytes of each answer, and the first record of each list
pub happens : (map (λ t. (back t).n) short ≡ 0 ∷ 1 ∷ 0 ∷ [])
    × (map (λ t. (back t).answer) short ≡ (0 ∷ 0 ∷ 0 ∷ 0 ∷ 1 ∷ 255 ∷ 0 ∷ 0 ∷ []) ∷ (0 ∷ 0 ∷ 3 ∷ 0 ∷ 1 ∷ 255 ∷ 1 ∷ 0 ∷ []) ∷ (1 ∷ 0 ∷ 0 ∷ 0 ∷ 0 ∷ 255 ∷ 0 ∷ 0 ∷ []) ∷ [])
    × (map (λ t. take 6 (back t).list) short ≡ replicate 6 0 ∷ (5 ∷ 32 ∷ 0 ∷ 3 ∷ 0 ∷ 1 ∷ []) ∷ replicate 6 0 ∷ [])
unfolding machine frees answer_bytes splice back
happens = (refl, refl, refl)

-- the state's first five bytes: key, precedence and marks of channel 0
pub leaves : map (λ k. take 5 (state_after (bytes_of (fresh_on 4)) (take k short))) (0 ∷ 2 ∷ 3 ∷ [])
    ≡ (0 ∷ 0 ∷ 128 ∷ 0 ∷ 0 ∷ []) ∷ (0 ∷ 1 ∷ 138 ∷ 0 ∷ 0 ∷ []) ∷ (0 ∷ 1 ∷ 138 ∷ 0 ∷ 0 ∷ []) ∷ []
unfolding machine frees state_after image_of channels_bytes channel_bytes
leaves = refl

-- the first byte of entry 9
pub tables : map (λ k. get_or (table_after (table_of (fresh_on 4)) (take k short)) 207 0) (0 ∷ 2 ∷ 3 ∷ []) ≡ 0 ∷ 0 ∷ 32 ∷ []
unfolding machine frees table_after table_of entries lookup items write_items write_entry wait_entry number_bytes span_entry block splice
tables = refl

pub shows : map (λ k. display_after blank (take k short)) (0 ∷ 2 ∷ 3 ∷ []) ≡ blank ∷ blank ∷ (0 ∷ 0 ∷ 0 ∷ 1 ∷ replicate 13 0 ++ 1 ∷ []) ∷ []
unfolding machine frees display_after beyond reached look_on looks_in looks acting looks_after looked_by looked names writes_on naming number corrected displayed
shows = refl

-- what is handed in: desk, operation, id, map, precedence, key, the lengths of the reply list and of the room, combinations
pub hands : map (λ h. (h.desk ∷ h.op ∷ h.id ∷ h.map ∷ h.prec ∷ h.key ∷ length h.lent ∷ length h.room ∷ []) ++ h.combos) (map handed short)
    ≡ (0 ∷ 0xF0 ∷ 0 ∷ 0 ∷ 0 ∷ 0 ∷ 384 ∷ 8 ∷ []) ∷ (0 ∷ 32 ∷ 5 ∷ 0 ∷ 10 ∷ 1 ∷ 384 ∷ 8 ∷ 3 ∷ []) ∷ (0 ∷ 32 ∷ 9 ∷ 0 ∷ 0 ∷ 0 ∷ 384 ∷ 8 ∷ 2 ∷ []) ∷ []
unfolding machine handed
hands = refl
