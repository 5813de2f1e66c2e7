-- What nothing left standing is, by computation, on sound states as a load may bring them: for each of its three parts a state that
-- fails that part alone, and states where all hold though requests wait, one is held and locks are outstanding. So "without loads" is
-- needed: after a load, and after every call that does not settle, a request may stand that could be granted.
-- Assumes nothing.
--
--   tells s      the three tests
--   Row, row     a state, and what they say
--   rows         the table
--   Calling      a call, and whether it settles in `unrested`
use mathlib.Core.Path.{◌≡◌, refl}
use mathlib.Core.Bool.{Bool, true, false}
use mathlib.Core.List.{List, [], ◌∷◌, map}
use Rattle.machine.specs.State.{State, Call, OPEN, CLOSE, ABORT, EVENT, CYCLE_ENDED, COMMAND, free}
use Rattle.machine.specs.Machine.{machine}
use Rattle.machine.specs.Sound.{sound}
use Rattle.machine.specs.Walks.{chan, lock, wait, stands, asks, asks_from, unrested}
use Rattle.display.specs.Runs.{after_calls}
use Rattle.nothing_left.specs.Settles.{opens, settles}
use Rattle.nothing_left.specs.NothingLeft.{none_goes, none_fails, none_in_the_way, left}

abbrev pub tells : State → List Bool
tells s = none_goes s ∷ none_fails s ∷ none_in_the_way s ∷ []

pub record Row : Type 0 where
  pub state : State
  pub says : List Bool

abbrev pub row : State → List Bool → Row
row s bs = record { state = s; says = bs }

abbrev pub rows : List Row
rows =
    -- 60 waits for channels 2 and 3, which are free
    row unrested (false ∷ true ∷ true ∷ [])
    -- 60 waits behind 61, which fails and stays
    ∷ row (stands (chan 1 255 false false [] ∷ free ∷ []) [] [] (wait 61 0 200 false (1 ∷ []) ∷ wait 60 0 128 true (2 ∷ []) ∷ []) (1 ∷ []) 1) (false ∷ true ∷ true ∷ [])
    -- 60 fails with NOWAIT
    ∷ row (stands (chan 1 255 false false [] ∷ free ∷ []) [] [] (wait 60 0 128 true (1 ∷ []) ∷ []) (1 ∷ []) 1) (true ∷ false ∷ true ∷ [])
    -- 60 has chosen channel 0, which lock 6 is over
    ∷ row (stands (chan 1 133 true false [] ∷ free ∷ []) (lock 6 1 1 ∷ []) [] (wait 60 0 140 false (1 ∷ []) ∷ []) (1 ∷ []) 1) (true ∷ true ∷ false ∷ [])
    -- 60 has chosen channel 1, which lock 6 is over together with channel 0
    ∷ row (stands (chan 1 133 true false [] ∷ chan 1 133 true false [] ∷ []) (lock 6 1 3 ∷ []) [] (wait 60 0 140 true (2 ∷ []) ∷ []) (1 ∷ []) 1)
    (true ∷ true ∷ false ∷ [])
    -- 60 fails and may wait; lock 6 is over the channel that it names, but has not chosen
    ∷ row (stands (chan 1 255 true false [] ∷ free ∷ []) (lock 6 1 1 ∷ []) [] (wait 60 0 128 false (1 ∷ []) ∷ []) (1 ∷ []) 1) (true ∷ true ∷ true ∷ [])
    -- 60 is held with NOWAIT for channel 0, whose lock has been replied -12; lock 6 is over channel 1
    ∷ row (stands (chan 1 133 true false [] ∷ chan 1 133 true false [] ∷ []) (lock 6 1 2 ∷ []) [] (wait 60 0 140 true (1 ∷ []) ∷ []) (1 ∷ []) 1)
    (true ∷ true ∷ true ∷ [])
    ∷ []

pub rows-sound : map (λ r. sound r.state) rows ≡ map (λ _. true) rows
unfolding machine
rows-sound = refl

pub rows_told : map (λ r. tells r.state) rows ≡ map (λ r. r.says) rows
unfolding machine left
rows_told = refl

-- ---- which calls settle

pub record Calling : Type 0 where
  pub ask : Call
  pub walks : Bool

abbrev pub calling : Call → Bool → Calling
calling c b = record { ask = c; walks = b }

-- in `unrested` key 1 is on channel 0, and 60 waits
abbrev pub callings : List Calling
callings =
    -- a short reply list: 5
    calling (asks ABORT 7 1 0 128 1 [] 63) false
    -- id 64: 4
    ∷ calling (asks (COMMAND 2) 64 1 1 128 1 [] 64) false
    -- an id of the other desk: 8
    ∷ calling (asks_from 1 (COMMAND 2) 7 1 1 128 1 [] 64) false
    -- an id that is outstanding: 3
    ∷ calling (asks (COMMAND 2) 60 1 1 128 1 [] 64) false
    -- CLOSE of a key without an entry: 2
    ∷ calling (asks CLOSE 0 1 0 128 9 [] 64) false
    -- an unknown command: -3
    ∷ calling (asks (COMMAND 15) 7 1 0 128 1 [] 64) false
    -- WRITE with one number: -4
    ∷ calling (asks (COMMAND 3) 7 1 1 128 1 (1 ∷ []) 64) false
    -- a map above 15: -5
    ∷ calling (asks (EVENT CYCLE_ENDED) 0 0 16 128 0 [] 64) false
    -- OPEN that fails: -11
    ∷ calling (asks OPEN 0 0 0 128 0 (1 ∷ []) 64) false
    -- ALLOCATE that fails: -11
    ∷ calling (asks (COMMAND 32) 7 65 0 128 0 (1 ∷ []) 64) true
    -- READ under another key: -10
    ∷ calling (asks (COMMAND 2) 7 1 1 128 9 [] 64) true
    -- ABORT of an idle id; an event on a free channel; OPEN; CLOSE
    ∷ calling (asks ABORT 7 1 0 128 1 [] 64) true
    ∷ calling (asks (EVENT CYCLE_ENDED) 0 0 2 128 0 [] 64) true
    ∷ calling (asks OPEN 0 0 0 128 0 [] 64) true
    ∷ calling (asks CLOSE 0 1 0 128 1 [] 64) true
    ∷ []

pub callings-settle : map (λ x. settles unrested x.ask) callings ≡ map (λ x. x.walks) callings
unfolding machine opens settles
callings-settle = refl

-- what does not settle leaves 60 standing; what does grants it
pub callings_leave : map (λ x. none_goes (after_calls unrested (x.ask ∷ []))) callings ≡ map (λ x. x.walks) callings
unfolding machine left after_calls
callings_leave = refl
