-- Which premises are needed, by computation: for each of them a state and a command that fails that one alone, and a later call that
-- is answered otherwise with the command than without it. What is asked of the id is not needed: those rows are answered the same.
-- Assumes nothing.
--
--   busy            key 1 has channels 0 and 1, with a write on 0; 60 waits for channel 0
--   premises s c    each premise: a command other than ALLOCATE, id valid, idle, the desk's, key on no channel, nothing left standing
--   needed, free    the rows where they differ, one premise failing; those where they do not
use Prim.Native.Nat.{ℕ}
use mathlib.Core.Path.{◌≡◌, refl}
use mathlib.Core.Bool.{Bool, true, false, not, ◌&&◌}
use mathlib.Core.List.{List, [], ◌∷◌, map}
use lib.Dec.{ltb}
use Rattle.machine.specs.Numbers.{REQUESTS}
use Rattle.machine.specs.Lists.{among}
use Rattle.machine.specs.State.{State, Call, OPEN, ABORT, EVENT, CYCLE_ENDED, COMMAND, fresh_on, frees}
use Rattle.machine.specs.Desks.{foreign}
use Rattle.machine.specs.Sound.{sound, ids}
use Rattle.machine.specs.Machine.{machine}
use Rattle.machine.specs.Walks.{asks, asks_from, unrested}
use Rattle.display.specs.Runs.{after_calls}
use Rattle.nothing_left.specs.Settles.{opens, settles}
use Rattle.nothing_left.specs.NothingLeft.{none_goes, none_fails, none_in_the_way, left}
use Rattle.slipped.specs.Slipped.{other_command, on_no_channel, slips, outcomes, leaving_out, settles_one, slip}
use Rattle.slipped.specs.Needed.{tells, Row, row, Told}

abbrev pub busy : State
busy =
    after_calls (fresh_on 4)
    (asks OPEN 0 0 0 128 0 [] 64
    ∷ asks (COMMAND 32) 5 1 0 138 1 (3 ∷ []) 64
    ∷ asks (COMMAND 3) 6 0 1 128 1 [] 64
    ∷ asks (COMMAND 32) 60 0 0 128 0 (1 ∷ []) 64
    ∷ [])

abbrev premises : State → Call → List Bool
premises s c =
    other_command c.op ∷ ltb c.id REQUESTS ∷ not (among c.id (ids s)) ∷ not (foreign c) ∷ on_no_channel c.key s
    ∷ (none_goes s && none_fails s && none_in_the_way s) ∷ []

-- QUICK, of the id's desk, with a full reply list
abbrev sends : ℕ → ℕ → ℕ → ℕ → List ℕ → Call
sends n i m k ms = asks (COMMAND n) i 1 m 128 k ms 64

-- ---- needed

abbrev not_acommand : List Bool
not_acommand = false ∷ true ∷ true ∷ true ∷ true ∷ true ∷ []

abbrev not_absent : List Bool
not_absent = true ∷ true ∷ true ∷ true ∷ false ∷ true ∷ []

abbrev not_at_rest : List Bool
not_at_rest = true ∷ true ∷ true ∷ true ∷ true ∷ false ∷ []

abbrev needed : List Row
needed =
    -- ALLOCATE of channel 2 under key 0: an ALLOCATE of it with NOWAIT fails
    row busy (sends 32 7 0 0 (4 ∷ [])) (asks (COMMAND 32) 8 65 0 128 0 (4 ∷ []) 64) not_acommand (0 ∷ 4 ∷ 2 ∷ 255 ∷ []) (245 ∷ 0 ∷ 0 ∷ 255 ∷ [])
    -- OPEN: the next gets another key
    ∷ row busy (asks OPEN 7 0 0 128 0 [] 64) (asks OPEN 8 0 0 128 0 [] 64) not_acommand (0 ∷ 0 ∷ 2 ∷ 255 ∷ []) (0 ∷ 0 ∷ 3 ∷ 255 ∷ [])
    -- an event on channel 0, under no key: it ends the write 6
    ∷ row busy (asks (EVENT CYCLE_ENDED) 7 0 1 128 0 [] 64) (sends 2 8 1 1 []) not_acommand (0 ∷ 1 ∷ 1 ∷ 6 ∷ []) (0 ∷ 1 ∷ 1 ∷ 255 ∷ [])
    -- FREE under key 1: 60 is granted channel 0, and READ finds it another's
    ∷ row busy (sends 9 7 1 1 []) (sends 2 8 1 1 []) not_absent (0 ∷ 1 ∷ 1 ∷ 6 ∷ []) (246 ∷ 0 ∷ 1 ∷ 255 ∷ [])
    -- FLUSH, STOP and WRITE under key 1, on the channel of write 6 or on the other
    ∷ row busy (sends 8 7 1 1 []) (sends 2 8 1 1 []) not_absent (0 ∷ 1 ∷ 1 ∷ 6 ∷ []) (0 ∷ 1 ∷ 1 ∷ 255 ∷ [])
    ∷ row busy (sends 6 7 1 1 []) (sends 2 8 1 1 []) not_absent (0 ∷ 1 ∷ 1 ∷ 6 ∷ []) (0 ∷ 1 ∷ 1 ∷ 255 ∷ [])
    ∷ row busy (sends 3 7 2 1 []) (sends 2 8 2 1 []) not_absent (0 ∷ 2 ∷ 1 ∷ 255 ∷ []) (0 ∷ 2 ∷ 1 ∷ 7 ∷ [])
    -- LOCK under key 1 of channel 1, which is not locked: an ALLOCATE that would steal it is held
    ∷ row busy (sends 13 7 2 1 []) (asks (COMMAND 32) 8 65 0 148 0 (2 ∷ []) 64) not_absent (0 ∷ 2 ∷ 2 ∷ 255 ∷ []) (0 ∷ 0 ∷ 0 ∷ 255 ∷ 7 ∷ [])
    -- a state as a load may bring it: READ settles, and 60 is granted, so that ABORT finds it idle
    ∷ row unrested (sends 2 7 1 9 []) (asks ABORT 60 0 0 128 0 [] 64) not_at_rest (0 ∷ 0 ∷ 0 ∷ 1 ∷ 60 ∷ []) (0 ∷ 0 ∷ 0 ∷ 0 ∷ [])
    ∷ []

pub needed-sound : map (λ r. sound r.state) needed ≡ map (λ _. true) needed
unfolding machine after_calls frees
needed-sound = refl

pub needed_but_for_one : map (λ r. premises r.state r.slipped) needed ≡ map (λ r. r.holds) needed
unfolding machine after_calls frees left slip
needed_but_for_one = refl

pub needed-told : Told needed
unfolding machine after_calls frees outcomes
needed-told = (refl, refl)

-- in a state that is not at rest it may even reply to another: 60 is granted
pub replies_to_another : tells unrested (sends 2 7 1 9 [] ∷ []) ≡ (246 ∷ 0 ∷ 9 ∷ 255 ∷ 60 ∷ []) ∷ []
unfolding machine outcomes
replies_to_another = refl

-- ---- not needed

-- under key 9, which is on no channel
abbrev harmless : List Row
harmless =
    -- an id that is outstanding; id 64; an id of the other desk
    row busy (sends 9 60 1 9 []) (sends 2 8 1 1 []) (true ∷ true ∷ false ∷ true ∷ true ∷ true ∷ []) (0 ∷ 1 ∷ 1 ∷ 6 ∷ []) (0 ∷ 1 ∷ 1 ∷ 6 ∷ [])
    ∷ row busy (sends 9 64 1 9 []) (sends 2 8 1 1 []) (true ∷ false ∷ true ∷ true ∷ true ∷ true ∷ []) (0 ∷ 1 ∷ 1 ∷ 6 ∷ []) (0 ∷ 1 ∷ 1 ∷ 6 ∷ [])
    ∷ row busy (asks_from 1 (COMMAND 9) 7 1 1 128 9 [] 64) (sends 2 8 1 1 []) (true ∷ true ∷ true ∷ false ∷ true ∷ true ∷ []) (0 ∷ 1 ∷ 1 ∷ 6 ∷ []) (0 ∷ 1 ∷ 1 ∷ 6 ∷ [])
    -- and with all premises: key 0, an unknown command
    ∷ row busy (sends 9 7 1 0 []) (sends 2 8 1 1 []) (true ∷ true ∷ true ∷ true ∷ true ∷ true ∷ []) (0 ∷ 1 ∷ 1 ∷ 6 ∷ []) (0 ∷ 1 ∷ 1 ∷ 6 ∷ [])
    ∷ row busy (sends 255 7 1 9 []) (sends 2 8 1 1 []) (true ∷ true ∷ true ∷ true ∷ true ∷ true ∷ []) (0 ∷ 1 ∷ 1 ∷ 6 ∷ []) (0 ∷ 1 ∷ 1 ∷ 6 ∷ [])
    ∷ []

pub harmless_but_for_one : map (λ r. premises r.state r.slipped) harmless ≡ map (λ r. r.holds) harmless
unfolding machine after_calls frees left slip
harmless_but_for_one = refl

pub harmless-told : Told harmless
unfolding machine after_calls frees outcomes
harmless-told = (refl, refl)

-- the whole premise: of the rows above only that of the state not at rest has it, of these the last two
pub rows-slip : (map (λ r. slips r.state r.slipped) needed ≡ false ∷ false ∷ false ∷ false ∷ false ∷ false ∷ false ∷ false ∷ true ∷ [])
    × (map (λ r. slips r.state r.slipped) harmless ≡ false ∷ false ∷ false ∷ true ∷ true ∷ [])
unfolding machine after_calls frees slip
rows-slip = (refl, refl)

-- ---- a run, what is left out of it, and when the looks are a later call's

-- each call begins in the state that the one before it left: FREE grants 60 channel 0, and READ finds it another's
pub run_goes_on : tells busy (sends 9 7 1 1 [] ∷ sends 2 8 1 1 [] ∷ []) ≡ (0 ∷ 1 ∷ 1 ∷ 255 ∷ 6 ∷ 60 ∷ []) ∷ (246 ∷ 0 ∷ 1 ∷ 255 ∷ []) ∷ []
unfolding machine after_calls frees outcomes
run_goes_on = refl

pub one_left_out : map (λ k. leaving_out {A = ℕ} k (5 ∷ 6 ∷ 7 ∷ [])) (0 ∷ 1 ∷ 2 ∷ 3 ∷ []) ≡ (6 ∷ 7 ∷ []) ∷ (5 ∷ 7 ∷ []) ∷ (5 ∷ 6 ∷ []) ∷ (5 ∷ 6 ∷ 7 ∷ []) ∷ []
unfolding leaving_out
one_left_out = refl

-- nothing behind it; a call that is refused; then one that settles
pub settling_behind : map (settles_one busy) ([] ∷ (sends 2 64 1 1 [] ∷ []) ∷ (sends 2 64 1 1 [] ∷ sends 2 8 1 1 [] ∷ []) ∷ []) ≡ false ∷ false ∷ true ∷ []
unfolding machine after_calls frees opens settles slip
settling_behind = refl
