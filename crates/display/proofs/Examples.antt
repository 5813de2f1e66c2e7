-- The display by computation: on one state, not at rest, the numbers, the looks, the list of who waits and the lines of a log, and what
-- calls make of them. Each row would be another if one of the definitions were.
-- Assumes nothing.
--
--   busy, calm        the state of the examples; one in which nobody waits
--   Shows, row        a state, a call, the display before and after
--   Shown rs          each row computes
use Prim.Native.Nat.{ℕ, ◌+◌}
use mathlib.Core.Path.{◌≡◌, refl}
use mathlib.Core.Bool.{true, false}
use mathlib.Core.List.{List, [], ◌∷◌, ◌++◌, map}
use lib.ListN.{replicate}
use Rattle.widening.specs.machine.State.{State, Call, OPEN, CLOSE, ABORT, EVENT, CYCLE_ENDED, COMMAND, free, with_waiting}
use Rattle.widening.specs.machine.Text.{bytes, page}
use Rattle.widening.specs.machine.Walks.{plays, chan, wait, stands, asks}
use Rattle.widening.specs.machine.Machine.{machine}
use Rattle.display.specs.Looks.{beyond, reached, look_on, looks_in, looks, acting, looks_after, looked_by, looked}
use Rattle.display.specs.Display.{names, writes_on, naming, number, numbers_from, numbers, corrected, displayed, holds, record_of, records, load_line, request_lines, display_lines}

-- channel 0 has two writes, 1 is free, 2 is locked. Request 31 fails and stays; 32 fails with NOWAIT; 33 is held; 5 can have channel 1,
-- and names it twice; 6 stands behind it and fails.
abbrev pub busy : State
busy =
    stands (chan 7 200 false false (plays 1 1 124 64 ∷ plays 2 1 124 64 ∷ []) ∷ free ∷ chan 9 100 true false [] ∷ chan 7 200 false false [] ∷ []) [] []
    (wait 31 0 190 false (1 ∷ [])
    ∷ wait 32 0 180 true (8 ∷ 1 ∷ [])
    ∷ wait 33 0 170 false (4 ∷ 5 ∷ [])
    ∷ wait 5 0 160 false (2 ∷ 6 ∷ 2 ∷ [])
    ∷ wait 6 0 150 false (1 ∷ [])
    ∷ [])
    (7 ∷ []) 9

abbrev pub calm : State
calm = with_waiting [] busy

-- ---- the numbers and the looks

-- "each channel's number of writes and the number of waiting allocations naming it"
pub busy-numbers : numbers busy ≡ 2 ∷ 4 ∷ 0 ∷ 1 ∷ 0 ∷ 2 ∷ 0 ∷ 1 ∷ replicate 8 0
unfolding machine names writes_on naming number numbers_from
busy-numbers = refl

-- the first walk looks at four and grants the fourth; the second, from the head, at the three that are left
pub busy-looks : looks busy ≡ 4 + 3
unfolding machine beyond reached look_on looks_in looks
busy-looks = refl

-- ---- a call

pub record Shows : Type 0 where
  pub state : State
  pub ask : Call
  pub before : List ℕ
  pub after : List ℕ

abbrev pub row : State → Call → List ℕ → List ℕ → Shows
row s c d e = record { state = s; ask = c; before = d; after = e }

abbrev pub Shown : List Shows → Type 0
Shown rs = map (λ r. displayed r.state r.ask r.before) rs ≡ map (λ r. r.after) rs

-- a display of eight numbers and the looks: the other eight are 0
abbrev pub shows : List ℕ → ℕ → ℕ → List ℕ
shows ns h l = ns ++ replicate 8 0 ++ h ∷ l ∷ []

abbrev pub right : List ℕ
right = shows (2 ∷ 4 ∷ 0 ∷ 1 ∷ 0 ∷ 2 ∷ 0 ∷ 1 ∷ []) 2 3

abbrev pub rows : List Shows
rows =
    -- ABORT of an idle id settles: 32 is dropped, 5 is granted
    row busy (asks ABORT 60 1 0 128 7 [] 64) right (shows (2 ∷ 3 ∷ 0 ∷ 0 ∷ 0 ∷ 1 ∷ 0 ∷ 0 ∷ []) 0 7)
    -- numbers that do not agree are corrected, not recounted
    ∷ row busy (asks ABORT 60 1 0 128 7 [] 64) (shows (250 ∷ 1 ∷ 255 ∷ 0 ∷ 9 ∷ 9 ∷ 9 ∷ 9 ∷ []) 0 0) (shows (250 ∷ 0 ∷ 255 ∷ 255 ∷ 9 ∷ 8 ∷ 9 ∷ 8 ∷ []) 0 7)
    -- a cycle of channel 0 ends, and with it its front write
    ∷ row busy (asks (EVENT CYCLE_ENDED) 0 0 1 128 0 [] 64) right (shows (1 ∷ 3 ∷ 0 ∷ 0 ∷ 0 ∷ 1 ∷ 0 ∷ 0 ∷ []) 0 7)
    -- ALLOCATE waits for channel 3, and is looked at
    ∷ row busy (asks (COMMAND 32) 7 0 0 140 7 (8 ∷ []) 64) right (shows (2 ∷ 3 ∷ 0 ∷ 0 ∷ 0 ∷ 1 ∷ 0 ∷ 1 ∷ []) 0 8)
    -- CLOSE frees channels 0 and 3: 31 and 32 are granted at the head, 5 behind 33, which is held
    ∷ row busy (asks CLOSE 0 0 0 128 7 [] 64) right (shows (0 ∷ 2 ∷ 0 ∷ 0 ∷ 0 ∷ 1 ∷ 0 ∷ 0 ∷ []) 0 6)
    -- OPEN is answered -11: nothing settles, and the looks stay
    ∷ row busy (asks OPEN 0 0 0 190 7 (1 ∷ []) 64) right right
    -- refused with 4, with 5
    ∷ row busy (asks ABORT 64 1 0 128 7 [] 64) right right
    ∷ row busy (asks ABORT 60 1 0 128 7 [] 63) right right
    -- nobody waits
    ∷ row calm (asks ABORT 60 1 0 128 7 [] 64) (shows (2 ∷ 0 ∷ 0 ∷ 0 ∷ 0 ∷ 0 ∷ 0 ∷ 0 ∷ []) 2 3) (shows (2 ∷ 0 ∷ 0 ∷ 0 ∷ 0 ∷ 0 ∷ 0 ∷ 0 ∷ []) 0 0)
    ∷ []

pub rows-shown : Shown rows
unfolding machine beyond reached look_on looks_in looks acting looks_after looked_by looked names writes_on naming number numbers_from corrected displayed
rows-shown = refl

-- ---- who waits, and the lines of a log

pub busy-waits : records busy.channels busy.waiting
    ≡ (31 ∷ 62 ∷ 0 ∷ 0 ∷ []) ++ (32 ∷ 52 ∷ 0 ∷ 1 ∷ []) ++ (33 ∷ 42 ∷ 1 ∷ 1 ∷ []) ++ (5 ∷ 32 ∷ 0 ∷ 0 ∷ []) ++ (6 ∷ 22 ∷ 0 ∷ 0 ∷ [])
unfolding machine holds record_of records
busy-waits = refl

-- four channels, then the looks; E1 for each request
pub busy-lines : display_lines busy right
    ≡ page ("E002040001000200010203" ∷ "E11F3E0000" ∷ "E120340001" ∷ "E1212A0101" ∷ "E105200000" ∷ "E106160000" ∷ [])
unfolding machine holds record_of load_line request_lines display_lines bytes page
busy-lines = refl
