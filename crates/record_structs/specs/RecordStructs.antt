-- Document 02, #110: "a list of records, one for each waiting request (id, precedence, held or not, desk), to be filled in order; a list
-- shorter than 64 gets 5 and is not written", as structs.
-- Assumes nothing.
--
--   waiter_at bs i            record i of the bytes bs, as a struct
--   waiters_from bs i n       n of them, from record i on
--   written bs n ws          the structs ws with the first n records in their place, and the others as they were
--   waiter_of cs r            the struct of a waiting request. proofs/Laws.antt proves that it is its record's
--   waiters_in s              those of all that wait in a state, in order
--   Unlisted c ws e n ws'    the refusal c: no struct, and nothing written
--   Full st tb ws e n ws'    0, and the structs of all that wait; those behind them stay
--   Tells st tb ws e n ws'   the promise of `waiting`: 1 comes before 5
--   Takes k b                a list of k structs takes b bytes of records: all, or none
--   Filled st tb k e n bs    the byte records bs serve a list of k structs, whatever they are
use Rattle.std.specs.Prelude.{ℕ, zero, suc, ◌+◌, ◌*◌, ◌%◌, ◌≤◌, ◌<◌, ◌≡◌, List, [], ◌∷◌, ◌++◌, map, eqb, length, get_or, drop}
use Rattle.machine.specs.Numbers.{UNSOUND, NOROOM}
use Rattle.machine.specs.State.{Channel, Request, State}
use Rattle.machine.specs.Desks.{desk_of}
use Rattle.machine.specs.Choosing.{look}
use Rattle.display.specs.Display.{holds}
use Rattle.image.specs.board.Board.{state_in}
use Rattle.image.specs.Image.{state_of}
use Rattle.waiting_list.specs.sizes.Sizes.{RECORDS}
use Rattle.waiting_list.specs.WaitingList.{Sound}
use Rattle.record_structs.specs.declared.Waiter.{Waiter}

abbrev pub waiter_at : List ℕ → ℕ → Waiter
waiter_at bs i =
    record { id = get_or bs (i * 4) 0; prec = get_or bs (i * 4 + 1) 0; held = eqb (get_or bs (i * 4 + 2) 0) 1; desk = get_or bs (i * 4 + 3) 0 }

unfoldable pub waiters_from : List ℕ → ℕ → ℕ → List Waiter
waiters_from bs i zero = []
waiters_from bs i (suc n) = waiter_at bs i ∷ waiters_from bs (suc i) n

unfoldable pub written : List ℕ → ℕ → List Waiter → List Waiter
written bs n ws = waiters_from bs 0 n ++ drop n ws

abbrev pub waiter_of : List Channel → Request → Waiter
waiter_of cs r =
    record { id = r.id; prec = (r.prec + 128) % 256; held = holds (look r.prec r.combos cs); desk = desk_of r.id }

abbrev pub waiters_in : State → List Waiter
waiters_in s = map (waiter_of s.channels) s.waiting

pub record Unlisted (c : ℕ) (ws : List Waiter) (e n : ℕ) (ws' : List Waiter) : Type 0 where
  pub error : e ≡ c
  pub count : n ≡ 0
  pub list : ws' ≡ ws

pub record Full (st tb : List ℕ) (ws : List Waiter) (e n : ℕ) (ws' : List Waiter) : Type 0 where
  pub error : e ≡ 0
  pub count : n ≡ length (state_in (state_of st) tb).waiting
  pub list : ws' ≡ waiters_in (state_in (state_of st) tb) ++ drop n ws

pub record Tells (st tb : List ℕ) (ws : List Waiter) (e n : ℕ) (ws' : List Waiter) : Type 0 where
  pub unsound : (Sound st tb → ⊥) → Unlisted UNSOUND ws e n ws'
  pub short : Sound st tb → length ws < 64 → Unlisted NOROOM ws e n ws'
  pub full : Sound st tb → 64 ≤ length ws → Full st tb ws e n ws'

pub record Takes (k b : ℕ) : Type 0 where
  pub none : k < 64 → b ≡ 0
  pub all : 64 ≤ k → b ≡ RECORDS

pub record Filled (st tb : List ℕ) (k e n : ℕ) (bs : List ℕ) : Type 0 where
  pub few : n ≤ 64
  pub within : n ≤ k
  pub tells : (ws : List Waiter) → length ws ≡ k → Tells st tb ws e n (written bs n ws)
