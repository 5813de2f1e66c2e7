-- The assurance is about something: into the run of crates/nothing_left, where locks are told and requests are held and granted, a
-- FREE under key 9 and a WRITE under key 0 are inserted. Each meets the premises, settles and is replied to; the others get the same.
-- Behind the second the looks show what it looked at, until a call settles.
-- Assumes nothing.
--
--   frees9, writes0   the two commands
--   early, late       the calls before the FREE, and behind it
use Prim.Native.Nat.{ℕ}
use mathlib.Core.Path.{◌≡◌, refl}
use mathlib.Core.Bool.{false}
use mathlib.Core.List.{List, [], ◌∷◌, ◌++◌}
use lib.Dec.{T}
use lib.ListN.{take, drop, replicate}
use Rattle.machine.specs.State.{Call, COMMAND, fresh_on, frees}
use Rattle.machine.specs.Call.{call}
use Rattle.machine.specs.Machine.{machine}
use Rattle.machine.specs.Walks.{asks, reply, says}
use Rattle.display.specs.Looks.{beyond, reached, look_on, looks_in, looks, acting, looks_after, looked_by, looked}
use Rattle.display.specs.Display.{blank, names, writes_on, naming, number, corrected, displayed}
use Rattle.display.specs.Runs.{after_calls, shown_after}
use Rattle.nothing_left.specs.Settles.{opens, settles}
use Rattle.nothing_left.proofs.Witness.{run}
use Rattle.slipped.specs.Slipped.{slips, settles_one, Inserted, slip}
use Rattle.slipped.proofs.Slipped.{nothing-slipped_in}

abbrev pub frees9 : Call
frees9 = asks (COMMAND 9) 11 0 15 128 9 [] 64

abbrev pub writes0 : Call
writes0 = asks (COMMAND 3) 40 0 1 128 0 [] 64

abbrev pub early : List Call
early = take 7 run

abbrev pub late : List Call
late = drop 7 run

-- ---- where two wait and a lock is outstanding

pub frees9-slips : T (slips (after_calls (fresh_on 4) early) frees9)
unfolding machine after_calls frees slip
frees9-slips = tt

-- it is answered -10, and replied to
pub frees9-answered : ((call (after_calls (fresh_on 4) early) frees9).answer ≡ says false 246 0 9 255)
    × ((call (after_calls (fresh_on 4) early) frees9).replies ≡ reply 11 9 246 0 9 ∷ [])
unfolding machine after_calls frees
frees9-answered = (refl, refl)

pub frees9_unseen : Inserted (fresh_on 4) early frees9 late
frees9_unseen = nothing-slipped_in 4 early frees9 late frees9-slips

-- ---- behind the whole run, where the last settling had looked at two

pub writes0-slips : T (slips (after_calls (fresh_on 4) run) writes0)
unfolding machine after_calls frees slip
writes0-slips = tt

-- READ with id 64, which is refused
abbrev pub refused_read : Call
refused_read = asks (COMMAND 2) 64 0 1 128 1 [] 64

-- ALLOCATE 12 at -128 for channel 0, which waits
abbrev pub asks12 : Call
asks12 = asks (COMMAND 32) 12 0 0 0 0 (1 ∷ []) 64

abbrev shows : List ℕ → ℕ → List ℕ
shows ns k = ns ++ replicate 12 0 ++ 0 ∷ k ∷ []

-- the looks of the WRITE show behind the refused call
pub looks_show : (shown_after (fresh_on 4) (run ++ refused_read ∷ []) blank ≡ shows (0 ∷ 0 ∷ 0 ∷ 0 ∷ []) 2)
    × (shown_after (fresh_on 4) (run ++ writes0 ∷ refused_read ∷ []) blank ≡ shows (0 ∷ 0 ∷ 0 ∷ 0 ∷ []) 0)
unfolding machine after_calls shown_after frees beyond reached look_on looks_in looks acting looks_after looked_by looked names writes_on naming number corrected displayed
looks_show = (refl, refl)

-- and no more where a call settles
pub looks-settle : T (settles_one (after_calls (fresh_on 4) run) (refused_read ∷ asks12 ∷ []))
    × (shown_after (fresh_on 4) (run ++ refused_read ∷ asks12 ∷ []) blank ≡ shows (0 ∷ 1 ∷ 0 ∷ 0 ∷ []) 1)
unfolding machine after_calls shown_after frees opens settles settles_one beyond reached look_on looks_in looks acting looks_after looked_by looked names writes_on naming number corrected displayed
looks-settle = (tt, refl)

pub looks_same : shown_after (fresh_on 4) (run ++ writes0 ∷ refused_read ∷ asks12 ∷ []) blank ≡ shown_after (fresh_on 4) (run ++ refused_read ∷ asks12 ∷ []) blank
looks_same = (nothing-slipped_in 4 run writes0 (refused_read ∷ asks12 ∷ []) writes0-slips).looks looks-settle.0
