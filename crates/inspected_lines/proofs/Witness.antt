-- The log of document 01, and a WRITE under key 9, which is on no channel, inserted before its last line, where a request is held:
-- what each line writes, with it and without it, by computation. And which lines may be inserted there.
-- Assumes nothing.
--
--   before, slipped, behind    the first four lines; the line inserted; the last line
use Prim.Native.Nat.{ℕ}
use mathlib.Core.Path.{◌≡◌, refl}
use mathlib.Core.Bool.{true, false}
use mathlib.Core.List.{List, [], ◌∷◌, ◌++◌, map}
use lib.Dec.{T}
use lib.ListN.{length, replicate}
use Rattle.machine.specs.State.{fresh_on, frees}
use Rattle.machine.specs.Machine.{machine}
use Rattle.machine.specs.Text.{bytes, page}
use Rattle.machine.specs.Log.{lines, run}
use Rattle.display.specs.Looks.{beyond, reached, look_on, looks_in, looks, acting, looks_after, looked_by, looked}
use Rattle.display.specs.Display.{blank, names, writes_on, naming, number, corrected, displayed, displayed_by}
use Rattle.slipped.specs.Slipped.{slip}
use Rattle.inspected_lines.specs.Lines.{call_in, calls_in, slips_by, outputs, shown_by, logging}

abbrev pub before : List (List ℕ)
before =
    -- OPEN; ALLOCATE 5 at 10 for 03 or 0C; LOCK 6 of channel 0; ALLOCATE 7 with NOWAIT at 20 for 03, which is held
    lines (page ("F000000000000000" ∷ "200501000A000102030C" ∷ "0D06000100000100" ∷ "200740001400000103" ∷ []))

-- WRITE 9 under key 9
abbrev pub slipped : List ℕ
slipped = bytes "0309000100000900"

-- FREE 8 of channels 0 and 1: 7 is granted
abbrev pub behind : List (List ℕ)
behind = lines (page ("0908010300000100" ∷ []))

pub slips_there : T (slips_by (run (fresh_on 4) before).next (call_in slipped))
unfolding machine frees bytes page slip logging
slips_there = tt

pub written_with : outputs (fresh_on 4) (before ++ slipped ∷ behind)
    ≡ page ("A000000001FF" ∷ [])
    ∷ page ("A000030001FF" ∷ [])
    ∷ page ("A100000001FF" ∷ [])
    ∷ page ("C0060DF4010001" ∷ "A100000000FF" ∷ [])
    ∷ page ("C00903F6000009" ∷ "A0F6000009FF" ∷ [])
    ∷ page ("C0072000030002" ∷ "A000030001FF" ∷ [])
    ∷ []
unfolding machine frees bytes page logging
written_with = refl

pub written_without : outputs (fresh_on 4) (before ++ behind)
    ≡ page ("A000000001FF" ∷ [])
    ∷ page ("A000030001FF" ∷ [])
    ∷ page ("A100000001FF" ∷ [])
    ∷ page ("C0060DF4010001" ∷ "A100000000FF" ∷ [])
    ∷ page ("C0072000030002" ∷ "A000030001FF" ∷ [])
    ∷ []
unfolding machine frees bytes page logging
written_without = refl

-- a malformed line is no call: six lines and one more, six calls; and it leaves the display, where one request names channels 0 and 1
pub calls_there : length (calls_in (before ++ bytes "no line" ∷ slipped ∷ behind)) ≡ 6
unfolding machine bytes page logging
calls_there = refl

pub shown_there : shown_by (fresh_on 4) (before ++ bytes "no line" ∷ []) blank ≡ 0 ∷ 1 ∷ 0 ∷ 1 ∷ replicate 13 0 ++ 1 ∷ []
unfolding machine frees bytes page logging beyond reached look_on looks_in looks acting looks_after looked_by looked names writes_on naming number corrected displayed displayed_by
shown_there = refl

-- FREE under key 1, ALLOCATE, ABORT of 7; desk B's LOCK under key 0, an unknown command; a malformed line
pub which_slip : map (λ l. slips_by (run (fresh_on 4) before).next (call_in (bytes l)))
    ("0908010300000100" ∷ "2009010000000900" ∷ "F207000000000900" ∷ "0D28000300000000" ∷ "FF09000300000900" ∷ "no line" ∷ [])
    ≡ false ∷ false ∷ false ∷ true ∷ true ∷ false ∷ []
unfolding machine frees bytes page slip logging
which_slip = refl
