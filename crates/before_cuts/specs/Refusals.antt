-- Document 01, "Numbers a caller can get back": the refusals of form, in their order.
-- "Order: 1, 5, 4, 3, 2, -3, -4, -5, then -1 for OPEN, then the key or allocation rule. Steps that don't concern a call are
-- skipped: OPEN, CLOSE and the event carry no id; OPEN, ABORT and the event don't need an open device; ABORT isn't refused
-- for an outstanding id." "ABORT and CLOSE read no map."
-- Assumes nothing.
--
--   Refusal, first ts   a refusal's number or none; the number of the first test of a list that is met
--   bad_list c           more than 16 combinations
--   bad_maps c s         a combination above 15 (on four channels; on eight none is)
--   bad_map c s          a map above 15 (on four channels; on eight none is)
--   refusal op c s      the refusal of a call
--   refuse op e c s     what a call refused with e comes to: the state stays
use Rattle.std.specs.Prelude.{ℕ, ◌^◌, Bool, true, false, not, ◌&&◌, List, [], ◌∷◌, eqb, leb, ltb, length, if◌then◌else◌}
use Rattle.before_cuts.specs.Numbers.{OPENFAIL, NOCMD, BADLENGTH, BADADDRESS, UNSOUND, NOTOPEN, INUSE, BADID, NOROOM, REQUESTS, COMBOS, ENTRIES, NONE}
use Rattle.machine.specs.Lists.{any, among}
use Rattle.before_cuts.specs.State.{State, Outcome, Call, Op, OPEN, CLOSE, ABORT, EVENT, COMMAND}
use Rattle.before_cuts.specs.Commands.{done, silent, finished}
use Rattle.before_cuts.specs.Sound.{sound, ids}
use Rattle.before_cuts.specs.Kinds.{kind, unknown, allocates}

pub data Refusal : Type 0 where
  accepted : Refusal
  refused : ℕ → Refusal

unfoldable pub first : List (Bool × ℕ) → Refusal
first [] = accepted
first (t ∷ ts) = if t.0 then refused t.1 else first ts

unfoldable pub bad_list : Call → Bool
bad_list c = ltb COMBOS (length c.combos)

unfoldable pub bad_maps : Call → State → Bool
bad_maps c s = any (λ m. not (ltb m (2 ^ length s.channels))) c.combos

unfoldable pub bad_map : Call → State → Bool
bad_map c s = not (ltb c.map (2 ^ length s.channels))

unfoldable pub refusal : Op → Call → State → Refusal
refusal OPEN c s =
    first
    ((not (sound s), UNSOUND)
    ∷ (ltb c.room REQUESTS, NOROOM)
    ∷ (bad_list c, BADLENGTH)
    ∷ (bad_maps c s, BADADDRESS)
    ∷ (leb ENTRIES (length s.opens), OPENFAIL)
    ∷ [])
refusal CLOSE c s = first ((not (sound s), UNSOUND) ∷ (ltb c.room REQUESTS, NOROOM) ∷ (not (among c.key s.opens), NOTOPEN) ∷ [])
refusal ABORT c s = first ((not (sound s), UNSOUND) ∷ (ltb c.room REQUESTS, NOROOM) ∷ (ltb 63 c.id, BADID) ∷ [])
refusal EVENT c s = first ((not (sound s), UNSOUND) ∷ (ltb c.room REQUESTS, NOROOM) ∷ (bad_map c s, BADADDRESS) ∷ [])
refusal (COMMAND n) c s =
    first
    ((not (sound s), UNSOUND)
    ∷ (ltb c.room REQUESTS, NOROOM)
    ∷ (ltb 63 c.id, BADID)
    ∷ (among c.id (ids s), INUSE)
    ∷ (eqb (length s.opens) 0, NOTOPEN)
    ∷ (unknown (kind n), NOCMD)
    ∷ (allocates (kind n) && bad_list c, BADLENGTH)
    ∷ (if allocates (kind n) then bad_maps c s else bad_map c s, BADADDRESS)
    ∷ [])

-- "After 1 to 5 the reply list is too; after -3, -4 and -5 it gains only the command's own reply, if due." "A refused call
-- answers map 0 .. and the key it was given."
unfoldable pub refuse : Op → ℕ → Call → State → Outcome
refuse OPEN e c s = silent (done e 0 c.key NONE) [] s
refuse CLOSE e c s = silent (done e 0 c.key NONE) [] s
refuse ABORT e c s = silent (done e 0 c.key NONE) [] s
refuse EVENT e c s = silent (done e 0 c.key NONE) [] s
refuse (COMMAND n) e c s = if leb e NOROOM then silent (done e 0 c.key NONE) [] s else finished n c (done e 0 c.key NONE) [] s
