-- Document 02, #109: what pins the two desks. Which ids are whose, who is refused with 8 and when, what READ hides, that no other
-- operation looks at the desk, and that a log has no 8.
-- Assumes nothing.
use Prim.Native.Nat.{ℕ}
use mathlib.Core.Path.{◌≡◌, refl, ap, ◌∙◌}
use mathlib.Core.Bool.{true, false, not}
use mathlib.Core.List.{List, [], ◌∷◌}
use lib.Dec.{eqb, eqb_refl}
use lib.ListN.{get_or}
use Rattle.machine.specs.Numbers.{OTHERDESK, BADID, INUSE}
use Rattle.machine.specs.Lists.{keep}
use Rattle.machine.specs.State.{Write, State, Call, Op, OPEN, ABORT, COMMAND, free}
use Rattle.machine.specs.Desks.{desk_of, foreign, front_for, from, Idless, opens, closes, happens}
use Rattle.machine.specs.Bytes.{run}
use Rattle.machine.specs.Log.{call_of}
use Rattle.machine.specs.Choosing.{Look, fails, held, grants, look}
use Rattle.machine.specs.Commands.{do_close, do_event}
use Rattle.machine.specs.Allocating.{opening, do_open}
use Rattle.machine.specs.Refusals.{Refusal, accepted, refused, bad_list, bad_maps, bad_map, refusal, refuse}
use Rattle.machine.specs.Call.{call, accept, answering}
use Rattle.machine.specs.Walks.{plays, chan, stands, asks_from, says, gets}
use Rattle.machine.specs.Machine.{machine}
use Rattle.machine.proofs.Tests.{eqb_false, test_true}

-- ---- "Desk A has ids 0 to 31, desk B 32 to 63."

pub ids_of_a : keep (λ i. eqb (desk_of i) 0) (run 0 64) ≡ run 0 32
unfolding keep desk_of run
ids_of_a = refl

pub ids_of_b : keep (λ i. eqb (desk_of i) 1) (run 0 64) ≡ run 32 32
unfolding keep desk_of run
ids_of_b = refl

-- ---- "gets 8, right after the check for 4 and treated like it"

-- key 1 has channel 0 with the writes 2 and 33
abbrev board : State
board = stands (chan 1 128 false false (plays 2 1 124 64 ∷ plays 33 1 124 64 ∷ []) ∷ free ∷ free ∷ free ∷ []) [] [] [] (1 ∷ []) 1

abbrev asks : Op → ℕ → ℕ → ℕ → Call
asks op d i m = record { op = op; desk = d; id = i; flags = 0; map = m; prec = 128; key = 1; combos = []; room = 64 }

-- a command and ABORT of the other half, outstanding or idle, from each desk and from none; an id above 63 gets 4, one's own
-- outstanding id 3. No reply, and nothing moves.
pub other_half : (call board (asks (COMMAND 8) 0 32 1) ≡ gets (says false OTHERDESK 0 1 255) [] board)
    × (call board (asks (COMMAND 8) 0 33 1) ≡ gets (says false OTHERDESK 0 1 255) [] board)
    × (call board (asks (COMMAND 8) 1 31 1) ≡ gets (says false OTHERDESK 0 1 255) [] board)
    × (call board (asks ABORT 1 2 0) ≡ gets (says false OTHERDESK 0 1 255) [] board)
    × (call board (asks ABORT 0 63 0) ≡ gets (says false OTHERDESK 0 1 255) [] board)
    × (call board (asks ABORT 2 2 0) ≡ gets (says false OTHERDESK 0 1 255) [] board)
    × (call board (asks (COMMAND 99) 2 40 0) ≡ gets (says false OTHERDESK 0 1 255) [] board)
    × (call board (asks (COMMAND 8) 0 64 1) ≡ gets (says false BADID 0 1 255) [] board)
    × (call board (asks (COMMAND 8) 0 2 1) ≡ gets (says false INUSE 0 1 255) [] board)
unfolding machine
other_half = (refl, refl, refl, refl, refl, refl, refl, refl, refl)

-- ---- "READ answers 255 for the other desk's write."

pub reads_its_own_lem : (d : ℕ) (w : Write) (ws : List Write) → desk_of w.id ≡ d → front_for d (w ∷ ws) ≡ w.id
unfolding front_for
reads_its_own_lem d w ws e = rw (e, eqb_one d) refl
  where
    eqb_one : (n : ℕ) → eqb n n ≡ true
    eqb_one n = test_true (eqb n n) (eqb_refl n)

pub reads_no_other : (d : ℕ) (w : Write) (ws : List Write) → (desk_of w.id ≡ d → ⊥) → front_for d (w ∷ ws) ≡ 255
unfolding front_for
reads_no_other d w ws n = rw (eqb_false (desk_of w.id) d n) refl

-- ---- "Every call but the event names its desk": OPEN and CLOSE carry no id, so nothing depends on it there either

pub from_told : (d e : ℕ) → from d (asks_from e OPEN 2 64 3 128 7 (1 ∷ []) 63) ≡ asks_from d OPEN 2 64 3 128 7 (1 ∷ []) 63
from_told d e = refl

module _ (d : ℕ) (c : Call) (s : State) where
  refusal_from : {o : Op} → Idless o → refusal o (from d c) s ≡ refusal o c s
  unfolding refusal bad_list bad_maps bad_map
  refusal_from opens = refl
  refusal_from closes = refl
  refusal_from (happens v) = refl

  opening_from : (l : Look) → opening l (from d c) s ≡ opening l c s
  unfolding opening
  opening_from fails = refl
  opening_from (held m) = refl
  opening_from (grants m) = refl

  accept_from : {o : Op} → Idless o → accept o (from d c) s ≡ accept o c s
  unfolding accept do_open do_close do_event
  accept_from opens = rw (opening_from (look c.prec c.combos s.channels)) refl
  accept_from closes = refl
  accept_from (happens v) = refl

  refuse_from : {o : Op} (e : ℕ) → Idless o → refuse o e (from d c) s ≡ refuse o e c s
  unfolding refuse
  refuse_from e opens = refl
  refuse_from e closes = refl
  refuse_from e (happens v) = refl

  answering_from : (r : Refusal) → Idless c.op → answering r (from d c) s ≡ answering r c s
  unfolding answering
  answering_from accepted h = accept_from h
  answering_from (refused e) h = refuse_from e h

  pub desk-unread : Idless c.op → call s (from d c) ≡ call s c
  unfolding call
  desk-unread h = ap (λ (r : Refusal). answering r (from d c) s) (refusal_from h) ∙ answering_from (refusal c.op c s) h

-- ---- a log

-- "in the log an id byte of 32 or more means B": so no line names an id of the other half
pub no_other_half : (bs : List ℕ) → foreign (call_of bs) ≡ false
unfolding foreign call_of
no_other_half bs = ap not (test_true (eqb (desk_of (get_or bs 1 0)) (desk_of (get_or bs 1 0))) (eqb_refl (desk_of (get_or bs 1 0))))
