-- What the length of the lent reply list decides of the display: with room for 64 records it comes to the same whatever the room, and with
-- less too, for the call is refused. The looks likewise.
-- Assumes nothing.
use Prim.Native.Nat.{ℕ, ◌≤◌, ◌<◌}
use mathlib.Core.Path.{◌≡◌, refl, ap, ap₂, sym, ◌∙◌}
use mathlib.Core.Logic.{⊎_elim}
use mathlib.Core.List.{List, ◌++◌}
use lib.ListN.{take}
use Rattle.widening.specs.machine.State.{State, Outcome, Call, Op, OPEN, CLOSE, ABORT, EVENT, COMMAND}
use Rattle.widening.specs.machine.Choosing.{look}
use Rattle.widening.specs.machine.Commands.{silent, do_event, do_close, do_abort}
use Rattle.widening.specs.machine.Allocating.{do_open}
use Rattle.widening.specs.machine.Kinds.{kind}
use Rattle.widening.specs.machine.Refusals.{Refusal, accepted, refused, refusal}
use Rattle.widening.specs.machine.InBytes.{two_bytes}
use Rattle.widening.specs.machine_laws.Rooms.{lent}
use Rattle.widening.proofs.machine_laws.Rooms.{refusal-lent, open_lent, perform-lent, room_unread, short-refused}
use Rattle.display.specs.Looks.{acting, looks_after, looked_by, looked}
use Rattle.display.specs.Display.{NUMBERS, corrected, looks_of, displayed}
use Rattle.display.proofs.Looks.{looked-refused}
use Rattle.display.proofs.Display.{refused-stays}

module _ (c : Call) (n : ℕ) (h : 64 ≤ n) (g : 64 ≤ c.room) where
  acting-lent : (o : Op) (s : State) → acting o (lent n c) s ≡ acting o c s
  unfolding acting do_open do_close do_abort do_event silent
  acting-lent OPEN s = open_lent c n h g (look c.prec c.combos s.channels) s
  acting-lent CLOSE s = refl
  acting-lent ABORT s = refl
  acting-lent (EVENT v) s = refl
  acting-lent (COMMAND k) s = perform-lent c n h g (kind k) s

  pub looked_room : (s : State) (k : ℕ) → looked s (lent n c) k ≡ looked s c k
  unfolding looked
  looked_room s k = ap (λ (r : Refusal). looked_by r (lent n c) s k) (refusal-lent c n h g c.op s) ∙ go (refusal c.op c s)
    where
      go : (f : Refusal) → looked_by f (lent n c) s k ≡ looked_by f c s k
      go accepted = unfold looked_by in ap (λ (u : Outcome). looks_after c.op u k) (acting-lent c.op s)
      go (refused e) = unfold looked_by in refl

  pub displayed_room : (s : State) (d : List ℕ) → displayed s (lent n c) d ≡ displayed s c d
  unfolding displayed
  displayed_room s d =
      ap₂ (λ (u : Outcome) (k : ℕ). corrected s u.next 0 (take NUMBERS d) ++ two_bytes k) (room_unread c n h g s) (looked_room s (looks_of d))

-- ---- too short a list

module _ (s : State) (c : Call) (h : c.room < 64) where
  -- the state stays and nothing settles
  pub short-displayed : (d : List ℕ) → displayed s c d ≡ corrected s s 0 (take NUMBERS d) ++ two_bytes (looks_of d)
  short-displayed d = ⊎_elim (same 1) (same 5) (short-refused s c h c.op)
    where
      same : (e : ℕ) → refusal c.op c s ≡ refused e → displayed s c d ≡ corrected s s 0 (take NUMBERS d) ++ two_bytes (looks_of d)
      same e r =
          unfold displayed in ap₂ (λ (u : State) (k : ℕ). corrected s u 0 (take NUMBERS d) ++ two_bytes k) (refused-stays s c e r) (looked-refused s c (looks_of d) e r)

pub displayed-short : (s : State) (c : Call) (n : ℕ) → n < 64 → c.room < 64 → (d : List ℕ) → displayed s (lent n c) d ≡ displayed s c d
displayed-short s c n h g d = short-displayed s (lent n c) h d ∙ sym (short-displayed s c g d)
