-- Why settling leaves the open keys: it grants, drops and holds, and none of these touches the table.
-- Assumes nothing.
use Prim.Native.Nat.{ℕ, zero, suc}
use mathlib.Core.Path.{◌≡◌, refl}
use lib.ListN.{length}
use Rattle.machine.specs.State.{State, Outcome}
use Rattle.machine.specs.Granting.{granted}
use Rattle.machine.specs.Settling.{Found, Settled, Walk, go_on, nobody, rounds, settle, somebody, walk, walked}
use Rattle.machine.specs.Call.{settling}

go_on-opens : (f : Found) (w : Walk) (s : State) (again : State → Settled) → ((u : State) → (again u).state.opens ≡ u.opens)
    → (go_on f w s again).state.opens ≡ s.opens
unfolding go_on walked granted
go_on-opens nobody w s again ih = refl
go_on-opens (somebody r m) w s again ih = ih (granted m r.key r.prec (walked w s))

rounds-opens : (n : ℕ) (s : State) → (rounds n s).state.opens ≡ s.opens
unfolding rounds
rounds-opens zero s = refl
rounds-opens (suc n) s =
    go_on-opens (walk s.channels s.waiting s.locks).found (walk s.channels s.waiting s.locks) s (rounds n)
    (rounds-opens n)

pub settling-opens : (o : Outcome) → (settling o).next.opens ≡ o.next.opens
unfolding settling settle
settling-opens o = rounds-opens (suc (length o.next.waiting)) o.next
