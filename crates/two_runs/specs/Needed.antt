-- Demand 3 needs its premises: what it is that one of them is needed. proofs/Needed.antt has two runs for each, and
-- `every_premise_is_needed`.
-- Assumes nothing.
--
--   of_seen x, numbers xs   what the K party sees, as numbers: an answer 0, a reply 1, its channels and WAITCYCLEs 2; flag .. of_channels: parts
--   equal xs ys            the same numbers
--   Needs x                two runs that keep to all premises but x, with the same calls of the K party, of which it sees unlike things
use Rattle.std.specs.Prelude.{ℕ, ◌≡◌, Bool, ◌&&◌, false, not, true, List, [], ◌++◌, ◌∷◌, T, eqb, length}
use Rattle.std.proofs.Math.Option.{Option, none, some}
use Rattle.machine_laws.specs.machine.State.{Channel, Lock, State, Write}
use Rattle.two_runs.specs.TwoRuns.{Party, Seen, Step, answered, own, owning, received, seen}
use Rattle.two_runs.specs.Premises.{Premise, runs_but, starts_but}

unfoldable pub flag : Bool → ℕ
flag true = 1
flag false = 0

-- nothing remembered stands as 0 and 0
unfoldable pub of_pervol : Option (ℕ × ℕ) → List ℕ
of_pervol none = 0 ∷ 0 ∷ []
of_pervol (some q) = q.0 ∷ q.1 ∷ []

unfoldable pub of_writes : List Write → List ℕ
of_writes [] = []
of_writes (w ∷ ws) = w.id ∷ w.cycles ∷ w.period ∷ w.volume ∷ flag w.finish ∷ of_pervol w.pervol ++ of_writes ws

unfoldable pub of_waiters : List Lock → List ℕ
of_waiters [] = []
of_waiters (w ∷ ws) = w.id ∷ w.key ∷ w.map ∷ of_waiters ws

unfoldable pub of_channel : Channel → List ℕ
of_channel c = c.key ∷ c.prec ∷ flag c.locked ∷ flag c.stopped ∷ length c.writes ∷ of_writes c.writes

unfoldable pub of_channels : List Channel → List ℕ
of_channels [] = []
of_channels (c ∷ cs) = of_channel c ++ of_channels cs

unfoldable pub of_seen : Seen → List ℕ
of_seen (answered a) = 0 ∷ flag a.outstanding ∷ a.error ∷ a.map ∷ a.key ∷ a.extra ∷ []
of_seen (received r) = 1 ∷ r.id ∷ r.command ∷ r.error ∷ r.map ∷ r.key ∷ []
of_seen (owning cs ws) = 2 ∷ of_channels cs ++ of_waiters ws

unfoldable pub numbers : List Seen → List ℕ
numbers [] = []
numbers (x ∷ xs) = of_seen x ++ numbers xs

unfoldable pub equal : List ℕ → List ℕ → Bool
equal [] [] = true
equal [] (y ∷ ys) = false
equal (x ∷ xs) [] = false
equal (x ∷ xs) (y ∷ ys) = eqb x y && equal xs ys

pub record Needs (x : Premise) : Type 0 where
  pub party : Party
  pub start : State
  pub one : List Step
  pub two : List Step
  pub begins : T (starts_but x party start)
  pub one_keeps : T (runs_but x party start one)
  pub two_keeps : T (runs_but x party start two)
  pub same_calls : own one ≡ own two
  pub unlike : T (not (equal (numbers (seen party start one)) (numbers (seen party start two))))
