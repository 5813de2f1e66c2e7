-- Document 01, "Settling": what it leaves alone, and what it leaves waiting. Laws: `settle_kept`, `settle_rests` of proofs/Settling.antt
-- and `call_rests` of proofs/Resting.antt; nothing_left says `AtRest` in words of one request.
-- Assumes nothing.
--
--   Kept P cs ds          as many channels, each of precedence P or more as it was
--   AllLe P rs            no waiting request is above P
--   Settles P s t         what settling makes of a state where nobody waits above P
--   Still n ls r l        what the look l at the request r says is no reason to act
--   AllStill cs ls rs     so it is of each waiting request
--   AtRest s              nobody is left waiting who could go
use Rattle.std.specs.Prelude.{ℕ, ◌≤◌, ◌≡◌, not, List, [], ◌∷◌, T, length}
use Rattle.machine.specs.Lists.{all}
use Rattle.machine.specs.State.{Channel, Lock, Request, State}
use Rattle.machine.specs.Maps.{meets}
use Rattle.machine.specs.Choosing.{Look, fails, held, grants, look}
use Rattle.machine.specs.Settling.{Settled}
use Rattle.machine_laws.specs.Choosing.{strong}

-- the same number of channels, each strong one as it was
abbrev pub Kept : ℕ → List Channel → List Channel → Type 0
Kept P [] [] = Unit {0}
Kept P [] (d ∷ ds) = ⊥
Kept P (c ∷ cs) [] = ⊥
Kept P (c ∷ cs) (d ∷ ds) = (T (strong P c) → d ≡ c) × Kept P cs ds

-- all waiting requests are at most P
abbrev pub AllLe : ℕ → List Request → Type 0
AllLe P [] = Unit {0}
AllLe P (r ∷ rs) = (r.prec ≤ P) × AllLe P rs

-- channels of precedence P or more are kept, and still nobody waits above P
abbrev pub Settles : ℕ → State → Settled → Type 0
Settles P s t = Kept P s.channels t.state.channels × AllLe P t.state.waiting

-- what the look at a request says is no reason to act: one that fails may wait, one that is held meets no outstanding lock
abbrev pub Still : ℕ → List Lock → Request → Look → Type 0
Still n ls r fails = T (not r.impatient)
Still n ls r (held m) = T (all (λ l. not (meets n m l.map)) ls)
Still n ls r (grants m) = ⊥

abbrev pub AllStill : List Channel → List Lock → List Request → Type 0
AllStill cs ls [] = Unit {0}
AllStill cs ls (r ∷ rs) = Still (length cs) ls r (look r.prec r.combos cs) × AllStill cs ls rs

-- no waiting request would be granted, none with NOWAIT fails, and no lock stands in the way of one that is held
abbrev pub AtRest : State → Type 0
AtRest s = AllStill s.channels s.locks s.waiting
