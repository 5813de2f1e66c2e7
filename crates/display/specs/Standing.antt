-- Document 02, #110: who waits before and after a call. A request that still waits is the same one. Laws: proofs/Standing.antt.
-- Assumes nothing.
--
--   being x us     the requests of us with the id x
--   gone us r      r is none of us
--   Agree ws vs    whoever stands in both lists is the same in both
use Rattle.std.specs.Prelude.{ℕ, ◌≡◌, Bool, not, List, T, eqb}
use Rattle.widening.specs.machine.Lists.{keep, among}
use Rattle.widening.specs.machine.State.{Request}
use Rattle.widening.specs.machine_laws.Keeping.{wait_ids}

abbrev pub being : ℕ → List Request → List Request
being x us = keep (λ r. eqb x r.id) us

abbrev pub gone : List Request → Request → Bool
gone us r = not (among r.id (wait_ids us))

abbrev pub Agree : List Request → List Request → Type 0
Agree ws vs = (x : ℕ) → T (among x (wait_ids ws)) → T (among x (wait_ids vs)) → being x vs ≡ being x ws
