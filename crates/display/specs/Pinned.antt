-- Document 02, #110: "the number of waiting allocations naming it", without a walk over them. Laws: `naming-counts`, `counts_only` of
-- proofs/Pinned.antt.
-- Assumes nothing.
--
--   nobody           a request to read beyond the end of a list
--   Counts p rs n    n of the requests rs pass the test p: as many as a list has that has each of their places once
use Rattle.std.specs.Prelude.{ℕ, ◌<◌, ◌≡◌, ◌↔◌, Bool, false, List, [], T, length, get_or}
use Rattle.widening.specs.machine.Lists.{among, distinct}
use Rattle.widening.specs.machine.State.{Request}

abbrev pub nobody : Request
nobody = record { id = 0; key = 0; prec = 0; impatient = false; combos = [] }

pub record Counts (p : Request → Bool) (rs : List Request) (n : ℕ) : Type 0 where
  pub places : List ℕ
  pub all : (k : ℕ) → T (among k places) ↔ ((k < length rs) × T (p (get_or rs k nobody)))
  pub once : T (distinct places)
  pub many : length places ≡ n
