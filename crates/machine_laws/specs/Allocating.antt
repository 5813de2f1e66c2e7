-- Document 01, the answer to an ALLOCATE that is granted. Laws: `granted_iff`, `granted_at_once_iff` of proofs/Allocating.antt.
-- Assumes nothing.
--
--   Granted a m    the answer says: done, without an error, with the map m
use Rattle.std.specs.Prelude.{ℕ, ◌≡◌, false}
use Rattle.machine.specs.State.{Answer}

-- "ALLOCATE that is granted is done at once": the answer to one that was granted map m
pub record Granted (a : Answer) (m : ℕ) : Type 0 where
  pub done : a.outstanding ≡ false
  pub error : a.error ≡ 0
  pub map : a.map ≡ m
