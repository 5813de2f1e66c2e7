-- What settling is to the K party: nothing. Laws: `walk-calm` of proofs/Settle.antt.
-- Assumes nothing.
--
--   lock_fits p cs l        a lock or a WAITCYCLE names only channels with K, of the board and at least one
--   own_lock p cs l         one with K is such and has an id of the party's; another has none of them
--   FoundCalm p cs f       whom a walk grants takes no channel with K, and is none of the party
--   WalkCalm p cs n ls w   what a walk from the locks ls does: such a grant or none, no reply to the party, and its locks as they were
use Rattle.std.specs.Prelude.{◌^◌, ◌≤◌, ℕ, ◌≡◌, Bool, ◌&&◌, not, List, [], T, eqb, ltb, length, if◌then◌else◌}
use Rattle.machine_laws.specs.machine.Lists.{all}
use Rattle.machine_laws.specs.machine.State.{Channel, Lock}
use Rattle.machine_laws.specs.machine.Maps.{named}
use Rattle.machine_laws.specs.machine.Settling.{Found, Walk, nobody, somebody}
use Rattle.two_runs.specs.TwoRuns.{Party, holds, own_replies}
use Rattle.two_runs.specs.Part.{own_locks, lower}

-- a lock or a WAITCYCLE of the party names only its channels, of the board and at least one, and has an id of its own; no other has
unfoldable pub lock_fits : Party → List Channel → Lock → Bool
lock_fits p cs l = named (holds p) l.map cs && (ltb l.map (2 ^ length cs) && not (eqb l.map 0))

unfoldable pub own_lock : Party → List Channel → Lock → Bool
own_lock p cs l = if eqb l.key p.key then p.mine l.id && lock_fits p cs l else not (p.mine l.id)

abbrev pub FoundCalm : Party → List Channel → Found → Type 0
FoundCalm p cs nobody = Unit {0}
FoundCalm p cs (somebody r m) = T (named (λ c. not (holds p c)) m cs) × T (lower p r)

-- what a walk from the locks ls does; at most n requests still wait
pub record WalkCalm (p : Party) (cs : List Channel) (n : ℕ) (ls : List Lock) (w : Walk) : Type 0 where
  pub found : FoundCalm p cs w.found
  pub quiet : own_replies p w.replies ≡ []
  pub locks : own_locks p w.locks ≡ own_locks p ls
  pub locks_ok : T (all (own_lock p cs) w.locks)
  pub low : T (all (lower p) w.waiting)
  pub fewer : length w.waiting ≤ n
