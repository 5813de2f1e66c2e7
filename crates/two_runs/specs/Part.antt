-- The K party's part of a state: all that its own calls read and change. Two runs may begin in two states that have it in common
-- (`k_sees_its_part` of proofs/TwoRuns.antt).
-- Assumes nothing.
--
--   own_locks p ls      the locks with K, or the WAITCYCLEs
--   project p s        the part: its channels with all that they store, its locks and its WAITCYCLEs; nobody waits, and K alone is open
--   our_write, their_write p w   a write has an id of the party's; has none
--   fitting p c        a channel with K is at P or more and has writes of the party's alone; another has none of them
--   lower p r          a waiting allocation is at most P, without K and without an id of the party's
use Rattle.std.specs.Prelude.{List, [], ◌∷◌, map, Bool, ◌&&◌, not, eqb, leb, if◌then◌else◌}
use Rattle.machine_laws.specs.machine.Lists.{keep, all}
use Rattle.machine_laws.specs.machine.State.{Lock, State, Channel, Request, Write}
use Rattle.two_runs.specs.TwoRuns.{Party, mask, holds}

unfoldable pub own_locks : Party → List Lock → List Lock
own_locks p ls = keep (λ l. eqb l.key p.key) ls

unfoldable pub project : Party → State → State
project p s =
    record {
      channels = map (mask p) s.channels;
      locks = own_locks p s.locks;
      waiters = own_locks p s.waiters;
      waiting = [];
      opens = p.key ∷ [];
      last = 0;
    }

abbrev pub our_write : Party → Write → Bool
our_write p w = p.mine w.id

abbrev pub their_write : Party → Write → Bool
their_write p w = not (p.mine w.id)

unfoldable pub fitting : Party → Channel → Bool
fitting p c = if holds p c then leb p.floor c.prec && all (our_write p) c.writes else all (their_write p) c.writes

unfoldable pub lower : Party → Request → Bool
lower p r = leb r.prec p.floor && not (eqb r.key p.key) && not (p.mine r.id)
