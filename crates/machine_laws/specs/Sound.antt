-- Document 01, "Sound means", part by part: what the test `sound` of machine/specs/Sound.antt finds. Laws: `parts` and `unparts` of
-- proofs/Sound.antt say that it is the same.
-- Assumes nothing.
--
--   Parts s    the state is sound, with a name for each part of it
use Rattle.std.specs.Prelude.{T, leb, ltb, length}
use Rattle.machine.specs.Lists.{all, distinct}
use Rattle.machine.specs.State.{State}
use Rattle.machine.specs.Sound.{sound_channel, sound_lock, sound_waiter, sound_request, in_order, ids, sound_opens}

pub record Parts (s : State) : Type 0 where
  pub some : T (leb 1 (length s.channels))
  pub most : T (leb (length s.channels) 8)
  pub channels_ok : T (all sound_channel s.channels)
  pub locks_ok : T (all (sound_lock s.channels) s.locks)
  pub waiters_ok : T (all (sound_waiter s.channels) s.waiters)
  pub waiting_ok : T (all (sound_request s.channels) s.waiting)
  pub order : T (in_order s.waiting)
  pub small : T (all (λ i. ltb i 64) (ids s))
  pub apart : T (distinct (ids s))
  pub opens_ok : T (sound_opens s.opens)
  pub last_ok : T (leb s.last 65535)
