-- The words in which the end of a cycle is promised.
-- Assumes nothing.
--
--   Led i s                 channel i plays the write `first`, and `rest` stands behind it
--   end_reply i e m s        the reply to the front write of channel i, with the error e and the map m
--   EndsWrite i e m s ..    the promise of `end_write`: the state without that write, its reply
--   with_cycle i s           the state after a cycle of the front write of channel i
--   cycle_replies i s        the reply to that write where it ends
--   EndsCycle i s ..        the promise of `end_cycle`: that state, that reply
use Rattle.std.specs.Prelude.{ℕ, ◌^◌, ◌≡◌, true, List, [], ◌∷◌, get_or, set}
use Rattle.machine.specs.Numbers.{CMD_WRITE}
use Rattle.machine.specs.State.{Write, Reply, State as StateM, free, with_channels}
use Rattle.machine.specs.Commands.{front, playing, front_cycled, last_replies}
use Rattle.tuning.specs.store.declared.State.{State}
use Rattle.tuning.specs.store.Store.{state_in}
use Rattle.tuning.specs.store.Work.{Did}
use Rattle.play.specs.Play.{with_front}
use Rattle.tuning.specs.store.declared.Progress.{Progress}

pub record Led (i : ℕ) (s : StateM) : Type 0 where
  pub first : Write
  pub rest : List Write
  pub queue : (get_or s.channels i free).writes ≡ first ∷ rest
  pub plays : playing (get_or s.channels i free) ≡ true

abbrev pub end_reply : ℕ → ℕ → ℕ → StateM → Reply
end_reply i e m s =
    record {
      id = front (get_or s.channels i free).writes;
      command = CMD_WRITE;
      error = e;
      map = m;
      key = (get_or s.channels i free).key;
    }

abbrev pub EndsWrite : ℕ → ℕ → ℕ → State → List ℕ → List ℕ → ℕ → Progress → List ℕ → List ℕ → Type 0
EndsWrite i e m s tb l n d tb' l' = Did (with_front i (state_in s tb)) (end_reply i e m (state_in s tb) ∷ []) l n d.state tb' l' d.n

abbrev pub with_cycle : ℕ → StateM → StateM
with_cycle i s = with_channels (set s.channels i (front_cycled (get_or s.channels i free))) s

abbrev pub cycle_replies : ℕ → StateM → List Reply
cycle_replies i s = last_replies (2 ^ i) (get_or s.channels i free).key (get_or s.channels i free).writes

abbrev pub EndsCycle : ℕ → State → List ℕ → List ℕ → ℕ → Progress → List ℕ → List ℕ → Type 0
EndsCycle i s tb l n d tb' l' = Did (with_cycle i (state_in s tb)) (cycle_replies i (state_in s tb)) l n d.state tb' l' d.n
