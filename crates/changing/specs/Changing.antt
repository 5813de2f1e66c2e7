-- What a command that was not refused may take for granted.
-- Assumes nothing.
--
--   command_of r ms  the machine's rule for the command of a request with combinations ms
--   Among n ns      n is one of the numbers ns
--   Accepted ..     a sound state is held, the reply list is long enough, the id is valid and idle, the map is on the board
use Rattle.std.specs.Prelude.{ℕ, ◌≤◌, ◌<◌, ◌≡◌, not, ◌⊎◌, List, [], ◌∷◌, T, length}
use Rattle.answers.specs.machine.Lists.{among}
use Rattle.answers.specs.machine.State.{State as StateM, Outcome as OutcomeM}
use Rattle.answers.specs.machine.Sound.{ids}
use Rattle.answers.specs.machine.Kinds.{kind}
use Rattle.answers.specs.machine.Call.{perform}
use Rattle.answers.specs.store.declared.State.{State}
use Rattle.answers.specs.store.Store.{state_in, Held}
use Rattle.answers.specs.declared.Request.{Request}
use Rattle.answers.specs.Answers.{call_of}

abbrev pub command_of : Request → List ℕ → StateM → OutcomeM
command_of r ms = perform (kind r.command) (call_of r ms)

abbrev pub Among : ℕ → List ℕ → Type 0
Among n [] = ⊥
Among n (k ∷ ks) = (n ≡ k) ⊎ Among n ks

pub record Accepted (r : Request) (s : State) (tb l : List ℕ) : Type 0 where
  pub held : Held s tb
  pub room : 384 ≤ length l
  pub valid : r.id < 64
  pub idle : T (not (among r.id (ids (state_in s tb))))
  pub map : r.map < 256
