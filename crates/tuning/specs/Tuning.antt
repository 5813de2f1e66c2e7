-- What PERVOL, a synced FINISH and the end of a cycle do to the table, and what they promise.
-- Assumes nothing.
--
--   tuned_entry how a e     the entry of a write, its numbers retuned with those that a has
--   tuned_at how a tb i     the table with the entry of the id i so
--   front_of c              the id in front of a channel's queue
--   tune_each how a m cs tb   the table with the entries of the front writes of the channels that m names so, one after the other
--   Tunable m cs tb        each such front is one of the table's ids, and its entry has the numbers of a write
--   Tunes how a m s tb tb'   the promise of `tune_fronts`: the table has the entries of the writes in progress at the channels that m names
--                          retuned; and where a is a write's numbers, struct and table stand for the state in which they are so
--   tuned_of r how ms       the machine's rule: the write in progress at each channel that matches retuned, with the numbers that ms
--                          carries
use Rattle.std.specs.Prelude.{ℕ, ◌*◌, ◌<◌, ◌≡◌, true, false, List, [], ◌∷◌, ◌++◌, get_or, if◌then◌else◌}
use Rattle.memory.specs.Splice.{splice, block}
use Rattle.numbers.specs.table.Entry.{head_bytes, padded, key_in, list_in, number_bytes}
use Rattle.answers.specs.machine.Numbers.{CMD_WRITE}
use Rattle.answers.specs.machine.State.{Write, State as StateM, Outcome as OutcomeM, with_channels}
use Rattle.answers.specs.machine.Maps.{odd, half, change}
use Rattle.answers.specs.machine.Commands.{period_in, volume_in, on_front, each_change}
use Rattle.channel.specs.declared.Channel.{Channel}
use Rattle.channel.specs.Channel.{map_where}
use Rattle.fronts.specs.declared.Front.TheVariants.{Plays}
use Rattle.fronts.specs.Fronts.{named}
use Rattle.answers.specs.store.declared.State.{State}
use Rattle.answers.specs.store.Store.{state_in}
use Rattle.answers.specs.store.Work.{Stands}
use Rattle.retuning.specs.declared.Tune.{Tune}
use Rattle.retuning.specs.Retuning.{retuned_of, meaning}
use Rattle.answers.specs.declared.Request.{Request}
use Rattle.answers.specs.Answers.{call_of}

unfoldable pub tuned_entry : Tune → List ℕ → List ℕ → List ℕ
tuned_entry how a e =
    head_bytes (record { command = CMD_WRITE; key = key_in e; map = 0; prec = 0; impatient = 0; n = 12 }) ++ padded (retuned_of how (list_in e) a)

unfoldable pub tuned_at : Tune → List ℕ → List ℕ → ℕ → List ℕ
tuned_at how a tb i = splice tb (i * 23) (tuned_entry how a (block 23 tb i))

abbrev pub front_of : Channel → ℕ
front_of c = get_or c.writes.ids 0 0

unfoldable pub tune_each : Tune → List ℕ → ℕ → List Channel → List ℕ → List ℕ
tune_each how a m [] tb = tb
tune_each how a m (c ∷ cs) tb = tune_each how a (half m) cs (if odd m then tuned_at how a tb (front_of c) else tb)

abbrev pub Tunable : ℕ → List Channel → List ℕ → Type 0
Tunable m [] tb = Unit {0}
Tunable m (c ∷ cs) tb = (odd m ≡ true → (front_of c < 64) × (get_or (block 23 tb (front_of c)) 6 0 ≡ 12)) × Tunable (half m) cs tb

pub record Tunes (how : Tune) (a : List ℕ) (m : ℕ) (s : State) (tb tb' : List ℕ) : Type 0 where
  pub table : tb' ≡ tune_each how a (map_where (named Plays) m s.channels) s.channels tb
  pub stands :
      (x : Write) → a ≡ number_bytes x
      → Stands (with_channels (change (on_front (meaning how x.period x.volume)) m (state_in s tb).channels) (state_in s tb)) s tb'

abbrev pub tuned_of : Request → Tune → List ℕ → StateM → OutcomeM
tuned_of r how ms = each_change r.command (on_front (meaning how (period_in ms) (volume_in ms))) false (call_of r [])
