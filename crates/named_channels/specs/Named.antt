-- The channels that a map names, changed and matched in the lent bytes. Assumes nothing.
--
--   by_head how          a change that leaves the ids or clears them: all but those of the front write
--   changed_head how h   such a change of a channel by value
--   with_channels cs b   the board with other channels
--   TidyAll b           zeros stand behind the writes of each channel
--   Once how m i l l'   channel i is changed where the map names it
--   Changed how m l l'  so is each
use Rattle.std.specs.Prelude.{ℕ, ◌/◌, ◌^◌, ◌<◌, Bool, true, false, List, if◌then◌else◌}
use Rattle.machine.specs.Maps.{odd}
use Rattle.channel.specs.declared.Channel.{Channel}
use Rattle.channel.specs.declared.Change.{Change}
use Rattle.channel.specs.declared.Change.TheVariants.{Reset, Free, SetPrecedence, Flush, Stop, Lock, Take, FrontGone, FrontOnly, Nothing}
use Rattle.channel.specs.Channel.{changed_of, change_each}
use Rattle.image.specs.board.declared.Board.{Board}
use Rattle.image.specs.Image.{state_of}
use Rattle.lent_channels.specs.declared.Channel.{Channel as Head}
use Rattle.lent_channels.specs.lent.Lent.{Tidy, channel_on, with_channel, Holds}
use Rattle.lent_channels.specs.Heads.{unused_head, reset_head, prec_head, flush_head, stop_head, lock_head, taken_head}

abbrev pub by_head : Change → Bool
by_head Reset = true
by_head Free = true
by_head (SetPrecedence p) = true
by_head Flush = true
by_head (Stop b) = true
by_head Lock = true
by_head (Take k p) = true
by_head FrontGone = false
by_head FrontOnly = false
by_head Nothing = true

abbrev pub changed_head : Change → Head → Head
changed_head Reset h = reset_head h
changed_head Free h = unused_head
changed_head (SetPrecedence p) h = prec_head p h
changed_head Flush h = flush_head h
changed_head (Stop b) h = stop_head b h
changed_head Lock h = lock_head h
changed_head (Take k p) h = taken_head k p h
changed_head FrontGone h = h
changed_head FrontOnly h = h
changed_head Nothing h = h

abbrev pub with_channels : List Channel → Board → Board
with_channels cs b =
    let s = b.state in
    record {
      width = b.width;
      state = record { channels = cs; locks = s.locks; waiters = s.waiters; waiting = s.waiting; opens = s.opens; last = s.last };
    }

abbrev pub TidyAll : Board → Type 0
TidyAll b = (i : ℕ) → i < 8 → Tidy (channel_on i b).writes

abbrev pub Once : Change → ℕ → ℕ → List ℕ → List ℕ → Type 0
Once how m i l l' = let b = state_of l in Holds (if odd (m / 2 ^ i) then with_channel i (changed_of how (channel_on i b)) b else b) l'

abbrev pub Changed : Change → ℕ → List ℕ → List ℕ → Type 0
Changed how m l l' = let b = state_of l in Holds (with_channels (change_each (changed_of how) m b.state.channels) b) l'
