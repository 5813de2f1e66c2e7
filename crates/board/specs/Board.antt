-- A board: its number of channels, 4 or 8, beside the state of eight channels. What stands here is said of the board's own
-- channels; those behind them are free, which changes nothing (crate `widening`).
-- Assumes nothing.
--
--   sized w             4 or 8
--   top_of w             the highest map of a board of that size
--   struct_of s          the board of a state: as many channels as the state has, free ones behind them
--   fresh_board w        a fresh board of w channels
--   state_in b tb        the state that a board and a table hold: the board's own channels
--   Held b tb           they hold a sound state of four or eight channels, and are the ones that stand for it
--   Did, Told           what a call promises, of a board: the words of crates `store` and `answers`, said of the board's own channels
use Rattle.std.specs.Prelude.{ℕ, ◌+◌, ◌-◌, ◌≡◌, Bool, ◌||◌, List, map, T, eqb, length, take, if◌then◌else◌}
use Rattle.open_keys.specs.machine.State.{State as StateM, Reply, Outcome as OutcomeM, fresh_on, with_channels}
use Rattle.open_keys.specs.machine.Sound.{sound}
use Rattle.widening.specs.Widening.{widen}
use Rattle.channel.specs.Channel.{channel_in}
use Rattle.answers.specs.reply.Replies.{sent}
use Rattle.answers.specs.store.Store.{struct_of as wide_of, state_in as wide_in, write_in, table_of}
use Rattle.answers.specs.Answers.{answer_of}
use Rattle.board.specs.declared.Board.{Board}
use Rattle.board.specs.declared.Outcome.{Outcome}

abbrev pub sized : ℕ → Bool
sized w = eqb w 4 || eqb w 8

abbrev pub top_of : ℕ → ℕ
top_of w = if eqb w 4 then 15 else 255

abbrev pub struct_of : StateM → Board
struct_of s = record { width = length s.channels; state = wide_of (widen (8 - length s.channels) s) }

abbrev pub fresh_board : ℕ → Board
fresh_board w = record { width = w; state = wide_of (fresh_on 8) }

abbrev pub state_in : Board → List ℕ → StateM
state_in b tb = with_channels (take b.width (map (channel_in (write_in tb)) b.state.channels)) (wide_in b.state tb)

pub record Held (b : Board) (tb : List ℕ) : Type 0 where
  pub size : T (sized (length (state_in b tb).channels))
  pub sane : T (sound (state_in b tb))
  pub struct : b ≡ struct_of (state_in b tb)
  pub table : tb ≡ table_of (state_in b tb)

pub record Did (s : StateM) (rs : List Reply) (l : List ℕ) (n : ℕ) (b' : Board) (tb' l' : List ℕ) (n' : ℕ) : Type 0 where
  pub struct : b' ≡ struct_of s
  pub table : tb' ≡ table_of s
  pub list : l' ≡ sent l n rs
  pub count : n' ≡ n + length rs

pub record Told (o : OutcomeM) (l : List ℕ) (d : Outcome) (tb' l' : List ℕ) : Type 0 where
  pub answer : d.answer ≡ answer_of o.answer
  pub did : Did o.next o.replies l 0 d.state tb' l' d.n
