-- Document 02, #106: what a saved text reads back to. Laws: `read_back` of proofs/ReadBack.antt; proofs/Fits.antt.
-- Assumes nothing.
--
--   Bytes bs      each number is a byte
--   kept_all cs    what is remembered for the front write of each channel, six bytes each
--   sheet_of s     the sheet that the frames of a state make
use Rattle.std.specs.Prelude.{ℕ, ◌<◌, ◌-◌, ◌*◌, List, [], ◌∷◌, ◌++◌, length, replicate}
use Rattle.board.specs.store.Store.{Each, struct_of, table_of}
use Rattle.widening.specs.machine.State.{Channel as ChannelM, State as StateM}
use Rattle.widening.specs.Widening.{widen}
use Rattle.saved.specs.Saved.{kept}
use Rattle.reading.specs.sheet.Sheet.{Sheet, sheet}

abbrev pub Bytes : List ℕ → Type 0
Bytes bs = Each (λ b. b < 256) bs

-- "nothing is remembered without a write": a channel without one has zeros
unfoldable pub kept_all : List ChannelM → List ℕ
kept_all [] = []
kept_all (c ∷ cs) = kept c.writes ++ kept_all cs

-- its struct among eight channels, how many channels it has, its table, and what is remembered for each
abbrev pub sheet_of : StateM → Sheet
sheet_of s =
    sheet (struct_of (widen (8 - length s.channels) s)) (length s.channels) (table_of s) (kept_all s.channels ++ replicate ((8 - length s.channels) * 6) 0)
