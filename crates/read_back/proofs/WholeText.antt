-- The text of a sound state, read behind its first line into a table of zeros, is the struct and the table of that state.
-- Assumes nothing.
use mathlib.Core.Path.{◌≡◌, refl, ap}
use mathlib.Core.List.{[], append-nil}
use lib.Dec.{T}
use lib.ListN.{drop, replicate}
use Rattle.widening.specs.machine.State.{State}
use Rattle.widening.specs.machine.Sound.{sound}
use Rattle.board.specs.store.Store.{table_of}
use Rattle.board.specs.Board.{struct_of}
use Rattle.widening.specs.machine.Log.{line}
use Rattle.saved.specs.Saved.{frames, spelt, text}
use Rattle.reading.specs.sheet.Sheet.{Sheet, taken_all}
use Rattle.reading.specs.Reading.{read_from}
use Rattle.read_back.proofs.Spelt.{lines-spelt}
use Rattle.read_back.proofs.FrameBytes.{frames-bytes}
use Rattle.read_back.specs.ReadBack.{sheet_of}
use Rattle.read_back.proofs.ReadBack.{read_back}

module _ (s : State) (sane : T (sound s)) where
  pub sheet_read : read_from (spelt (frames s)) (replicate 1472 0) ≡ sheet_of s
  unfolding read_from taken_all
  sheet_read =
      rw (lines-spelt (frames s) (frames-bytes s sane), ← (append-nil (frames s))) (read_back s sane [])

  pub reads : ((read_from (spelt (frames s)) (replicate 1472 0)).state ≡ (struct_of s).state) × ((read_from (spelt (frames s)) (replicate 1472 0)).table ≡ table_of s)
  reads = (ap (λ (d : Sheet). d.state) sheet_read, ap (λ (d : Sheet). d.table) sheet_read)

  -- the first line has five bytes
  pub behind_first : drop 5 (text s) ≡ spelt (frames s)
  unfolding text spelt line
  behind_first = refl

  pub text_read : ((read_from (drop 5 (text s)) (replicate 1472 0)).state ≡ (struct_of s).state) × ((read_from (drop 5 (text s)) (replicate 1472 0)).table ≡ table_of s)
  text_read = rw behind_first reads
