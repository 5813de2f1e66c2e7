-- `put_channels` meets its contract: after i turns the bytes of i channels stand in front. Assumes nothing.
use Prim.Native.Nat.{◌*◌, ◌≤◌}
use mathlib.Core.Path.{◌≡◌}
use lib.ListN.{length, take}
use Rattle.image.specs.Image.{channels_bytes, AllFilled, Wrote}
use Rattle.encoding.proofs.put_channels.Given as goal

abbrev pub invariant-loop-i : goal.invariant-loop-i
invariant-loop-i l = (560 ≤ length l.initial.bytes) × (length l.bytes ≡ length l.initial.bytes) × Wrote l.initial.bytes 0 (channels_bytes (take l.i l.c-items)) (l.i * 70) l.bytes × AllFilled (take l.i l.c-items)
