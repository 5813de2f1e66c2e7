-- `put_keys` meets its contract: after i turns the bytes of i keys stand from the place on. Assumes nothing.
use Prim.Native.Nat.{◌+◌, ◌*◌, ◌≤◌}
use mathlib.Core.Path.{◌≡◌}
use lib.ListN.{length, take}
use Rattle.image.specs.Image.{keys_bytes, Wrote}
use Rattle.encoding.proofs.put_keys.Given as goal

abbrev pub invariant-loop-i : goal.invariant-loop-i
invariant-loop-i l = (l.at + 64 ≤ length l.initial.bytes) × (length l.bytes ≡ length l.initial.bytes) × Wrote l.initial.bytes l.at (keys_bytes (take l.i l.k-items)) (l.i * 2) l.bytes
