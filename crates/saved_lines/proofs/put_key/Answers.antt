-- `put_key` meets its contract: a line of the first byte and the key, high byte first. Assumes nothing.
use Prim.Native.Nat.{ℕ, ◌/◌, ◌%◌}
use mathlib.Core.Path.{◌≡◌, ap, ◌∙◌}
use mathlib.Core.List.{[], ◌∷◌}
use native.Mathlib.Omega.{arith}
use Rattle.open_keys.specs.machine.Log.{line}
use Rattle.saved_channels.specs.saved.Saved.{key_frame}
use Rattle.saved_channels.proofs.frame_lines.FrameLines.{put_as}
use Rattle.saved_lines.proofs.put_key.Goals as goal

pub returns : goal.returns
unfolding key_frame
returns c =
    let k = c.args.key in
    let h : k / 256 % 256 ≡ k / 256 = omega (arith, c.ranges.key.fits) in
    put_as c.put_line.ensures (ap (λ bs. line (c.args.first ∷ bs)) (c.to_be_bytes.ensures ∙ ap (λ (x : ℕ). x ∷ (k % 256) ∷ []) h))
