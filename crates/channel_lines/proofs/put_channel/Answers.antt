-- `put_channel` meets its contract: each byte of its line is the field that the line wants. Assumes nothing.
use Prim.Native.Nat.{◌/◌, ◌%◌}
use mathlib.Core.Path.{◌≡◌}
use native.Mathlib.Omega.{arith}
use Rattle.channel_lines.specs.ChannelLines.{channel_line}
use Rattle.channel_lines.proofs.put_channel.Goals as goal

pub returns : goal.returns
unfolding channel_line
returns c =
    let high : c.args.c.key / 256 % 256 ≡ c.args.c.key / 256 = omega arith in
    rw (c.put_line.ensures.bytes, c.marks.ensures, c.to_be_bytes.ensures, high)
