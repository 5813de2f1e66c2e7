-- `request_of` meets its contract: each number is made of its own bytes. Assumes nothing.
use Prim.Native.Nat.{◌+◌, ◌*◌}
use mathlib.Core.Path.{◌≡◌}
use native.Mathlib.Omega.{arith}
use lib.ListN.{get_or}
use Rattle.digits.specs.Digits.{pairs}
use Rattle.digits.specs.machine.Log.{call_of}
use Rattle.frames.proofs.request_of.Goals as goal

pub returns : goal.returns
unfolding call_of
returns c =
    let bs = pairs c.args.line.now in
    let command = c.byte_at-command.ensures in
    let id = c.byte_at-id.ensures in
    let flags = c.byte_at-flags.ensures in
    let map = c.byte_at-map.ensures in
    let prec = c.byte_at-prec.ensures in
    let high = c.byte_at.ensures in
    let low = c.byte_at-2.ensures in
    let key : get_or bs 5 0 * 256 + get_or bs 6 0 ≡ 256 * get_or bs 5 0 + get_or bs 6 0 = omega arith in
    rw (command, c.of-desk.ensures, id, flags, map, prec, c.from_be_bytes-key.ensures, high, low, key)
