-- `put_request` meets its contract: its head is made of the numbers of its entry, and its combinations stand behind. Assumes nothing.
use Prim.Native.Nat.{ℕ, ◌+◌, ◌-◌, ◌/◌, ◌%◌}
use mathlib.Core.Path.{ap, ◌∙◌}
use native.Mathlib.Omega.{arith}
use lib.ListN.{length}
use Rattle.machine_laws.specs.machine.InBytes.{mark_of}
use Rattle.frame_lines.proofs.FrameLines.{put_as, high_byte, low_byte, mark_from, length-list, request_line_lem}
use Rattle.frame_lines.proofs.put_request.Goals as goal

pub put_line-requires : goal.put_line-requires
put_line-requires c =
    let e = ap length c.combos-ms.ensures ∙ length-list c.args.table.now c.args.id c.requires.0 c.requires.1 c.requires.2 in
    let r = c.requires.3 in
    omega arith

pub returns : goal.returns
returns c =
    let a = c.args in
    put_as c.put_line.ensures
    (request_line_lem a.table.now a.id c.requires.0 c.requires.1 c.requires.2
    (high_byte c.key.result c.to_be_bytes.ensures c.key.type_inv ∙ ap (λ (k : ℕ). k / 256) c.key.ensures)
    (low_byte c.key.result c.to_be_bytes.ensures ∙ ap (λ (k : ℕ). k % 256) c.key.ensures)
    (ap (λ (x : ℕ). (x + 128) % 256) c.prec.ensures)
    (c.from.ensures ∙ (mark_from _ ∙ ap mark_of c.impatient.ensures)) c.count.ensures c.combos-ms.ensures)
