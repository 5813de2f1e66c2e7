-- `put_entry` meets its contract: the first byte tells which kind of frame it is. Assumes nothing.
use Prim.Native.Nat.{◌-◌}
use mathlib.Core.Path.{◌≡◌, ap, sym}
use native.Mathlib.Omega.{arith}
use lib.ListN.{length}
use Rattle.machine_laws.specs.machine.Log.{line}
use Rattle.frame_lines.proofs.FrameLines.{put_as, entry-request, entry_write, entry_span, length-request, length_write, length_span}
use Rattle.frame_lines.proofs.put_entry.Goals as goal

pub put_request-requires : goal.put_request-requires
put_request-requires c =
    let a = c.args in
    let e : a.first ≡ 0xD2 = omega arith in
    let f = length-request a.table.now a.id c.requires.0 c.requires.1 c.requires.2 in
    let g = ap (λ x. length (line x)) (entry-request a.first a.channel a.table.now a.id e) in
    let r = c.requires.3 in
    (c.requires.0, c.requires.1, c.requires.2, omega arith)

pub returns-in-210 : goal.returns-in-210
returns-in-210 c =
    let a = c.args in
    put_as c.put_request.ensures (ap line (sym (entry-request a.first a.channel a.table.now a.id (omega arith))))

pub put_write-requires : goal.put_write-requires
put_write-requires c =
    let a = c.args in
    let n : a.first ≡ 0xD2 → ⊥ = λ z. omega arith in
    let e : a.first ≡ 0xD5 = omega arith in
    let f = length_write a.channel a.table.now a.id c.requires.0 c.requires.1 in
    let g = ap (λ x. length (line x)) (entry_write a.first a.channel a.table.now a.id n e) in
    let r = c.requires.3 in
    (c.requires.0, c.requires.1, omega arith)

pub returns-in-213 : goal.returns-in-213
returns-in-213 c =
    let a = c.args in
    put_as c.put_write.ensures (ap line (sym (entry_write a.first a.channel a.table.now a.id (λ z. omega arith) (omega arith))))

pub put_span-requires : goal.put_span-requires
put_span-requires c =
    let a = c.args in
    let n : a.first ≡ 0xD2 → ⊥ = λ z. omega arith in
    let m : a.first ≡ 0xD5 → ⊥ = λ z. omega arith in
    let f = length_span a.first a.table.now a.id c.requires.0 c.requires.1 in
    let g = ap (λ x. length (line x)) (entry_span a.first a.channel a.table.now a.id n m) in
    let r = c.requires.3 in
    (c.requires.0, c.requires.1, omega arith)

pub returns-in_default : goal.returns-in_default
returns-in_default c =
    let a = c.args in
    put_as c.put_span.ensures (ap line (sym (entry_span a.first a.channel a.table.now a.id (λ z. omega arith) (λ z. omega arith))))
