-- `read` meets its contract: a line that fails a test is no frame, and nothing was written by then; a line that passes all
-- is one, and its combinations alone are written. Assumes nothing.
use Prim.Native.Nat.{◌+◌, ◌*◌}
use mathlib.Core.Path.{◌≡◌, sym, ◌∙◌}
use mathlib.Core.Bool.{true, false}
use native.Mathlib.Omega.{arith}
use borrow.Author.Tests.{not-true}
use lib.ListN.{length, get_or}
use Rattle.digits.specs.Digits.{spells, pairs}
use Rattle.digits.proofs.Laws.{short_malformed, unspelt_malformed, uneven_malformed}
use Rattle.frames.proofs.Laws.{reads_malformed, reads-frame, frame_is}
use borrow.Author.Rules.{rules}
use mathlib.Core.Bool.{not}
use mathlib.Core.Path.{ap}
use Rattle.frames.proofs.read.Goals as goal

pub returns-then-line-lt16 : goal.returns-then-line-lt16
returns-then-line-lt16 c =
    let a = c.args in
    reads_malformed a.line.now a.combos.now (short_malformed a.line.now (search rules))

pub returns-then-not-spelt : goal.returns-then-not-spelt
returns-then-not-spelt c =
    let a = c.args in
    let s = c.spelt in
    let f : spells a.line.now ≡ false = sym s.ensures ∙ not-true s.result (ap not c.if-not-spelt.true) in
    reads_malformed a.line.now a.combos.now (unspelt_malformed a.line.now f)

pub byte_at-requires : goal.byte_at-requires
byte_at-requires c = (let s = c.spelt in sym s.ensures ∙ c.if-not-spelt.false, search rules)

pub returns-then-line-n : goal.returns-then-line-n
returns-then-line-n c =
    let a = c.args in
    let s = c.spelt in
    let t : spells a.line.now ≡ true = sym s.ensures ∙ c.if-not-spelt.false in
    let n : length a.line.now ≡ c.from-n.result * 2 + 16 → ⊥ = c.if-line-n.true in
    let e : c.from-n.result ≡ get_or (pairs a.line.now) 7 0 = c.from-n.ensures ∙ c.byte_at.ensures in
    reads_malformed a.line.now a.combos.now (uneven_malformed a.line.now t (rw e at n))

pub fill-requires : goal.fill-requires
fill-requires c =
    let s = c.spelt in
    let a = c.args in
    let g : length a.combos.now ≡ 255 = search rules in
    (sym s.ensures ∙ c.if-not-spelt.false, c.if-line-n.false, omega arith)

pub request_of-request-requires : goal.request_of-request-requires
request_of-request-requires c =
    let s = c.spelt in
    (sym s.ensures ∙ c.if-not-spelt.false, omega arith)

pub returns : goal.returns
returns c =
    let a = c.args in
    let s = c.spelt in
    let t : spells a.line.now ≡ true = sym s.ensures ∙ c.if-not-spelt.false in
    let e : c.from-n.result ≡ get_or (pairs a.line.now) 7 0 = c.from-n.ensures ∙ c.byte_at.ensures in
    let n : length a.line.now ≡ c.from-n.result * 2 + 16 = c.if-line-n.false in
    let f = frame_is a.line.now c.op_of.ensures c.request_of-request.ensures n in
    rw c.fill.ensures (reads-frame a.line.now a.combos.now _ t (rw e at n) f)
