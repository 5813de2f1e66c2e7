-- `take_span` meets its contract: a frame that is no span, or has no place, is passed over; any other puts its entry and its id. Assumes nothing.
use mathlib.Core.Path.{refl}
use native.Mathlib.Omega.{arith}
use Rattle.sheet.proofs.Taking.{has_span_lem, span_has}
use Rattle.span_frames.proofs.take_span.Goals.{then-f-ne5-via-then-f-ne5, then-f-ne5-via-else-f-ne5+then-f-ge-REQUESTS, then-f-ne5-via-else-f-ne5+else-f-ge-REQUESTS+then-q-ge-REQUESTS}
use Rattle.span_frames.proofs.take_span.Goals as goal

pub returns-then-f-ne5 : goal.returns-then-f-ne5
returns-then-f-ne5 c = (
  λ t.
      let h = has_span_lem c.args.f.now c.args.q t in
      elim c.then-f-ne5.branch [
        | then-f-ne5-via-then-f-ne5 w ↦ omega (arith, h.0)
        | then-f-ne5-via-else-f-ne5+then-f-ge-REQUESTS w ↦ omega (arith, h.1)
        | then-f-ne5-via-else-f-ne5+else-f-ge-REQUESTS+then-q-ge-REQUESTS w ↦ omega (arith, h.2)
      ],
  refl,
)

pub returns : goal.returns
returns c =
    (rw (span_has c.args.f.now c.args.q (omega arith) (omega arith) (omega arith)) tt, c.push.ensures, c.put_span.ensures)
