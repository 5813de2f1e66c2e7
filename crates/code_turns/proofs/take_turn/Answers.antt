-- `take_turn` meets its contract: the call's promise is the turn's, and the types give the ranges: what is lent as combinations are
-- bytes. Assumes nothing.
use Rattle.code_runs.proofs.CodeRuns.{bytes_counted}
use Rattle.code_turns.proofs.take_turn.Goals as goal

pub returns : goal.returns
returns c =
    let b = c.shared_slice_known-1 in
    record {
      read = λ w.
          let e = c.call.ensures.read w in (
            e.0,
            record {
              called = e.1;
              prec = c.ranges-2.ensures.0;
              key = c.ranges-2.ensures.1;
              count = bytes_counted _ _ (λ i. (b.given i).fits);
            },
            e.2,
          );
      unread = c.call.ensures.unread;
    }
