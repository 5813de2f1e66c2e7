-- Document 01: who is replied to. Laws: `outstanding-once` and `replies-apart` of proofs/Replies.antt.
-- Assumes nothing.
--
--   heard rs    the ids of replies, in their order
use Rattle.std.specs.Prelude.{ℕ, List, map}
use Rattle.machine.specs.State.{Reply}

abbrev pub heard : List Reply → List ℕ
heard rs = map (λ r. r.id) rs
