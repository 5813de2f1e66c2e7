-- Document 02, #109: "Replies for desk B go into the reply list from record 32 onward, those for A before it, each half with its own
-- number."
-- Assumes nothing.
--
--   one d l i          record i of l where its id is of desk d, else nothing
--   picked d n l       of the first n records of l, those of the ids of desk d, one behind the other
--   Laying made n l    what `lay` asks: 64 records are lent where there are any, and each half has room for its own
--   Laid made n l r l' what `lay` promises: the halves of the list l, and how many records each has
--   laid l rs          the list l with the replies rs in its halves
--   in_order n l        of the first n records of l desk A's, then desk B's; Ordering l n out: what `order` asks, room for them
use Rattle.std.specs.Prelude.{ℕ, zero, suc, ◌*◌, ◌≤◌, ◌<◌, ◌≡◌, List, [], ◌++◌, eqb, length, get_or, take, drop, if◌then◌else◌}
use Rattle.memory.specs.Splice.{splice, block}
use Rattle.machine.specs.State.{Reply}
use Rattle.machine.specs.Desks.{DESK_A, DESK_B, HALF, desk_of, replies_to}
use Rattle.reply.specs.Replies.{sent}
use Rattle.halves.specs.declared.Halves.{Halves}

abbrev pub one : ℕ → List ℕ → ℕ → List ℕ
one d l i = if eqb (desk_of (get_or l (i * 6) 0)) d then block 6 l i else []

unfoldable pub picked : ℕ → ℕ → List ℕ → List ℕ
picked d zero l = []
picked d (suc n) l = (if eqb (desk_of (get_or l 0 0)) d then take 6 l else []) ++ picked d n (drop 6 l)

pub record Laying (made : List ℕ) (n : ℕ) (l : List ℕ) : Type 0 where
  pub many : n ≤ 64
  pub room : 0 < n → 384 ≤ length l
  pub fits : (length (picked DESK_A n made) ≤ HALF * 6) × (length (picked DESK_B n made) ≤ HALF * 6)

pub record Laid (made : List ℕ) (n : ℕ) (l : List ℕ) (r : Halves) (l' : List ℕ) : Type 0 where
  pub numbers : (r.a * 6 ≡ length (picked DESK_A n made)) × (r.b * 6 ≡ length (picked DESK_B n made))
  pub list : l' ≡ splice (splice l 0 (picked DESK_A n made)) (HALF * 6) (picked DESK_B n made)

abbrev pub laid : List ℕ → List Reply → List ℕ
laid l rs = sent (sent l 0 (replies_to DESK_A rs)) HALF (replies_to DESK_B rs)

-- "A's replies are written first"
abbrev pub in_order : ℕ → List ℕ → List ℕ
in_order n l = picked DESK_A n l ++ picked DESK_B n l

pub record Ordering (l : List ℕ) (n : ℕ) (out : List ℕ) : Type 0 where
  pub many : n ≤ 64
  pub room : length (in_order n l) ≤ length out
