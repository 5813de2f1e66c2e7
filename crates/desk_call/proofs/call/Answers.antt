-- `call` meets its contract: the arbiter's call on a list of its own, then its replies laid in the list that is lent. Assumes nothing.
use Prim.Native.Nat.{ℕ}
use mathlib.Core.Path.{refl}
use mathlib.Core.List.{List}
use lib.ListN.{length, replicate}
use Rattle.desk_call.proofs.Laws.{room_most, part_long, may_lay_any, was_lent}
use Rattle.desk_call.proofs.call.Goals as goal

-- the list that the inner call is lent
abbrev zeros : List ℕ
zeros = replicate 384 0

pub slice_bounds-made-end : goal.slice_bounds-made-end
slice_bounds-made-end c =
    room_most (length c.args.replies.now)
    c.room-k.ensures

pub slice_bounds-call-end : goal.slice_bounds-call-end
slice_bounds-call-end c = part_long (length c.args.replies.now) zeros c.room-k.ensures refl

pub lay-h-requires : goal.lay-h-requires
lay-h-requires c = may_lay_any c.args.replies.now zeros refl c.room-k.ensures c.call-d.ensures

pub returns : goal.returns
returns c =
    let l = c.args.replies.now in
    was_lent l zeros refl c.room-k.ensures c.call-d.ensures c.lay-h.ensures
