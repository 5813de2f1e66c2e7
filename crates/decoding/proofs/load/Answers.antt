-- `load` meets its contract, part by part. Assumes nothing.
use native.Mathlib.Omega.{arith}
use Rattle.image.proofs.Laws.{whole_long, state_parts}
use Rattle.decoding.proofs.load.Goals as goal

pub channels_at-cs-requires : goal.channels_at-cs-requires
channels_at-cs-requires c = let e = whole_long _ c.requires in omega arith

pub queue_at-locks-requires : goal.queue_at-locks-requires
queue_at-locks-requires c = let e = whole_long _ c.requires in omega arith

pub queue_at-waiters-requires : goal.queue_at-waiters-requires
queue_at-waiters-requires c = let e = whole_long _ c.requires in omega arith

pub queue_at-waiting-requires : goal.queue_at-waiting-requires
queue_at-waiting-requires c = let e = whole_long _ c.requires in omega arith

pub open_at-opens-requires : goal.open_at-opens-requires
open_at-opens-requires c = let e = whole_long _ c.requires in omega arith

pub key_at-requires : goal.key_at-requires
key_at-requires c = let e = whole_long _ c.requires in omega arith

pub bounds-bytes-822 : goal.bounds-bytes-822
bounds-bytes-822 c = let e = whole_long _ c.requires in omega arith

pub returns : goal.returns
returns c =
    state_parts _ c.channels_at-cs.ensures c.queue_at-locks.ensures c.queue_at-waiters.ensures c.queue_at-waiting.ensures
    c.open_at-opens.ensures c.key_at.ensures
