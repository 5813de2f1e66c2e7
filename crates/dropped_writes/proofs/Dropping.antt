-- Writes aborted, then those who wait for a cycle there sifted on the table without the writes. Assumes nothing.
use Prim.Native.Nat.{ℕ, ◌+◌, ◌*◌, ◌≤◌}
use mathlib.Core.Path.{◌≡◌, ap, sym, subst, ◌∙◌}
use mathlib.Core.List.{List, ◌++◌, map}
use native.Mathlib.Omega.{arith}
use lib.ListN.{length, length-append}
use Rattle.queue.specs.declared.Queue.{Queue}
use Rattle.queue.specs.Queue.{queue_of}
use Rattle.channel.specs.declared.Channel.{Channel}
use Rattle.locks.specs.reply.Replies.{sent}
use Rattle.locks.proofs.reply.Laws.{length-sent, sent-append}
use Rattle.machine.specs.Lists.{keep}
use Rattle.machine.specs.State.{Lock, Reply}
use Rattle.machine.specs.Granting.{aborted_in, on_channels, given_up}
use Rattle.locks.specs.store.Store.{waiter_item, entries}
use Rattle.locks.specs.fates.declared.End.TheVariants.{Cut}
use Rattle.locks.specs.declared.Sifted.{Sifted}
use Rattle.locks.specs.Locks.{Locked, Sifting, Sifts}
use Rattle.locks.proofs.Laws.{lefts_cut, ending_cut}
use Rattle.dropped_writes.specs.DroppedWrites.{held_in, AbortsIn, drop_replies, Dropping, Dropt}

module _ {m : ℕ} {cs : List Channel} {q : Queue} {tb l : List ℕ} {n : ℕ} (a : Dropping m cs q tb l n) where
  told : List Reply
  told = map given_up (keep (on_channels 8 m) a.ws)

  both : length (drop_replies m (held_in tb cs) a.ws) ≡ length (aborted_in m (held_in tb cs)) + length told
  unfolding told
  both = length-append (aborted_in m (held_in tb cs)) (map given_up (keep (on_channels 8 m) a.ws))

  pub abort_fits : n * 6 + length (aborted_in m (held_in tb cs)) * 6 ≤ length l
  abort_fits =
      let r = a.room in
      let e = both in
      omega arith

  module _ {at : ℕ} {tb₁ l₁ : List ℕ} (w : AbortsIn m cs n tb l at tb₁ l₁) where
    pub sifting : Sifting Cut m q tb₁ l₁ at
    unfolding told
    sifting =
        let r = a.room in
        let e = both in
        let c = w.0 in
        let z = ap length w.1 ∙ length-sent l n (aborted_in m (held_in tb cs)) abort_fits in
        let t = ap length (ending_cut m a.ws) in
        record {
          pre = a.pre;
          ls = a.ws;
          post = a.post;
          locked = subst (λ (x : List ℕ). Locked 14 a.pre a.ws a.post q x) (sym w.2) a.locked;
          wanted = a.wanted;
          room = omega arith;
        }

    pub dropt : {f : Sifted} {tb₂ l₂ : List ℕ} → Sifts Cut m q tb₁ l₁ at f tb₂ l₂
        → Dropt m (held_in tb cs) a.pre a.ws a.post l n f tb₂ l₂
    unfolding sifting told
    dropt d =
        let v = d sifting in
        let x = aborted_in m (held_in tb cs) in
        let k = lefts_cut m a.ws in
        let e = both in
        let c = w.0 in
        let t = ending_cut m a.ws in
        let u = ap length t in
        let i = v.count in
        record {
          queue = v.queue ∙ ap (λ (ws : List Lock). queue_of (map (λ y. y.id) ws)) k;
          table = v.table ∙ ap (λ (ws : List Lock). entries 64 0 (a.pre ++ map waiter_item ws ++ a.post)) k;
          replies = v.replies ∙ ap (sent l₁ at) t ∙ (rw (w.1, w.0) (sent-append l n x (map given_up (keep (on_channels 8 m) a.ws)) abort_fits));
          count = omega arith;
        }
