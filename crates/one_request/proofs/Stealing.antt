-- A held request ends the locks over its map: the sieve of the locks, said of a state. Assumes nothing.
use Prim.Native.Nat.{ℕ, ◌+◌, ◌≤◌, ◌<◌}
use mathlib.Core.Path.{◌≡◌, ap, sym, ◌∙◌}
use mathlib.Core.List.{List, ◌++◌, map, append_assoc}
use native.Mathlib.Omega.{arith}
use lib.ListN.{length, drop, length-set}
use Rattle.queue.specs.Queue.{queue_of}
use Rattle.locks.specs.reply.Replies.{sent}
use Rattle.machine_laws.specs.machine.State.{Lock, Reply, with_locks}
use Rattle.locks.specs.store.declared.State.{State}
use Rattle.locks.specs.store.Store.{lock_item, waiter_item, wait_item, write_items, items, entries, table_of, state_in, Held}
use Rattle.locks.specs.store.Work.{Did}
use Rattle.locks.proofs.store.Store.{held_parts, held_eight, held_opens}
use Rattle.locks.specs.fates.declared.End.TheVariants.{Stolen}
use Rattle.locks.specs.declared.Sifted.{Sifted}
use Rattle.locks.specs.Locks.{lefts, ending, Sifting, Sieved}
use Rattle.locks.proofs.Laws.{lefts-stolen, ending-stolen, locked_of}
use Rattle.one_request.specs.OneRequest.{stolen, without_locks}

module _ {st : State} {tb : List ℕ} (h : Held st tb) (m : ℕ) where
  pub stolen_is : ending Stolen m (state_in st tb).locks ≡ stolen m (state_in st tb)
  stolen_is = rw (held_eight h) (ending-stolen m (state_in st tb).locks)

  left_is : lefts Stolen m (state_in st tb).locks ≡ (without_locks m (state_in st tb)).locks
  left_is = rw (held_eight h) (lefts-stolen m (state_in st tb).locks)

  unfoldable pub sifting_of : {l : List ℕ} {n : ℕ} → m < 256 → 384 ≤ length l → n + length (stolen m (state_in st tb)) ≤ 64 → Sifting Stolen m st.locks tb l n
  sifting_of {l} {n} b r f =
      let s = state_in st tb in
      let k = locked_of s (held_parts h) (held_eight h) in
      record {
        pre = write_items s.channels;
        ls = s.locks;
        post = map waiter_item s.waiters ++ map wait_item s.waiting;
        locked = record {
          queue = ap (λ (x : State). x.locks) h.struct ∙ k.queue;
          table = h.table ∙ k.table;
          good = k.good;
          maps = k.maps;
        };
        wanted = b;
        room = rw stolen_is (omega arith);
      }

  pub stolen-did : {l tb' l' : List ℕ} {n : ℕ} {r : Sifted} → Sieved Stolen m (write_items (state_in st tb).channels) (state_in st tb).locks (map waiter_item (state_in st tb).waiters ++ map wait_item (state_in st tb).waiting) l n r tb' l'
      → Did (without_locks m (state_in st tb)) (stolen m (state_in st tb)) l n (record { channels = st.channels; locks = r.left; waiters = st.waiters; waiting = st.waiting; opens = st.opens; last = st.last }) tb' l' r.n
  stolen-did {l} {n = n} {r = r} e =
      let s = state_in st tb in
      let q : r.left ≡ queue_of (map (λ (x : Lock). x.id) (without_locks m s).locks) = e.queue ∙ ap (λ (x : List Lock). queue_of (map (λ (y : Lock). y.id) x)) left_is in
      let c = ap (λ (x : State). x.channels) h.struct in
      let v = ap (λ (x : State). x.waiters) h.struct in
      let w = ap (λ (x : State). x.waiting) h.struct in
      record {
        struct = λ i. record { channels = c i; locks = q i; waiters = v i; waiting = w i; opens = held_opens h i; last = st.last };
        table = e.table ∙ table_of_lem (lefts Stolen m s.locks) (without_locks m s).locks left_is;
        list = e.replies ∙ ap (sent l n) stolen_is;
        count = e.count ∙ ap (λ (x : List Reply). n + length x) stolen_is;
      }
    where
      table_of_lem : (ls ks : List Lock) → ls ≡ ks
          → entries 64 0 (write_items (state_in st tb).channels ++ map lock_item ls ++ (map waiter_item (state_in st tb).waiters ++ map wait_item (state_in st tb).waiting))
          ≡ table_of (with_locks ks (state_in st tb))
      table_of_lem ls ks x =
          unfold table_of items in
          ap (λ (y : List Lock). entries 64 0 (write_items (state_in st tb).channels ++ map lock_item y ++ (map waiter_item (state_in st tb).waiters ++ map wait_item (state_in st tb).waiting))) x
          ∙ ap (entries 64 0) (sym (append_assoc (write_items (state_in st tb).channels ++ map lock_item ks) (map waiter_item (state_in st tb).waiters) (map wait_item (state_in st tb).waiting)))
