-- Channels freed: their writes aborted with who waits for a cycle of theirs, then the locks sifted on the table without those. Assumes nothing.
use Prim.Native.Nat.{ℕ, ◌+◌, ◌*◌, ◌≤◌, ◌<◌}
use mathlib.Core.Path.{◌≡◌, refl, ap, sym, subst, ◌∙◌}
use mathlib.Core.Bool.{not}
use mathlib.Core.List.{List, [], ◌∷◌, ◌++◌, map, append_assoc}
use native.Mathlib.Omega.{arith}
use lib.ListN.{length, length-append}
use Rattle.answers.specs.reply.Replies.{sent}
use Rattle.answers.proofs.reply.Laws.{sent-append, length-sent}
use Rattle.answers.specs.machine.Numbers.{ENTRIES}
use Rattle.answers.specs.machine.Lists.{keep}
use Rattle.answers.specs.machine.State.{Channel as ChannelM, Lock, Reply, with_channels, with_locks}
use Rattle.answers.specs.machine.Maps.{odd, half, change}
use Rattle.answers.specs.machine.Granting.{cut, dropped}
use Rattle.answers.specs.machine.Commands.{matching, freed, cleared, is_empty, freeing, freeing_replies, done, each, silent, closed, owned, do_free, do_close}
use Rattle.open_keys.specs.queue.Queue.{queue_of}
use Rattle.open_keys.specs.declared.Keys.{Keys}
use Rattle.open_keys.specs.OpenKeys.{keys_of, keys_in, Tidy}
use Rattle.open_keys.proofs.Laws.{keys_in_keys_of, tidy_of}
use Rattle.channel.specs.declared.Change.TheVariants.{Free}
use Rattle.channel.specs.declared.Channel.{Channel}
use Rattle.channel.specs.Channel.{channel_of, changed_of, change_each, matching_each}
use Rattle.answers.specs.store.declared.State.{State}
use Rattle.answers.specs.store.Store.{Item, lock_item, waiter_item, wait_item, write_items, items, entries, table_of, state_in, Held, Good}
use Rattle.answers.specs.store.Work.{Ready, Did}
use Rattle.answers.proofs.store.Store.{held_parts, held_eight, good_of, held_opens, opens-count}
use Rattle.sweep.specs.dropped_writes.locks.declared.Sifted.{Sifted}
use Rattle.sweep.specs.dropped_writes.DroppedWrites.{Dropping, Drops}
use Rattle.sweep.proofs.granting.Laws.{held_changed, good_cut, Cuts, dropping_all, cuts_all}
use Rattle.locks.specs.fates.declared.End.TheVariants.{Freed}
use Rattle.locks.specs.declared.Sifted.{Sifted}
use Rattle.locks.specs.Locks.{lefts, ending, Sifting, Sifts}
use Rattle.locks.proofs.Laws.{lefts-freed, ending-freed, maps-small}
use Rattle.answers.specs.declared.Request.{Request}
use Rattle.answers.specs.declared.Answer.{Answer}
use Rattle.answers.specs.declared.Outcome.{Outcome}
use Rattle.answers.specs.Answers.{call_of, answer_of, Told}
use Rattle.sweep.specs.Sweep.{error_at}
use Rattle.sweep.proofs.Matching.{match_is}
use Rattle.sweep.proofs.Steps.{Ends, end_room, told_each}

-- ---- of a state that is held

no_writes : (c : ChannelM) → (freed c).writes ≡ []
no_writes c = refl

module _ {st : State} {tb : List ℕ} (m : ℕ) (h : Held st tb) where
  abbrev left : List Lock
  left = lefts Freed m (state_in st tb).locks

  abbrev over : List Reply
  over = ending Freed m (state_in st tb).locks

  left_is : left ≡ keep (λ l. not (is_empty l)) (cleared (length (state_in st tb).channels) m (state_in st tb).locks)
  left_is = rw (held_eight h) (lefts-freed m (state_in st tb).locks)

  replies_are : dropped m (state_in st tb) ++ over ≡ freeing_replies m (state_in st tb)
  unfolding freeing_replies
  replies_are = rw (held_eight h, ending-freed m (state_in st tb).locks)

  replies-count : length (dropped m (state_in st tb)) + length over ≡ length (freeing_replies m (state_in st tb))
  replies-count = sym (length-append (dropped m (state_in st tb)) over) ∙ ap length replies_are

module _ {st : State} {tb l : List ℕ} (m : ℕ) (b : m < 256) (p : Ready st tb l 0 (length (freeing_replies m (state_in st tb)))) where
  drop-ready : Ready st tb l 0 (length (dropped m (state_in st tb)))
  drop-ready =
      let f = p.fits in
      let e = replies-count m p.held in
      record { held = p.held; room = p.room; fits = omega arith }

  pub drop-asks : Dropping m st.channels st.waiters tb l 0
  drop-asks = dropping_all m b drop-ready freed no_writes

  module _ {q : Sifted} {l₁ tb₁ : List ℕ} (w : Drops m st.channels st.waiters tb l 0 q tb₁ l₁) where
    after : Cuts freed m (state_in st tb) (dropped m (state_in st tb)) l 0 q tb₁ l₁
    after = cuts_all m b drop-ready freed no_writes w

    fits : 0 * 6 + length (dropped m (state_in st tb)) * 6 ≤ length l
    fits =
        let r = drop-ready.room in
        let f = drop-ready.fits in
        omega arith

    abbrev behind : List Lock → List Item
    behind ls =
        write_items (change freed m (state_in st tb).channels) ++ map lock_item ls
        ++ (map waiter_item (cut m (state_in st tb)).waiters ++ map wait_item (state_in st tb).waiting)

    -- the locks stand between the writes that are left and the WAITCYCLEs that are
    split : (ls : List Lock) → items (with_locks ls (with_channels (change freed m (state_in st tb).channels) (cut m (state_in st tb)))) ≡ behind ls
    unfolding items cut
    split ls =
        append_assoc (write_items (change freed m (state_in st tb).channels) ++ map lock_item ls) (map waiter_item (cut m (state_in st tb)).waiters)
        (map wait_item (state_in st tb).waiting)

    pub sifting : Sifting Freed m st.locks tb₁ l₁ q.n
    unfolding table_of cut
    sifting =
        let s = state_in st tb in
        let h = p.held in
        let r = p.room in
        let f = p.fits in
        record {
          pre = write_items (change freed m s.channels);
          ls = s.locks;
          post = map waiter_item (cut m s).waiters ++ map wait_item s.waiting;
          locked = record {
            queue = ap (λ (x : State). x.locks) h.struct;
            table = after.table ∙ ap (entries 64 0) (split s.locks);
            good = subst Good (split s.locks) (good_cut freed no_writes m s (good_of s (held_parts h)));
            maps = maps-small s (held_parts h) (held_eight h);
          };
          wanted = b;
          room = let e = replies-count m h in
              let k = length-sent l 0 (dropped m s) fits in
              let z = ap length after.list in
              let c = after.count in
              omega arith;
        }

    pub freed-did : {l₂ tb₂ : List ℕ} {f : Sifted} {ds : List Channel} → ds ≡ change_each (changed_of Free) m st.channels
        → Sifts Freed m st.locks tb₁ l₁ q.n f tb₂ l₂
        → Did (freeing m (state_in st tb)) (freeing_replies m (state_in st tb)) l 0
        (record { channels = ds; locks = f.left; waiters = q.left; waiting = st.waiting; opens = st.opens; last = st.last }) tb₂ l₂ f.n
    unfolding freeing table_of cut sifting
    freed-did {l₂} {tb₂} {f} {ds} u g =
        let s = state_in st tb in
        let h = p.held in
        let v = g sifting in
        let n = replies-count m h in
        let kept = keep (λ x. not (is_empty x)) (cleared (length s.channels) m s.locks) in
        let c : ds ≡ map channel_of (change freed m s.channels) = u ∙ held_changed h Free m in
        let o : f.left ≡ queue_of (map (λ x. x.id) kept) = v.queue ∙ ap (λ (ls : List Lock). queue_of (map (λ x. x.id) ls)) (left_is m h) in
        let x : st.waiting ≡ queue_of (map (λ y. y.id) s.waiting) = ap (λ (y : State). y.waiting) h.struct in
        let a = after.count in
        record {
          struct = λ i. record { channels = c i; locks = o i; waiters = after.queue i; waiting = x i; opens = held_opens h i; last = st.last };
          table = v.table ∙ ap (λ (ls : List Lock). entries 64 0 (behind ls)) (left_is m h) ∙ ap (entries 64 0) (sym (split kept));
          list = v.replies ∙ (rw (after.list, a, ← replies_are m h) (sent-append l 0 (dropped m s) (over m h) fits));
          count = v.count ∙ (omega arith);
        }

-- ---- FREE

module _ {st : State} {tb : List ℕ} (r : Request) (h : Held st tb) (b : r.map < 256) (free : r.command ≡ 9) {ok : ℕ}
    (e : ok ≡ matching_each r.key r.map st.channels) where
  pub free_ready : {l : List ℕ} → Ready st tb l 0 (length (freeing_replies (matching r.key r.map (state_in st tb).channels) (state_in st tb)) + 1)
      → Ready st tb l 0 (length (freeing_replies ok (state_in st tb)))
  free_ready p =
      let q : ok ≡ matching r.key r.map (state_in st tb).channels = e ∙ match_is h r.key r.map in
      let f = p.fits in
      record { held = h; room = p.room; fits = rw q (omega arith) }

  pub free_did : {l l₁ tb₁ : List ℕ} {t : State} {n : ℕ} → Did (freeing ok (state_in st tb)) (freeing_replies ok (state_in st tb)) l 0 t tb₁ l₁ n
      → Did (freeing (matching r.key r.map (state_in st tb).channels) (state_in st tb))
      (freeing_replies (matching r.key r.map (state_in st tb).channels) (state_in st tb)) l 0 t tb₁ l₁ n
  free_did {l} {l₁} {tb₁} {t} {n} g =
      subst (λ (y : ℕ). Did (freeing y (state_in st tb)) (freeing_replies y (state_in st tb)) l 0 t tb₁ l₁ n) (e ∙ match_is h r.key r.map) g

  pub free_room : {l l₁ tb₁ : List ℕ} {t : State} {n : ℕ}
      → Ready st tb l 0 (length (freeing_replies (matching r.key r.map (state_in st tb).channels) (state_in st tb)) + 1)
      → Did (freeing ok (state_in st tb)) (freeing_replies ok (state_in st tb)) l 0 t tb₁ l₁ n → n * 6 + 6 ≤ length l₁
  free_room p g = let f = p.fits in end_room p.room (omega arith) (free_did g)

  pub told_free : {l l₁ l₂ tb₁ : List ℕ} {t : State} {n : ℕ} {x : Answer} {d : Outcome} → 384 ≤ length l
      → 0 + (length (freeing_replies (matching r.key r.map (state_in st tb).channels) (state_in st tb)) + 1) ≤ 64
      → Did (freeing ok (state_in st tb)) (freeing_replies ok (state_in st tb)) l 0 t tb₁ l₁ n
      → x ≡ answer_of (done (error_at ok r.map) ok r.key 255) → Ends r x t n l₁ d l₂ → Told (do_free (call_of r []) (state_in st tb)) l d tb₁ l₂
  unfolding do_free
  told_free {l} {l₁} {l₂} {tb₁} {t} {n} {x} {d} room fits g v f =
      let s = state_in st tb in
      let m = matching r.key r.map s.channels in
      subst (λ (y : ℕ). Told (each y (call_of r []) (freeing_replies m s) (freeing m s) s) l d tb₁ l₂) free (told_each r h b e room (omega arith) (free_did g) v f)

-- ---- CLOSE

owned-eight : (k : ℕ) (cs : List ChannelM) → length cs ≡ 8 → owned k cs ≡ matching k 255 cs
unfolding owned matching odd half
owned-eight k [] f = absurd (omega arith)
owned-eight k (a ∷ []) f = absurd (omega arith)
owned-eight k (a ∷ b ∷ []) f = absurd (omega arith)
owned-eight k (a ∷ b ∷ c ∷ []) f = absurd (omega arith)
owned-eight k (a ∷ b ∷ c ∷ d ∷ []) f = absurd (omega arith)
owned-eight k (a ∷ b ∷ c ∷ d ∷ u ∷ []) f = absurd (omega arith)
owned-eight k (a ∷ b ∷ c ∷ d ∷ u ∷ v ∷ []) f = absurd (omega arith)
owned-eight k (a ∷ b ∷ c ∷ d ∷ u ∷ v ∷ w ∷ []) f = absurd (omega arith)
owned-eight k (a ∷ b ∷ c ∷ d ∷ u ∷ v ∷ w ∷ x ∷ []) f = refl
owned-eight k (a ∷ b ∷ c ∷ d ∷ u ∷ v ∷ w ∷ x ∷ y ∷ cs) f = absurd (omega arith)

module _ {st : State} {tb : List ℕ} (r : Request) (h : Held st tb) {ok : ℕ} (e : ok ≡ matching_each r.key 255 st.channels) where
  pub owned_is : ok ≡ owned r.key (state_in st tb).channels
  owned_is = e ∙ match_is h r.key 255 ∙ sym (owned-eight r.key (state_in st tb).channels (held_eight h))

  pub close_ready : {l : List ℕ} → Ready st tb l 0 (length (freeing_replies (owned r.key (state_in st tb).channels) (state_in st tb)))
      → Ready st tb l 0 (length (freeing_replies ok (state_in st tb)))
  close_ready p = record { held = h; room = p.room; fits = rw owned_is p.fits }

  module _ {l l₁ tb₁ : List ℕ} {t : State} {n : ℕ} (g : Did (freeing ok (state_in st tb)) (freeing_replies ok (state_in st tb)) l 0 t tb₁ l₁ n) where
    -- freeing leaves the open keys
    close_opens : t.opens ≡ keys_of (keys_in st.opens)
    unfolding freeing cut
    close_opens = ap (λ (y : State). y.opens) g.struct

    pub close_tidy : Tidy t.opens × (t.opens.n ≤ ENTRIES)
    close_tidy = (tidy_of (keys_in st.opens) close_opens, omega (arith, ap (λ (x : Keys). x.n) close_opens, (opens-count h).0, (opens-count h).1))

    pub told_close : {x : Answer} {q : Keys} → x ≡ answer_of (done 0 0 r.key 255) → q ≡ keys_of (closed r.key (keys_in t.opens))
        → Told (do_close (call_of r []) (state_in st tb)) l
        (record { answer = x; state = record { channels = t.channels; locks = t.locks; waiters = t.waiters; waiting = t.waiting; opens = q; last = t.last }; n = n }) tb₁ l₁
    unfolding do_close silent table_of items
    told_close {q = k} v eq =
        let s = state_in st tb in
        let q : Did (freeing (owned r.key s.channels) s) (freeing_replies (owned r.key s.channels) s) l 0 t tb₁ l₁ n =
        subst (λ (y : ℕ). Did (freeing y s) (freeing_replies y s) l 0 t tb₁ l₁ n) owned_is g in
        let o : k ≡ keys_of (closed r.key s.opens) = eq ∙ ap (λ (y : List ℕ). keys_of (closed r.key y)) (ap keys_in close_opens ∙ keys_in_keys_of (keys_in st.opens)) in
        record {
          answer = v;
          did = record {
            struct = λ i. record {
              channels = (q.struct i).channels;
              locks = (q.struct i).locks;
              waiters = (q.struct i).waiters;
              waiting = (q.struct i).waiting;
              opens = o i;
              last = (q.struct i).last;
            };
            table = q.table;
            list = q.list;
            count = q.count;
          };
        }
