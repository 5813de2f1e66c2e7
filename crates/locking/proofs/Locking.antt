-- A LOCK that becomes outstanding: one id more in the queue of locks, and its entry in the table. The id is new, so the queue
-- has room. Assumes nothing.
use Prim.Native.Nat.{ℕ, ◌+◌, ◌*◌, ◌≤◌, ◌<◌}
use mathlib.Core.Path.{◌≡◌, refl, ap, sym, subst, ◌∙◌}
use mathlib.Core.Bool.{true, false, not}
use mathlib.Core.List.{List, [], ◌∷◌, ◌++◌, map}
use native.Mathlib.Omega.{arith}
use lib.Dec.{T, eqb, ltb, lt→ltb}
use lib.ListN.{length, length-append, length-map}
use Rattle.table.specs.memory.Splice.{splice}
use Rattle.table.proofs.memory.Splice.{splice_none}
use Rattle.table.specs.Entry.{lock_entry}
use Rattle.answers.specs.machine.Lists.{all, among, distinct}
use Rattle.answers.specs.machine.State.{Lock as LockM, State as StateM}
use Rattle.answers.specs.machine.Maps.{change}
use Rattle.answers.specs.machine.Sound.{ids, writes_of}
use Rattle.answers.specs.machine.Commands.{mismatch, set_lock, done, pending, finished, silent, do_lock}
use Rattle.answers.proofs.machine.Tests.{and_both}
use Rattle.channel.proofs.machine_laws.Lists.{pigeon}
use Rattle.channel.specs.machine_laws.Sound.{Parts}
use Rattle.queue.specs.declared.Queue.{Queue}
use Rattle.queue.specs.Queue.{queue_of, pushed}
use Rattle.queue.proofs.Laws.{pushed_of}
use Rattle.channel.specs.declared.Change.TheVariants.{Lock}
use Rattle.channel.specs.declared.Channel.{Channel}
use Rattle.channel.specs.Channel.{channel_of, changed_of, change_each, matching_each}
use Rattle.answers.specs.store.declared.State.{State}
use Rattle.answers.specs.store.Store.{Item, lock_item, waiter_item, wait_item, write_items, items, struct_of, table_of, state_in, Held}
use Rattle.answers.specs.store.Work.{Ready, Did}
use Rattle.answers.proofs.store.Entries.{Ins, ins_left, ins_right, ins_at, table_add}
use Rattle.answers.proofs.store.Store.{held_parts, keys-items, long-items, short-waits, held_opens}
use Rattle.sweep.proofs.granting.Laws.{held_changed}
use Rattle.answers.specs.declared.Request.{Request}
use Rattle.answers.specs.declared.Answer.{Answer}
use Rattle.answers.specs.declared.Outcome.{Outcome}
use Rattle.answers.specs.Answers.{call_of, answer_of, Told}
use Rattle.locking.specs.Locking.{lock_of, locked_by}
use Rattle.sweep.proofs.Matching.{match_is, held_mismatch}
use Rattle.sweep.proofs.Steps.{Ends, told_end, marked-items}

-- ---- one id more

-- a new id finds room
few : (i : ℕ) (s : StateM) → Parts s → i < 64 → T (not (among i (ids s))) → length s.locks < 64
unfolding ids
few i s p b n =
    let h : length (i ∷ ids s) ≤ 64 = pigeon 64 (i ∷ ids s) (unfold distinct in and_both (not (among i (ids s))) (distinct (ids s)) n p.apart)
    (unfold all in and_both (ltb i 64) (all (λ j. ltb j 64) (ids s)) (lt→ltb i 64 b) p.small) in
    let g : length (ids s) ≡ length (writes_of s.channels) + length s.locks + length s.waiters + length s.waiting = unfold ids in simp (length-append, length-map) in
    omega arith

split_map : (xs ys : List LockM) → map lock_item (xs ++ ys) ≡ map lock_item xs ++ map lock_item ys
split_map [] ys = refl
split_map (x ∷ xs) ys = ap (λ (l : List Item). lock_item x ∷ l) (split_map xs ys)

ids_more : (ls : List LockM) (l : LockM) → map (λ (x : LockM). x.id) (ls ++ l ∷ []) ≡ map (λ (x : LockM). x.id) ls ++ l.id ∷ []
ids_more [] l = refl
ids_more (x ∷ ls) l = ap (λ (is : List ℕ). x.id ∷ is) (ids_more ls l)

lock_ins : (r : Request) (s : StateM) → Ins (lock_item (lock_of r)) (items s) (items (locked_by r s))
unfolding items
lock_ins r s =
    let W = write_items s.channels in
    let L = map lock_item s.locks in
    let C = map waiter_item s.waiters in
    let Q = map wait_item s.waiting in
    let x = lock_item (lock_of r) in
    let e : write_items (change set_lock r.map s.channels) ≡ W = marked-items set_lock (λ c. (refl, refl)) r.map s.channels in
    let f : map lock_item (s.locks ++ lock_of r ∷ []) ≡ L ++ x ∷ [] = split_map s.locks (lock_of r ∷ []) in
    let g : L ++ [] ≡ L = mathlib.Core.List.append-nil L in
    let a : Ins x (L ++ []) (L ++ x ∷ []) = ins_at x L [] in
    rw (e, f) (ins_right Q (ins_right C (ins_left W (rw g at a))))

module _ {st : State} {tb : List ℕ} (r : Request) (h : Held st tb) (b : r.id < 64) (n : T (not (among r.id (ids (state_in st tb))))) where
  pub lock_room : st.locks.n < 64
  lock_room =
      let e = ap (λ (x : State). x.locks.n) h.struct in
      let f = few r.id (state_in st tb) (held_parts h) b n in
      let g = length-map (state_in st tb).locks (λ (x : LockM). x.id) in
      omega arith

  pub lock-table : splice tb (r.id * 23) (lock_entry (lock_of r)) ≡ table_of (locked_by r (state_in st tb))
  unfolding table_of
  lock-table =
      let s = state_in st tb in
      ap (λ (x : List ℕ). splice x (r.id * 23) (lock_entry (lock_of r))) h.table
      ∙ table_add (lock_ins r s) b (rw (keys-items s) n) (long-items (locked_by r s) (short-waits s.channels s.waiting (held_parts h).waiting_ok))

  pub lock-struct : {q : Queue} {ds : List Channel} → ds ≡ change_each (changed_of Lock) r.map st.channels → q ≡ pushed st.locks r.id
      → record { channels = ds; locks = q; waiters = st.waiters; waiting = st.waiting; opens = st.opens; last = st.last } ≡ struct_of (locked_by r (state_in st tb))
  lock-struct {q} {ds} u p =
      let s = state_in st tb in
      let is = map (λ (y : LockM). y.id) s.locks in
      let c : ds ≡ map channel_of (change set_lock r.map s.channels) = u ∙ held_changed h Lock r.map in
      let o : st.locks ≡ queue_of is = ap (λ (y : State). y.locks) h.struct in
      let k : length is < 64 = rw (length-map s.locks (λ (y : LockM). y.id)) (few r.id s (held_parts h) b n) in
      let g : q ≡ queue_of (map (λ (y : LockM). y.id) (s.locks ++ lock_of r ∷ [])) =
      p ∙ ap (λ (y : Queue). pushed y r.id) o ∙ pushed_of is r.id k ∙ ap queue_of (sym (ids_more s.locks (lock_of r))) in
      let v : st.waiters ≡ queue_of (map (λ y. y.id) s.waiters) = ap (λ (y : State). y.waiters) h.struct in
      let z : st.waiting ≡ queue_of (map (λ y. y.id) s.waiting) = ap (λ (y : State). y.waiting) h.struct in
      λ i. record { channels = c i; locks = g i; waiters = v i; waiting = z i; opens = held_opens h i; last = st.last }

-- ---- LOCK

module _ {st : State} {tb : List ℕ} (r : Request) (h : Held st tb) (b : r.map < 256) (lock : r.command ≡ 13) {ok : ℕ}
    (e : ok ≡ matching_each r.key r.map st.channels) where
  same_did : {l : List ℕ} → Did (state_in st tb) [] l 0 st tb l 0
  same_did {l} = record { struct = h.struct; table = h.table; list = sym (splice_none l 0); count = refl }

  mismatch_ok : mismatch r.key r.map (state_in st tb).channels ≡ not (eqb ok r.map)
  mismatch_ok = held_mismatch h r.key r.map b ∙ ap (λ (y : ℕ). not (eqb y r.map)) (sym (e ∙ match_is h r.key r.map))

  module _ {l l₂ : List ℕ} {x : Answer} {d : Outcome} (p : Ready st tb l 0 1) (f : Ends r x st 0 l d l₂) where
    -- told at once, with an error or without
    told-now : (a : ℕ) → x ≡ answer_of (done a 0 r.key 255) → Told (finished 13 (call_of r []) (done a 0 r.key 255) [] (state_in st tb)) l d tb l₂
    told-now a v =
        subst (λ (y : ℕ). Told (finished y (call_of r []) (done a 0 r.key 255) [] (state_in st tb)) l d tb l₂) lock
        (told_end r (done a 0 r.key 255) p.room (omega arith) same_did v f)

    pub told-refused : eqb ok r.map ≡ false → x ≡ answer_of (done 246 0 r.key 255) → Told (do_lock (call_of r []) (state_in st tb)) l d tb l₂
    unfolding do_lock
    told-refused t v = rw (mismatch_ok ∙ ap not t) (told-now 246 v)

    pub told_none : eqb ok r.map ≡ true → eqb r.map 0 ≡ true → x ≡ answer_of (done 0 0 r.key 255) → Told (do_lock (call_of r []) (state_in st tb)) l d tb l₂
    unfolding do_lock
    told_none t z v = rw (mismatch_ok ∙ ap not t, z) (told-now 0 v)

  -- outstanding: nothing is replied
  pub told-lock : {l tb₁ : List ℕ} {t : State} {x : Answer} → eqb ok r.map ≡ true → eqb r.map 0 ≡ false
      → (t ≡ struct_of (locked_by r (state_in st tb))) × (tb₁ ≡ table_of (locked_by r (state_in st tb))) → x ≡ answer_of (pending r.key)
      → Told (do_lock (call_of r []) (state_in st tb)) l (record { answer = x; state = t; n = 0 }) tb₁ l
  unfolding do_lock silent
  told-lock {l} t z g v =
      rw (mismatch_ok ∙ ap not t, z)
      (record { answer = v; did = record { struct = g.0; table = g.1; list = sym (splice_none l 0); count = refl } })
