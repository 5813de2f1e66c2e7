-- A WAITCYCLE that becomes outstanding: one id more in its queue, and its entry in the table. The id is new, so the queue has room.
-- Assumes nothing.
use Prim.Native.Nat.{ℕ, ◌+◌, ◌*◌, ◌^◌, ◌≤◌, ◌<◌}
use mathlib.Core.Path.{◌≡◌, refl, ap, sym, ◌∙◌}
use mathlib.Core.Bool.{Bool, true, false, not}
use mathlib.Core.List.{List, [], ◌∷◌, ◌++◌, map}
use native.Mathlib.Omega.{arith}
use lib.Dec.{T, ltb, lt→ltb}
use lib.ListN.{length, get_or, length-append, length-map}
use Rattle.table.specs.memory.Splice.{splice}
use Rattle.table.proofs.memory.Splice.{splice_none}
use Rattle.table.specs.Entry.{waiter_entry}
use Rattle.answers.specs.machine.Numbers.{NONE, NOALLOCATION}
use Rattle.answers.specs.machine.Lists.{all, among, distinct}
use Rattle.answers.specs.machine.State.{Lock, State as StateM, free}
use Rattle.answers.specs.machine.Sound.{ids, writes_of}
use Rattle.answers.specs.machine.Commands.{playing, done, pending, finished, silent, do_waitcycle}
use Rattle.answers.proofs.machine.Tests.{and_both}
use Rattle.channel.proofs.machine_laws.Lists.{pigeon}
use Rattle.channel.specs.machine_laws.Sound.{Parts}
use Rattle.queue.specs.declared.Queue.{Queue}
use Rattle.queue.specs.Queue.{queue_of, pushed}
use Rattle.queue.proofs.Laws.{pushed_of}
use Rattle.channel.specs.declared.Channel.{Channel}
use Rattle.channel.specs.Channel.{lowest_from}
use Rattle.channel.proofs.Single.{lowest_none, at_none}
use Rattle.fronts.specs.declared.Front.TheVariants.{Plays}
use Rattle.fronts.specs.Fronts.{on_air}
use Rattle.fronts.proofs.Laws.{passes_is}
use Rattle.answers.specs.store.declared.State.{State}
use Rattle.answers.specs.store.Store.{lock_item, waiter_item, wait_item, write_items, items, struct_of, table_of, state_in, Held}
use Rattle.answers.specs.store.Work.{Stands}
use Rattle.answers.proofs.store.Entries.{Ins, ins_left, ins_right, ins_at, table_add}
use Rattle.answers.proofs.store.Store.{held_parts, held_eight, keys-items, long-items, short-waits, held_opens}
use Rattle.play.proofs.granting.Laws.{held_channels}
use Rattle.answers.specs.declared.Request.{Request}
use Rattle.answers.specs.declared.Answer.{Answer}
use Rattle.answers.specs.Answers.{call_of, answer_of, Told}
use Rattle.play.specs.Play.{place_of}
use Rattle.play.proofs.Laws.{free_matches}
use Rattle.play.proofs.Places.{placed, Refused, nowhere, another, refused}
use Rattle.play.proofs.Queue.{channel_is}
use Rattle.play.proofs.Outcomes.{at_is, bit_is}
use Rattle.awaiting.specs.Awaiting.{waiter_of, awaited_by}

-- ---- one id more

-- a new id finds room
few : (i : ℕ) (s : StateM) → Parts s → i < 64 → T (not (among i (ids s))) → length s.waiters < 64
unfolding ids
few i s p b n =
    let h : length (i ∷ ids s) ≤ 64 = pigeon 64 (i ∷ ids s) (unfold distinct in and_both (not (among i (ids s))) (distinct (ids s)) n p.apart)
    (unfold all in and_both (ltb i 64) (all (λ j. ltb j 64) (ids s)) (lt→ltb i 64 b) p.small) in
    let g : length (ids s) ≡ length (writes_of s.channels) + length s.locks + length s.waiters + length s.waiting = simp (length-append, length-map) in
    omega arith

map_more : {A : Type 0} (f : Lock → A) (ws : List Lock) (w : Lock) → map f (ws ++ w ∷ []) ≡ map f ws ++ f w ∷ []
map_more f [] w = refl
map_more {A} f (v ∷ ws) w = ap (λ (l : List A). f v ∷ l) (map_more f ws w)

waiter_ins : (r : Request) (m : ℕ) (s : StateM) → Ins (waiter_item (waiter_of r m)) (items s) (items (awaited_by r m s))
unfolding items
waiter_ins r m s =
    let L = write_items s.channels ++ map lock_item s.locks in
    let W = map waiter_item s.waiters in
    let x = waiter_item (waiter_of r m) in
    let f : map waiter_item (s.waiters ++ waiter_of r m ∷ []) ≡ W ++ x ∷ [] = map_more waiter_item s.waiters (waiter_of r m) in
    let g : W ++ [] ≡ W = mathlib.Core.List.append-nil W in
    let a : Ins x (W ++ []) (W ++ x ∷ []) = ins_at x W [] in
    rw f (ins_right (map wait_item s.waiting) (ins_left L (rw g at a)))

module _ {st : State} {tb : List ℕ} (r : Request) (h : Held st tb) (b : r.id < 64) (n : T (not (among r.id (ids (state_in st tb))))) where
  pub waiter_room : st.waiters.n < 64
  waiter_room =
      let e = ap (λ (x : State). x.waiters.n) h.struct in
      let f = few r.id (state_in st tb) (held_parts h) b n in
      let g = length-map (state_in st tb).waiters (λ (x : Lock). x.id) in
      omega arith

  pub waiter-table : (m : ℕ) → splice tb (r.id * 23) (waiter_entry (waiter_of r m)) ≡ table_of (awaited_by r m (state_in st tb))
  unfolding table_of
  waiter-table m =
      let s = state_in st tb in
      ap (λ (x : List ℕ). splice x (r.id * 23) (waiter_entry (waiter_of r m))) h.table
      ∙ table_add (waiter_ins r m s) b (rw (keys-items s) n) (long-items (awaited_by r m s) (short-waits s.channels s.waiting (held_parts h).waiting_ok))

  pub waiter-struct : (m : ℕ) {q : Queue} → q ≡ pushed st.waiters r.id
      → record { channels = st.channels; locks = st.locks; waiters = q; waiting = st.waiting; opens = st.opens; last = st.last }
      ≡ struct_of (awaited_by r m (state_in st tb))
  waiter-struct m {q} p =
      let s = state_in st tb in
      let is = map (λ (y : Lock). y.id) s.waiters in
      let o : st.waiters ≡ queue_of is = ap (λ (y : State). y.waiters) h.struct in
      let k : length is < 64 = rw (length-map s.waiters (λ (y : Lock). y.id)) (few r.id s (held_parts h) b n) in
      let g : q ≡ queue_of (map (λ (y : Lock). y.id) (s.waiters ++ waiter_of r m ∷ [])) =
      p ∙ ap (λ (y : Queue). pushed y r.id) o ∙ pushed_of is r.id k ∙ ap queue_of (sym (map_more (λ y. y.id) s.waiters (waiter_of r m))) in
      let l : st.locks ≡ queue_of (map (λ y. y.id) s.locks) = ap (λ (y : State). y.locks) h.struct in
      let z : st.waiting ≡ queue_of (map (λ y. y.id) s.waiting) = ap (λ (y : State). y.waiting) h.struct in
      λ i. record { channels = held_channels h i; locks = l i; waiters = g i; waiting = z i; opens = held_opens h i; last = st.last }

-- ---- WAITCYCLE

module _ {st : State} {tb : List ℕ} (h : Held st tb) (r : Request) (i : ℕ) (e : i ≡ place_of r.key r.map st.channels) where
  pub wait-refused : 8 ≤ i → do_waitcycle (call_of r []) (state_in st tb) ≡ finished 14 (call_of r []) (done NOALLOCATION 0 r.key NONE) [] (state_in st tb)
  unfolding do_waitcycle
  wait-refused g = go (refused h r.key r.map i e g)
    where
      go : Refused r.key r.map (state_in st tb).channels
          → do_waitcycle (call_of r []) (state_in st tb) ≡ finished 14 (call_of r []) (done NOALLOCATION 0 r.key NONE) [] (state_in st tb)
      go (nowhere l) =
          let z : length (state_in st tb).channels ≤ lowest_from (length (state_in st tb).channels) r.map = rw (held_eight h) l in
          rw (lowest_none (length (state_in st tb).channels) r.map z, at_none (state_in st tb).channels, free_matches r.key) refl
      go (another l m) = rw (at_is (call_of r []) (state_in st tb) (lowest_from 8 r.map) (rw (held_eight h) refl) (rw (held_eight h) l), m) refl

  module _ (g : i < 8) (d : Channel) (b : Bool) (p : b ≡ on_air (get_or st.channels i d)) where
    plays_is : playing (get_or (state_in st tb).channels i free) ≡ b
    plays_is = sym (p ∙ (ap on_air (channel_is h i g d) ∙ passes_is Plays (get_or (state_in st tb).channels i free)))

    -- no write is in progress
    pub wait-idle : b ≡ false → do_waitcycle (call_of r []) (state_in st tb) ≡ finished 14 (call_of r []) (done 0 (2 ^ i) r.key NONE) [] (state_in st tb)
    unfolding do_waitcycle
    wait-idle f =
        let o = placed h r.key r.map i e g in
        let q : i ≡ lowest_from (length (state_in st tb).channels) r.map = rw (held_eight h) o.low in
        let l : i < length (state_in st tb).channels = rw (held_eight h) g in
        rw (at_is (call_of r []) (state_in st tb) i q l, bit_is (call_of r []) (state_in st tb) i q l, o.own, plays_is ∙ f) refl

    -- one is
    pub wait-told : {m : ℕ} {t : State} {a : Answer} {l tb' : List ℕ} → b ≡ true → m ≡ 2 ^ i → a ≡ answer_of (pending r.key)
        → Stands (awaited_by r m (state_in st tb)) t tb' → Told (do_waitcycle (call_of r []) (state_in st tb)) l (record { answer = a; state = t; n = 0 }) tb' l
    unfolding do_waitcycle silent
    wait-told {m} {l = l} f k ea w =
        let o = placed h r.key r.map i e g in
        let q : i ≡ lowest_from (length (state_in st tb).channels) r.map = rw (held_eight h) o.low in
        let u : i < length (state_in st tb).channels = rw (held_eight h) g in
        rw (at_is (call_of r []) (state_in st tb) i q u, bit_is (call_of r []) (state_in st tb) i q u, o.own, plays_is ∙ f, ← k)
        (record { answer = ea; did = record { struct = w.0; table = w.1; list = sym (splice_none l 0); count = refl } })
