-- The events put together: what their calls ensure makes what they promise. Assumes nothing.
use Prim.Native.Nat.{ℕ, ◌+◌, ◌^◌, ◌≤◌, ◌<◌}
use mathlib.Core.Path.{◌≡◌, refl, ap, sym, subst, ◌∙◌}
use mathlib.Core.Bool.{not}
use mathlib.Core.List.{List, [], ◌++◌, map}
use native.Mathlib.Omega.{arith}
use lib.ListN.{length, length-append, length-map}
use Rattle.memory.proofs.Splice.{splice_none}
use Rattle.answers.specs.reply.Replies.{sent}
use Rattle.answers.proofs.reply.Laws.{sent-append, length-sent}
use Rattle.queue.specs.declared.Queue.{Queue}
use Rattle.queue.specs.Queue.{queue_of}
use Rattle.channel.specs.Channel.{lowest_from}
use Rattle.answers.specs.machine.Numbers.{NONE}
use Rattle.answers.specs.machine.Lists.{keep}
use Rattle.answers.specs.machine.State.{Lock, State as StateM, Reply, Event, CYCLE_ENDED, GAVE_UP}
use Rattle.answers.specs.machine.Granting.{on_channels, cut}
use Rattle.answers.specs.machine.Commands.{done, silent, met, front_cycled, cut_fronts, front_replies, event_replies, happened, do_event}
use Rattle.answers.specs.machine.Sound.{writes_of, sound_waiter}
use Rattle.channel.proofs.machine_laws.Lists.{sub_refl, all_keep, keep_length}
use Rattle.channel.specs.machine_laws.Sound.{Parts}
use Rattle.channel.proofs.machine_laws.Sound.{ids_few}
use Rattle.channel.specs.machine_laws.Keeping.{lock_ids, wait_ids}
use Rattle.channel.proofs.machine_laws.Keeping.{ids_sub, parts_sub, cut_ids}
use Rattle.answers.specs.store.declared.State.{State}
use Rattle.answers.specs.store.Store.{lock_item, waiter_item, wait_item, write_items, items, entries, table_of, struct_of, state_in, Held}
use Rattle.answers.specs.store.Work.{Ready, Did}
use Rattle.answers.proofs.store.Store.{held_parts, held_eight, held_next, held_opens}
use Rattle.locks.specs.fates.declared.End.TheVariants.{Met}
use Rattle.locks.specs.declared.Sifted.{Sifted}
use Rattle.locks.specs.Locks.{lefts, ending, Sifting, Sieved, Sifts}
use Rattle.locks.proofs.Laws.{lefts-met, ending-met, waiters_of_lem, stay_or_end}
use Rattle.cutting.proofs.granting.Laws.{held_channels}
use Rattle.cutting.proofs.granting.Few.{front_replies_few}
use Rattle.answers.specs.declared.Request.{Request}
use Rattle.answers.specs.declared.Answer.{Answer}
use Rattle.answers.specs.Answers.{call_of, answer_of, Told}
use Rattle.answers.proofs.Laws.{told_as}
use Rattle.ending.proofs.play.Outcomes.{at_is, bit_is, change_is}
use Rattle.ending.proofs.play.Queue.{front_room}
use Rattle.cutting.specs.Cutting.{CutsFronts}
use Rattle.answers.specs.store.declared.Progress.{Progress}
use Rattle.ending.specs.Ending.{Led, with_cycle, cycle_replies, EndsCycle}
use Rattle.events.specs.Events.{met_replies, Meets}

-- ---- those who wait for a cycle

-- the struct with other WAITCYCLEs
abbrev pub with_queue : Queue → State → State
with_queue q st = record { channels = st.channels; locks = st.locks; waiters = q; waiting = st.waiting; opens = st.opens; last = st.last }

module _ {st : State} {tb l : List ℕ} {m : ℕ} (b : m < 256) (p : Ready st tb l 0 0) where
  few : length (ending Met m (state_in st tb).waiters) ≤ 64
  few =
      let e = stay_or_end Met m (state_in st tb).waiters in
      let k = ids_few (state_in st tb) (held_parts p.held) in
      omega arith

  pub meet_asks : Sifting Met m st.waiters tb l 0
  meet_asks =
      let s = state_in st tb in
      let h = p.held in
      let k = waiters_of_lem s (held_parts h) (held_eight h) in
      let f = few in
      let r = p.room in
      record {
        pre = write_items s.channels ++ map lock_item s.locks;
        ls = s.waiters;
        post = map wait_item s.waiting;
        locked = record { queue = ap (λ (x : State). x.waiters) h.struct; table = h.table ∙ k.table; good = k.good; maps = k.maps };
        wanted = b;
        room = omega arith;
      }

  module _ {f : Sifted} {tb₁ l₁ : List ℕ} (d : Sifts Met m st.waiters tb l 0 f tb₁ l₁) where
    sieved : Sieved Met m (write_items (state_in st tb).channels ++ map lock_item (state_in st tb).locks) (state_in st tb).waiters (map wait_item (state_in st tb).waiting) l 0 f tb₁ l₁
    unfolding meet_asks
    sieved = d meet_asks

    told : ending Met m (state_in st tb).waiters ≡ met_replies m (state_in st tb)
    told = ending-met m (state_in st tb).waiters ∙ (rw (held_eight p.held) refl)

    stay : lefts Met m (state_in st tb).waiters ≡ (cut m (state_in st tb)).waiters
    unfolding cut
    stay = lefts-met m (state_in st tb).waiters ∙ (rw (held_eight p.held) refl)

    met-struct : with_queue f.left st ≡ struct_of (cut m (state_in st tb))
    unfolding cut
    met-struct =
        let h = p.held in
        let c = held_channels h in
        let k = ap (λ (x : State). x.locks) h.struct in
        let q : f.left ≡ queue_of (map (λ w. w.id) (cut m (state_in st tb)).waiters) = sieved.queue ∙ ap (λ (ws : List Lock). queue_of (map (λ w. w.id) ws)) stay in
        let w = ap (λ (x : State). x.waiting) h.struct in
        λ j. record { channels = c j; locks = k j; waiters = q j; waiting = w j; opens = held_opens h j; last = st.last }

    met-table : tb₁ ≡ table_of (cut m (state_in st tb))
    unfolding table_of items cut
    met-table =
        let s = state_in st tb in
        sieved.table ∙ ap (λ (ws : List Lock). entries 64 0 (write_items s.channels ++ map lock_item s.locks ++ map waiter_item ws ++ map wait_item s.waiting)) stay

    pub meets : Meets m st tb l (record { state = with_queue f.left st; n = f.n }) tb₁ l₁
    meets =
        let v = sieved in
        record { struct = met-struct; table = met-table; list = v.replies ∙ ap (sent l 0) told; count = v.count ∙ ap (λ (rs : List Reply). 0 + length rs) told }

-- ---- the state without them

cut_parts : (m : ℕ) (s : StateM) → Parts s → Parts (cut m s)
unfolding cut
cut_parts m s p =
    parts_sub s (cut m s) p refl p.channels_ok p.locks_ok
    (all_keep (sound_waiter s.channels) (λ w. not (on_channels (length s.channels) m w)) s.waiters p.waiters_ok)
    (sub_refl s.waiting)
    (ids_sub s (cut m s) (sub_refl (writes_of s.channels)) (sub_refl (lock_ids s.locks)) (cut_ids m s) (sub_refl (wait_ids s.waiting)))
    p.opens_ok p.last_ok

cut_led : {i : ℕ} (m : ℕ) (s : StateM) → Led i s → Led i (cut m s)
unfolding cut
cut_led m s a = record { first = a.first; rest = a.rest; queue = a.queue; plays = a.plays }

cut_eight : (m : ℕ) (s : StateM) → length s.channels ≡ 8 → length (cut m s).channels ≡ 8
unfolding cut
cut_eight m s e = e

module _ {st : State} {tb l : List ℕ} (p : Ready st tb l 0 1) (i : ℕ) (a : Led i (state_in st tb)) (m : ℕ) {d : Progress} {tb₁ l₁ : List ℕ}
    (w : Meets m st tb l d tb₁ l₁) where
  -- with the write in front, they are at most 63
  met_few : length (met_replies m (state_in st tb)) ≤ 63
  met_few =
      let s = state_in st tb in
      let q = on_channels (length s.channels) m in
      let r = (front_room s i a.first a.rest (held_parts p.held) a.queue).2 in
      let k = keep_length q s.waiters in
      rw (length-map (keep q s.waiters) met) (omega arith)

  next : Held d.state tb₁ × (state_in d.state tb₁ ≡ cut m (state_in st tb))
  next =
      let s = state_in st tb in
      held_next (cut m s) d.state tb₁ (cut_parts m s (held_parts p.held)) (cut_eight m s (held_eight p.held)) w.struct w.table

  met-long : length l₁ ≡ length l
  met-long =
      let k = met_few in
      let r = p.room in
      ap length w.list ∙ length-sent l 0 (met_replies m (state_in st tb)) (omega arith)

  pub cycle_ready : Ready d.state tb₁ l₁ d.n 1
  cycle_ready =
      let k = met_few in
      let c = w.count in
      let e = met-long in
      let r = p.room in
      record { held = next.0; room = omega arith; fits = omega arith }

  pub cycle_led : Led i (state_in d.state tb₁)
  cycle_led = subst (Led i) (sym next.1) (cut_led m (state_in st tb) a)

  -- one step behind the other
  after : {f : Progress} {tb₂ l₂ : List ℕ} → EndsCycle i d.state tb₁ l₁ d.n f tb₂ l₂
      → Did (with_cycle i (cut m (state_in st tb))) (met_replies m (state_in st tb) ++ cycle_replies i (cut m (state_in st tb))) l 0 f.state tb₂ l₂ f.n
  after {f} {tb₂} {l₂} v =
      let s = state_in st tb in
      let u = subst (λ (x : StateM). Did (with_cycle i x) (cycle_replies i x) l₁ d.n f.state tb₂ l₂ f.n) next.1 v in
      let k = met_few in
      let r = p.room in
      let c : d.n ≡ 0 + length (met_replies m s) = w.count in
      record {
        struct = u.struct;
        table = u.table;
        list = u.list ∙ (rw (w.list, c) (sent-append l 0 (met_replies m s) (cycle_replies i (cut m s)) (omega arith)));
        count = u.count ∙ (rw (c, length-append (met_replies m s) (cycle_replies i (cut m s))) (omega arith));
      }

-- ---- the driver gave up

pub up_ready : {st : State} {tb l : List ℕ} (m : ℕ) → Ready st tb l 0 1 → Ready st tb l 0 (length (front_replies m (state_in st tb)))
up_ready {st} {tb} m p =
    let f = front_replies_few m (state_in st tb) in
    let k = ids_few (state_in st tb) (held_parts p.held) in
    record { held = p.held; room = p.room; fits = omega arith }

-- ---- the machine's event

module _ {st : State} {tb : List ℕ} (h : Held st tb) (r : Request) where
  pub told_quiet : (v : Event) {x : Answer} {l : List ℕ} → x ≡ answer_of (done 0 0 r.key NONE)
      → do_event v (call_of r []) (state_in st tb) ≡ silent (done 0 0 r.key NONE) [] (state_in st tb)
      → Told (do_event v (call_of r []) (state_in st tb)) l (record { answer = x; state = st; n = 0 }) tb l
  unfolding silent
  told_quiet v {l = l} ex e = told_as e (record { answer = ex; did = record { struct = h.struct; table = h.table; list = sym (splice_none l 0); count = refl } })

  module _ (i : ℕ) (e : i ≡ lowest_from 8 r.map) (g : i < 8) (a : Led i (state_in st tb)) where
    low : i ≡ lowest_from (length (state_in st tb).channels) r.map
    low = rw (held_eight h) e

    within : i < length (state_in st tb).channels
    within = rw (held_eight h) g

    cycle_at : do_event CYCLE_ENDED (call_of r []) (state_in st tb)
        ≡ silent (done 0 (2 ^ i) r.key NONE) (met_replies (2 ^ i) (state_in st tb) ++ cycle_replies i (cut (2 ^ i) (state_in st tb)))
        (with_cycle i (cut (2 ^ i) (state_in st tb)))
    unfolding do_event event_replies happened cut
    cycle_at =
        let s = state_in st tb in
        let c = call_of r [] in
        rw (at_is c s i low within, a.plays, change_is c s i low within front_cycled, bit_is c s i low within) refl

    up_at : do_event GAVE_UP (call_of r []) (state_in st tb)
        ≡ silent (done 0 (2 ^ i) r.key NONE) (front_replies (2 ^ i) (state_in st tb)) (cut_fronts (2 ^ i) (state_in st tb))
    unfolding do_event event_replies happened
    up_at =
        let s = state_in st tb in
        let c = call_of r [] in
        rw (at_is c s i low within, a.plays, bit_is c s i low within) refl

    module _ {m : ℕ} (em : m ≡ 2 ^ i) {x : Answer} (ex : x ≡ answer_of (done 0 m r.key 255)) where
      answers : x ≡ answer_of (done 0 (2 ^ i) r.key 255)
      answers = ex ∙ ap (λ (y : ℕ). answer_of (done 0 y r.key 255)) em

      pub told_cycle : {l : List ℕ} (p : Ready st tb l 0 1) {d : Progress} {tb₁ l₁ : List ℕ} → Meets m st tb l d tb₁ l₁
          → {f : Progress} {tb₂ l₂ : List ℕ} → EndsCycle i d.state tb₁ l₁ d.n f tb₂ l₂
          → Told (do_event CYCLE_ENDED (call_of r []) (state_in st tb)) l (record { answer = x; state = f.state; n = f.n }) tb₂ l₂
      unfolding silent
      told_cycle {l} p w {f} {tb₂} {l₂} v =
          let s = state_in st tb in
          told_as cycle_at
          (record {
            answer = answers;
            did = subst (λ (y : ℕ). Did (with_cycle i (cut y s)) (met_replies y s ++ cycle_replies i (cut y s)) l 0 f.state tb₂ l₂ f.n) em (after p i a m w v);
          })

      pub told_up : {l : List ℕ} {d : Progress} {tb₁ l₁ : List ℕ} → CutsFronts m st tb l 0 d tb₁ l₁
          → Told (do_event GAVE_UP (call_of r []) (state_in st tb)) l (record { answer = x; state = d.state; n = d.n }) tb₁ l₁
      unfolding silent
      told_up {l} {d} {tb₁} {l₁} w = told_as up_at (record { answer = answers; did = subst (λ (y : ℕ). CutsFronts y st tb l 0 d tb₁ l₁) em w })
