-- The end of a cycle put together: what becomes of the front write is read from its entry, and each outcome is the machine's.
-- Assumes nothing.
use Prim.Native.Nat.{ℕ, zero, suc, ◌+◌, ◌*◌, ◌^◌, ◌≤◌, ◌<◌}
use mathlib.Core.Path.{◌≡◌, refl, ap, ap₂, sym, subst, ◌∙◌}
use mathlib.Core.Bool.{false}
use mathlib.Core.List.{List, [], ◌∷◌, map}
use mathlib.Core.Option.{none}
use native.Mathlib.Omega.{arith}
use lib.ListN.{length, get_or, set, length-map}
use Rattle.memory.specs.Splice.{splice, block}
use Rattle.memory.proofs.Splice.{splice_none}
use Rattle.queue.specs.declared.Queue.{Queue}
use Rattle.queue.specs.Queue.{removed}
use Rattle.channel.specs.declared.Channel.{Channel}
use Rattle.channel.specs.Channel.{with_writes}
use Rattle.channel.proofs.Single.{change_pow}
use Rattle.tuning.specs.table.Entry.{idle, number_bytes, write_entry, list_in}
use Rattle.tuning.specs.reply.Replies.{encode}
use Rattle.machine.specs.State.{Write, Channel as ChannelM, State as StateM, Reply, free, with_channels}
use Rattle.machine.specs.Maps.{change}
use Rattle.machine.specs.Commands.{back, front, set_writes, on_first, on_front, cycled, last_replies}
use Rattle.tuning.specs.store.declared.State.{State}
use Rattle.tuning.specs.store.Store.{Item, items, lookup, state_in, Held}
use Rattle.tuning.specs.store.Work.{Did}
use Rattle.tuning.proofs.store.Store.{Written, good_of, parts_long, block_table_of, write_list, write_entries, held_parts, held_eight}
use Rattle.play.specs.Play.{with_channel, with_front}
use Rattle.play.proofs.Queue.{channel_is, front_struct, front_table, front_room}
use Rattle.tuning.specs.cycles.declared.Turn.{Turn}
use Rattle.tuning.specs.cycles.declared.Turn.TheVariants.{Cut, Over, On}
use Rattle.tuning.specs.cycles.Cycles.{turn_in, turn_of, next_of, turn_replies, turn_queue}
use Rattle.tuning.proofs.cycles.Laws.{turn_is, turn_replies_lem, turn_queue_lem}
use Rattle.tuning.specs.retuning.declared.Tune.TheVariants.{Next}
use Rattle.tuning.specs.Tuning.{Tunes}
use Rattle.tuning.specs.store.declared.Progress.{Progress}
use Rattle.ending.specs.Ending.{Led, end_reply, EndsWrite, with_cycle, cycle_replies, EndsCycle}

-- ---- the front write's entry

-- that of the write in front of channel i, of those that stand in the table
front_written : (xs : List Item) (cs : List ChannelM) (i : ℕ) (w : Write) (ws : List Write) → Written xs cs → (get_or cs i free).writes ≡ w ∷ ws
    → lookup w.id xs ≡ write_entry (get_or cs i free).key w
front_written xs [] i w ws e q = absurd (let z = ap length q in omega arith)
front_written xs (c ∷ cs) zero w ws e q = (rw q at e.0).0
front_written xs (c ∷ cs) (suc i) w ws e q = front_written xs cs i w ws e.1 q

module _ {st : State} {tb : List ℕ} (h : Held st tb) (i : ℕ) (g : i < 8) (a : Led i (state_in st tb)) where
  abbrev s : StateM
  s = state_in st tb

  abbrev chan : ChannelM
  chan = get_or s.channels i free

  room : (length a.rest < 64) × (a.first.id < 64) × (length s.waiters < 64)
  room = front_room s i a.first a.rest (held_parts h) a.queue

  pub queue_held : (d : Channel) → (0 < (get_or st.channels i d).writes.n) × ((get_or st.channels i d).writes.n ≤ 64)
  queue_held d =
      let e : (get_or st.channels i d).writes.n ≡ suc (length (map (λ (w : Write). w.id) a.rest)) = ap (λ (x : Channel). x.writes.n) (channel_is h i g d) ∙ ap (λ (ws : List Write). length (map (λ w. w.id) ws)) a.queue in
      let f = length-map a.rest (λ (w : Write). w.id) in
      let k = room.0 in
      (omega arith, omega arith)

  first_entry : block 23 tb a.first.id ≡ write_entry chan.key a.first
  first_entry =
      ap (λ (t : List ℕ). block 23 t a.first.id) h.table ∙ block_table_of s a.first.id (parts_long s (held_parts h)) room.1
      ∙ front_written (items s) s.channels i a.first a.rest (write_entries s (held_parts h)) a.queue

  -- the id in front of the struct's queue
  module _ (d : Channel) {j : ℕ} (ej : j ≡ get_or (get_or st.channels i d).writes.ids 0 0) where
    first_is : j ≡ a.first.id
    first_is = ej ∙ ap (λ (x : Channel). get_or x.writes.ids 0 0) (channel_is h i g d) ∙ (rw a.queue refl)

    pub first_small : j < 64
    first_small = rw first_is room.1

    pub first_count : get_or (block 23 tb j) 6 0 ≡ 12
    first_count = rw (first_is, first_entry) (unfold write_entry in refl)

    -- its turn, read from its entry
    pub first_turn : {t : Turn} → t ≡ turn_in (list_in (block 23 tb j)) → turn_of a.first ≡ t
    first_turn e = sym (e ∙ (rw (first_is, first_entry, write_list chan.key a.first) (turn_is a.first)))

    -- it ends
    pub write_ends : {l : List ℕ} {n : ℕ} (e m : ℕ) {q : Queue} {c : Channel} {t : State} {tb' l' : List ℕ} {n' : ℕ}
        → q ≡ removed (get_or st.channels i d).writes 0 → c ≡ with_writes q (get_or st.channels i d) → t ≡ with_channel i c st → tb' ≡ splice tb (j * 23) idle
        → l' ≡ splice l (n * 6) (encode (record { id = j; command = 3; error = e; map = m; key = (get_or st.channels i d).key }))
        → n' ≡ n + 1 → EndsWrite i e m st tb l n (record { state = t; n = n' }) tb' l'
    write_ends {l} {n} e m eq ec et eb el en =
        let f : front chan.writes ≡ a.first.id = unfold front in rw a.queue refl in
        record {
          struct = et
              ∙ ap (λ (x : Channel). with_channel i x st) (ec ∙ ap (λ (x : Queue). with_writes x (get_or st.channels i d)) eq)
              ∙ front_struct h i g (get_or st.channels i d) a.first a.rest (channel_is h i g d) a.queue room.0;
          table = eb
              ∙ (rw first_is
              (ap (λ (x : List ℕ). splice x (a.first.id * 23) idle) h.table
              ∙ front_table s i a.first a.rest (good_of s (held_parts h)) (rw (held_eight h) g) a.queue));
          list = el
              ∙ ap₂ (λ (x k : ℕ). splice l (n * 6) (encode (record { id = x; command = 3; error = e; map = m; key = k })))
              (first_is ∙ sym f) (ap (λ (x : Channel). x.key) (channel_is h i g d));
          count = en;
        }

  -- ---- the machine's outcome, by its turn

  turn_state : (t : Turn) → turn_of a.first ≡ t → with_cycle i s ≡ with_channels (set s.channels i (set_writes (turn_queue t a.first a.rest) chan)) s
  turn_state t e =
      ap (λ (ws : List Write). with_channels (set s.channels i (set_writes ws chan)) s)
      (ap cycled a.queue ∙ turn_queue_lem a.first a.rest ∙ ap (λ (x : Turn). turn_queue x a.first a.rest) e)

  turn_told : (t : Turn) → turn_of a.first ≡ t → cycle_replies i s ≡ turn_replies t (2 ^ i) chan.key a.first
  turn_told t e =
      ap (last_replies (2 ^ i) chan.key) a.queue ∙ turn_replies_lem a.first a.rest (2 ^ i) chan.key
      ∙ ap (λ (x : Turn). turn_replies x (2 ^ i) chan.key a.first) e

  gone_state : with_front i s ≡ with_channels (set s.channels i (set_writes a.rest chan)) s
  unfolding back
  gone_state = ap (λ (ws : List Write). with_channels (set s.channels i (set_writes ws chan)) s) (ap back a.queue)

  end_is : (e m : ℕ) → end_reply i e m s ≡ record { id = a.first.id; command = 3; error = e; map = m; key = chan.key }
  unfolding front
  end_is e m = rw a.queue refl

  module _ {l : List ℕ} {n : ℕ} {d : Progress} {tb' l' : List ℕ} where
    pub cycle_cut : turn_of a.first ≡ Cut → EndsWrite i 254 0 st tb l n d tb' l' → EndsCycle i st tb l n d tb' l'
    cycle_cut e w =
        subst (λ (rs : List Reply). Did (with_cycle i s) rs l n d.state tb' l' d.n) (ap (λ (x : Reply). x ∷ []) (end_is 254 0) ∙ sym (turn_told Cut e))
        (subst (λ (u : StateM). Did u (end_reply i 254 0 s ∷ []) l n d.state tb' l' d.n) (gone_state ∙ sym (turn_state Cut e)) w)

    pub cycle_over : turn_of a.first ≡ Over → {m : ℕ} → m ≡ 2 ^ i → EndsWrite i 0 m st tb l n d tb' l' → EndsCycle i st tb l n d tb' l'
    cycle_over e {m} em w =
        subst (λ (rs : List Reply). Did (with_cycle i s) rs l n d.state tb' l' d.n)
        (ap (λ (x : Reply). x ∷ []) (end_is 0 m ∙ ap (λ (y : ℕ). record { id = a.first.id; command = 3; error = 0; map = y; key = chan.key }) em) ∙ sym (turn_told Over e))
        (subst (λ (u : StateM). Did u (end_reply i 0 m s ∷ []) l n d.state tb' l' d.n) (gone_state ∙ sym (turn_state Over e)) w)

  on_state : turn_of a.first ≡ On → with_channels (change (on_front next_of) (2 ^ i) s.channels) s ≡ with_cycle i s
  unfolding on_front on_first
  on_state e =
      ap (λ (cs : List ChannelM). with_channels cs s) (change_pow (on_front next_of) i s.channels (rw (held_eight h) g))
      ∙ (rw a.plays (ap (λ (ws : List Write). with_channels (set s.channels i (set_writes ws chan)) s) (ap (on_first next_of) a.queue)))
      ∙ sym (turn_state On e)

  pub cycle_on : turn_of a.first ≡ On → {l : List ℕ} {n m : ℕ} {b tb' : List ℕ} → m ≡ 2 ^ i → b ≡ 0 ∷ 0 ∷ 0 ∷ 0 ∷ 0 ∷ 0 ∷ 0 ∷ 0 ∷ 0 ∷ 0 ∷ 0 ∷ 0 ∷ []
      → Tunes Next b m st tb tb' → EndsCycle i st tb l n (record { state = st; n = n }) tb' l
  cycle_on e {l} {n} {tb' = tb'} em eb t =
      let w = t.stands (record { id = 0; cycles = 0; period = 0; volume = 0; finish = false; pervol = none }) (eb ∙ (unfold number_bytes in refl)) in
      let q = ap (λ (x : ℕ). with_channels (change (on_front next_of) x s.channels) s) em ∙ on_state e in
      subst (λ (rs : List Reply). Did (with_cycle i s) rs l n st tb' l n) (sym (turn_told On e))
      (subst (λ (u : StateM). Did u [] l n st tb' l n) q (record { struct = w.0; table = w.1; list = sym (splice_none l (n * 6)); count = omega arith }))
