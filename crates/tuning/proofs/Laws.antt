-- The front writes retuned, one entry after the other, give the table of the state in which they are. No struct changes: a write keeps
-- its id. Assumes nothing.
use Prim.Native.Nat.{ℕ, ◌*◌, ◌≤◌, ◌<◌}
use mathlib.Core.Path.{◌≡◌, refl, ap, ap₂, sym, subst, ◌∙◌}
use mathlib.Core.Bool.{Bool, true, false, not, ◌&&◌}
use mathlib.Core.List.{List, [], ◌∷◌, ◌++◌, map, append_assoc}
use native.Mathlib.Omega.{arith}
use native.Mathlib.Nat.{zero-add}
use lib.Dec.{eqb}
use lib.ListN.{length, get_or}
use Rattle.memory.specs.Splice.{splice, block}
use Rattle.memory.proofs.Splice.{splice_none}
use Rattle.queue.specs.Queue.{pad}
use Rattle.numbers.specs.table.Entry.{head_bytes, padded, number_bytes, write_entry}
use Rattle.std.specs.Prelude.{if◌then◌else◌}
use Rattle.answers.specs.machine.State.{Write, Channel as ChannelM, State as StateM, with_channels}
use Rattle.answers.specs.machine.Maps.{odd, half, change}
use Rattle.answers.specs.machine.Commands.{matching, playing, in_progress, set_writes, on_first, on_front, period_in, volume_in, done, each_change}
use Rattle.answers.specs.machine.Sound.{writes_of}
use Rattle.answers.proofs.machine.Tests.{if_elim}
use Rattle.channel.proofs.machine_laws.Maps.{odd-bit, half-bit}
use Rattle.channel.specs.machine_laws.Sound.{Parts}
use Rattle.channel.specs.declared.Channel.{Channel}
use Rattle.channel.specs.Channel.{channel_of, map_where, matching_each}
use Rattle.fronts.specs.declared.Front.TheVariants.{Plays}
use Rattle.fronts.specs.Fronts.{named}
use Rattle.fronts.proofs.Laws.{in_progress_is}
use Rattle.answers.specs.store.declared.State.{State}
use Rattle.answers.specs.store.Store.{Item, write_item, lock_item, waiter_item, wait_item, write_items, items, lookup, entries, struct_of, table_of, state_in, Held, Good, Each}
use Rattle.answers.specs.store.Work.{Did}
use Rattle.answers.proofs.store.Entries.{Ins, ins_right, ins_at, ins_sub, ins_new, ins_small, good_sub, good_add, block-entries, entry_replaced}
use Rattle.answers.proofs.store.Store.{good_of, parts_long, block_table_of, write_long, write_key, write_list, Written, written, write_entries, write_ids, held_parts}
use Rattle.sweep.proofs.granting.Laws.{held_channels, small_left, small-right}
use Rattle.answers.specs.declared.Request.{Request}
use Rattle.answers.specs.declared.Answer.{Answer}
use Rattle.answers.specs.declared.Outcome.{Outcome}
use Rattle.answers.specs.Answers.{answer_of, Told}
use Rattle.sweep.specs.Sweep.{error_at}
use Rattle.sweep.proofs.Matching.{match_is}
use Rattle.sweep.proofs.Steps.{Ends, told_each}
use Rattle.numbers.specs.Numbers.{carried}
use Rattle.retuning.specs.declared.Tune.{Tune}
use Rattle.retuning.specs.Retuning.{retuned_of, meaning}
use Rattle.retuning.proofs.Laws.{retuned_is, meaning-id}
use Rattle.tuning.specs.Tuning.{tuned_entry, tuned_at, tune_each, Tunable, Tunes, tuned_of}

-- ---- a channel in progress

and_right_true : (a b : Bool) → (a && b) ≡ true → b ≡ true
and_right_true true b e = e
and_right_true false b e = absurd (let z : ◌≡◌ {A = ℕ} 0 1 = cc in omega arith)

not_both : (a b : Bool) → (not a && not b) ≡ true → b ≡ false
not_both true b e = absurd (let z : ◌≡◌ {A = ℕ} 0 1 = cc in omega arith)
not_both false true e = absurd (let z : ◌≡◌ {A = ℕ} 0 1 = cc in omega arith)
not_both false false e = refl

-- it has a write
plays_write : (c : ChannelM) → playing c ≡ true → eqb (length c.writes) 0 ≡ false
unfolding playing
plays_write c e = not_both c.stopped (eqb (length c.writes) 0) e

front_if : (a b : Bool) (x y : ChannelM) → (if a then (if b then x else y) else y) ≡ (if a && b then x else y)
front_if true b x y = refl
front_if false b x y = refl

module _ (how : Tune) (x : Write) where
  abbrev f : Write → Write
  f w = meaning how x.period x.volume w

  -- ---- one write

  tuned-entry : (k : ℕ) (w : Write) → tuned_entry how (number_bytes x) (write_entry k w) ≡ write_entry k (f w)
  unfolding tuned_entry write_entry
  tuned-entry k w =
      ap₂ (λ (y : ℕ) (l : List ℕ). head_bytes (record { command = 3; key = y; map = 0; prec = 0; impatient = 0; n = 12 }) ++ padded (retuned_of how l (number_bytes x)))
      (write_key k w) (write_list k w)
      ∙ ap (λ (l : List ℕ). head_bytes (record { command = 3; key = k; map = 0; prec = 0; impatient = 0; n = 12 }) ++ padded l) (retuned_is how w x)

  -- its entry between others
  module _ (k : ℕ) (w : Write) (R pre post : List Item) (g : Good (pre ++ write_item k w ∷ R ++ post)) where
    ins : Ins (write_item k w) (pre ++ R ++ post) (pre ++ write_item k w ∷ R ++ post)
    ins = ins_right post (ins_at (write_item k w) pre R)

    other : Ins (write_item k (f w)) (pre ++ R ++ post) (pre ++ write_item k (f w) ∷ R ++ post)
    other = ins_right post (ins_at (write_item k (f w)) pre R)

    found : block 23 (entries 64 0 (pre ++ write_item k w ∷ R ++ post)) w.id ≡ write_entry k w → tuned_at how (number_bytes x) (entries 64 0 (pre ++ write_item k w ∷ R ++ post)) w.id
        ≡ entries 64 0 (pre ++ write_item k (f w) ∷ R ++ post)
    unfolding tuned_at
    found e =
        ap (splice (entries 64 0 (pre ++ write_item k w ∷ R ++ post)) (w.id * 23)) (ap (tuned_entry how (number_bytes x)) e ∙ tuned-entry k w)
        ∙ entry_replaced ins g other (meaning-id how x.period x.volume w) (write_long k (f w))

    good_tuned : Good (pre ++ write_item k (f w) ∷ R ++ post)
    good_tuned =
        let e = meaning-id how x.period x.volume w in
        good_add other (rw e (ins_small ins g.small)) (rw e (ins_new ins g.apart)) (write_long k (f w)) (good_sub (ins_sub ins) g)

  -- the front of a queue that is not empty
  module _ (c : ChannelM) (cs : List ChannelM) (pre post : List Item) where
    abbrev around : List Write → List Item
    around ws = pre ++ (map (write_item c.key) ws ++ write_items cs) ++ post

    abbrev Fronts : List Write → Type 0
    Fronts ws =
        (tuned_at how (number_bytes x) (entries 64 0 (around ws)) (get_or (pad (map (λ w. w.id) ws)) 0 0) ≡ entries 64 0 (around (on_first f ws)))
        × Good (around (on_first f ws))

    front_tuned : (ws : List Write) → c.writes ≡ ws → eqb (length ws) 0 ≡ false → Good (around ws) → Fronts ws
    unfolding on_first write_items
    front_tuned [] e n g = absurd (let z : ◌≡◌ {A = ℕ} 0 1 = cc in omega arith)
    front_tuned (w ∷ ws) e n g =
        let R = map (write_item c.key) ws ++ write_items cs in
        let d = (written pre (c ∷ cs) post (around (w ∷ ws)) (ap around (sym e)) g.apart).0 in
        let l = (subst (λ (vs : List Write). Each (λ (v : Write). lookup v.id (around (w ∷ ws)) ≡ write_entry c.key v) vs) e d).0 in
        let b = block-entries 64 w.id 0 (around (w ∷ ws)) g.long (ins_small (ins c.key w R pre post g) g.small) in
        (found c.key w R pre post g ((rw zero-add at b) ∙ l), good_tuned c.key w R pre post g)

  -- ---- the channels that have a write in progress

  module _ (m : ℕ) (c : ChannelM) (cs : List ChannelM) (pre post : List Item) (g : Good (pre ++ write_items (c ∷ cs) ++ post)) where
    abbrev tuned : Bool → ChannelM
    tuned b = if b then set_writes (on_first f c.writes) c else c

    abbrev items_of : ChannelM → List Item
    items_of d = map (write_item d.key) d.writes

    one_channel : (b : Bool) → (odd m && playing c) ≡ b
        → ((if b then tuned_at how (number_bytes x) (entries 64 0 (pre ++ (items_of c ++ write_items cs) ++ post)) (get_or (pad (map (λ w. w.id) c.writes)) 0 0) else entries 64 0 (pre ++ (items_of c ++ write_items cs) ++ post))
        ≡ entries 64 0 (pre ++ (items_of (tuned b) ++ write_items cs) ++ post))
        × Good (pre ++ (items_of (tuned b) ++ write_items cs) ++ post)
    unfolding write_items
    one_channel true e = front_tuned c cs pre post c.writes refl (plays_write c (and_right_true (odd m) (playing c) e)) g
    one_channel false e = (refl, g)

  tuned-items : (m : ℕ) (cs : List ChannelM) (pre post : List Item) → Good (pre ++ write_items cs ++ post)
      → tune_each how (number_bytes x) (in_progress m cs) (map channel_of cs) (entries 64 0 (pre ++ write_items cs ++ post))
      ≡ entries 64 0 (pre ++ write_items (change (on_front f) m cs) ++ post)
  unfolding tune_each in_progress write_items change on_front
  tuned-items m [] pre post g = refl
  tuned-items m (c ∷ cs) pre post g =
      let b = odd m && playing c in
      let d = tuned m c cs pre post g b in
      let D = map (write_item d.key) d.writes in
      let o = one_channel m c cs pre post g b refl in
      let here : pre ++ (D ++ write_items cs) ++ post ≡ pre ++ D ++ write_items cs ++ post = ap (λ (l : List Item). l ++ post) (sym (append_assoc pre D (write_items cs))) in
      let there : pre ++ D ++ write_items (change (on_front f) (half m) cs) ++ post ≡ pre ++ (D ++ write_items (change (on_front f) (half m) cs)) ++ post =
      ap (λ (l : List Item). l ++ post) (append_assoc pre D (write_items (change (on_front f) (half m) cs))) in
      let step : (if b then tuned_at how (number_bytes x) (entries 64 0 (pre ++ write_items (c ∷ cs) ++ post)) (get_or (pad (map (λ w. w.id) c.writes)) 0 0) else entries 64 0 (pre ++ write_items (c ∷ cs) ++ post)) ≡ entries 64 0 (pre ++ D ++ write_items cs ++ post) = o.0 ∙ ap (entries 64 0) here in
      ap₂ (λ (y : Bool) (n : ℕ). tune_each how (number_bytes x) n (map channel_of cs) (if y then tuned_at how (number_bytes x) (entries 64 0 (pre ++ write_items (c ∷ cs) ++ post)) (get_or (pad (map (λ w. w.id) c.writes)) 0 0) else entries 64 0 (pre ++ write_items (c ∷ cs) ++ post)))
      (odd-bit b (in_progress (half m) cs)) (half-bit b (in_progress (half m) cs))
      ∙ ap (tune_each how (number_bytes x) (in_progress (half m) cs) (map channel_of cs)) step
      ∙ tuned-items (half m) cs (pre ++ D) post (subst Good here o.1)
      ∙ ap (entries 64 0) there
      ∙ ap (λ (y : ChannelM). entries 64 0 (pre ++ (map (write_item y.key) y.writes ++ write_items (change (on_front f) (half m) cs)) ++ post))
      (sym (front_if (odd m) (playing c) (set_writes (on_first f c.writes) c) c))

  module _ (m : ℕ) (s : StateM) (g : Good (items s)) where
    abbrev rest : List Item
    rest = map lock_item s.locks ++ map waiter_item s.waiters ++ map wait_item s.waiting

    joined : (cs : List ChannelM) → write_items cs ++ rest ≡ write_items cs ++ map lock_item s.locks ++ map waiter_item s.waiters ++ map wait_item s.waiting
    joined cs = simp append_assoc

    pub tuned-table : tune_each how (number_bytes x) (in_progress m s.channels) (map channel_of s.channels) (table_of s)
        ≡ table_of (with_channels (change (on_front f) m s.channels) s)
    unfolding table_of items
    tuned-table =
        let q = tuned-items m s.channels [] rest (subst Good (sym (joined s.channels)) g) in
        rw (joined s.channels, joined (change (on_front f) m s.channels)) at q

  -- ---- the structs

  same_ids : (ws : List Write) → map (λ w. w.id) (on_first f ws) ≡ map (λ w. w.id) ws
  unfolding on_first
  same_ids [] = refl
  same_ids (w ∷ ws) = ap (λ (i : ℕ). i ∷ map (λ w. w.id) ws) (meaning-id how x.period x.volume w)

  same_struct : (c : ChannelM) → channel_of (on_front f c) ≡ channel_of c
  unfolding on_front
  same_struct c = if_elim (λ (d : ChannelM). channel_of d ≡ channel_of c) (playing c) (λ _. rw (same_ids c.writes) refl) (λ _. refl)

  pub same_structs : (m : ℕ) (cs : List ChannelM) → map channel_of (change (on_front f) m cs) ≡ map channel_of cs
  unfolding change
  same_structs m [] = refl
  same_structs m (c ∷ cs) =
      ap₂ ◌∷◌ (if_elim (λ (d : ChannelM). channel_of d ≡ channel_of c) (odd m) (λ _. same_struct c) (λ _. refl)) (same_structs (half m) cs)

-- ---- what the loop asks

writes_count : (k : ℕ) (w : Write) → get_or (write_entry k w) 6 0 ≡ 12
unfolding write_entry
writes_count k w = refl

module _ (s : StateM) (p : Parts s) where
  front_able : (k : ℕ) (ws : List Write) → Each (λ (w : Write). lookup w.id (items s) ≡ write_entry k w) ws → Each (λ (i : ℕ). i < 64) (map (λ w. w.id) ws)
      → eqb (length ws) 0 ≡ false
      → (get_or (pad (map (λ w. w.id) ws)) 0 0 < 64) × (get_or (block 23 (table_of s) (get_or (pad (map (λ w. w.id) ws)) 0 0)) 6 0 ≡ 12)
  front_able k [] e b n = absurd (let z : ◌≡◌ {A = ℕ} 0 1 = cc in omega arith)
  front_able k (w ∷ ws) e b n =
      (b.0, ap (λ (l : List ℕ). get_or l 6 0) (block_table_of s w.id (parts_long s p) b.0 ∙ e.0) ∙ writes_count k w)

  fronts_able : (m : ℕ) (cs : List ChannelM) → Written (items s) cs → Each (λ (i : ℕ). i < 64) (writes_of cs) → Tunable (in_progress m cs) (map channel_of cs) (table_of s)
  unfolding in_progress writes_of
  fronts_able m [] e b = tt
  fronts_able m (c ∷ cs) e b =
      let is = map (λ (w : Write). w.id) c.writes in
      let y = odd m && playing c in
      let n = in_progress (half m) cs in (
        λ o. front_able c.key c.writes e.0 (small_left is (writes_of cs) b) (plays_write c (and_right_true (odd m) (playing c) (sym (odd-bit y n) ∙ o))),
        rw (half-bit y n) (fronts_able (half m) cs e.1 (small-right is (writes_of cs) b)),
      )

-- ---- the writes in progress

module _ {st : State} {tb : List ℕ} (h : Held st tb) (m : ℕ) {on : ℕ} (o : on ≡ map_where (named Plays) m st.channels) where
  abbrev s : StateM
  s = state_in st tb

  on_is : on ≡ in_progress m s.channels
  on_is = o ∙ ap (map_where (named Plays) m) (held_channels h) ∙ in_progress_is m s.channels

  pub tune_asks : Tunable on st.channels tb
  tune_asks =
      let q = fronts_able s (held_parts h) m s.channels (write_entries s (held_parts h)) (write_ids s (held_parts h)) in
      subst (λ (t : List ℕ). Tunable on st.channels t) (sym h.table)
      (subst (λ (cs : List Channel). Tunable on cs (table_of s)) (sym (held_channels h)) (subst (λ (y : ℕ). Tunable y (map channel_of s.channels) (table_of s)) (sym on_is) q))

  pub tunes : (how : Tune) {a tb₁ : List ℕ} → tb₁ ≡ tune_each how a on st.channels tb → Tunes how a m st tb tb₁
  tunes how {a} t =
      record {
        table = t ∙ ap (λ (k : ℕ). tune_each how a k st.channels tb) o;
        stands = λ x n.
            let q = sym (same_structs how x m s.channels) in (
              h.struct
                  ∙ (λ i. record {
                    channels = q i;
                    locks = (struct_of s).locks;
                    waiters = (struct_of s).waiters;
                    waiting = (struct_of s).waiting;
                    opens = (struct_of s).opens;
                    last = s.last;
                  }),
              t ∙ ap₂ (λ (y : List ℕ) (k : ℕ). tune_each how y k st.channels tb) n on_is
                  ∙ ap₂ (tune_each how (number_bytes x) (in_progress m s.channels)) (held_channels h) h.table
                  ∙ tuned-table how x m s (good_of s (held_parts h)),
            );
      }

-- no second table fits
pub one_tuning : {how : Tune} {a : List ℕ} {m : ℕ} {st : State} {tb tb₁ tb₂ : List ℕ} → Tunes how a m st tb tb₁
    → Tunes how a m st tb tb₂ → tb₁ ≡ tb₂
one_tuning x y = x.table ∙ sym y.table

-- ---- a command

module _ {st : State} {tb : List ℕ} (r : Request) (h : Held st tb) {ok : ℕ} (e : ok ≡ matching_each r.key r.map st.channels) (how : Tune) (ms : List ℕ)
    {a tb₁ : List ℕ} (n : a ≡ number_bytes (carried 0 ms)) (t : Tunes how a ok st tb tb₁) where
  tuned-did : {l : List ℕ}
      → Did (with_channels (change (on_front (meaning how (period_in ms) (volume_in ms))) (matching r.key r.map (state_in st tb).channels) (state_in st tb).channels) (state_in st tb)) [] l 0 st tb₁ l 0
  tuned-did {l} =
      let u = t.stands (carried 0 ms) n in
      let s = state_in st tb in
      subst (λ (m : ℕ). Did (with_channels (change (on_front (meaning how (period_in ms) (volume_in ms))) m s.channels) s) [] l 0 st tb₁ l 0) (e ∙ match_is h r.key r.map)
      (record { struct = u.0; table = u.1; list = sym (splice_none l 0); count = refl })

  pub told_tune : {l l₂ : List ℕ} {x : Answer} {d : Outcome} → r.map < 256 → 384 ≤ length l → x ≡ answer_of (done (error_at ok r.map) ok r.key 255)
      → Ends r x st 0 l d l₂ → Told (tuned_of r how ms (state_in st tb)) l d tb₁ l₂
  unfolding each_change
  told_tune b room v f = told_each r h b e room (omega arith) tuned-did v f
