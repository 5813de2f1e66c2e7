-- The writes in progress at the channels that match, cut: the channels are lent with those writes alone, so they are what is aborted, and
-- what stands behind them is left. Assumes nothing.
use Prim.Native.Nat.{ℕ, suc, ◌+◌, ◌*◌, ◌^◌, ◌≤◌, ◌<◌}
use mathlib.Core.Path.{◌≡◌, refl, ap, ap₂, sym, subst, ◌∙◌}
use mathlib.Core.Bool.{false, ◌&&◌}
use mathlib.Core.List.{List, [], ◌∷◌, ◌++◌, map}
use native.Mathlib.Omega.{arith}
use lib.ListN.{length, take}
use Rattle.answers.specs.machine.Numbers.{synced}
use Rattle.answers.specs.machine.State.{Write, Channel as ChannelM, Reply}
use Rattle.answers.specs.machine.Maps.{odd, half, bit, change}
use Rattle.answers.specs.machine.Granting.{aborted_in, cut_replies}
use Rattle.answers.specs.machine.Commands.{matching, done, each, playing, in_progress, back, front_only, front_gone, cut_fronts, front_replies, do_finish}
use Rattle.answers.specs.machine.Sound.{writes_of}
use Rattle.answers.proofs.machine.Tests.{if_elim}
use Rattle.channel.specs.machine_laws.Lists.{Sub, end, skip, take as both}
use Rattle.channel.proofs.machine_laws.Lists.{sub_refl, sub_nil, sub_append, sub_map, sub_length}
use Rattle.channel.proofs.machine_laws.Sound.{ids_few}
use Rattle.channel.specs.declared.Channel.{Channel}
use Rattle.channel.specs.declared.Change.TheVariants.{FrontGone, FrontOnly}
use Rattle.channel.specs.Channel.{channel_of, changed_of, change_each, map_where, matching_each}
use Rattle.fronts.specs.declared.Front.TheVariants.{Plays}
use Rattle.fronts.specs.Fronts.{named}
use Rattle.fronts.proofs.Laws.{in_progress_is}
use Rattle.answers.specs.store.declared.State.{State}
use Rattle.answers.specs.store.Store.{write_item, state_in, Held, Small}
use Rattle.answers.specs.store.Work.{Ready, Did}
use Rattle.answers.proofs.store.Store.{held_parts, held_eight, write_ids}
use Rattle.sweep.specs.dropped_writes.locks.declared.Sifted.{Sifted}
use Rattle.sweep.specs.dropped_writes.DroppedWrites.{writes_in, Writables, held_in, Dropping, Drops}
use Rattle.sweep.proofs.granting.Laws.{Splits, Cuts, aborted_of, writes_of_lem, aborted_changed, writes_changed, writables_of, held_channels, held_changed, dropping, cuts}
use Rattle.answers.specs.declared.Request.{Request}
use Rattle.answers.specs.declared.Answer.{Answer}
use Rattle.answers.specs.declared.Outcome.{Outcome}
use Rattle.answers.specs.Answers.{call_of, answer_of, Told}
use Rattle.sweep.specs.Sweep.{error_at}
use Rattle.sweep.proofs.Matching.{match_is}
use Rattle.sweep.proofs.Steps.{Ends, end_room, changed_to, cut_did, told_each}
use Rattle.answers.specs.store.declared.Progress.{Progress}
use Rattle.cutting.specs.Cutting.{CutsFronts, finish_replies}

-- ---- the front write and those behind it

split_writes : (k : ℕ) (ws : List Write) → map (write_item k) ws ≡ map (write_item k) (take 1 ws) ++ map (write_item k) (back ws)
unfolding back
split_writes k [] = refl
split_writes k (w ∷ ws) = refl

front_splits : Splits front_gone front_only
front_splits c = split_writes c.key c.writes

sub_front : (ws : List Write) → Sub (take 1 ws) ws
sub_front [] = end
sub_front (w ∷ ws) = sub_append (sub_refl (w ∷ [])) (sub_nil ws)

sub_fronts : (m : ℕ) (cs : List ChannelM) → Sub (writes_of (change front_only m cs)) (writes_of cs)
unfolding writes_of change
sub_fronts m [] = end
sub_fronts m (c ∷ cs) =
    sub_append
    (if_elim (λ (d : ChannelM). Sub (map (λ w. w.id) d.writes) (map (λ w. w.id) c.writes)) (odd m)
    (λ _. sub_map (λ w. w.id) (sub_front c.writes)) (λ _. sub_refl (map (λ w. w.id) c.writes)))
    (sub_fronts (half m) cs)

small_sub : {xs ys : List ℕ} → Sub xs ys → Small ys → Small xs
small_sub end s = tt
small_sub (skip h) s = small_sub h s.1
small_sub (both h) s = (s.0, small_sub h s.1)

-- ---- the channels with a write in progress

in_progress_lt : (m : ℕ) (cs : List ChannelM) → in_progress m cs < 2 ^ length cs
unfolding in_progress bit
in_progress_lt m [] = omega arith
in_progress_lt m (c ∷ cs) =
    let ih = in_progress_lt (half m) cs in
    if_elim (λ (x : ℕ). x + 2 * in_progress (half m) cs < 2 ^ suc (length cs)) (odd m && playing c) (λ _. omega arith) (λ _. omega arith)

-- ---- the front writes of the channels that a map names

module _ {st : State} {tb l : List ℕ} {n m : ℕ} (b : m < 256) {fs : List Channel} (u : fs ≡ change_each (changed_of FrontOnly) m st.channels)
    (p : Ready st tb l n (length (front_replies m (state_in st tb)))) where
  abbrev cs : List ChannelM
  cs = (state_in st tb).channels

  fronts_are : fs ≡ map channel_of (change front_only m cs)
  fronts_are = u ∙ held_changed p.held FrontOnly m

  fronts_writable : Writables fs
  fronts_writable =
      let s = state_in st tb in
      let q = held_parts p.held in
      let f = ids_few s q in
      let o = sub_fronts m cs in
      let k = sub_length o in
      subst Writables (sym fronts_are) (writables_of (change front_only m cs) (small_sub o (write_ids s q)) (omega arith))

  fronts_lent : writes_in m (held_in tb fs) ≡ writes_in m (map front_only cs)
  fronts_lent = ap (λ (x : List Channel). writes_in m (held_in tb x)) fronts_are ∙ writes_of_lem tb m (change front_only m cs) ∙ writes_changed front_only m cs

  fronts_aborted : aborted_in m (held_in tb fs) ≡ aborted_in m (map front_only cs)
  fronts_aborted = ap (λ (x : List Channel). aborted_in m (held_in tb x)) fronts_are ∙ aborted_of tb m (change front_only m cs) ∙ aborted_changed front_only m cs

  -- what `drop_named` replies is what the machine replies
  replies_are : aborted_in m (held_in tb fs) ++ cut_replies m (state_in st tb) ≡ front_replies m (state_in st tb)
  replies_are = ap (λ (x : List Reply). x ++ cut_replies m (state_in st tb)) fronts_aborted

  fits : n + length (aborted_in m (held_in tb fs) ++ cut_replies m (state_in st tb)) ≤ 64
  fits = rw replies_are p.fits

  pub cut_asks : Dropping m fs st.waiters tb l n
  cut_asks = dropping p.held front_gone front_only front_splits m b fronts_writable fronts_lent p.room fits

  pub fronts_cut : {q : Sifted} {tb₁ l₁ : List ℕ} → Drops m fs st.waiters tb l n q tb₁ l₁ → {ds : List Channel} → ds ≡ change_each (changed_of FrontGone) m st.channels
      → CutsFronts m st tb l n (record { state = changed_to st ds q.left; n = q.n }) tb₁ l₁
  fronts_cut {q} {tb₁} {l₁} w v =
      cut_did p.held FrontGone m v
      (subst (λ (rs : List Reply). Cuts front_gone m (state_in st tb) rs l n q tb₁ l₁) replies_are
      (cuts p.held front_gone front_only front_splits m b fronts_writable fronts_lent p.room fits w))

-- ---- FINISH

module _ {st : State} {tb : List ℕ} (h : Held st tb) {ok on : ℕ} (r : Request) (e : ok ≡ matching_each r.key r.map st.channels)
    (o : on ≡ map_where (named Plays) ok st.channels) where
  on_is : on ≡ in_progress (matching r.key r.map (state_in st tb).channels) (state_in st tb).channels
  on_is =
      o ∙ ap₂ (map_where (named Plays)) (e ∙ match_is h r.key r.map) (held_channels h)
      ∙ in_progress_is (matching r.key r.map (state_in st tb).channels) (state_in st tb).channels

  on_small : on < 256
  on_small =
      let s = state_in st tb in
      rw on_is (subst (λ (n : ℕ). in_progress (matching r.key r.map s.channels) s.channels < 2 ^ n) (held_eight h) (in_progress_lt (matching r.key r.map s.channels) s.channels))

module _ {st : State} {tb l : List ℕ} {ok on : ℕ} (r : Request) (e : ok ≡ matching_each r.key r.map st.channels)
    (o : on ≡ map_where (named Plays) ok st.channels) (p : Ready st tb l 0 (length (finish_replies r (state_in st tb)) + 1)) where
  pub finish-ready : Ready st tb l 0 (length (front_replies on (state_in st tb)))
  finish-ready =
      let f = p.fits in
      record { held = p.held; room = p.room; fits = rw (on_is p.held r e o) (omega arith) }

  module _ {d : Progress} {tb₁ l₁ : List ℕ} (w : CutsFronts on st tb l 0 d tb₁ l₁) where
    finish-cuts : Did (cut_fronts (in_progress (matching r.key r.map (state_in st tb).channels) (state_in st tb).channels) (state_in st tb)) (finish_replies r (state_in st tb)) l 0 d.state tb₁ l₁ d.n
    finish-cuts = subst (λ (m : ℕ). CutsFronts m st tb l 0 d tb₁ l₁) (on_is p.held r e o) w

    pub finish_room : d.n * 6 + 6 ≤ length l₁
    finish_room = end_room p.room (let k = p.fits in omega arith) finish-cuts

    pub told-finish : r.map < 256 → r.command ≡ 11 → synced r.flags ≡ false → {x : Answer} {c : Outcome} {l₂ : List ℕ}
        → x ≡ answer_of (done (error_at ok r.map) ok r.key 255) → Ends r x d.state d.n l₁ c l₂ → Told (do_finish (call_of r []) (state_in st tb)) l c tb₁ l₂
    unfolding do_finish
    told-finish b n y {x} {c} {l₂} a f =
        let s = state_in st tb in
        let m = in_progress (matching r.key r.map s.channels) s.channels in
        let g = told_each r p.held b e p.room (let k = p.fits in omega arith) finish-cuts a f in
        rw y (subst (λ (z : ℕ). Told (each z (call_of r []) (finish_replies r s) (cut_fronts m s) s) l c tb₁ l₂) n g)
