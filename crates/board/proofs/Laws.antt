-- A board and a table hold the state they stand for, and no other. What they hold is held by the state of eight channels too, so
-- every function below may be called; and what those do to it is what the machine does on the board's own channels.
-- Assumes nothing.
use Prim.Native.Nat.{ℕ, zero, suc, ◌+◌, ◌-◌, ◌^◌, ◌≤◌, ◌<◌}
use mathlib.Core.Path.{◌≡◌, refl, ap, ap₂, subst, sym, ◌∙◌}
use mathlib.Core.Bool.{Bool, true, false, ◌||◌}
use mathlib.Core.List.{List, [], ◌∷◌, ◌++◌, map}
use native.Mathlib.Omega.{arith}
use lib.Dec.{T, eqb, eqb→eq, leb→le}
use lib.ListN.{length, take, drop, length-map, length-take, take-append-drop}
use lib.Seq.{take_at, drop_at}
use Rattle.open_keys.specs.machine.State.{Channel as ChannelM, State as StateM, Call, Op, frees, fresh_on, with_channels}
use Rattle.open_keys.specs.machine.Sound.{sound, sound_request}
use Rattle.open_keys.specs.machine.Numbers.{ENTRIES}
use Rattle.open_keys.specs.machine.Lists.{all}
use Rattle.open_keys.specs.machine.Machine.{machine}
use Rattle.open_keys.specs.machine.Refusals.{accepted, refusal}
use Rattle.channel.specs.machine_laws.Sound.{Parts}
use Rattle.channel.proofs.machine_laws.Sound.{parts, unparts}
use Rattle.channel.specs.declared.Channel.{Channel}
use Rattle.channel.specs.Channel.{channel_of, channel_in}
use Rattle.answers.specs.store.declared.State.{State}
use Rattle.answers.specs.store.Store.{struct_of as wide_of, state_in as wide_in, write_in, table_of, items, write_items, Held as WideHeld}
use Rattle.open_keys.specs.OpenKeys.{keys_in}
use Rattle.answers.proofs.store.Store.{state_in_of as wide_in_of, held_next as wide_next, held_parts as wide_parts, opens-count, length_table_of, parts_long}
use Rattle.widening.specs.Widening.{wider, widen}
use Rattle.widening.proofs.Maps.{length-wider, length-frees}
use Rattle.widening.proofs.Sound.{sound-wide, sound_narrow}
use Rattle.board.specs.declared.Board.{Board}
use Rattle.board.specs.Board.{sized, top_of, struct_of, fresh_board, state_in, Held}

-- ---- the sizes

by_size {ℓ} : {R : Type ℓ} (w : ℕ) → T (sized w) → (w ≡ 4 → R) → (w ≡ 8 → R) → R
by_size {R = R} w t a b = go (eqb w 4) (eqb w 8) refl refl t
  where
    go : (x y : Bool) → eqb w 4 ≡ x → eqb w 8 ≡ y → T (x || y) → R
    go true y e f u = a (eqb→eq w 4 (rw e tt))
    go false true e f u = b (eqb→eq w 8 (rw f tt))
    go false false e f u = absurd u

pub sized-within : (w : ℕ) → T (sized w) → (1 ≤ w) × (w ≤ 8)
sized-within w t = by_size w t (λ e. (omega arith, omega arith)) (λ e. (omega arith, omega arith))

-- maps up to the highest are those of the board's channels
pub top_pow : (w : ℕ) → T (sized w) → top_of w + 1 ≡ 2 ^ w
top_pow w t = by_size w t (λ e. rw e) (λ e. rw e)

-- ---- free channels have no writes, so the table does not show them

write_items-frees : (k : ℕ) → write_items (frees k) ≡ []
unfolding write_items frees
write_items-frees zero = refl
write_items-frees (suc k) = write_items-frees k

write_items-wide : (k : ℕ) (cs : List ChannelM) → write_items (wider k cs) ≡ write_items cs
unfolding write_items
write_items-wide k [] = write_items-frees k
write_items-wide k (c ∷ cs) = rw (write_items-wide k cs)

pub table-wide : (k : ℕ) (s : StateM) → table_of (widen k s) ≡ table_of s
unfolding table_of items
table-wide k s = rw (write_items-wide k s.channels)

-- ---- the state that they hold

take_front : (cs ds : List ChannelM) → take (length cs) (map channel_of (cs ++ ds)) ≡ map channel_of cs
take_front [] ds = refl
take_front (c ∷ cs) ds = ap (λ (l : List Channel). channel_of c ∷ l) (take_front cs ds)

module _ (s : StateM) (p : Parts s) where
  within : length s.channels + (8 - length s.channels) ≡ 8
  within = let n = leb→le (length s.channels) 8 p.most in omega arith

  pub own_wide : Parts (widen (8 - length s.channels) s)
  own_wide = let n = within in sound-wide (8 - length s.channels) s p (omega arith)

  pub own_eight : length (widen (8 - length s.channels) s).channels ≡ 8
  own_eight = length-wider (8 - length s.channels) s.channels ∙ within

  pub struct-eight : length (struct_of s).state.channels ≡ 8
  struct-eight = length-map (widen (8 - length s.channels) s).channels channel_of ∙ own_eight

  -- the board and the table of a sound state hold that state
  pub state_in_of : state_in (struct_of s) (table_of s) ≡ s
  state_in_of =
      let k = 8 - length s.channels in
      let e : wide_in (wide_of (widen k s)) (table_of s) ≡ widen k s =
      subst (λ (tb : List ℕ). wide_in (wide_of (widen k s)) tb ≡ widen k s) (table-wide k s) (wide_in_of (widen k s) own_wide) in
      let c : take (length s.channels) (map (channel_in (write_in (table_of s))) (map channel_of (wider k s.channels))) ≡ s.channels =
      ap (λ (x : StateM). take (length s.channels) x.channels) e ∙ take_at s.channels (frees k) (length s.channels) refl in
      ap₂ with_channels c e

  pub held_of : T (sized (length s.channels)) → Held (struct_of s) (table_of s)
  held_of t =
      let e = state_in_of in
      record {
        size = subst (λ (x : StateM). T (sized (length x.channels))) (sym e) t;
        sane = subst (λ (x : StateM). T (sound x)) (sym e) (unparts s p);
        struct = ap struct_of (sym e);
        table = ap table_of (sym e);
      }

-- so they stand for one state only
pub one_state : (s t : StateM) → Parts s → Parts t → struct_of s ≡ struct_of t → table_of s ≡ table_of t → s ≡ t
one_state s t p q e f = sym (state_in_of s p) ∙ ap₂ state_in e f ∙ state_in_of t q

-- after a call: the board and the table of another sound state
pub held_next : (s : StateM) (b : Board) (tb : List ℕ) → Parts s → T (sized (length s.channels)) → b ≡ struct_of s → tb ≡ table_of s → Held b tb × (state_in b tb ≡ s)
held_next s b tb p t e f = (rw (e, f) (held_of s p t), rw (e, f) (state_in_of s p))

pub held_parts : {b : Board} {tb : List ℕ} → Held b tb → Parts (state_in b tb)
held_parts {b} {tb} h = parts (state_in b tb) h.sane

-- ---- the state of eight channels

module _ {b : Board} {tb : List ℕ} (h : Held b tb) where
  pub held_width : b.width ≡ length (state_in b tb).channels
  held_width = ap (λ (x : Board). x.width) h.struct

  pub held_sized : T (sized b.width)
  held_sized = subst (λ (n : ℕ). T (sized n)) (sym held_width) h.size

  pub held_wide : WideHeld b.state tb × (wide_in b.state tb ≡ widen (8 - length (state_in b tb).channels) (state_in b tb))
  held_wide =
      let u = state_in b tb in
      let k = 8 - length u.channels in
      wide_next (widen k u) b.state tb (own_wide u (held_parts h)) (own_eight u (held_parts h)) (ap (λ (x : Board). x.state) h.struct)
      (h.table ∙ sym (table-wide k u))

  -- the structs of the board's own channels
  pub held_channels : take b.width b.state.channels ≡ map channel_of (state_in b tb).channels
  held_channels =
      let u = state_in b tb in
      ap (λ (x : Board). take x.width x.state.channels) h.struct ∙ take_front u.channels (frees (8 - length u.channels))

  pub held_eight : length b.state.channels ≡ 8
  held_eight = held_wide.0.eight

  pub held_opens-count : (b.state.opens.n ≡ length (keys_in b.state.opens)) × (b.state.opens.n ≤ ENTRIES)
  held_opens-count = opens-count held_wide.0

  pub held_length : length tb ≡ 1472
  held_length = ap length h.table ∙ length_table_of (state_in b tb) (parts_long (state_in b tb) (held_parts h))

  -- the channels behind the board's own are free
  pub held_spare : drop b.width (map (channel_in (write_in tb)) b.state.channels) ≡ frees (8 - b.width)
  held_spare =
      let u = state_in b tb in
      let e = ap (λ (x : StateM). x.channels) held_wide.1 in
      ap (drop b.width) e ∙ (drop_at u.channels (frees (8 - length u.channels)) b.width (sym held_width) ∙ ap (λ (n : ℕ). frees (8 - n)) (sym held_width))

-- and the other way: a state of eight channels, of which those behind the board's own are free and waited for by nobody
module _ (w : ℕ) (st : State) (tb : List ℕ) (t : T (sized w)) (h : WideHeld st tb) (free : drop w (map (channel_in (write_in tb)) st.channels) ≡ frees (8 - w)) where
  all_channels : map (channel_in (write_in tb)) st.channels ≡ wider (8 - w) (take w (map (channel_in (write_in tb)) st.channels))
  all_channels = sym (take-append-drop w (map (channel_in (write_in tb)) st.channels)) ∙ ap (λ (l : List ChannelM). take w (map (channel_in (write_in tb)) st.channels) ++ l) free

  pub own_length : length (take w (map (channel_in (write_in tb)) st.channels)) ≡ w
  own_length =
      let n = sized-within w t in
      let e = length-map st.channels (channel_in (write_in tb)) ∙ h.eight in
      simp length-take (omega arith)

  as_wide : wide_in st tb ≡ widen (8 - w) (state_in (record { width = w; state = st }) tb)
  as_wide = ap (λ (l : List ChannelM). with_channels l (wide_in st tb)) all_channels

  pub held_own : T (all (sound_request (take w (map (channel_in (write_in tb)) st.channels))) (wide_in st tb).waiting) → Held (record { width = w; state = st }) tb
  held_own r =
      let u = state_in (record { width = w; state = st }) tb in
      let n = sized-within w t in
      let l = own_length in
      let p : Parts u = sound_narrow (8 - w) u (omega arith) (subst Parts as_wide (wide_parts h)) r in
      let e : widen (8 - w) u ≡ widen (8 - length u.channels) u = ap (λ (n : ℕ). widen (8 - n) u) (sym l) in
      let s : st ≡ wide_of (widen (8 - length u.channels) u) = h.struct ∙ ap wide_of (as_wide ∙ e) in
      record {
        size = subst (λ (n : ℕ). T (sized n)) (sym l) t;
        sane = unparts u p;
        struct = λ i. record { width = sym l i; state = s i };
        table = h.table ∙ (ap table_of as_wide ∙ table-wide (8 - w) u);
      }

-- ---- a fresh board

pub fresh-sane : (w : ℕ) → T (sized w) → T (sound (fresh_on w))
unfolding machine frees
fresh-sane w t = by_size w t (λ e. rw e tt) (λ e. rw e tt)

pub fresh_of : (w : ℕ) → T (sized w) → fresh_board w ≡ struct_of (fresh_on w)
unfolding frees
fresh_of w t = by_size w t (λ e. rw e) (λ e. rw e)
