-- What a board and a table store of the K party's channels is what the machine's channels and WAITCYCLEs hold: the entry of an
-- outstanding id has all its numbers, and no others. Assumes nothing.
use Prim.Native.Nat.{ℕ, ◌<◌}
use mathlib.Core.Path.{◌≡◌, refl, ap, ap₂, sym, ◌∙◌}
use mathlib.Core.Bool.{Bool, true, false}
use mathlib.Core.List.{List, [], ◌∷◌, ◌++◌, map}
use native.Mathlib.Nat.{div-add-mod'}
use lib.Dec.{eqb}
use Rattle.std.specs.Prelude.{if◌then◌else◌}
use Rattle.answers.specs.machine.Lists.{keep}
use Rattle.answers.specs.machine.State.{Write, Channel as ChannelM, Lock, State as StateM, free}
use Rattle.answers.specs.machine.Sound.{writes_of}
use Rattle.memory.specs.Splice.{block}
use Rattle.queue.specs.Queue.{queue_of, list_of}
use Rattle.queue.proofs.Laws.{list_of_queue_of}
use Rattle.board.specs.channel.declared.Channel.{Channel}
use Rattle.board.specs.channel.Channel.{channel_of}
use Rattle.table.specs.Entry.{span_entry, write_entry, waiter_entry, key_in}
use Rattle.answers.specs.store.Store.{Item, Each, Long, items, lookup, table_of}
use Rattle.answers.proofs.store.Store.{Written, parts_long, block_table_of, write_entries, write_ids, waiter-entries, waiter-ids}
use Rattle.board.specs.declared.Board.{Board}
use Rattle.board.specs.Board.{struct_of, state_in, Held}
use Rattle.board.proofs.Laws.{held_parts}
use Rattle.two_runs.specs.TwoRuns.{Party, holds, mask, view, waiters_of}
use Rattle.code_runs.specs.CodeRuns.{view_of, entry_of, entries_of, stored_of}
use Rattle.code_runs.specs.Stored.{writes_in, waiters_in, stored_in}

-- ---- the same of the machine's channels and WAITCYCLEs

-- ---- one kind after the other

waiter-key : (w : Lock) → key_in (waiter_entry w) ≡ w.key
unfolding span_entry
waiter-key w = div-add-mod' w.key 256

module _ (s : StateM) (g : Long (items s)) where
  entry_in : (i : ℕ) {b : List ℕ} → i < 64 → lookup i (items s) ≡ b → block 23 (table_of s) i ≡ b
  entry_in i h e = block_table_of s i g h ∙ e

  queue-stored : (k : ℕ) (ws : List Write) → Each (λ (w : Write). lookup w.id (items s) ≡ write_entry k w) ws
      → Each (λ (i : ℕ). i < 64) (map (λ (w : Write). w.id) ws)
      → map (entry_of (table_of s)) (map (λ (w : Write). w.id) ws) ≡ map (λ (w : Write). w.id ∷ write_entry k w) ws
  unfolding entry_of
  queue-stored k [] h m = refl
  queue-stored k (w ∷ ws) h m = ap₂ (λ (b : List ℕ) (l : List (List ℕ)). (w.id ∷ b) ∷ l) (entry_in w.id m.0 h.0) (queue-stored k ws h.1 m.1)

  each_left : (xs ys : List ℕ) → Each (λ (i : ℕ). i < 64) (xs ++ ys) → Each (λ (i : ℕ). i < 64) xs × Each (λ (i : ℕ). i < 64) ys
  each_left [] ys e = (tt, e)
  each_left (x ∷ xs) ys e = let r = each_left xs ys e.1 in ((e.0, r.0), r.1)

  -- a channel without K is seen as a free one, which has no writes
  writes_stored : (p : Party) (cs : List ChannelM) → Written (items s) cs → Each (λ (i : ℕ). i < 64) (writes_of cs)
      → entries_of (table_of s) (map channel_of (map (mask p) cs)) ≡ writes_in (map (mask p) cs)
  unfolding entries_of writes_in writes_of mask
  writes_stored p [] h m = refl
  writes_stored p (c ∷ cs) h m =
      let is = map (λ (w : Write). w.id) c.writes in
      let n = each_left is (writes_of cs) m in
      ap₂ ◌++◌ (go (holds p c) n.0) (writes_stored p cs h.1 n.1)
    where
      go : (b : Bool) → Each (λ (i : ℕ). i < 64) (map (λ (w : Write). w.id) c.writes)
          → map (entry_of (table_of s)) (list_of (queue_of (map (λ (w : Write). w.id) (if b then c else free).writes)))
          ≡ map (λ (w : Write). w.id ∷ write_entry (if b then c else free).key w) (if b then c else free).writes
      go true n = rw (list_of_queue_of (map (λ (w : Write). w.id) c.writes)) (queue-stored c.key c.writes h.0 n)
      go false n = refl

  waiters-stored : (p : Party) (ws : List Lock) → Each (λ (w : Lock). lookup w.id (items s) ≡ waiter_entry w) ws
      → Each (λ (i : ℕ). i < 64) (map (λ (w : Lock). w.id) ws)
      → map (entry_of (table_of s)) (keep (λ i. eqb (key_in (block 23 (table_of s) i)) p.key) (map (λ (w : Lock). w.id) ws))
      ≡ waiters_in (keep (λ (w : Lock). eqb w.key p.key) ws)
  unfolding keep waiters_in entry_of
  waiters-stored p [] h m = refl
  waiters-stored p (w ∷ ws) h m =
      let e = entry_in w.id m.0 h.0 in
      let k : key_in (block 23 (table_of s) w.id) ≡ w.key = ap key_in e ∙ waiter-key w in
      rw k
      (go (eqb w.key p.key) (keep (λ i. eqb (key_in (block 23 (table_of s) i)) p.key) (map (λ (v : Lock). v.id) ws)) (keep (λ (v : Lock). eqb v.key p.key) ws) e
      (waiters-stored p ws h.1 m.1))
    where
      go : (b : Bool) (is : List ℕ) (vs : List Lock) → block 23 (table_of s) w.id ≡ waiter_entry w
          → map (entry_of (table_of s)) is ≡ map (λ (v : Lock). v.id ∷ waiter_entry v) vs
          → map (entry_of (table_of s)) (if b then w.id ∷ is else is) ≡ map (λ (v : Lock). v.id ∷ waiter_entry v) (if b then w ∷ vs else vs)
      go true is vs e r = ap₂ (λ (b : List ℕ) (l : List (List ℕ)). (w.id ∷ b) ∷ l) e r
      go false is vs e r = r

-- ---- the whole

pub stored_of_lem : {st : Board} {tb : List ℕ} (p : Party) → Held st tb → view_of p st ≡ map channel_of (view p (state_in st tb))
    → stored_of p st tb ≡ stored_in (view p (state_in st tb)) (waiters_of p (state_in st tb))
unfolding stored_of view waiters_of
stored_of_lem {st} {tb} p h v =
    let s = state_in st tb in
    let q = held_parts h in
    let g = parts_long s q in
    let l : list_of st.state.waiters ≡ map (λ (w : Lock). w.id) s.waiters =
    ap (λ (x : Board). list_of x.state.waiters) h.struct ∙ list_of_queue_of (map (λ (w : Lock). w.id) s.waiters) in
    let f : (t : List ℕ) → List (List ℕ) = λ t. entries_of t (view_of p st) ++ map (entry_of t) (keep (λ i. eqb (key_in (block 23 t i)) p.key) (list_of st.state.waiters)) in
    ap f h.table
    ∙ ap₂ ◌++◌ (ap (entries_of (table_of s)) v ∙ writes_stored s g p s.channels (write_entries s q) (write_ids s q))
    (ap (λ (is : List ℕ). map (entry_of (table_of s)) (keep (λ i. eqb (key_in (block 23 (table_of s) i)) p.key) is)) l
    ∙ waiters-stored s g p s.waiters (waiter-entries s q) (waiter-ids s q))
