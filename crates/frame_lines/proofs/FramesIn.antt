-- The frames that the struct and the table of a held state have are those of the state: a table holds each request's own entry. Assumes nothing.
use Prim.Native.Nat.{ℕ, zero, suc, ◌+◌, ◌-◌, ◌*◌, ◌/◌, ◌%◌, ◌≤◌, ◌<◌}
use mathlib.Core.Path.{◌≡◌, refl, ap, ap₂, sym, subst, ◌∙◌}
use mathlib.Core.Bool.{Bool, true, false, not}
use mathlib.Core.List.{List, [], ◌∷◌, ◌++◌, map, append_assoc, append-nil}
use mathlib.Core.Option.{Option, none, some}
use native.Mathlib.Omega.{arith}
use borrow.Author.Tests.{ne_eqb}
use lib.Dec.{T, eqb}
use lib.ListN.{length, get_or, take, drop, replicate, length-append, length-map}
use Rattle.table.specs.memory.Splice.{block}
use Rattle.machine_laws.specs.machine.State.{Write, Channel as ChannelM, Lock, Request, State as StateM, free}
use Rattle.machine_laws.specs.machine.Sound.{writes_of}
use Rattle.machine_laws.specs.Sound.{Parts}
use Rattle.machine_laws.proofs.Sound.{ids_few}
use Rattle.open_keys.specs.queue.declared.Queue.{Queue}
use Rattle.open_keys.specs.queue.Queue.{queue_of, list_of}
use Rattle.open_keys.proofs.queue.Laws.{list_of_queue_of, at_queue_of, length-pad}
use Rattle.open_keys.specs.OpenKeys.{keys_in}
use Rattle.board.specs.channel.declared.Channel.{Channel}
use Rattle.board.specs.channel.Channel.{channel_of}
use Rattle.board.proofs.channel.Laws.{Few}
use Rattle.table.specs.Entry.{tone_bytes, pervol_bytes, number_bytes, write_entry, span_entry, lock_entry, waiter_entry, wait_entry}
use Rattle.board.specs.store.declared.State.{State}
use Rattle.board.specs.store.Store.{Item, items, lookup, table_of, lock_in, request_in, Each, state_in as wide_in, Held as WideHeld}
use Rattle.board.proofs.store.Store.{Written, lock-entries, waiter-entries, write_entries, wait-entries, lock-ids, waiter-ids, write_ids, wait-ids, parts_long, block_table_of, writes_few, held_locks, held_waiters, held_waiting, locks-count, waiters-count, waiting-count, held_opens, opens-count, locks-small, waiters-small}
use Rattle.board.proofs.store.Store.{held_parts as wide_parts, held_length as wide-length}
use Rattle.board.specs.declared.Board.{Board}
use Rattle.board.specs.Board.{state_in, Held}
use Rattle.board.proofs.Laws.{held_parts, held_wide, held_channels, held_opens-count}
use Rattle.open_keys.specs.declared.Keys.{Keys}
use Rattle.open_keys.proofs.Laws.{length-pad as length-keys}
use Rattle.hex_lines.proofs.HexLines.{length_line}
use Rattle.machine_laws.specs.machine.Log.{line}
use Rattle.machine_laws.specs.machine.InBytes.{two_bytes, mark_of}
use Rattle.waiting.specs.Waiting.{Readable}
use Rattle.waiting.proofs.Finding.{readable}
use Rattle.saved.specs.Saved.{kept, channel_frame, request_frame, LOCK, WAITCYCLE, span_frame, write_frame, write_frames, OPEN, LAST, key_frame, frames, spelt}
use Rattle.frame_lines.specs.FrameLines.{span_line, write_line, entry_frame, kept_in, channel_line, writes_in, request_lines, key_lines, Listed, AllListed}
use Rattle.frame_lines.proofs.FrameLines.{spelt-append, entry-request, entry_write, entry_span}

-- ---- an entry's bytes are its frame's

span_frame_lem : (first n : ℕ) (l : Lock) → first ∷ l.id ∷ take 3 (drop 1 (span_entry n l)) ≡ span_frame first l
unfolding span_entry span_frame
span_frame_lem first n l = refl

numbers_front : (k : ℕ) (w : Write) → take 6 (drop 7 (write_entry k w)) ≡ two_bytes w.cycles ++ tone_bytes w.period w.volume
unfolding write_entry number_bytes
numbers_front k w = refl

numbers_kept : (k : ℕ) (w : Write) → take 6 (drop 13 (write_entry k w)) ≡ mark_of w.finish ∷ pervol_bytes w.pervol
unfolding write_entry number_bytes
numbers_kept k w = go w.pervol
  where
    go : (o : Option (ℕ × ℕ)) → take 6 (drop 6 ((w.cycles / 256) ∷ (w.cycles % 256) ∷ tone_bytes w.period w.volume ++ (mark_of w.finish ∷ pervol_bytes o) ++ replicate (16 - length ((w.cycles / 256) ∷ (w.cycles % 256) ∷ tone_bytes w.period w.volume ++ (mark_of w.finish ∷ pervol_bytes o))) 0)) ≡ mark_of w.finish ∷ pervol_bytes o
    go none = refl
    go (some q) = refl

-- ---- the requests of a table

-- each request of a list has its own entry
abbrev Has {ℓ} : {A : Type ℓ} → List ℕ → (A → ℕ) → (A → List ℕ) → List A → Type 0
Has tb id entry xs = Each (λ x. block 23 tb (id x) ≡ entry x) xs

spans_in : (first i n : ℕ) (tb is : List ℕ) → (first ≡ 0xD2 → ⊥) → (first ≡ 0xD5 → ⊥) → Has tb (λ l. l.id) (span_entry n) (map (lock_in tb) is)
    → map (entry_frame first i tb) is ≡ map (span_frame first) (map (lock_in tb) is)
spans_in first i n tb [] a b h = refl
spans_in first i n tb (x ∷ is) a b h =
    ap₂ ◌∷◌ (entry_span first i tb x a b ∙ (ap (λ e. first ∷ x ∷ take 3 (drop 1 e)) h.0 ∙ span_frame_lem first n (lock_in tb x))) (spans_in first i n tb is a b h.1)

requests_in : (tb is : List ℕ) → map (entry_frame 0xD2 0 tb) is ≡ map request_frame (map (request_in tb) is)
requests_in tb [] = refl
requests_in tb (x ∷ is) = ap₂ ◌∷◌ (entry-request 0xD2 0 tb x refl) (requests_in tb is)

queue_in_lem : (i k : ℕ) (tb : List ℕ) (ws : List Write) → Has tb (λ w. w.id) (write_entry k) ws → map (entry_frame 0xD5 i tb) (map (λ w. w.id) ws) ≡ map (write_frame i) ws
unfolding write_frame
queue_in_lem i k tb [] h = refl
queue_in_lem i k tb (w ∷ ws) h =
    ap₂ ◌∷◌ (entry_write 0xD5 i tb w.id (λ z. omega arith) refl ∙ ap (λ e. 0xD5 ∷ i ∷ w.id ∷ e) (ap (λ e. take 6 (drop 7 e)) h.0 ∙ numbers_front k w))
    (queue_in_lem i k tb ws h.1)

abbrev HasWrites : List ℕ → List ChannelM → Type 0
HasWrites tb cs = Each (λ c. Has tb (λ w. w.id) (write_entry c.key) c.writes) cs

writes_in_lem : (tb : List ℕ) (i : ℕ) (cs : List ChannelM) → HasWrites tb cs → writes_in tb i (map channel_of cs) ≡ write_frames i cs
unfolding writes_in write_frames
writes_in_lem tb i [] h = refl
writes_in_lem tb i (c ∷ cs) h =
    ap₂ ◌++◌ (ap (map (entry_frame 0xD5 i tb)) (list_of_queue_of (map (λ w. w.id) c.writes)) ∙ queue_in_lem i c.key tb c.writes h.0) (writes_in_lem tb (suc i) cs h.1)

kept_in_lem : (tb : List ℕ) (k : ℕ) (ws : List Write) → Has tb (λ w. w.id) (write_entry k) ws → kept_in tb (queue_of (map (λ w. w.id) ws)) ≡ kept ws
unfolding kept_in kept
kept_in_lem tb k [] h = refl
kept_in_lem tb k (w ∷ ws) h =
    rw (ne_eqb (suc (length (map (λ (v : Write). v.id) ws))) 0 (λ z. omega arith)) (ap (λ e. take 6 (drop 13 e)) h.0 ∙ numbers_kept k w)

channels_in : (tb : List ℕ) (cs : List ChannelM) → HasWrites tb cs → map (channel_line tb) (map channel_of cs) ≡ map channel_frame cs
unfolding channel_line channel_frame
channels_in tb [] h = refl
channels_in tb (c ∷ cs) h =
    ap₂ ◌∷◌
    (ap (λ ks. 0xD1 ∷ (c.key / 256) ∷ (c.key % 256) ∷ ((c.prec + 128) % 256) ∷ mark_of c.locked ∷ mark_of c.stopped ∷ ks) (kept_in_lem tb c.key c.writes h.0))
    (channels_in tb cs h.1)

-- ---- a queue whose entries can be read

each_at : {A : Type 0} (P : A → Type 0) (xs : List A) (j : ℕ) (d : A) → Each P xs → j < length xs → P (get_or xs j d)
each_at P [] j d e h = absurd (omega arith)
each_at P (x ∷ xs) zero d e h = e.0
each_at P (x ∷ xs) (suc j) d e h = each_at P xs j d e.1 (omega arith)

abbrev Entered : List ℕ → ℕ → Type 0
Entered tb i = (i < 64) × (get_or (block 23 tb i) 6 0 ≤ 16)

listed_of : (tb is : List ℕ) → length is ≤ 64 → length tb ≡ 1472 → Each (Entered tb) is → Listed (queue_of is) tb
listed_of tb is h g e =
    let r : (j : ℕ) → j < length is → Entered tb (get_or (queue_of is).ids j 0) = λ j k. subst (Entered tb) (sym (at_queue_of is j k)) (each_at (Entered tb) is j 0 e k) in (
      record { few = h; long = g; small = λ j k. (r j k).0; lists = λ j k. (r j k).1 },
      let n = length-pad is h in omega arith,
    )

both : (tb : List ℕ) {A : Type 0} (id : A → ℕ) (entry : A → List ℕ) (xs : List A) → ((x : A) → get_or (entry x) 6 0 ≤ 16) → Has tb id entry xs → Each (λ i. i < 64) (map id xs)
    → Each (Entered tb) (map id xs)
both tb id entry [] f h e = tt
both tb id entry (x ∷ xs) f h e = ((e.0, rw h.0 (f x)), both tb id entry xs f h.1 e.1)

span_few : (n : ℕ) (l : Lock) → get_or (span_entry n l) 6 0 ≤ 16
unfolding span_entry
span_few n l = omega arith

write_few : (k : ℕ) (w : Write) → get_or (write_entry k w) 6 0 ≤ 16
unfolding write_entry
write_few k w = omega arith

-- ---- a state of eight channels that is held

to_block : (s : StateM) {A : Type 0} (id : A → ℕ) (entry : A → List ℕ) (xs : List A) → Parts s → Each (λ x. lookup (id x) (items s) ≡ entry x) xs → Each (λ i. i < 64) (map id xs)
    → Has (table_of s) id entry xs
to_block s id entry [] p h e = tt
to_block s id entry (x ∷ xs) p h e = (block_table_of s (id x) (parts_long s p) e.0 ∙ h.0, to_block s id entry xs p h.1 e.1)

to_writes : (s : StateM) (cs : List ChannelM) → Parts s → Written (items s) cs → Each (λ i. i < 64) (writes_of cs)
    → HasWrites (table_of s) cs × Each (λ c. Each (λ i. i < 64) (map (λ w. w.id) c.writes)) cs
unfolding writes_of
to_writes s [] p h e = (tt, tt)
to_writes s (c ∷ cs) p h e =
    let l = each_left (map (λ w. w.id) c.writes) (writes_of cs) e in
    let r = to_writes s cs p h.1 (each_right (map (λ w. w.id) c.writes) (writes_of cs) e) in
    ((to_block s (λ w. w.id) (write_entry c.key) c.writes p h.0 l, r.0), (l, r.1))
  where
    each_left : (xs ys : List ℕ) → Each (λ i. i < 64) (xs ++ ys) → Each (λ i. i < 64) xs
    each_left [] ys e = tt
    each_left (x ∷ xs) ys e = (e.0, each_left xs ys e.1)

    each_right : (xs ys : List ℕ) → Each (λ i. i < 64) (xs ++ ys) → Each (λ i. i < 64) ys
    each_right [] ys e = e
    each_right (x ∷ xs) ys e = each_right xs ys e.1

entered_spans : (n : ℕ) (tb is : List ℕ) → Has tb (λ l. l.id) (span_entry n) (map (lock_in tb) is) → Each (λ i. i < 64) is → Each (Entered tb) is
entered_spans n tb [] h e = tt
entered_spans n tb (i ∷ is) h e = ((e.0, rw h.0 (span_few n (lock_in tb i))), entered_spans n tb is h.1 e.1)

listed-channels : (tb : List ℕ) (cs : List ChannelM) → length tb ≡ 1472 → HasWrites tb cs → Each (λ c. Each (λ i. i < 64) (map (λ w. w.id) c.writes)) cs → Few cs
    → Each (λ (c : Channel). Listed c.writes tb) (map channel_of cs)
listed-channels tb [] l h e f = tt
listed-channels tb (c ∷ cs) l h e f =
    let n = length-map c.writes (λ (w : Write). w.id) in
    let g = f.0 in (
      listed_of tb (map (λ w. w.id) c.writes) (omega arith) l (both tb (λ w. w.id) (write_entry c.key) c.writes (write_few c.key) h.0 e.0),
      listed-channels tb cs l h.1 e.1 f.1,
    )

module _ {st : State} {tb : List ℕ} (h : WideHeld st tb) where
  has_locks : Has tb (λ l. l.id) lock_entry (wide_in st tb).locks
  has_locks =
      let s = wide_in st tb in
      subst (λ t. Has t (λ l. l.id) lock_entry (wide_in st tb).locks) (sym h.table) (to_block s (λ l. l.id) lock_entry s.locks (wide_parts h) (lock-entries s (wide_parts h)) (lock-ids s (wide_parts h)))

  has_waiters : Has tb (λ l. l.id) waiter_entry (wide_in st tb).waiters
  has_waiters =
      let s = wide_in st tb in
      subst (λ t. Has t (λ l. l.id) waiter_entry (wide_in st tb).waiters) (sym h.table) (to_block s (λ l. l.id) waiter_entry s.waiters (wide_parts h) (waiter-entries s (wide_parts h)) (waiter-ids s (wide_parts h)))

  pub listed-waiting : Listed st.waiting tb
  listed-waiting =
      let c = waiting-count h in
      let e = ap (λ (q : Queue). length q.ids) (held_waiting h) in
      let n = length-pad (list_of st.waiting) (let z = c.0 in let y = c.1 in omega arith) in
      (readable h, let y = c.1 in omega arith)

  pub listed-locks : Listed st.locks tb
  listed-locks =
      let c = locks-count h in
      subst (λ q. Listed q tb) (sym (held_locks h))
      (listed_of tb (list_of st.locks) (let z = c.0 in let y = c.1 in omega arith) (wide-length h) (entered_spans 13 tb (list_of st.locks) has_locks (locks-small h)))

  pub listed-waiters : Listed st.waiters tb
  listed-waiters =
      let c = waiters-count h in
      subst (λ q. Listed q tb) (sym (held_waiters h))
      (listed_of tb (list_of st.waiters) (let z = c.0 in let y = c.1 in omega arith) (wide-length h) (entered_spans 14 tb (list_of st.waiters) has_waiters (waiters-small h)))

  pub all_listed : AllListed st.channels tb
  all_listed i d lt =
      let s = wide_in st tb in
      let p = wide_parts h in
      let w = to_writes s s.channels p (write_entries s p) (write_ids s p) in
      let l = listed-channels tb s.channels (wide-length h) (subst (λ t. HasWrites t (wide_in st tb).channels) (sym h.table) w.0) w.1 (writes_few s p) in
      let e : st.channels ≡ map channel_of s.channels = ap (λ (x : State). x.channels) h.struct in
      let k = h.eight in
      each_at (λ (c : Channel). Listed c.writes tb) st.channels i d (subst (λ cs. Each (λ (c : Channel). Listed c.writes tb) cs) (sym e) l) (omega arith)

-- ---- lengths

pub requests_length : (s : State) (tb : List ℕ) → length (request_lines s tb)
    ≡ length (spelt (map (entry_frame 0xD2 0 tb) (list_of s.waiting)))
    + (length (spelt (map (entry_frame 0xD3 0 tb) (list_of s.locks))) + length (spelt (map (entry_frame 0xD4 0 tb) (list_of s.waiters))))
requests_length s tb =
    let A = spelt (map (entry_frame 0xD2 0 tb) (list_of s.waiting)) in
    let B = spelt (map (entry_frame 0xD3 0 tb) (list_of s.locks)) in
    let C = spelt (map (entry_frame 0xD4 0 tb) (list_of s.waiters)) in
    length-append A (B ++ C) ∙ ap (λ n. length A + n) (length-append B C)

pub keys_length : (q : Keys) (k : ℕ) → length (key_lines q k) ≡ length (spelt (map (key_frame OPEN) (keys_in q))) + 7
unfolding key_frame
keys_length q k = let e = length_line (key_frame LAST k) in length-append (spelt (map (key_frame OPEN) (keys_in q))) (line (key_frame LAST k)) ∙ omega arith

-- ---- the frames of a board

module _ {b : Board} {tb : List ℕ} (h : Held b tb) where
  wide : WideHeld b.state tb
  wide = (held_wide h).0

  has_writes : HasWrites tb (state_in b tb).channels
  has_writes =
      let s = state_in b tb in
      let p = held_parts h in
      subst (λ t. HasWrites t (state_in b tb).channels) (sym h.table) (to_writes s s.channels p (write_entries s p) (write_ids s p)).0

  pub opens-length : b.state.opens.n ≤ length b.state.opens.keys
  opens-length =
      let e = held_opens wide in
      let c = held_opens-count h in
      let n = ap (λ (q : Keys). length q.keys) e ∙ length-keys (keys_in b.state.opens) (let z = c.0 in let y = c.1 in omega arith) in
      let y = c.1 in
      omega arith

  channels_are : map (channel_line tb) (take b.width b.state.channels) ≡ map channel_frame (state_in b tb).channels
  channels_are = ap (map (channel_line tb)) (held_channels h) ∙ channels_in tb (state_in b tb).channels has_writes

  writes_are : writes_in tb 0 (take b.width b.state.channels) ≡ write_frames 0 (state_in b tb).channels
  writes_are = ap (writes_in tb 0) (held_channels h) ∙ writes_in_lem tb 0 (state_in b tb).channels has_writes

  locks_are : map (entry_frame 0xD3 0 tb) (list_of b.state.locks) ≡ map (span_frame LOCK) (state_in b tb).locks
  locks_are = spans_in 0xD3 0 13 tb (list_of b.state.locks) (λ z. omega arith) (λ z. omega arith) (has_locks wide)

  waiters_are : map (entry_frame 0xD4 0 tb) (list_of b.state.waiters) ≡ map (span_frame WAITCYCLE) (state_in b tb).waiters
  waiters_are = spans_in 0xD4 0 14 tb (list_of b.state.waiters) (λ z. omega arith) (λ z. omega arith) (has_waiters wide)

  -- one behind the other
  pub pieces : spelt (map (channel_line tb) (take b.width b.state.channels))
      ++ (request_lines b.state tb ++ (spelt (writes_in tb 0 (take b.width b.state.channels)) ++ key_lines b.state.opens b.state.last))
      ≡ spelt (frames (state_in b tb))
  unfolding frames spelt
  pieces =
      let s = state_in b tb in
      let A = map channel_frame s.channels in
      let B = map request_frame s.waiting in
      let C = map (span_frame LOCK) s.locks in
      let D = map (span_frame WAITCYCLE) s.waiters in
      let E = write_frames 0 s.channels in
      let F = map (key_frame OPEN) s.opens in
      let G = key_frame LAST s.last ∷ [] in
      let g : spelt (F ++ G) ≡ spelt F ++ line (key_frame LAST s.last) = spelt-append F G ∙ ap (λ x. spelt F ++ x) (append-nil (line (key_frame LAST s.last))) in
      let e : spelt (E ++ (F ++ G)) ≡ spelt E ++ (spelt F ++ line (key_frame LAST s.last)) = spelt-append E (F ++ G) ∙ ap (λ x. spelt E ++ x) g in
      let d : spelt (B ++ (C ++ (D ++ (E ++ (F ++ G))))) ≡ spelt B ++ (spelt C ++ (spelt D ++ spelt (E ++ (F ++ G)))) =
      spelt-append B (C ++ (D ++ (E ++ (F ++ G)))) ∙ ap (λ x. spelt B ++ x) (spelt-append C (D ++ (E ++ (F ++ G))) ∙ ap (λ x. spelt C ++ x) (spelt-append D (E ++ (F ++ G)))) in
      let f : spelt B ++ (spelt C ++ (spelt D ++ spelt (E ++ (F ++ G)))) ≡ (spelt B ++ (spelt C ++ spelt D)) ++ spelt (E ++ (F ++ G)) =
      sym (append_assoc (spelt B) (spelt C ++ spelt D) (spelt (E ++ (F ++ G))) ∙ ap (λ x. spelt B ++ x) (append_assoc (spelt C) (spelt D) (spelt (E ++ (F ++ G))))) in
      rw (channels_are, requests_in tb (list_of b.state.waiting), locks_are, waiters_are, writes_are)
      (sym (spelt-append A (B ++ (C ++ (D ++ (E ++ (F ++ G))))) ∙ ap (λ x. spelt A ++ x) (d ∙ (f ∙ ap (λ x. (spelt B ++ (spelt C ++ spelt D)) ++ x) e))))

  pub pieces_length : length (spelt (frames (state_in b tb)))
      ≡ length (spelt (map (channel_line tb) (take b.width b.state.channels)))
      + (length (request_lines b.state tb) + (length (spelt (writes_in tb 0 (take b.width b.state.channels))) + length (key_lines b.state.opens b.state.last)))
  pieces_length =
      let A = spelt (map (channel_line tb) (take b.width b.state.channels)) in
      let B = request_lines b.state tb in
      let C = spelt (writes_in tb 0 (take b.width b.state.channels)) in
      let D = key_lines b.state.opens b.state.last in
      rw (← pieces) (length-append A (B ++ (C ++ D)) ∙ ap (λ n. length A + n) (length-append B (C ++ D) ∙ ap (λ n. length B + n) (length-append C D)))
