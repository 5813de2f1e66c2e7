-- The lines of a saved text: those of a list grow by one, what is put behind what was put is one piece, and of a state that is held they are
-- the frames of crate `saved`. Assumes nothing.
use Prim.Native.Nat.{ℕ, zero, suc, ◌+◌, ◌-◌, ◌*◌, ◌/◌, ◌%◌, ◌≤◌, ◌<◌}
use mathlib.Core.Path.{◌≡◌, refl, ap, ap₂, sym, subst, ◌∙◌}
use mathlib.Core.Bool.{Bool, true, false, not}
use mathlib.Core.List.{List, [], ◌∷◌, ◌++◌, map, append_assoc, append-nil}
use native.Mathlib.Omega.{arith}
use native.Mathlib.Nat.{add-zero, zero-add}
use borrow.Author.Tests.{eq-eqb, ne_eqb}
use lib.Dec.{T, eqb}
use lib.ListN.{length, get_or, take, drop, replicate, length-append, length-map, length-take, length-drop}
use lib.Seq.{take-suc}
use Rattle.std.proofs.Common.{get_or-take}
use Rattle.std.specs.Int.{from_bool, to_be_bytes, w16}
use Rattle.table.specs.memory.Splice.{splice, block}
use Rattle.table.proofs.memory.Splice.{splice_all, splice_then, splice_none}
use Rattle.table.proofs.Laws.{part_in}
use Rattle.machine_laws.specs.machine.Log.{line}
use Rattle.machine_laws.proofs.machine.Tests.{if_elim}
use Rattle.hex_lines.specs.HexLines.{Put}
use Rattle.hex_lines.proofs.HexLines.{length_line}
use Rattle.open_keys.specs.queue.declared.Queue.{Queue}
use Rattle.open_keys.specs.queue.Queue.{list_of}
use Rattle.board.specs.channel.declared.Channel.{Channel}
use Rattle.board.specs.channel.Channel.{channel_of}
use Rattle.machine_laws.specs.machine.State.{free}
use Rattle.machine_laws.specs.machine.InBytes.{mark_of}
use Rattle.table.specs.Entry.{key_in, list_in}
use Rattle.board.specs.store.Store.{request_in}
use Rattle.waiting.specs.Waiting.{Readable}
use Rattle.saved.specs.Saved.{request_frame, spelt}
use Rattle.frame_lines.specs.FrameLines.{request_line, span_line, write_line, entry_frame, kept_in, channel_line, writes_in, Listed, AllListed}

-- ---- lines one behind the other

pub spelt-append : (fs gs : List (List ℕ)) → spelt (fs ++ gs) ≡ spelt fs ++ spelt gs
unfolding spelt
spelt-append [] gs = refl
spelt-append (f ∷ fs) gs = rw (spelt-append fs gs) (sym (append_assoc (line f) (spelt fs) (spelt gs)))

map-append {ℓ} : {A : Type ℓ} (f : A → List ℕ) (xs ys : List A) → map f (xs ++ ys) ≡ map f xs ++ map f ys
map-append f [] ys = refl
map-append f (x ∷ xs) ys = ap (λ l. f x ∷ l) (map-append f xs ys)

-- the lines of a list's first elements, and of one more
pub spelt_more {ℓ} : {A : Type ℓ} (f : A → List ℕ) (xs : List A) (i : ℕ) (d : A) → i < length xs
    → spelt (map f (take (i + 1) xs)) ≡ spelt (map f (take i xs)) ++ line (f (get_or xs i d))
unfolding spelt
spelt_more f xs i d h =
    let e : take (i + 1) xs ≡ take i xs ++ get_or xs i d ∷ [] = rw (native.Mathlib.Numerals.add-one i) (take-suc xs i d h) in
    rw (e, map-append f (take i xs) (get_or xs i d ∷ []), spelt-append (map f (take i xs)) (f (get_or xs i d) ∷ []), append-nil (line (f (get_or xs i d))))

-- they are no longer than those of all
pub spelt-within {ℓ} : {A : Type ℓ} (f : A → List ℕ) (xs : List A) (i : ℕ) → length (spelt (map f (take i xs))) ≤ length (spelt (map f xs))
unfolding spelt
spelt-within f [] zero = omega arith
spelt-within f [] (suc i) = omega arith
spelt-within f (x ∷ xs) zero = omega arith
spelt-within f (x ∷ xs) (suc i) =
    let h = spelt-within f xs i in
    let a = length-append (line (f x)) (spelt (map f (take i xs))) in
    let b = length-append (line (f x)) (spelt (map f xs)) in
    omega arith

-- there is room for one more
pub room_more {ℓ} : {A : Type ℓ} (f : A → List ℕ) (xs : List A) (i : ℕ) (d : A) → i < length xs
    → length (spelt (map f (take i xs))) + length (line (f (get_or xs i d))) ≤ length (spelt (map f xs))
room_more f xs i d h =
    let a = spelt-within f xs (i + 1) in
    let b = ap length (spelt_more f xs i d h) in
    let c = length-append (spelt (map f (take i xs))) (line (f (get_or xs i d))) in
    omega arith

-- ---- what was put

pub put_none : (l : List ℕ) (at : ℕ) → Put l at [] at l
put_none l at = record { bytes = sym (splice_none l at); next = omega arith }

pub put_then : {l l₁ l₂ vs ws : List ℕ} {at p q : ℕ} → Put l at vs p l₁ → Put l₁ p ws q l₂ → at + length vs ≤ length l → Put l at (vs ++ ws) q l₂
put_then {l} {vs = vs} {ws = ws} {at = at} {p = p} a b h =
    record {
      bytes = b.bytes ∙ (ap (λ x. splice x p ws) a.bytes ∙ splice_then l at vs ws p a.next h);
      next = let n = length-append vs ws in let e = a.next in let f = b.next in omega arith;
    }

pub put_as : {l l₁ vs ws : List ℕ} {at p : ℕ} → Put l at vs p l₁ → vs ≡ ws → Put l at ws p l₁
put_as {l} {l₁} {at = at} {p = p} a e = subst (λ vs. Put l at vs p l₁) e a

-- ---- a key's two bytes, and a mark

pub high_byte : (k : ℕ) {bs : List ℕ} → bs ≡ to_be_bytes w16 k → k < 65536 → get_or bs 0 0 ≡ k / 256
high_byte k e h = let f = ap (λ l. get_or l 0 0) e in omega arith

pub low_byte : (k : ℕ) {bs : List ℕ} → bs ≡ to_be_bytes w16 k → get_or bs 1 0 ≡ k % 256
low_byte k e = let f = ap (λ l. get_or l 1 0) e in omega arith

pub mark_from : (b : Bool) → from_bool b ≡ mark_of b
mark_from true = refl
mark_from false = refl

-- ---- a part of an entry

pub entry_part : (tb : List ℕ) (id k n : ℕ) (m : ℕ) → id < 64 → length tb ≡ 1472 → k + n ≤ 23 → m ≡ n
    → take m (drop (id * 23 + k) tb) ≡ take n (drop k (block 23 tb id))
entry_part tb id k n m h g j e = rw e (part_in tb id k n j (omega arith))

pub length-entry : (tb : List ℕ) (id k n : ℕ) → id < 64 → length tb ≡ 1472 → k + n ≤ 23 → length (take n (drop k (block 23 tb id))) ≡ n
unfolding block
length-entry tb id k n h g j = simp (length-take, length-drop) (omega arith)

-- ---- the frames of an entry

pub length-list : (tb : List ℕ) (id : ℕ) → id < 64 → length tb ≡ 1472 → get_or (block 23 tb id) 6 0 ≤ 16 → length (list_in (block 23 tb id)) ≡ get_or (block 23 tb id) 6 0
length-list tb id h g j = length-entry tb id 7 (get_or (block 23 tb id) 6 0) h g (omega arith)

pub length-request : (tb : List ℕ) (id : ℕ) → id < 64 → length tb ≡ 1472 → get_or (block 23 tb id) 6 0 ≤ 16
    → length (line (request_line tb id)) ≡ 15 + 2 * get_or (block 23 tb id) 6 0
unfolding request_frame
length-request tb id h g j =
    let e = length-list tb id h g j in
    let f = length_line (request_line tb id) in
    let r = request_in tb id in
    let n : length (request_line tb id) ≡ 7 + length (list_in (block 23 tb id)) = omega arith in
    omega arith

pub length_span : (first : ℕ) (tb : List ℕ) (id : ℕ) → id < 64 → length tb ≡ 1472 → length (line (span_line first tb id)) ≡ 11
length_span first tb id h g =
    let e = length-entry tb id 1 3 h g (omega arith) in
    let f = length_line (span_line first tb id) in
    omega arith

pub length_write : (i : ℕ) (tb : List ℕ) (id : ℕ) → id < 64 → length tb ≡ 1472 → length (line (write_line i tb id)) ≡ 19
length_write i tb id h g =
    let e = length-entry tb id 7 6 h g (omega arith) in
    let f = length_line (write_line i tb id) in
    omega arith

pub entry-request : (first i : ℕ) (tb : List ℕ) (id : ℕ) → first ≡ 0xD2 → entry_frame first i tb id ≡ request_line tb id
unfolding entry_frame
entry-request first i tb id e = rw (eq-eqb first 0xD2 e)

pub entry_write : (first i : ℕ) (tb : List ℕ) (id : ℕ) → (first ≡ 0xD2 → ⊥) → first ≡ 0xD5 → entry_frame first i tb id ≡ write_line i tb id
unfolding entry_frame
entry_write first i tb id n e = rw (ne_eqb first 0xD2 n, eq-eqb first 0xD5 e)

pub entry_span : (first i : ℕ) (tb : List ℕ) (id : ℕ) → (first ≡ 0xD2 → ⊥) → (first ≡ 0xD5 → ⊥) → entry_frame first i tb id ≡ span_line first tb id
unfolding entry_frame
entry_span first i tb id n m = rw (ne_eqb first 0xD2 n, ne_eqb first 0xD5 m)

-- the numbers of a request's entry make its frame
pub request_line_lem : (tb : List ℕ) (id : ℕ) {h l p m n : ℕ} {ms : List ℕ} → id < 64 → length tb ≡ 1472 → get_or (block 23 tb id) 6 0 ≤ 16
    → h ≡ key_in (block 23 tb id) / 256 → l ≡ key_in (block 23 tb id) % 256 → p ≡ (get_or (block 23 tb id) 4 0 + 128) % 256 → m ≡ mark_of (eqb (get_or (block 23 tb id) 5 0) 1)
    → n ≡ get_or (block 23 tb id) 6 0 → ms ≡ list_in (block 23 tb id)
    → line (0xD2 ∷ id ∷ h ∷ l ∷ p ∷ m ∷ n ∷ ms) ≡ line (request_line tb id)
unfolding request_frame
request_line_lem tb id h g j eh el ep em en es =
    let b = block 23 tb id in
    rw (eh, el, ep, em, es)
    (ap (λ x. line (0xD2 ∷ id ∷ (key_in b / 256) ∷ (key_in b % 256) ∷ ((get_or b 4 0 + 128) % 256) ∷ mark_of (eqb (get_or b 5 0) 1) ∷ x ∷ list_in b))
    (en ∙ sym (length-list tb id h g j)))

pub channel_line_lem : (tb : List ℕ) (c : Channel) {h l p m n : ℕ} {ks : List ℕ} → h ≡ c.key / 256 → l ≡ c.key % 256 → p ≡ (c.prec + 128) % 256 → m ≡ mark_of c.locked → n ≡ mark_of c.stopped
    → ks ≡ kept_in tb c.writes → line (0xD1 ∷ h ∷ l ∷ p ∷ m ∷ n ∷ ks) ≡ line (channel_line tb c)
unfolding channel_line
channel_line_lem tb c eh el ep em en ek = rw (eh, el, ep, em, en, ek)

-- ---- what is remembered

pub kept_none : (tb : List ℕ) (q : Queue) → q.n ≡ 0 → replicate 6 0 ≡ kept_in tb q
unfolding kept_in
kept_none tb q e = rw (eq-eqb q.n 0 e)

pub kept_copied : (tb : List ℕ) (q : Queue) (id m : ℕ) (z : List ℕ) → Readable q tb → (q.n ≡ 0 → ⊥) → id ≡ get_or q.ids 0 0 → m ≡ 6 → length z ≡ 6
    → splice z 0 (take m (drop (id * 23 + 13) tb)) ≡ kept_in tb q
unfolding kept_in
kept_copied tb q id m z r n e k l =
    let s : get_or q.ids 0 0 < 64 = r.small 0 (omega arith) in
    let f = entry_part tb id 13 6 m (omega arith) r.long (omega arith) k in
    let g = length-entry tb id 13 6 (omega arith) r.long (omega arith) in
    rw (ne_eqb q.n 0 n, f, ← e) (splice_all z (take 6 (drop 13 (block 23 tb id))) (omega arith))

-- ---- the channels' lines

nz : (n : ℕ) → T (not (eqb n 0)) → 0 < n
nz zero t = absurd t
nz (suc n) t = omega arith

pub length-channel : (tb : List ℕ) (c : Channel) → Readable c.writes tb → length (line (channel_line tb c)) ≡ 25
unfolding channel_line kept_in
length-channel tb c r =
    let e : length (kept_in tb c.writes) ≡ 6 =
    if_elim (λ (ks : List ℕ). length ks ≡ 6) (eqb c.writes.n 0) (λ _. refl)
    (λ t. length-entry tb (get_or c.writes.ids 0 0) 13 6 (r.small 0 (let z = nz c.writes.n t in omega arith)) r.long (omega arith)) in
    let f = length_line (channel_line tb c) in
    omega arith

-- a channel among the first w
pub listed_taken : (tb : List ℕ) (cs : List Channel) (w i : ℕ) (d : Channel) → AllListed cs tb → w ≤ 8 → i < length (take w cs) → Listed (get_or (take w cs) i d).writes tb
listed_taken tb cs w i d r g h =
    let n = length-take w cs in
    let k : i < w = omega arith in
    rw (get_or-take w cs i d k) (r i d (omega arith))

-- there is room for one more of the first w
pub channel_room : (tb : List ℕ) (cs : List Channel) (w i : ℕ) → AllListed cs tb → w ≤ 8 → i < length (take w cs)
    → length (spelt (map (channel_line tb) (take i (take w cs)))) + 25 ≤ length (spelt (map (channel_line tb) (take w cs)))
channel_room tb cs w i r g h =
    let d = channel_of free in
    let a = room_more (channel_line tb) (take w cs) i d h in
    let b = length-channel tb (get_or (take w cs) i d) (listed_taken tb cs w i d r g h).0 in
    omega arith

-- ---- the writes of channels

pub writes_more : (tb : List ℕ) (k : ℕ) (cs : List Channel) (i : ℕ) (d : Channel) → i < length cs
    → writes_in tb k (take (i + 1) cs) ≡ writes_in tb k (take i cs) ++ map (entry_frame 0xD5 (k + i) tb) (list_of (get_or cs i d).writes)
unfolding writes_in
writes_more tb k [] i d h = absurd (omega arith)
writes_more tb k (c ∷ cs) zero d h = rw (add-zero k, append-nil (map (entry_frame 0xD5 k tb) (list_of c.writes)))
writes_more tb k (c ∷ cs) (suc i) d h =
    let e : k + suc i ≡ suc k + i = omega arith in
    let f : suc i + 1 ≡ suc (i + 1) = omega arith in
    rw (e, f, writes_more tb (suc k) cs i d (omega arith))
    (sym (append_assoc (map (entry_frame 0xD5 k tb) (list_of c.writes)) (writes_in tb (suc k) (take i cs)) (map (entry_frame 0xD5 (suc k + i) tb) (list_of (get_or cs i d).writes))))

writes_within : (tb : List ℕ) (k : ℕ) (cs : List Channel) (i : ℕ) → length (spelt (writes_in tb k (take i cs))) ≤ length (spelt (writes_in tb k cs))
unfolding writes_in spelt
writes_within tb k [] zero = omega arith
writes_within tb k [] (suc i) = omega arith
writes_within tb k (c ∷ cs) zero = omega arith
writes_within tb k (c ∷ cs) (suc i) =
    let M = map (entry_frame 0xD5 k tb) (list_of c.writes) in
    let h = writes_within tb (suc k) cs i in
    let a = ap length (spelt-append M (writes_in tb (suc k) (take i cs))) ∙ length-append (spelt M) (spelt (writes_in tb (suc k) (take i cs))) in
    let b = ap length (spelt-append M (writes_in tb (suc k) cs)) ∙ length-append (spelt M) (spelt (writes_in tb (suc k) cs)) in
    omega arith

pub writes_step : (tb : List ℕ) (cs : List Channel) (i : ℕ) (d : Channel) → i < length cs
    → spelt (writes_in tb 0 (take (i + 1) cs)) ≡ spelt (writes_in tb 0 (take i cs)) ++ spelt (map (entry_frame 0xD5 i tb) (list_of (get_or cs i d).writes))
writes_step tb cs i d h =
    let e = rw zero-add at (writes_more tb 0 cs i d h) in
    ap spelt e ∙ spelt-append (writes_in tb 0 (take i cs)) (map (entry_frame 0xD5 i tb) (list_of (get_or cs i d).writes))

pub writes_room : (tb : List ℕ) (cs : List Channel) (i : ℕ) (d : Channel) → i < length cs
    → length (spelt (writes_in tb 0 (take i cs))) + length (spelt (map (entry_frame 0xD5 i tb) (list_of (get_or cs i d).writes))) ≤ length (spelt (writes_in tb 0 cs))
writes_room tb cs i d h =
    let a = writes_within tb 0 cs (i + 1) in
    let b = ap length (writes_step tb cs i d h) ∙ length-append (spelt (writes_in tb 0 (take i cs))) (spelt (map (entry_frame 0xD5 i tb) (list_of (get_or cs i d).writes))) in
    omega arith

pub writes_fit : (tb : List ℕ) (cs : List Channel) (i : ℕ) (d : Channel) (at : ℕ) {p n m : ℕ} → i < length cs → p ≡ at + length (spelt (writes_in tb 0 (take i cs)))
    → at + length (spelt (writes_in tb 0 cs)) ≤ n → m ≡ n → p + length (spelt (map (entry_frame 0xD5 i tb) (list_of (get_or cs i d).writes))) ≤ m
writes_fit tb cs i d at h e f k = let r = writes_room tb cs i d h in omega arith
