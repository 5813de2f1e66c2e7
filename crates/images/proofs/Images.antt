-- Every sound state has its bytes: each number of it fits, no queue of it has more than 64 ids, and no more than 32 keys are open.
-- Assumes nothing.
use Prim.Native.Nat.{ℕ, zero, suc, ◌+◌, ◌-◌, ◌/◌, ◌%◌, ◌≤◌, ◌<◌}
use mathlib.Core.Path.{refl, ap, ◌∙◌}
use mathlib.Core.Bool.{Bool, true, false, not, ◌&&◌}
use mathlib.Core.List.{List, [], ◌∷◌, ◌++◌, map}
use native.Mathlib.Omega.{arith}
use lib.Dec.{T, eqb, leb, ltb, eqb→eq, leb→le, ltb→lt, lt→ltb}
use lib.ListN.{length, replicate, length-append, length-map}
use Rattle.widening.specs.machine.Lists.{all}
use Rattle.widening.specs.machine.State.{State as StateM, Write, Channel as ChannelM, Lock, Request, is_free}
use Rattle.widening.specs.machine.Numbers.{KEYS, ENTRIES}
use Rattle.widening.specs.machine.Sound.{sound_writes, sound_channel, writes_of, ids, sound_opens}
use Rattle.widening.proofs.machine.Tests.{by_test, test_true, test_false, and_left, and_right, and_both}
use Rattle.widening.proofs.machine.Closing.{opens_most}
use Rattle.widening.specs.machine.InBytes.{mark_of, two_bytes}
use Rattle.channel.proofs.machine_laws.Lists.{all_append}
use Rattle.channel.specs.machine_laws.Sound.{Parts}
use Rattle.channel.proofs.machine_laws.Sound.{ids_few}
use Rattle.queue.specs.Queue.{queue_of}
use Rattle.queue.proofs.Laws.{length-pad}
use Rattle.open_keys.specs.OpenKeys.{keys_of}
use Rattle.open_keys.proofs.Laws.{length-pad as length-keys}
use Rattle.channel.specs.Channel.{channel_of}
use Rattle.widening.specs.Widening.{widen}
use Rattle.image.specs.board.Board.{struct_of}
use Rattle.image.proofs.board.Laws.{own_wide, own_eight}
use Rattle.image.specs.Image.{keys_bytes, open_bytes, queue_bytes, channel_bytes, channels_bytes, image_of, is_byte, Filled, AllFilled, Sized, Saved}
use Rattle.image.proofs.Round.{image_of_whole}

-- ---- all of a list

abbrev pub Bytes : List ℕ → Type 0
Bytes l = T (all is_byte l)

abbrev Ids : List ℕ → Type 0
Ids l = T (all (λ i. ltb i 64) l)

ids_left : (xs ys : List ℕ) → Ids (xs ++ ys) → Ids xs
unfolding all
ids_left [] ys t = tt
ids_left (x ∷ xs) ys t =
    and_both (ltb x 64) (all (λ i. ltb i 64) xs) (and_left (ltb x 64) (all (λ i. ltb i 64) (xs ++ ys)) t)
    (ids_left xs ys (and_right (ltb x 64) (all (λ i. ltb i 64) (xs ++ ys)) t))

ids-right : (xs ys : List ℕ) → Ids (xs ++ ys) → Ids ys
unfolding all
ids-right [] ys t = t
ids-right (x ∷ xs) ys t = ids-right xs ys (and_right (ltb x 64) (all (λ i. ltb i 64) (xs ++ ys)) t)

one_byte : (b : ℕ) (l : List ℕ) → b < 256 → Bytes l → Bytes (b ∷ l)
unfolding all
one_byte b l h t = and_both (is_byte b) (all is_byte l) (lt→ltb b 256 h) t

no_bytes : Bytes []
unfolding all
no_bytes = tt

-- ---- the parts of an image

pub key-bytes : (k : ℕ) → k ≤ 65535 → Bytes (two_bytes k)
key-bytes k h = one_byte (k / 256) (k % 256 ∷ []) (omega arith) (one_byte (k % 256) [] (omega arith) no_bytes)

pub zero_bytes : (n : ℕ) → Bytes (replicate n 0)
zero_bytes zero = no_bytes
zero_bytes (suc n) = one_byte 0 (replicate n 0) (omega arith) (zero_bytes n)

ids-bytes : (l : List ℕ) → Ids l → Bytes l
unfolding all
ids-bytes [] t = tt
ids-bytes (x ∷ l) t =
    let h = ltb→lt x 64 (and_left (ltb x 64) (all (λ i. ltb i 64) l) t) in
    one_byte x l (omega arith) (ids-bytes l (and_right (ltb x 64) (all (λ i. ltb i 64) l) t))

queue-bytes : (l : List ℕ) → length l ≤ 64 → Ids l → Bytes (queue_bytes (queue_of l))
queue-bytes l h t = one_byte (length l) (l ++ replicate (64 - length l) 0) (omega arith) (all_append is_byte l (replicate (64 - length l) 0) (ids-bytes l t) (zero_bytes (64 - length l)))

no_keys : (n : ℕ) → Bytes (keys_bytes (replicate n 0))
unfolding keys_bytes
no_keys zero = no_bytes
no_keys (suc n) = all_append is_byte (two_bytes 0) (keys_bytes (replicate n 0)) (key-bytes 0 (omega arith)) (no_keys n)

keys-bytes : (ks : List ℕ) (n : ℕ) → T (all (λ k. leb 1 k && leb k KEYS) ks) → Bytes (keys_bytes (ks ++ replicate n 0))
unfolding keys_bytes all
keys-bytes [] n t = no_keys n
keys-bytes (k ∷ ks) n t =
    let h = leb→le k KEYS (and_right (leb 1 k) (leb k KEYS) (and_left (leb 1 k && leb k KEYS) (all (λ k. leb 1 k && leb k KEYS) ks) t)) in
    all_append is_byte (two_bytes k) (keys_bytes (ks ++ replicate n 0)) (key-bytes k h) (keys-bytes ks n (and_right (leb 1 k && leb k KEYS) (all (λ k. leb 1 k && leb k KEYS) ks) t))

open_bytes_lem : (ks : List ℕ) → T (sound_opens ks) → Bytes (open_bytes (keys_of ks))
unfolding sound_opens
open_bytes_lem ks t =
    let h = opens_most ks t in
    one_byte (length ks) (keys_bytes (ks ++ replicate (ENTRIES - length ks) 0)) (omega arith) (keys-bytes ks (ENTRIES - length ks) (and_right (leb (length ks) ENTRIES) (all (λ k. leb 1 k && leb k KEYS) ks) t))

mark_byte : (b : Bool) → mark_of b < 256
mark_byte true = omega arith
mark_byte false = omega arith

channel_fits : (c : ChannelM) → T (sound_channel c) → (c.key ≤ 65535) × (c.prec ≤ 255)
unfolding sound_channel
channel_fits c t =
    by_test (is_free c)
    (λ y. let u = rw (test_true (is_free c) y) at t in
    let k = eqb→eq c.key 0 y in
    let p = eqb→eq c.prec 128 (and_left (eqb c.prec 128) (not c.locked) (and_left (eqb c.prec 128 && not c.locked) (not c.stopped) (and_left (eqb c.prec 128 && not c.locked && not c.stopped) (eqb (length c.writes) 0) u))) in
    (omega arith, omega arith))
    (λ y. let u = rw (test_false (is_free c) y) at t in
    let v = and_left (leb c.key 65535 && leb c.prec 255) (sound_writes c.writes) u in
    (leb→le c.key 65535 (and_left (leb c.key 65535) (leb c.prec 255) v), leb→le c.prec 255 (and_right (leb c.key 65535) (leb c.prec 255) v)))

-- the ids of a channel's writes: their numbers stand in the table
abbrev playing : ChannelM → List ℕ
playing c = map (λ (w : Write). w.id) c.writes

channel-bytes : (c : ChannelM) → T (sound_channel c) → length (playing c) ≤ 64 → Ids (playing c) → Bytes (channel_bytes (channel_of c))
unfolding channel_bytes
channel-bytes c t h i =
    let f = channel_fits c t in
    let q = queue_bytes (queue_of (playing c)) in
    let m = mark_of c.locked in
    let n = mark_of c.stopped in
    all_append is_byte (two_bytes c.key) (c.prec ∷ m ∷ n ∷ q) (key-bytes c.key f.0)
    (one_byte c.prec (m ∷ n ∷ q) (omega arith) (one_byte m (n ∷ q) (mark_byte c.locked) (one_byte n q (mark_byte c.stopped) (queue-bytes (playing c) h i))))

channels-bytes : (cs : List ChannelM) → T (all sound_channel cs) → length (writes_of cs) ≤ 64 → Ids (writes_of cs) → Bytes (channels_bytes (map channel_of cs)) × AllFilled (map channel_of cs)
unfolding channels_bytes all writes_of
channels-bytes [] t h i = (tt, tt)
channels-bytes (c ∷ cs) t h i =
    let n = length-append (playing c) (writes_of cs) in
    let r = channels-bytes cs (and_right (sound_channel c) (all sound_channel cs) t) (omega arith) (ids-right (playing c) (writes_of cs) i) in
    let b = channel-bytes c (and_left (sound_channel c) (all sound_channel cs) t) (omega arith) (ids_left (playing c) (writes_of cs) i) in
    (all_append is_byte (channel_bytes (channel_of c)) (channels_bytes (map channel_of cs)) b r.0, (length-pad (playing c) (omega arith), r.1))

-- ---- the whole

module _ (s : StateM) (p : Parts s) where
  abbrev wide : StateM
  wide = widen (8 - length s.channels) s

  wide_parts : Parts wide
  wide_parts = own_wide s p

  wide-ids : Ids (writes_of wide.channels) × Ids (map (λ (l : Lock). l.id) s.locks) × Ids (map (λ (v : Lock). v.id) s.waiters) × Ids (map (λ (r : Request). r.id) s.waiting)
  unfolding ids
  wide-ids =
      let w = writes_of wide.channels in
      let l = map (λ (l : Lock). l.id) s.locks in
      let v = map (λ (v : Lock). v.id) s.waiters in
      let r = map (λ (r : Request). r.id) s.waiting in
      let t = wide_parts.small in
      let u = ids_left (w ++ l ++ v) r t in
      let k = ids_left (w ++ l) v u in
      (ids_left w l k, ids-right w l k, ids-right (w ++ l) v u, ids-right (w ++ l ++ v) r t)

  few : length (writes_of wide.channels) + length s.locks + length s.waiters + length s.waiting ≤ 64
  few = ids_few wide wide_parts

  few_locks : length (map (λ (l : Lock). l.id) s.locks) ≤ 64
  few_locks = let f = few in let e = length-map s.locks (λ (l : Lock). l.id) in omega arith

  few_waiters : length (map (λ (v : Lock). v.id) s.waiters) ≤ 64
  few_waiters = let f = few in let e = length-map s.waiters (λ (v : Lock). v.id) in omega arith

  few_waiting : length (map (λ (r : Request). r.id) s.waiting) ≤ 64
  few_waiting = let f = few in let e = length-map s.waiting (λ (r : Request). r.id) in omega arith

  parts_channels : Bytes (channels_bytes (map channel_of wide.channels)) × AllFilled (map channel_of wide.channels)
  parts_channels = let f = few in channels-bytes wide.channels wide_parts.channels_ok (omega arith) wide-ids.0

  pub sized_of : Sized (struct_of s)
  sized_of =
      record {
        eight = length-map wide.channels channel_of ∙ own_eight s p;
        channels = parts_channels.1;
        locks = length-pad (map (λ (l : Lock). l.id) s.locks) few_locks;
        waiters = length-pad (map (λ (v : Lock). v.id) s.waiters) few_waiters;
        waiting = length-pad (map (λ (r : Request). r.id) s.waiting) few_waiting;
        opens = length-keys s.opens (opens_most s.opens p.opens_ok);
      }

  bytes_of : Bytes (image_of (struct_of s))
  unfolding image_of
  bytes_of =
      let c = channels_bytes (map channel_of wide.channels) in
      let l = queue_bytes (queue_of (map (λ (l : Lock). l.id) s.locks)) in
      let v = queue_bytes (queue_of (map (λ (v : Lock). v.id) s.waiters)) in
      let w = queue_bytes (queue_of (map (λ (r : Request). r.id) s.waiting)) in
      let o = open_bytes (keys_of s.opens) in
      let k = two_bytes s.last in
      let n = length s.channels ∷ [] in
      let m = leb→le (length s.channels) 8 p.most in
      all_append is_byte c (l ++ (v ++ (w ++ (o ++ (k ++ n))))) parts_channels.0
      (all_append is_byte l (v ++ (w ++ (o ++ (k ++ n)))) (queue-bytes _ few_locks wide-ids.1)
      (all_append is_byte v (w ++ (o ++ (k ++ n))) (queue-bytes _ few_waiters wide-ids.2)
      (all_append is_byte w (o ++ (k ++ n)) (queue-bytes _ few_waiting wide-ids.3)
      (all_append is_byte o (k ++ n) (open_bytes_lem s.opens p.opens_ok)
      (all_append is_byte k n (key-bytes s.last (leb→le s.last 65535 p.last_ok)) (one_byte (length s.channels) [] (omega arith) no_bytes))))))

  pub saved_of : Saved (struct_of s) (image_of (struct_of s))
  saved_of = record { bytes = refl; sized = sized_of; whole = image_of_whole (struct_of s) sized_of (test_true (all is_byte (image_of (struct_of s))) bytes_of) }
