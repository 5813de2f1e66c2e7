-- A frame that is of its kind and has a place is taken, any other is passed over; and which parts of a sheet a frame reads and changes.
-- Assumes nothing.
use Prim.Native.Nat.{ℕ, zero, suc, ◌+◌, ◌-◌, ◌*◌, ◌≤◌, ◌<◌}
use mathlib.Core.Path.{◌≡◌, refl, ap, sym, ◌∙◌}
use mathlib.Core.Bool.{Bool, true, false, ◌&&◌}
use mathlib.Core.List.{List, [], ◌∷◌, ◌++◌, append-nil}
use native.Mathlib.Omega.{arith}
use borrow.Author.Tests.{ne_eqb, eq-eqb, le-leb, lt-ltb}
use lib.Dec.{T, eqb, leb, ltb, eqb→eq, leb→le, ltb→lt}
use lib.ListN.{length, get_or, take, drop, set, replicate, length-append, length-drop, length-set}
use lib.Seq.{take_all}
use Rattle.table.specs.memory.Splice.{splice}
use Rattle.table.proofs.memory.Splice.{splice_then}
use Rattle.std.specs.Prelude.{if◌then◌else◌}
use Rattle.store.specs.machine.State.{free}
use Rattle.store.proofs.machine.Tests.{if_elim, by_test, test_true, test_false, and_left, and_right}
use Rattle.open_keys.specs.queue.declared.Queue.{Queue}
use Rattle.open_keys.specs.queue.Queue.{pushed}
use Rattle.open_keys.specs.declared.Keys.{Keys}
use Rattle.channel.specs.declared.Channel.{Channel}
use Rattle.channel.specs.Channel.{channel_of, with_writes}
use Rattle.store.specs.declared.State.{State}
use Rattle.sheet.specs.declared.Draft.{Draft}
use Rattle.sheet.specs.Sheet.{Sheet, sheet, key_of, channel_from, numbers_from, took_channel, took_request, took_lock, took_waiter, took_write, took_open, took_last, request_entry, span_of, write_of, added_key, has_channel, has_request, has_span, has_write, has_open, channel_taken, request_taken, lock_taken, waiter_taken, write_taken, open_taken, last_taken, part_taken, taken, with_channels, with_locks, with_waiters, with_waiting, with_opens, with_last, Took, Takes}

-- ---- parts of a list

-- what the code calls the rest of a slice
pub rest_is_drop : (k : ℕ) (l : List ℕ) → take (length l - k) (drop k l) ≡ drop k l
rest_is_drop k l = let e = length-drop k l in take_all (length l - k) (drop k l) (omega arith)

-- an element that is there, whatever stands for none
pub get_d_there : {A : Type 0} (l : List A) (i : ℕ) (d e : A) → i < length l → get_or l i d ≡ get_or l i e
get_d_there [] i d e h = absurd (omega arith)
get_d_there (x ∷ l) zero d e h = refl
get_d_there (x ∷ l) (suc i) d e h = get_d_there l i d e (omega arith)

-- ---- D1

module _ (f : List ℕ) (s : State) (n : ℕ) (ks : List ℕ) where
  module _ (lacks : T (has_channel f (sheet s n [] ks)) → ⊥) where
    pub channel-passed : Takes (channel_taken f (sheet s n [] ks)) (record { state = s; seen = n }) [] ks
    unfolding channel_taken
    channel-passed =
        by_test (has_channel f (sheet s n [] ks)) (λ t. absurd (lacks t))
        (λ t. let e = test_false (has_channel f (sheet s n [] ks)) t in record { state = rw e; seen = rw e; table = rw e; kept = rw e })

  pub has_channel_lem : T (has_channel f (sheet s n [] ks)) → (length f ≡ 12) × (n < 8)
  unfolding has_channel
  has_channel_lem t = (eqb→eq (length f) 12 (and_left (eqb (length f) 12) (ltb n 8) t), ltb→lt n 8 (and_right (eqb (length f) 12) (ltb n 8) t))

  pub channel-took : (c : Channel) (ks' : List ℕ) → length f ≡ 12 → n < 8 → c ≡ channel_from f → ks' ≡ splice ks (n * 6) (drop 6 f)
      → Takes (channel_taken f (sheet s n [] ks)) (record { state = with_channels (set s.channels n c) s; seen = n + 1 }) [] ks'
  unfolding channel_taken has_channel took_channel
  channel-took c ks' h g e k =
      let a = eq-eqb (length f) 12 h in
      let b = lt-ltb n 8 g in
      record { state = rw (a, b, e); seen = rw (a, b); table = rw (a, b); kept = rw (a, b) k }

-- ---- D2

module _ (f : List ℕ) (s : State) (tb : List ℕ) where
  pub request-passed : (T (has_request f (sheet s 0 tb [])) → ⊥) → Took (request_taken f (sheet s 0 tb [])) s tb
  unfolding request_taken
  request-passed lacks =
      by_test (has_request f (sheet s 0 tb [])) (λ t. absurd (lacks t))
      (λ t. let e = test_false (has_request f (sheet s 0 tb [])) t in record { state = rw e; table = rw e })

  pub has_request_lem : T (has_request f (sheet s 0 tb [])) → (7 ≤ length f) × (length f ≤ 23) × (get_or f 1 0 < 64) × (s.waiting.n < 64)
  unfolding has_request
  has_request_lem t =
      let a = leb 7 (length f) in
      let b = leb (length f) 23 in
      let d = ltb (get_or f 1 0) 64 in
      let e = ltb s.waiting.n 64 in
      let u = and_right a (b && (d && e)) t in
      let v = and_right b (d && e) u in (
        leb→le 7 (length f) (and_left a (b && (d && e)) t),
        leb→le (length f) 23 (and_left b (d && e) u),
        ltb→lt (get_or f 1 0) 64 (and_left d e v),
        ltb→lt s.waiting.n 64 (and_right d e v),
      )

  pub request-took : (q : Queue) (tb' : List ℕ) → 7 ≤ length f → length f ≤ 23 → get_or f 1 0 < 64 → s.waiting.n < 64
      → q ≡ pushed s.waiting (get_or f 1 0) → tb' ≡ splice tb (get_or f 1 0 * 23) (request_entry f) → Took (request_taken f (sheet s 0 tb [])) (with_waiting q s) tb'
  unfolding request_taken has_request took_request
  request-took q tb' h g k m e w =
      let a = le-leb 7 (length f) h in
      let b = le-leb (length f) 23 g in
      let i = lt-ltb (get_or f 1 0) 64 k in
      let j = lt-ltb s.waiting.n 64 m in
      record { state = rw (a, b, i, j, e); table = rw (a, b, i, j) w }

-- ---- D3 and D4

module _ (f : List ℕ) (q : Queue) where
  pub has_span_lem : T (has_span f q) → (length f ≡ 5) × (get_or f 1 0 < 64) × (q.n < 64)
  unfolding has_span
  has_span_lem t =
      let a = eqb (length f) 5 in
      let d = ltb (get_or f 1 0) 64 in
      let e = ltb q.n 64 in
      let u = and_right a (d && e) t in
      (eqb→eq (length f) 5 (and_left a (d && e) t), ltb→lt (get_or f 1 0) 64 (and_left d e u), ltb→lt q.n 64 (and_right d e u))

  pub span_has : length f ≡ 5 → get_or f 1 0 < 64 → q.n < 64 → has_span f q ≡ true
  unfolding has_span
  span_has h g k = rw (eq-eqb (length f) 5 h, lt-ltb (get_or f 1 0) 64 g, lt-ltb q.n 64 k)

module _ (f : List ℕ) (s : State) (tb : List ℕ) where
  pub lock-passed : (T (has_span f s.locks) → ⊥) → Took (lock_taken f (sheet s 0 tb [])) s tb
  unfolding lock_taken
  lock-passed lacks = by_test (has_span f s.locks) (λ t. absurd (lacks t)) (λ t. let e = test_false (has_span f s.locks) t in record { state = rw e; table = rw e })

  pub waiter-passed : (T (has_span f s.waiters) → ⊥) → Took (waiter_taken f (sheet s 0 tb [])) s tb
  unfolding waiter_taken
  waiter-passed lacks = by_test (has_span f s.waiters) (λ t. absurd (lacks t)) (λ t. let e = test_false (has_span f s.waiters) t in record { state = rw e; table = rw e })

  module _ (q : Queue) (tb' : List ℕ) (h : length f ≡ 5) (g : get_or f 1 0 < 64) where
    pub lock-took : s.locks.n < 64 → q ≡ pushed s.locks (get_or f 1 0) → tb' ≡ splice tb (get_or f 1 0 * 23) (span_of 13 f) → Took (lock_taken f (sheet s 0 tb [])) (with_locks q s) tb'
    unfolding lock_taken took_lock
    lock-took k e w = let a = span_has f s.locks h g k in record { state = rw (a, e); table = rw a w }

    pub waiter-took : s.waiters.n < 64 → q ≡ pushed s.waiters (get_or f 1 0) → tb' ≡ splice tb (get_or f 1 0 * 23) (span_of 14 f) → Took (waiter_taken f (sheet s 0 tb [])) (with_waiters q s) tb'
    unfolding waiter_taken took_waiter
    waiter-took k e w = let a = span_has f s.waiters h g k in record { state = rw (a, e); table = rw a w }

-- ---- D5

-- the numbers of a write: zeros, then the six of the frame over them, then for the first of a channel those that are remembered
module _ (f : List ℕ) (q : Queue) (ks : List ℕ) (h : length f ≡ 9) where
  six : length (drop 3 f) ≡ 6
  six = length-drop 3 f ∙ (let z : length f - 3 ≡ 6 = omega arith in z)

  pub numbers_behind : (q.n ≡ 0 → ⊥) → splice (replicate 12 0) 0 (drop 3 f) ≡ numbers_from f q ks
  unfolding numbers_from splice
  numbers_behind n =
      let s = six in
      let e : 0 + length (drop 3 f) ≡ 6 = omega arith in
      rw (ne_eqb q.n 0 n, e, take_all 6 (drop 3 f) (omega arith))

  pub numbers_front : q.n ≡ 0 → length ks ≡ 6 → splice (splice (replicate 12 0) 0 (drop 3 f)) 6 ks ≡ numbers_from f q ks
  unfolding numbers_from splice
  numbers_front n k =
      let s = six in
      let a = length-append (drop 3 f) ks in
      let e : 0 + length (drop 3 f ++ ks) ≡ 12 = omega arith in
      splice_then (replicate 12 0) 0 (drop 3 f) ks 6 (omega arith) (omega arith)
      ∙ rw (n, e, take_all 6 (drop 3 f) (omega arith)) (append-nil (drop 3 f ++ ks))

module _ (f : List ℕ) (s : State) (tb ks : List ℕ) where
  pub write_passed : (T (has_write f (sheet s 0 tb ks)) → ⊥) → Took (write_taken f (sheet s 0 tb ks)) s tb
  unfolding write_taken
  write_passed lacks =
      by_test (has_write f (sheet s 0 tb ks)) (λ t. absurd (lacks t))
      (λ t. let e = test_false (has_write f (sheet s 0 tb ks)) t in record { state = rw e; table = rw e })

  pub has_write_lem : T (has_write f (sheet s 0 tb ks)) → (length f ≡ 9) × (get_or f 1 0 < 8) × (get_or f 2 0 < 64) × ((get_or s.channels (get_or f 1 0) (channel_of free)).writes.n < 64)
  unfolding has_write
  has_write_lem t =
      let a = eqb (length f) 9 in
      let b = ltb (get_or f 1 0) 8 in
      let d = ltb (get_or f 2 0) 64 in
      let e = ltb (get_or s.channels (get_or f 1 0) (channel_of free)).writes.n 64 in
      let u = and_right a (b && (d && e)) t in
      let v = and_right b (d && e) u in (
        eqb→eq (length f) 9 (and_left a (b && (d && e)) t),
        ltb→lt (get_or f 1 0) 8 (and_left b (d && e) u),
        ltb→lt (get_or f 2 0) 64 (and_left d e v),
        ltb→lt (get_or s.channels (get_or f 1 0) (channel_of free)).writes.n 64 (and_right d e v),
      )

  module _ (c : Channel) (at : get_or s.channels (get_or f 1 0) (channel_of free) ≡ c) where
    pub write_took : (c' : Channel) (tb' : List ℕ) → length f ≡ 9 → get_or f 1 0 < 8 → get_or f 2 0 < 64 → c.writes.n < 64
        → c' ≡ with_writes (pushed c.writes (get_or f 2 0)) c
        → tb' ≡ splice tb (get_or f 2 0 * 23) (write_of f (sheet s 0 tb ks)) → Took (write_taken f (sheet s 0 tb ks)) (with_channels (set s.channels (get_or f 1 0) c') s) tb'
    unfolding write_taken has_write took_write
    write_took c' tb' h g k m e w =
        let a = eq-eqb (length f) 9 h in
        let b = lt-ltb (get_or f 1 0) 8 g in
        let i = lt-ltb (get_or f 2 0) 64 k in
        let j = lt-ltb c.writes.n 64 m in
        record { state = rw (at, a, b, i, j, e); table = rw (at, a, b, i, j) w }

-- ---- D6 and D7

module _ (f : List ℕ) (s : State) where
  pub open_passed : (T (has_open f (sheet s 0 [] [])) → ⊥) → Took (open_taken f (sheet s 0 [] [])) s []
  unfolding open_taken
  open_passed lacks =
      by_test (has_open f (sheet s 0 [] [])) (λ t. absurd (lacks t))
      (λ t. let e = test_false (has_open f (sheet s 0 [] [])) t in record { state = rw e; table = rw e })

  pub has_open_lem : T (has_open f (sheet s 0 [] [])) → (length f ≡ 3) × (s.opens.n < 32)
  unfolding has_open
  has_open_lem t =
      let a = eqb (length f) 3 in
      let b = ltb s.opens.n 32 in
      (eqb→eq (length f) 3 (and_left a b t), ltb→lt s.opens.n 32 (and_right a b t))

  pub open_took : (q : Keys) → length f ≡ 3 → s.opens.n < 32 → q ≡ added_key s.opens (key_of f 1) → Took (open_taken f (sheet s 0 [] [])) (with_opens q s) []
  unfolding open_taken has_open took_open
  open_took q h g e =
      let a = eq-eqb (length f) 3 h in
      let b = lt-ltb s.opens.n 32 g in
      record { state = rw (a, b, e); table = rw (a, b) }

  pub last_passed : (length f ≡ 3 → ⊥) → Took (last_taken f (sheet s 0 [] [])) s []
  unfolding last_taken
  last_passed lacks = let a = ne_eqb (length f) 3 lacks in record { state = rw a; table = rw a }

  pub last_took : (k : ℕ) → length f ≡ 3 → k ≡ key_of f 1 → Took (last_taken f (sheet s 0 [] [])) (with_last k s) []
  unfolding last_taken took_last
  last_took k h e = let a = eq-eqb (length f) 3 h in record { state = rw (a, e); table = rw a }

-- ---- what a frame reads and changes

-- a channel leaves the table
pub channel-apart : (f : List ℕ) (s : State) (n : ℕ) (tb ks : List ℕ)
    → channel_taken f (sheet s n tb ks)
    ≡ (let x = channel_taken f (sheet s n [] ks) in record { state = x.state; seen = x.seen; table = tb; kept = x.kept })
unfolding channel_taken has_channel took_channel
channel-apart f s n tb ks =
    by_test (has_channel f (sheet s n tb ks)) (λ t. rw (test_true (has_channel f (sheet s n tb ks)) t)) (λ t. rw (test_false (has_channel f (sheet s n tb ks)) t))

-- the others leave how many channels were read and what is remembered; only a write reads that
module _ (f : List ℕ) (s : State) (n : ℕ) (tb ks : List ℕ) where
  abbrev Apart : Sheet → Sheet → Type 0
  Apart x y = x ≡ sheet y.state n y.table ks

  pub request-apart : Apart (request_taken f (sheet s n tb ks)) (request_taken f (sheet s 0 tb []))
  unfolding request_taken has_request took_request
  request-apart =
      by_test (has_request f (sheet s n tb ks))
      (λ t. rw (test_true (has_request f (sheet s n tb ks)) t))
      (λ t. rw (test_false (has_request f (sheet s n tb ks)) t))

  pub lock-apart : Apart (lock_taken f (sheet s n tb ks)) (lock_taken f (sheet s 0 tb []))
  unfolding lock_taken took_lock
  lock-apart = by_test (has_span f s.locks) (λ t. rw (test_true (has_span f s.locks) t)) (λ t. rw (test_false (has_span f s.locks) t))

  pub waiter-apart : Apart (waiter_taken f (sheet s n tb ks)) (waiter_taken f (sheet s 0 tb []))
  unfolding waiter_taken took_waiter
  waiter-apart = by_test (has_span f s.waiters) (λ t. rw (test_true (has_span f s.waiters) t)) (λ t. rw (test_false (has_span f s.waiters) t))

  pub write_apart : Apart (write_taken f (sheet s n tb ks)) (write_taken f (sheet s 0 tb ks))
  unfolding write_taken has_write took_write write_of
  write_apart =
      by_test (has_write f (sheet s n tb ks))
      (λ t. rw (test_true (has_write f (sheet s n tb ks)) t))
      (λ t. rw (test_false (has_write f (sheet s n tb ks)) t))

  pub open_apart : open_taken f (sheet s n tb ks) ≡ sheet (open_taken f (sheet s 0 [] [])).state n tb ks
  unfolding open_taken has_open took_open
  open_apart =
      by_test (has_open f (sheet s n tb ks))
      (λ t. rw (test_true (has_open f (sheet s n tb ks)) t))
      (λ t. rw (test_false (has_open f (sheet s n tb ks)) t))

  pub last_apart : last_taken f (sheet s n tb ks) ≡ sheet (last_taken f (sheet s 0 [] [])).state n tb ks
  unfolding last_taken took_last
  last_apart = by_test (eqb (length f) 3) (λ t. rw (test_true (eqb (length f) 3) t)) (λ t. rw (test_false (eqb (length f) 3) t))

-- ---- any frame that is no channel's

module _ (k : ℕ) (f : List ℕ) (s : State) (tb ks : List ℕ) (r : State) where
  module _ (tb' : List ℕ) where
    took-apart : {x y : Sheet} → x ≡ sheet y.state 0 y.table ks → Took y r tb' → Took x r tb'
    took-apart e t = record { state = t.state ∙ sym (ap (λ (d : Sheet). d.state) e); table = t.table ∙ sym (ap (λ (d : Sheet). d.table) e) }

    pub part_request : k ≡ 0xD2 → Took (request_taken f (sheet s 0 tb [])) r tb' → Took (part_taken k f (sheet s 0 tb ks)) r tb'
    unfolding part_taken
    part_request e t = rw e (took-apart (request-apart f s 0 tb ks) t)

    pub part_lock : k ≡ 0xD3 → Took (lock_taken f (sheet s 0 tb [])) r tb' → Took (part_taken k f (sheet s 0 tb ks)) r tb'
    unfolding part_taken
    part_lock e t = rw e (took-apart (lock-apart f s 0 tb ks) t)

    pub part_waiter : k ≡ 0xD4 → Took (waiter_taken f (sheet s 0 tb [])) r tb' → Took (part_taken k f (sheet s 0 tb ks)) r tb'
    unfolding part_taken
    part_waiter e t = rw e (took-apart (waiter-apart f s 0 tb ks) t)

    pub part_write : k ≡ 0xD5 → Took (write_taken f (sheet s 0 tb ks)) r tb' → Took (part_taken k f (sheet s 0 tb ks)) r tb'
    unfolding part_taken
    part_write e t = rw e t

  pub part_open : k ≡ 0xD6 → Took (open_taken f (sheet s 0 [] [])) r [] → Took (part_taken k f (sheet s 0 tb ks)) r tb
  unfolding part_taken
  part_open e t =
      let a = open_apart f s 0 tb ks in
      rw e (record { state = t.state ∙ sym (ap (λ (d : Sheet). d.state) a); table = sym (ap (λ (d : Sheet). d.table) a) })

  pub part_last : k ≡ 0xD7 → Took (last_taken f (sheet s 0 [] [])) r [] → Took (part_taken k f (sheet s 0 tb ks)) r tb
  unfolding part_taken
  part_last e t =
      let a = last_apart f s 0 tb ks in
      rw e (record { state = t.state ∙ sym (ap (λ (d : Sheet). d.state) a); table = sym (ap (λ (d : Sheet). d.table) a) })

pub part_none : (k : ℕ) (f : List ℕ) (s : State) (tb ks : List ℕ) → (k ≡ 0xD2 → ⊥) → (k ≡ 0xD3 → ⊥) → (k ≡ 0xD4 → ⊥) → (k ≡ 0xD5 → ⊥) → (k ≡ 0xD6 → ⊥) → (k ≡ 0xD7 → ⊥)
    → Took (part_taken k f (sheet s 0 tb ks)) s tb
unfolding part_taken
part_none k f s tb ks a b c d e g = rw (ne_eqb k 0xD2 a, ne_eqb k 0xD3 b, ne_eqb k 0xD4 c, ne_eqb k 0xD5 d, ne_eqb k 0xD6 e, ne_eqb k 0xD7 g) (record { state = refl; table = refl })

-- the first sheet is the second, with how many channels were read and what is remembered
record Same (n : ℕ) (ks : List ℕ) (x y : Sheet) : Type 0 where
  same : x ≡ sheet y.state n y.table ks

module _ {n : ℕ} {ks : List ℕ} where
  same_if : (b : Bool) {x y v w : Sheet} → Same n ks x v → Same n ks y w → Same n ks (if b then x else y) (if b then v else w)
  same_if true e g = e
  same_if false e g = g

  same_from : {x v : Sheet} {st : State} {tb : List ℕ} → x ≡ sheet st n tb ks → v ≡ sheet st 0 tb ks → Same n ks x v
  same_from e g = record { same = e ∙ ap (λ (d : Sheet). sheet d.state n d.table ks) (sym g) }

module _ (f : List ℕ) (s : State) (n : ℕ) (tb ks : List ℕ) where
  part_apart : (k : ℕ) → Same n ks (part_taken k f (sheet s n tb ks)) (part_taken k f (sheet s 0 tb ks))
  unfolding part_taken
  part_apart k =
      same_if (eqb k 0xD2) (same_from (request-apart f s n tb ks) (request-apart f s 0 tb ks))
      (same_if (eqb k 0xD3) (same_from (lock-apart f s n tb ks) (lock-apart f s 0 tb ks))
      (same_if (eqb k 0xD4) (same_from (waiter-apart f s n tb ks) (waiter-apart f s 0 tb ks))
      (same_if (eqb k 0xD5) (record { same = write_apart f s n tb ks })
      (same_if (eqb k 0xD6) (same_from (open_apart f s n tb ks) (open_apart f s 0 tb ks))
      (same_if (eqb k 0xD7) (same_from (last_apart f s n tb ks) (last_apart f s 0 tb ks)) (record { same = refl }))))))

  -- ---- any frame

  pub empty_passed : length f ≡ 0 → Takes (taken f (sheet s n tb ks)) (record { state = s; seen = n }) tb ks
  unfolding taken part_taken
  empty_passed h = let e : get_or f 0 0 ≡ 0 = first f h in rw e (record { state = refl; seen = refl; table = refl; kept = refl })
    where
      first : (l : List ℕ) → length l ≡ 0 → get_or l 0 0 ≡ 0
      first [] h = refl
      first (x ∷ l) h = absurd (omega arith)

  pub taken-channel : (r : Draft) (ks' : List ℕ) → get_or f 0 0 ≡ 0xD1 → Takes (channel_taken f (sheet s n [] ks)) r [] ks' → Takes (taken f (sheet s n tb ks)) r tb ks'
  unfolding taken
  taken-channel r ks' e t =
      let a = channel-apart f s n tb ks in
      rw e
      (record {
        state = t.state ∙ sym (ap (λ (d : Sheet). d.state) a);
        seen = t.seen ∙ sym (ap (λ (d : Sheet). d.seen) a);
        table = sym (ap (λ (d : Sheet). d.table) a);
        kept = t.kept ∙ sym (ap (λ (d : Sheet). d.kept) a);
      })

  pub taken_part : (r : State) (tb' : List ℕ) → (get_or f 0 0 ≡ 0xD1 → ⊥) → Took (part_taken (get_or f 0 0) f (sheet s 0 tb ks)) r tb'
      → Takes (taken f (sheet s n tb ks)) (record { state = r; seen = n }) tb' ks
  unfolding taken
  taken_part r tb' h t =
      let a = (part_apart (get_or f 0 0)).same in
      rw (ne_eqb (get_or f 0 0) 0xD1 h)
      (record {
        state = t.state ∙ sym (ap (λ (d : Sheet). d.state) a);
        seen = sym (ap (λ (d : Sheet). d.seen) a);
        table = t.table ∙ sym (ap (λ (d : Sheet). d.table) a);
        kept = sym (ap (λ (d : Sheet). d.kept) a);
      })

-- ---- no frame changes how many channels there are

module _ (d : Sheet) where
  abbrev AsMany : Sheet → Type 0
  AsMany x = length x.state.channels ≡ length d.state.channels

  pub taken_as_many : (f : List ℕ) → AsMany (taken f d)
  unfolding taken channel_taken part_taken request_taken lock_taken waiter_taken write_taken open_taken last_taken took_channel took_request took_lock took_waiter took_write took_open took_last
  taken_as_many f =
      if_elim AsMany (eqb (get_or f 0 0) 0xD1)
      (λ _. if_elim AsMany (has_channel f d) (λ _. length-set d.state.channels d.seen (channel_from f)) (λ _. refl))
      (λ _. if_elim AsMany (eqb (get_or f 0 0) 0xD2) (λ _. if_elim AsMany (has_request f d) (λ _. refl) (λ _. refl))
      (λ _. if_elim AsMany (eqb (get_or f 0 0) 0xD3) (λ _. if_elim AsMany (has_span f d.state.locks) (λ _. refl) (λ _. refl))
      (λ _. if_elim AsMany (eqb (get_or f 0 0) 0xD4) (λ _. if_elim AsMany (has_span f d.state.waiters) (λ _. refl) (λ _. refl))
      (λ _. if_elim AsMany (eqb (get_or f 0 0) 0xD5) (λ _. if_elim AsMany (has_write f d) (λ _. length-set d.state.channels (get_or f 1 0) _) (λ _. refl))
      (λ _. if_elim AsMany (eqb (get_or f 0 0) 0xD6) (λ _. if_elim AsMany (has_open f d) (λ _. refl) (λ _. refl))
      (λ _. if_elim AsMany (eqb (get_or f 0 0) 0xD7) (λ _. if_elim AsMany (eqb (length f) 3) (λ _. refl) (λ _. refl)) (λ _. refl)))))))
