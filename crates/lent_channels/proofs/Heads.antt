-- The head of a channel stored, and what that makes of the channel. Assumes nothing.
use Prim.Native.Nat.{ℕ, zero, suc, ◌+◌, ◌*◌, ◌/◌, ◌%◌, ◌≤◌, ◌<◌}
use mathlib.Core.Path.{◌≡◌, refl, ap, ap₂, sym, subst, ◌∙◌}
use mathlib.Core.Bool.{Bool, true, false}
use mathlib.Core.List.{List, [], ◌∷◌, ◌++◌}
use native.Mathlib.Omega.{arith}
use lib.Dec.{T, eqb, eqb→eq}
use lib.ListN.{length, get_or, take, drop, set, replicate, length-append, length-take, length-drop, take-append-drop}
use lib.Seq.{drop-drop, length-take-le}
use borrow.Author.Tests.{eq-eqb, ne_eqb}
use Rattle.memory.specs.Splice.{splice}
use Rattle.memory.proofs.Splice.{splice_snoc, splice_then, behind, length-splice}
use Rattle.std.specs.Prelude.{if◌then◌else◌}
use Rattle.queue.specs.declared.Queue.{Queue}
use Rattle.queue.specs.Queue.{queue_of, list_of}
use Rattle.channel.specs.declared.Channel.{Channel}
use Rattle.channel.specs.Channel.{channel_of, reset_of, prec_of, flush_of, stop_of, lock_of, taken_of}
use Rattle.machine.specs.State.{free}
use Rattle.machine.specs.InBytes.{mark_of, two_bytes}
use Rattle.image.specs.Image.{queue_bytes, channel_bytes, channel_at, channels_at, queue_at, state_of, Whole, all_marks, Filled}
use Rattle.lent_channels.specs.declared.Channel.{Channel as Head}
use Rattle.lent.specs.Lent.{Tidy, with_channel}
use Rattle.lent_channels.specs.Heads.{head_in, unused_head, reset_head, prec_head, flush_head, stop_head, lock_head, taken_head, kept, stored, PutHead}
use Rattle.lent.proofs.Bytes.{Bytes, bytes_none, bytes_more, bytes-append, bytes_take, bytes_drop, bytes-zeros, bytes-splice}
use Rattle.lent.proofs.Frames.{byte_behind, queue_behind, open_behind, key_behind, channels_there, marks_there}
use Rattle.lent.proofs.Puts.{whole_marks, whole_bytes, is_whole_lem, channel-long, channel_same, channel_marks, channel_read, filled_at}

-- ---- the head of a channel

pub head_board : (l : List ℕ) (i : ℕ) (c : Channel) → i < 8 → length l ≡ 823 → Filled c.writes → state_of (splice l (i * 70) (channel_bytes c)) ≡ with_channel i c (state_of l)
unfolding state_of
head_board l i c h n f =
    let at = i * 70 in
    let vs = channel_bytes c in
    let z = channel-long l at c f (omega (arith, n, h)) in
    let g : at + length vs ≤ length l = omega (arith, z, n, h) in
    let v = byte_behind l at vs g 822 (omega (arith, z, h)) in
    let d : channel_at (splice l at vs) (i * 70) ≡ c = channel_same l at c f (omega (arith, n, h)) in
    let cs = channels_there l at vs g i h (omega arith) (omega (arith, z)) ∙ ap (set (channels_at 8 l 0) i) d in
    let a = queue_behind l at vs g 560 (omega (arith, z, h)) in
    let b = queue_behind l at vs g 625 (omega (arith, z, h)) in
    let w = queue_behind l at vs g 690 (omega (arith, z, h)) in
    let o = open_behind l at vs g 755 (omega (arith, z, h)) in
    let k = key_behind l at vs g 820 (omega (arith, z, h)) in
    λ i. record { width = v i; state = record { channels = cs i; locks = a i; waiters = b i; waiting = w i; opens = o i; last = k i } }

kept_filled : (n : ℕ) (q : Queue) → Filled q → Filled (kept n q)
kept_filled n q f = go (eqb n 0)
  where
    go : (b : Bool) → Filled (if b then queue_of [] else (record { n = n; ids = q.ids }))
    go true = refl
    go false = f

pub put_head : (l : List ℕ) (i : ℕ) (c : Head) {l' : List ℕ} → i < 8 → length l ≡ 823 → l' ≡ splice l (i * 70) (channel_bytes (stored c (channel_at l (i * 70))))
    → (Bytes l → Bytes (channel_bytes (stored c (channel_at l (i * 70))))) → PutHead l i c l'
put_head l i c {l'} h n e y =
    let d = stored c (channel_at l (i * 70)) in
    let f : Filled d.writes = unfold channel_at in kept_filled c.writes (queue_at l (i * 70 + 5)) (filled_at l (i * 70 + 5) (omega (arith, n, h))) in
    let vs = channel_bytes d in
    let g : i * 70 + 70 ≤ length l = omega (arith, n, h) in
    let z = channel-long l (i * 70) d f g in
    record {
      bytes = e;
      long = ap length e ∙ length-splice l (i * 70) vs (omega (arith, z, g));
      holds = λ w.
          let long : length (splice l (i * 70) vs) ≡ 823 = length-splice l (i * 70) vs (omega (arith, z, g)) ∙ n in
          let t = marks_there l (i * 70) vs (omega (arith, z, g)) i h (omega arith) (omega (arith, z)) (λ u. channel_marks l (i * 70) d f g) (whole_marks l w) in
          record {
            whole = is_whole_lem l' (ap length e ∙ long) (subst Bytes (sym e) (bytes-splice l (i * 70) vs (whole_bytes l w) (y (whole_bytes l w)))) (subst (λ (x : List ℕ). T (all_marks 8 x 0)) (sym e) t);
            board = ap state_of e ∙ head_board l i d h n f ∙ ap (λ (x : Channel). with_channel i (stored c x) (state_of l)) (sym (channel_read l i h));
          };
    }

-- ---- what a method makes of the channel that is stored again

kept_same : (q : Queue) → Tidy q → kept q.n q ≡ q
kept_same q t = go (eqb q.n 0) refl
  where
    go : (b : Bool) → eqb q.n 0 ≡ b → (if b then queue_of [] else (record { n = q.n; ids = q.ids })) ≡ q
    go true e =
        let z : q.n ≡ 0 = eqb→eq q.n 0 (subst T (sym e) tt) in
        sym (t ∙ ap (λ (n : ℕ). queue_of (take n q.ids)) z)
    go false e = refl

pub stored-reset : (c : Channel) → stored (reset_head (head_in c)) c ≡ reset_of c
stored-reset c = refl

pub stored_free : (c : Channel) → stored unused_head c ≡ channel_of free
stored_free c = refl

pub stored_flush : (c : Channel) → stored (flush_head (head_in c)) c ≡ flush_of c
stored_flush c = refl

pub stored-take : (k p : ℕ) (c : Channel) → stored (taken_head k p (head_in c)) c ≡ taken_of k p c
stored-take k p c = refl

module _ (c : Channel) (t : Tidy c.writes) where
  pub stored_same : stored (head_in c) c ≡ c
  stored_same = let e = kept_same c.writes t in λ i. record { key = c.key; prec = c.prec; locked = c.locked; stopped = c.stopped; writes = e i }

  pub stored-prec : (p : ℕ) → stored (prec_head p (head_in c)) c ≡ prec_of p c
  stored-prec p = ap (prec_of p) stored_same

  pub stored_stop : (b : Bool) → stored (stop_head b (head_in c)) c ≡ stop_of b c
  stored_stop b = ap (stop_of b) stored_same

  pub stored-lock : stored (lock_head (head_in c)) c ≡ lock_of c
  stored-lock = ap lock_of stored_same

-- ---- the stores

-- bytes stored where they stand leave the list
splice_own : (m : List ℕ) (a n : ℕ) → a + n ≤ length m → splice m a (take n (drop a m)) ≡ m
unfolding splice
splice_own m a n h =
    let e : length (take n (drop a m)) ≡ n = length-take-le n (drop a m) (simp length-drop (omega arith)) in
    ap (λ (x : ℕ). take a m ++ (take n (drop a m) ++ drop (a + x) m)) e
    ∙ (ap (λ (x : List ℕ). take a m ++ (take n (drop a m) ++ x)) (sym (drop-drop n a m))
    ∙ (ap (λ (x : List ℕ). take a m ++ x) (take-append-drop n (drop a m)) ∙ take-append-drop a m))

module _ (l : List ℕ) (i : ℕ) (c : Head) (h : i < 8) (n : length l ≡ 823) where
  abbrev at : ℕ
  at = i * 70

  abbrev hs : List ℕ
  hs = two_bytes c.key ++ (c.prec ∷ mark_of c.locked ∷ mark_of c.stopped ∷ c.writes ∷ [])

  pub head_stores : {l₁ : List ℕ} {m₁ m₂ : ℕ} → l₁ ≡ splice l at (two_bytes c.key) → m₁ ≡ mark_of c.locked → m₂ ≡ mark_of c.stopped
      → set (set (set (set l₁ (at + 2) c.prec) (at + 3) m₁) (at + 4) m₂) (at + 5) c.writes ≡ splice l at hs
  head_stores p a b =
      let k = two_bytes c.key in
      rw (p, a, b, splice_snoc l at k c.prec (omega (arith, n, h)), splice_snoc l at (k ++ c.prec ∷ []) (mark_of c.locked) (omega (arith, n, h)), splice_snoc l at (k ++ c.prec ∷ mark_of c.locked ∷ []) (mark_of c.stopped) (omega (arith, n, h)), splice_snoc l at (k ++ c.prec ∷ mark_of c.locked ∷ mark_of c.stopped ∷ []) c.writes (omega (arith, n, h)))

  bytes_of : (q : Queue) → channel_bytes (record { key = c.key; prec = c.prec; locked = c.locked; stopped = c.stopped; writes = q })
      ≡ two_bytes c.key ++ (c.prec ∷ mark_of c.locked ∷ mark_of c.stopped ∷ queue_bytes q)
  unfolding channel_bytes
  bytes_of q = refl

  ids_there : (channel_at l at).writes.ids ≡ take 64 (drop (at + 6) l)
  unfolding channel_at queue_at
  ids_there = let e : at + 5 + 1 ≡ at + 6 = omega arith in ap (λ (x : ℕ). take 64 (drop x l)) e

  head_bytes_lem : c.key < 65536 → c.prec < 256 → c.writes < 256 → (ids : List ℕ) → Bytes ids → Bytes (hs ++ ids)
  head_bytes_lem a b d ids y =
      let m₀ = c.writes ∷ ids in
      let m₁ = mark_of c.stopped ∷ m₀ in
      let m₂ = mark_of c.locked ∷ m₁ in
      let m₃ = c.prec ∷ m₂ in
      bytes_more (c.key / 256) (c.key % 256 ∷ m₃) (omega arith)
      (bytes_more (c.key % 256) m₃ (omega arith)
      (bytes_more c.prec m₂ b (bytes_more (mark_of c.locked) m₁ (mark_low c.locked) (bytes_more (mark_of c.stopped) m₀ (mark_low c.stopped) (bytes_more c.writes ids d y)))))
    where
      mark_low : (x : Bool) → mark_of x < 256
      mark_low true = omega arith
      mark_low false = omega arith

  pub put-cleared : {l₂ : List ℕ} → c.key < 65536 → c.prec < 256 → c.writes < 256 → c.writes ≡ 0 → l₂ ≡ splice (splice l at hs) (at + 6) (replicate 64 0) → PutHead l i c l₂
  put-cleared a b d w e =
      let s : channel_bytes (stored c (channel_at l at)) ≡ hs ++ replicate 64 0 =
      bytes_of (kept c.writes (channel_at l at).writes) ∙ ap (λ (q : Queue). two_bytes c.key ++ (c.prec ∷ mark_of c.locked ∷ mark_of c.stopped ∷ queue_bytes q)) gone
      ∙ ap (λ (x : ℕ). two_bytes c.key ++ (c.prec ∷ mark_of c.locked ∷ mark_of c.stopped ∷ x ∷ replicate 64 0)) (sym w) in
      put_head l i c h n (e ∙ (splice_then l at hs (replicate 64 0) (at + 6) refl (omega (arith, n, h)) ∙ ap (splice l at) (sym s)))
      (λ y. subst Bytes (sym s) (head_bytes_lem a b d (replicate 64 0) (bytes-zeros 64)))
    where
      gone : kept c.writes (channel_at l at).writes ≡ queue_of []
      gone = ap (λ (b : Bool). if b then queue_of [] else (record { n = c.writes; ids = (channel_at l at).writes.ids })) (eq-eqb c.writes 0 w)

  pub put_left : {l₂ : List ℕ} → c.key < 65536 → c.prec < 256 → c.writes < 256 → (c.writes ≡ 0 → ⊥) → l₂ ≡ splice l at hs → PutHead l i c l₂
  put_left a b d w e =
      let X = take 64 (drop (at + 6) l) in
      let s : channel_bytes (stored c (channel_at l at)) ≡ hs ++ X = bytes_of (kept c.writes (channel_at l at).writes) ∙ (ap (λ (q : Queue). two_bytes c.key ++ (c.prec ∷ mark_of c.locked ∷ mark_of c.stopped ∷ queue_bytes q)) stay ∙ ap (λ (x : List ℕ). hs ++ x) ids_there) in
      let m = splice l at hs in
      let z : length m ≡ length l = length-splice l at hs (omega (arith, n, h)) in
      let r : X ≡ take 64 (drop (at + 6) m) = ap (take 64) (sym (behind l at hs (at + 6) (omega arith) (omega (arith, n, h)))) in
      let own : splice m (at + 6) X ≡ m = ap (splice m (at + 6)) r ∙ splice_own m (at + 6) 64 (omega (arith, z, n, h)) in
      put_head l i c h n (e ∙ (sym own ∙ (splice_then l at hs X (at + 6) refl (omega (arith, n, h)) ∙ ap (splice l at) (sym s))))
      (λ y. subst Bytes (sym s) (head_bytes_lem a b d X (bytes_take 64 (drop (at + 6) l) (bytes_drop (at + 6) l y))))
    where
      stay : kept c.writes (channel_at l at).writes ≡ record { n = c.writes; ids = (channel_at l at).writes.ids }
      stay = ap (λ (b : Bool). if b then queue_of [] else (record { n = c.writes; ids = (channel_at l at).writes.ids })) (ne_eqb c.writes 0 w)
