-- Bytes that hold a board are the bytes of that board; the bytes of a board hold it. Assumes nothing.
use Prim.Native.Nat.{ℕ, zero, suc, ◌+◌, ◌*◌, ◌/◌, ◌%◌, ◌≤◌, ◌<◌}
use mathlib.Core.Path.{◌≡◌, refl, ap, ap₂, sym, subst, ◌∙◌}
use mathlib.Core.Bool.{Bool, true, false, ◌&&◌}
use mathlib.Core.List.{List, [], ◌∷◌, ◌++◌, append_assoc}
use native.Mathlib.Omega.{arith}
use native.Mathlib.Nat.{div-add-mod'}
use native.Mathlib.Numerals.{add-one}
use lib.Dec.{T, eqb, ltb→lt}
use lib.ListN.{length, get_or, take, drop, length-append, length-drop}
use lib.Seq.{length-take-le, take_at, take_all, take-add, drop-drop, drop-cons, drop-append-add, get_or-append-add}
use borrow.Author.Tests.{eq-eqb}
use Rattle.open_keys.specs.machine.Lists.{all}
use Rattle.open_keys.proofs.machine.Tests.{and_left, and_right}
use Rattle.open_keys.specs.machine.InBytes.{mark_of, two_bytes}
use Rattle.open_keys.specs.queue.declared.Queue.{Queue}
use Rattle.open_keys.specs.declared.Keys.{Keys}
use Rattle.board.specs.channel.declared.Channel.{Channel}
use Rattle.board.specs.declared.Board.{Board}
use Rattle.image.specs.Image.{keys_bytes, open_bytes, queue_bytes, channel_bytes, channels_bytes, image_of, key_at, keys_from, open_at, queue_at, channel_at, channels_at, state_of, is_byte, is_mark, marks_at, all_marks, is_whole, Whole, Filled, AllFilled, Sized, Saved}
use Rattle.image.proofs.Laws.{whole_long, bytes_all}

-- ---- what stands behind a list

module _ (us vs : List ℕ) (at : ℕ) (h : length us ≡ at) where
  byte_behind : (k : ℕ) → get_or (us ++ vs) (at + k) 0 ≡ get_or vs k 0
  byte_behind k = ap (λ (n : ℕ). get_or (us ++ vs) (n + k) 0) (sym h) ∙ get_or-append-add us vs k 0

  first_behind : get_or (us ++ vs) at 0 ≡ get_or vs 0 0
  first_behind = let e : at ≡ at + 0 = omega arith in ap (λ (n : ℕ). get_or (us ++ vs) n 0) e ∙ byte_behind 0

  rest_behind : (k : ℕ) → drop (at + k) (us ++ vs) ≡ drop k vs
  rest_behind k = ap (λ (n : ℕ). drop (n + k) (us ++ vs)) (sym h) ∙ drop-append-add us vs k

-- ---- a struct is read back from its bytes

mark_back : (b : Bool) → eqb (mark_of b) 1 ≡ b
mark_back true = refl
mark_back false = refl

mark_small : (b : Bool) → is_mark (mark_of b) ≡ true
mark_small true = refl
mark_small false = refl

module _ (us : List ℕ) (at : ℕ) (h : length us ≡ at) (vs : List ℕ) where
  key_back : (k : ℕ) → key_at (us ++ (two_bytes k ++ vs)) at ≡ k
  key_back k =
      rw (first_behind us (two_bytes k ++ vs) at h, byte_behind us (two_bytes k ++ vs) at h 1) (div-add-mod' k 256)

  queue_back : (q : Queue) → Filled q → queue_at (us ++ (queue_bytes q ++ vs)) at ≡ q
  unfolding queue_at
  queue_back q f =
      rw (first_behind us (queue_bytes q ++ vs) at h, rest_behind us (queue_bytes q ++ vs) at h 1, take_at q.ids vs 64 f)

  channel_marks : (c : Channel) → marks_at (us ++ (channel_bytes c ++ vs)) at ≡ true
  unfolding marks_at channel_bytes
  channel_marks c = rw (byte_behind us (channel_bytes c ++ vs) at h 3, byte_behind us (channel_bytes c ++ vs) at h 4, mark_small c.locked, mark_small c.stopped)

module _ (us : List ℕ) (at : ℕ) (h : length us ≡ at) (vs : List ℕ) where
  queue-inside : (c : Channel) → Filled c.writes → queue_at (us ++ (channel_bytes c ++ vs)) (at + 5) ≡ c.writes
  unfolding channel_bytes
  queue-inside c f =
      let hs = (c.key / 256) ∷ (c.key % 256) ∷ c.prec ∷ mark_of c.locked ∷ mark_of c.stopped ∷ [] in
      let e : us ++ (channel_bytes c ++ vs) ≡ (us ++ hs) ++ (queue_bytes c.writes ++ vs) = sym (append_assoc us hs (queue_bytes c.writes ++ vs)) in
      rw e (queue_back (us ++ hs) (at + 5) (length-append us hs ∙ (omega arith)) vs c.writes f)

  channel_back : (c : Channel) → Filled c.writes → channel_at (us ++ (channel_bytes c ++ vs)) at ≡ c
  unfolding channel_at channel_bytes
  channel_back c f i =
      let b = channel_bytes c ++ vs in
      record {
        key = key_back us at h (c.prec ∷ mark_of c.locked ∷ mark_of c.stopped ∷ queue_bytes c.writes ++ vs) c.key i;
        prec = byte_behind us b at h 2 i;
        locked = (ap (λ (x : ℕ). eqb x 1) (byte_behind us b at h 3) ∙ mark_back c.locked) i;
        stopped = (ap (λ (x : ℕ). eqb x 1) (byte_behind us b at h 4) ∙ mark_back c.stopped) i;
        writes = queue-inside c f i;
      }

channel-long : (c : Channel) → Filled c.writes → length (channel_bytes c) ≡ 70
unfolding channel_bytes
channel-long c f = omega arith

-- channels, one behind the other
channels-long : (cs : List Channel) → AllFilled cs → length (channels_bytes cs) ≡ length cs * 70
unfolding channels_bytes
channels-long [] f = refl
channels-long (c ∷ cs) f = let a = channel-long c f.0 in let b = channels-long cs f.1 in length-append (channel_bytes c) (channels_bytes cs) ∙ omega arith

module _ (vs : List ℕ) where
  channels_back : (cs : List Channel) → AllFilled cs → (us : List ℕ) (at : ℕ) → length us ≡ at → channels_at (length cs) (us ++ (channels_bytes cs ++ vs)) at ≡ cs
  unfolding channels_at channels_bytes
  channels_back [] f us at h = refl
  channels_back (c ∷ cs) f us at h =
      let e : us ++ ((channel_bytes c ++ channels_bytes cs) ++ vs) ≡ us ++ (channel_bytes c ++ (channels_bytes cs ++ vs)) = ap (λ (l : List ℕ). us ++ l) (append_assoc (channel_bytes c) (channels_bytes cs) vs) in
      let g : us ++ (channel_bytes c ++ (channels_bytes cs ++ vs)) ≡ (us ++ channel_bytes c) ++ (channels_bytes cs ++ vs) = sym (append_assoc us (channel_bytes c) (channels_bytes cs ++ vs)) in
      let n : length (us ++ channel_bytes c) ≡ at + 70 = let a = channel-long c f.0 in length-append us (channel_bytes c) ∙ omega arith in
      let a = ap (λ (l : List ℕ). channel_at l at) e ∙ channel_back us at h (channels_bytes cs ++ vs) c f.0 in
      let b = ap (λ (l : List ℕ). channels_at (length cs) l (at + 70)) (e ∙ g) ∙ channels_back cs f.1 (us ++ channel_bytes c) (at + 70) n in
      λ i. a i ∷ b i

  channels_marks : (cs : List Channel) → AllFilled cs → (us : List ℕ) (at : ℕ) → length us ≡ at → all_marks (length cs) (us ++ (channels_bytes cs ++ vs)) at ≡ true
  unfolding all_marks channels_bytes
  channels_marks [] f us at h = refl
  channels_marks (c ∷ cs) f us at h =
      let e : us ++ ((channel_bytes c ++ channels_bytes cs) ++ vs) ≡ us ++ (channel_bytes c ++ (channels_bytes cs ++ vs)) = ap (λ (l : List ℕ). us ++ l) (append_assoc (channel_bytes c) (channels_bytes cs) vs) in
      let g : us ++ (channel_bytes c ++ (channels_bytes cs ++ vs)) ≡ (us ++ channel_bytes c) ++ (channels_bytes cs ++ vs) = sym (append_assoc us (channel_bytes c) (channels_bytes cs ++ vs)) in
      let n : length (us ++ channel_bytes c) ≡ at + 70 = let a = channel-long c f.0 in length-append us (channel_bytes c) ∙ omega arith in
      let a = ap (λ (l : List ℕ). marks_at l at) e ∙ channel_marks us at h (channels_bytes cs ++ vs) c in
      let b = ap (λ (l : List ℕ). all_marks (length cs) l (at + 70)) (e ∙ g) ∙ channels_marks cs f.1 (us ++ channel_bytes c) (at + 70) n in
      ap₂ ◌&&◌ a b

-- keys, one behind the other
keys-long : (ks : List ℕ) → length (keys_bytes ks) ≡ length ks * 2
unfolding keys_bytes
keys-long [] = refl
keys-long (k ∷ ks) = let h = keys-long ks in omega arith

keys_back : (vs ks us : List ℕ) (at : ℕ) → length us ≡ at → keys_from (length ks) (us ++ (keys_bytes ks ++ vs)) at ≡ ks
unfolding keys_from keys_bytes
keys_back vs [] us at h = refl
keys_back vs (k ∷ ks) us at h =
    let e : us ++ ((two_bytes k ++ keys_bytes ks) ++ vs) ≡ us ++ (two_bytes k ++ (keys_bytes ks ++ vs)) = ap (λ (l : List ℕ). us ++ l) (append_assoc (two_bytes k) (keys_bytes ks) vs) in
    let g : us ++ (two_bytes k ++ (keys_bytes ks ++ vs)) ≡ (us ++ two_bytes k) ++ (keys_bytes ks ++ vs) = sym (append_assoc us (two_bytes k) (keys_bytes ks ++ vs)) in
    let n : length (us ++ two_bytes k) ≡ at + 2 = length-append us (two_bytes k) ∙ omega arith in
    let a = ap (λ (l : List ℕ). key_at l at) e ∙ key_back us at h (keys_bytes ks ++ vs) k in
    let b = ap (λ (l : List ℕ). keys_from (length ks) l (at + 2)) (e ∙ g) ∙ keys_back vs ks (us ++ two_bytes k) (at + 2) n in
    λ i. a i ∷ b i

open_back : (us : List ℕ) (at : ℕ) → length us ≡ at → (vs : List ℕ) (q : Keys) → length q.keys ≡ 32 → open_at (us ++ (open_bytes q ++ vs)) at ≡ q
unfolding open_at
open_back us at h vs q f =
    let e : us ++ (open_bytes q ++ vs) ≡ (us ++ q.n ∷ []) ++ (keys_bytes q.keys ++ vs) = sym (append_assoc us (q.n ∷ []) (keys_bytes q.keys ++ vs)) in
    let a : get_or (us ++ (open_bytes q ++ vs)) at 0 ≡ q.n = first_behind us (open_bytes q ++ vs) at h in
    let b : keys_from 32 (us ++ (open_bytes q ++ vs)) (at + 1) ≡ q.keys =
    ap₂ (λ (n : ℕ) (l : List ℕ). keys_from n l (at + 1)) (sym f) e ∙ keys_back vs q.keys (us ++ q.n ∷ []) (at + 1) (length-append us (q.n ∷ []) ∙ omega arith) in
    λ i. record { n = a i; keys = b i }

-- the parts of an image, in their order
module _ (b : Board) (z : Sized b) where
  abbrev Q : List ℕ
  Q = queue_bytes b.state.locks

  abbrev C : List ℕ
  C = queue_bytes b.state.waiters

  abbrev W : List ℕ
  W = queue_bytes b.state.waiting

  abbrev M : List ℕ
  M = open_bytes b.state.opens

  abbrev N : List ℕ
  N = two_bytes b.state.last

  abbrev E : List ℕ
  E = b.width ∷ []

  -- what stands before the locks, the WAITCYCLEs, the waiting requests, the open keys, the last key and the number of channels
  abbrev P4 : List ℕ
  P4 = channels_bytes b.state.channels

  abbrev P5 : List ℕ
  P5 = P4 ++ Q

  abbrev P6 : List ℕ
  P6 = P5 ++ C

  abbrev P7 : List ℕ
  P7 = P6 ++ W

  abbrev P8 : List ℕ
  P8 = P7 ++ M

  abbrev P9 : List ℕ
  P9 = P8 ++ N

  at_locks : image_of b ≡ P4 ++ (Q ++ (C ++ (W ++ (M ++ (N ++ E)))))
  unfolding image_of
  at_locks = refl

  at_waiters : image_of b ≡ P5 ++ (C ++ (W ++ (M ++ (N ++ E))))
  at_waiters = at_locks ∙ sym (append_assoc P4 Q _)

  at_waiting : image_of b ≡ P6 ++ (W ++ (M ++ (N ++ E)))
  at_waiting = at_waiters ∙ sym (append_assoc P5 C _)

  at_opens : image_of b ≡ P7 ++ (M ++ (N ++ E))
  at_opens = at_waiting ∙ sym (append_assoc P6 W _)

  at_last : image_of b ≡ P8 ++ (N ++ E)
  at_last = at_opens ∙ sym (append_assoc P7 M _)

  at_width : image_of b ≡ P9 ++ E
  at_width = at_last ∙ sym (append_assoc P8 N E)

  long_4 : length P4 ≡ 560
  long_4 = channels-long b.state.channels z.channels ∙ ap (λ (n : ℕ). n * 70) z.eight

  long_5 : length P5 ≡ 625
  long_5 = length-append P4 Q ∙ ap₂ ◌+◌ long_4 (ap suc z.locks)

  long_6 : length P6 ≡ 690
  long_6 = length-append P5 C ∙ ap₂ ◌+◌ long_5 (ap suc z.waiters)

  long_7 : length P7 ≡ 755
  long_7 = length-append P6 W ∙ ap₂ ◌+◌ long_6 (ap suc z.waiting)

  long_8 : length P8 ≡ 820
  long_8 = length-append P7 M ∙ ap₂ ◌+◌ long_7 (ap suc (keys-long b.state.opens.keys ∙ ap (λ (n : ℕ). n * 2) z.opens))

  long_9 : length P9 ≡ 822
  long_9 = length-append P8 N ∙ ap (λ (x : ℕ). x + 2) long_8

  image_long : length (image_of b) ≡ 823
  image_long = ap length at_width ∙ length-append P9 E ∙ ap (λ (x : ℕ). x + 1) long_9

  -- the bytes of a board hold it
  pub state_of_image_of : state_of (image_of b) ≡ b
  unfolding state_of
  state_of_image_of =
      let c : channels_at 8 (image_of b) 0 ≡ b.state.channels =
      ap₂ (λ (n : ℕ) (l : List ℕ). channels_at n l 0) (sym z.eight) at_locks ∙ channels_back (Q ++ (C ++ (W ++ (M ++ (N ++ E))))) b.state.channels z.channels [] 0 refl in
      let q = ap (λ (x : List ℕ). queue_at x 560) at_locks ∙ queue_back P4 560 long_4 (C ++ (W ++ (M ++ (N ++ E)))) b.state.locks z.locks in
      let u = ap (λ (x : List ℕ). queue_at x 625) at_waiters ∙ queue_back P5 625 long_5 (W ++ (M ++ (N ++ E))) b.state.waiters z.waiters in
      let w = ap (λ (x : List ℕ). queue_at x 690) at_waiting ∙ queue_back P6 690 long_6 (M ++ (N ++ E)) b.state.waiting z.waiting in
      let m = ap (λ (x : List ℕ). open_at x 755) at_opens ∙ open_back P7 755 long_7 (N ++ E) b.state.opens z.opens in
      let n = ap (λ (x : List ℕ). key_at x 820) at_last ∙ key_back P8 820 long_8 E b.state.last in
      let v : get_or (image_of b) 822 0 ≡ b.width = ap (λ (x : List ℕ). get_or x 822 0) at_width ∙ first_behind P9 E 822 long_9 in
      λ i. record { width = v i; state = record { channels = c i; locks = q i; waiters = u i; waiting = w i; opens = m i; last = n i } }

  -- the bytes of a board are whole
  pub image_of_whole : all is_byte (image_of b) ≡ true → Whole (image_of b)
  unfolding is_whole
  image_of_whole y =
      let m : all_marks 8 (image_of b) 0 ≡ true =
      ap₂ (λ (n : ℕ) (l : List ℕ). all_marks n l 0) (sym z.eight) at_locks ∙ channels_marks (Q ++ (C ++ (W ++ (M ++ (N ++ E))))) b.state.channels z.channels [] 0 refl in
      rw (eq-eqb (length (image_of b)) 823 image_long, m, y) tt

pub saved : (b : Board) {l : List ℕ} → Sized b → l ≡ image_of b → ((i : ℕ) → get_or l i 0 < 256) → Saved b l
saved b {l} z e h =
    record {
      bytes = e;
      sized = z;
      whole = subst (λ (x : List ℕ). Whole x) (sym e) (image_of_whole b z (subst (λ (x : List ℕ). all is_byte x ≡ true) e (bytes_all l h)));
    }

-- no second image fits: a board is saved as these bytes and no others
pub one_image : {b : Board} {l l₂ : List ℕ} → Saved b l → Saved b l₂ → l ≡ l₂
one_image x y = x.bytes ∙ sym y.bytes

-- ---- bytes that are whole are those of the board that they hold

-- n bytes from a place on, and m behind them
part_add : (bs : List ℕ) (at n m : ℕ) → take n (drop at bs) ++ take m (drop (at + n) bs) ≡ take (n + m) (drop at bs)
part_add bs at n m = sym (take-add n m (drop at bs) ∙ ap (λ (x : List ℕ). take n (drop at bs) ++ take m x) (drop-drop n at bs))

part_cons : (bs : List ℕ) (at n : ℕ) → at < length bs → take (suc n) (drop at bs) ≡ get_or bs at 0 ∷ take n (drop (at + 1) bs)
part_cons bs at n h = rw (add-one at, drop-cons bs at 0 h)

low_byte : (h l : ℕ) → l < 256 → (h * 256 + l) % 256 ≡ l
low_byte h l g = omega arith

high_byte : (h l : ℕ) → l < 256 → (h * 256 + l) / 256 ≡ h
high_byte h l g = omega arith

mark_kept : (b : ℕ) → b < 2 → mark_of (eqb b 1) ≡ b
mark_kept zero h = refl
mark_kept (suc zero) h = refl
mark_kept (suc (suc b)) h = absurd (omega arith)

module _ (bs : List ℕ) (bytes : (i : ℕ) → get_or bs i 0 < 256) where
  key_part : (at : ℕ) → at + 2 ≤ length bs → two_bytes (key_at bs at) ≡ take 2 (drop at bs)
  key_part at h =
      ap₂ (λ (x y : ℕ). x ∷ y ∷ []) (high_byte (get_or bs at 0) (get_or bs (at + 1) 0) (bytes (at + 1))) (low_byte (get_or bs at 0) (get_or bs (at + 1) 0) (bytes (at + 1)))
      ∙ sym (part_cons bs at 1 (omega arith) ∙ ap (λ (x : List ℕ). get_or bs at 0 ∷ x) (part_cons bs (at + 1) 0 (omega arith)))

  queue_part : (at : ℕ) → at + 65 ≤ length bs → queue_bytes (queue_at bs at) ≡ take 65 (drop at bs)
  unfolding queue_at
  queue_part at h = sym (part_cons bs at 64 (omega arith))

  marks_part : (at : ℕ) → at + 5 ≤ length bs → T (marks_at bs at) → mark_of (eqb (get_or bs (at + 3) 0) 1) ∷ mark_of (eqb (get_or bs (at + 4) 0) 1) ∷ [] ≡ take 2 (drop (at + 3) bs)
  unfolding marks_at
  marks_part at h t =
      let e : at + 3 + 1 ≡ at + 4 = omega arith in
      ap₂ (λ (x y : ℕ). x ∷ y ∷ []) (mark_kept (get_or bs (at + 3) 0) (ltb→lt _ 2 (and_left (is_mark (get_or bs (at + 3) 0)) (is_mark (get_or bs (at + 4) 0)) t))) (mark_kept (get_or bs (at + 4) 0) (ltb→lt _ 2 (and_right (is_mark (get_or bs (at + 3) 0)) (is_mark (get_or bs (at + 4) 0)) t)))
      ∙ sym (part_cons bs (at + 3) 1 (omega arith) ∙ ap (λ (x : List ℕ). get_or bs (at + 3) 0 ∷ x) (ap (λ (n : ℕ). take 1 (drop n bs)) e ∙ part_cons bs (at + 4) 0 (omega arith)))

  channel_part : (at : ℕ) → at + 70 ≤ length bs → T (marks_at bs at) → channel_bytes (channel_at bs at) ≡ take 70 (drop at bs)
  unfolding channel_bytes channel_at
  channel_part at h t =
      let k = key_part at (omega arith) in
      let p : get_or bs (at + 2) 0 ∷ [] ≡ take 1 (drop (at + 2) bs) = sym (part_cons bs (at + 2) 0 (omega arith)) in
      let m = marks_part at (omega arith) t in
      let q = queue_part (at + 5) (omega arith) in
      let e : at + 2 + 1 ≡ at + 3 = omega arith in
      let f : at + 3 + 2 ≡ at + 5 = omega arith in
      ap₂ ◌++◌ k (ap₂ ◌++◌ p (ap₂ ◌++◌ m (q ∙ ap (λ (n : ℕ). take 65 (drop n bs)) (sym f)) ∙ part_add bs (at + 3) 2 65 ∙ ap (λ (n : ℕ). take 67 (drop n bs)) (sym e)) ∙ part_add bs (at + 2) 1 67)
      ∙ part_add bs at 2 68

pub bytes_each : (bs : List ℕ) → T (all is_byte bs) → (i : ℕ) → get_or bs i 0 < 256
unfolding all
bytes_each [] t i = omega arith
bytes_each (b ∷ bs) t zero = ltb→lt b 256 (and_left (is_byte b) (all is_byte bs) t)
bytes_each (b ∷ bs) t (suc i) = bytes_each bs (and_right (is_byte b) (all is_byte bs) t) i

channels_part : (bs : List ℕ) → ((i : ℕ) → get_or bs i 0 < 256) → (n at : ℕ) → at + n * 70 ≤ length bs → T (all_marks n bs at)
    → channels_bytes (channels_at n bs at) ≡ take (n * 70) (drop at bs)
unfolding channels_bytes channels_at all_marks
channels_part bs y zero at h t = let e : 0 * 70 ≡ 0 = omega arith in sym (ap (λ (n : ℕ). take n (drop at bs)) e)
channels_part bs y (suc n) at h t =
    let a = channel_part bs y at (omega arith) (and_left (marks_at bs at) (all_marks n bs (at + 70)) t) in
    let b = channels_part bs y n (at + 70) (omega arith) (and_right (marks_at bs at) (all_marks n bs (at + 70)) t) in
    let e : 70 + n * 70 ≡ suc n * 70 = omega arith in
    ap₂ ◌++◌ a b ∙ (part_add bs at 70 (n * 70) ∙ ap (λ (k : ℕ). take k (drop at bs)) e)

pub keys_part : (bs : List ℕ) → ((i : ℕ) → get_or bs i 0 < 256) → (n at : ℕ) → at + n * 2 ≤ length bs → keys_bytes (keys_from n bs at) ≡ take (n * 2) (drop at bs)
unfolding keys_bytes keys_from
keys_part bs y zero at h = let e : 0 * 2 ≡ 0 = omega arith in sym (ap (λ (n : ℕ). take n (drop at bs)) e)
keys_part bs y (suc n) at h =
    let a = key_part bs y at (omega arith) in
    let b = keys_part bs y n (at + 2) (omega arith) in
    let e : 2 + n * 2 ≡ suc n * 2 = omega arith in
    ap₂ ◌++◌ a b ∙ (part_add bs at 2 (n * 2) ∙ ap (λ (k : ℕ). take k (drop at bs)) e)

open_part : (bs : List ℕ) → ((i : ℕ) → get_or bs i 0 < 256) → (at : ℕ) → at + 65 ≤ length bs → open_bytes (open_at bs at) ≡ take 65 (drop at bs)
unfolding open_at
open_part bs y at h = ap (λ (l : List ℕ). get_or bs at 0 ∷ l) (keys_part bs y 32 (at + 1) (omega arith)) ∙ sym (part_cons bs at 64 (omega arith))

pub image_of_state_of : (bs : List ℕ) → Whole bs → image_of (state_of bs) ≡ bs
unfolding image_of state_of is_whole
image_of_state_of bs w =
    let t = and_right (eqb (length bs) 823) (all_marks 8 bs 0 && all is_byte bs) w in
    let y = bytes_each bs (and_right (all_marks 8 bs 0) (all is_byte bs) t) in
    let l = whole_long bs w in
    let cs : channels_bytes (channels_at 8 bs 0) ≡ take 560 (drop 0 bs) = channels_part bs y 8 0 (omega arith) (and_left (all_marks 8 bs 0) (all is_byte bs) t) in
    let q = queue_part bs y 560 (omega arith) in
    let u = queue_part bs y 625 (omega arith) in
    let r = queue_part bs y 690 (omega arith) in
    let m = open_part bs y 755 (omega arith) in
    let n = key_part bs y 820 (omega arith) in
    let v : get_or bs 822 0 ∷ [] ≡ take 1 (drop 822 bs) = sym (part_cons bs 822 0 (omega arith)) in
    ap₂ ◌++◌ cs (ap₂ ◌++◌ q (ap₂ ◌++◌ u (ap₂ ◌++◌ r (ap₂ ◌++◌ m (ap₂ ◌++◌ n v ∙ part_add bs 820 2 1) ∙ part_add bs 755 65 3) ∙ part_add bs 690 65 68) ∙ part_add bs 625 65 133) ∙ part_add bs 560 65 198)
    ∙ part_add bs 0 560 263 ∙ take_all 823 bs (omega arith)

-- ---- bytes that a caller lends: the board that they hold is all that they have

-- what was saved is what the bytes hold
pub saved-state : {b : Board} {l : List ℕ} → Saved b l → b ≡ state_of l
saved-state v = sym (ap state_of v.bytes ∙ state_of_image_of _ v.sized)

-- those that hold the same board are the same
pub one_state : {l l₂ : List ℕ} → Whole l → Whole l₂ → state_of l ≡ state_of l₂ → l ≡ l₂
one_state {l} {l₂} w v e = sym (image_of_state_of l w) ∙ ap image_of e ∙ image_of_state_of l₂ v

module _ (bs : List ℕ) where
  queue-sized : (at : ℕ) → at + 65 ≤ length bs → Filled (queue_at bs at)
  unfolding queue_at
  queue-sized at h = let n = length-drop (at + 1) bs in length-take-le 64 (drop (at + 1) bs) (omega arith)

  channels-sized : (n at : ℕ) → at + n * 70 ≤ length bs → AllFilled (channels_at n bs at)
  unfolding channels_at channel_at
  channels-sized zero at h = tt
  channels-sized (suc n) at h = (queue-sized (at + 5) (omega arith), channels-sized n (at + 70) (omega arith))

  channels-many : (n at : ℕ) → length (channels_at n bs at) ≡ n
  unfolding channels_at
  channels-many zero at = refl
  channels-many (suc n) at = ap suc (channels-many n (at + 70))

  keys-many : (n at : ℕ) → length (keys_from n bs at) ≡ n
  unfolding keys_from
  keys-many zero at = refl
  keys-many (suc n) at = ap suc (keys-many n (at + 2))

  -- whole bytes are what is saved of the board that they hold
  pub whole_saved : Whole bs → Saved (state_of bs) bs
  unfolding state_of open_at
  whole_saved w =
      let h = whole_long bs w in
      record {
        bytes = sym (image_of_state_of bs w);
        sized =
            record {
              eight = channels-many 8 0;
              channels = channels-sized 8 0 (omega arith);
              locks = queue-sized 560 (omega arith);
              waiters = queue-sized 625 (omega arith);
              waiting = queue-sized 690 (omega arith);
              opens = keys-many 32 756;
            };
        whole = w;
      }
