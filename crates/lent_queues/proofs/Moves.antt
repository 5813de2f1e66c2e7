-- Bytes moved one place, and the queue that they leave where zeros stand behind its ids. Assumes nothing.
use Prim.Native.Nat.{ℕ, suc, ◌+◌, ◌-◌, ◌≤◌, ◌<◌}
use mathlib.Core.Path.{◌≡◌, refl, ap, ap₂, sym, subst, ◌∙◌}
use mathlib.Core.Bool.{Bool, cond}
use mathlib.Core.List.{List, [], ◌∷◌, ◌++◌, append_assoc}
use native.Mathlib.Omega.{arith}
use lib.ListN.{drop_of_length-le, length, get_or, take, drop, set, replicate, length-append, length-take, length-drop, length-set, take-append-drop, replicate-append-replicate}
use lib.Seq.{take-take, get_or-set_same, set-append_seam, drop-set-lt, take-append-add, drop-append-add, take-append-le, drop-append-le, take-append_seam, drop-append_seam, take_at, set_at, drop-drop, drop-cons, length-take-le, set-append_left, take-set-le}
use borrow.Author.Tests.{lt-ltb, le-ltb}
use borrow.Rule.Slice.PartMut.{put_mid}
use Rattle.memory.specs.Splice.{splice}
use Rattle.memory.proofs.Splice.{drop-take}
use Rattle.queue.specs.declared.Queue.{Queue}
use Rattle.queue.specs.Queue.{pad, queue_of, list_of, insert_at, remove_at, pushed, inserted, removed, index_of}
use Rattle.queue.proofs.Laws.{removed_of, inserted_of}
use Rattle.image.specs.Image.{queue_bytes, queue_at, Filled}
use Rattle.lent.specs.Lent.{Tidy, without, PutQueue}
use Rattle.lent_queues.specs.Moves.{shut, spread}
use Rattle.lent.proofs.Bytes.{Bytes, bytes_more, bytes-append, bytes_take, bytes_drop, bytes-set, bytes-zeros}
use Rattle.lent.proofs.Puts.{filled_at, put-queue}

-- ---- by a turn of the bytes between two places

pub spread-turned : (l : List ℕ) (lo id hi : ℕ) (ys : List ℕ) → lo ≤ hi → hi < length l
    → ys ≡ drop (length (take (hi + 1 - lo) (drop lo l)) - 1) (take (hi + 1 - lo) (drop lo l)) ++ take (length (take (hi + 1 - lo) (drop lo l)) - 1) (take (hi + 1 - lo) (drop lo l))
    → set (put_mid lo (hi + 1 - lo) l ys) lo id ≡ spread l lo id hi
unfolding spread
spread-turned l lo id hi ys h g e =
    let d = drop lo l in
    let n = hi + 1 - lo in
    let m = hi - lo in
    let part = take n d in
    let long : length d ≡ length l - lo = length-drop lo l in
    let size : length part ≡ n = length-take-le n d (omega (arith, long)) in
    let less : length part - 1 ≡ m = omega (arith, size) in
    let x = get_or part m 0 in
    let last : drop m part ≡ x ∷ [] = drop-cons part m 0 (omega (arith, size)) ∙ ap (λ (z : List ℕ). x ∷ z) (drop_of_length-le part {i = suc m} (omega (arith, size))) in
    let front : take m part ≡ take m d = take-take m n d (omega arith) in
    let turned : ys ≡ x ∷ take m d = e ∙ ap (λ (k : ℕ). drop k part ++ take k part) less ∙ ap₂ (λ (u v : List ℕ). u ++ v) last front in
    let place : lo + n ≡ suc hi = omega arith in
    let rest : drop n d ≡ drop (suc hi) l = drop-drop n lo l ∙ ap (λ (k : ℕ). drop k l) place in
    let first : lo ≡ length (take lo l) = sym (length-take-le lo l (omega arith)) in
    ap₂ (λ (u v : List ℕ). set (take lo l ++ (u ++ v)) lo id) turned rest
    ∙ ap (λ (i : ℕ). set (take lo l ++ x ∷ (take m d ++ drop (suc hi) l)) i id) first
    ∙ set-append_seam (take lo l) x (take m d ++ drop (suc hi) l) id

pub shut-turned : (l : List ℕ) (lo hi : ℕ) (ys : List ℕ) → lo < hi → hi ≤ length l
    → ys ≡ drop 1 (take (hi - lo) (drop lo (set l lo 0))) ++ take 1 (take (hi - lo) (drop lo (set l lo 0)))
    → put_mid lo (hi - lo) (set l lo 0) ys ≡ shut l lo hi
unfolding shut
shut-turned l lo hi ys h g e =
    let a = set l lo 0 in
    let n = hi - lo in
    let m = hi - suc lo in
    let s = drop (suc lo) l in
    let size : length a ≡ length l = length-set l lo 0 in
    let d : drop lo a ≡ 0 ∷ s = drop-cons a lo 0 (omega (arith, size)) ∙ ap₂ ◌∷◌ (get_or-set_same l lo 0 0 (omega arith)) (drop-set-lt (suc lo) l lo 0 (omega arith)) in
    let one : n ≡ suc m = omega arith in
    let part : take n (drop lo a) ≡ 0 ∷ take m s = ap₂ (λ (k : ℕ) (z : List ℕ). take k z) one d in
    let turned : ys ≡ take m s ++ 0 ∷ [] = e ∙ ap (λ (z : List ℕ). drop 1 z ++ take 1 z) part in
    let place : lo + n ≡ hi = omega arith in
    let rest : drop n (drop lo a) ≡ drop hi l = drop-drop n lo a ∙ ap (λ (k : ℕ). drop k a) place ∙ drop-set-lt hi l lo 0 h in
    let before : take lo a ≡ take lo (take hi l) = take-set-le lo l lo 0 (omega arith) ∙ sym (take-take lo hi l (omega arith)) in
    let sum : suc lo + m ≡ hi = omega arith in
    let middle : take m s ≡ drop (suc lo) (take hi l) = sym (ap (λ (k : ℕ). drop (suc lo) (take k l)) (sym sum) ∙ drop-take l (suc lo) m (omega arith)) in
    ap₂ (λ (u v : List ℕ). take lo a ++ (u ++ v)) turned rest
    ∙ ap₂ (λ (u v : List ℕ). u ++ ((v ++ 0 ∷ []) ++ drop hi l)) before middle
    ∙ sym (append_assoc (take lo (take hi l)) (drop (suc lo) (take hi l) ++ 0 ∷ []) (drop hi l))

-- ---- in a part of a list

pub shut_behind : (us vs : List ℕ) (lo hi : ℕ) → shut (us ++ vs) (length us + lo) (length us + hi) ≡ us ++ shut vs lo hi
unfolding shut
shut_behind us vs lo hi =
    let e : suc (length us + lo) ≡ length us + suc lo = omega arith in
    rw (take-append-add us vs hi, drop-append-add us vs hi, take-append-add us (take hi vs) lo, e, drop-append-add us (take hi vs) (suc lo)) (simp append_assoc)

pub shut_before : (us vs : List ℕ) (lo hi : ℕ) → hi ≤ length us → shut (us ++ vs) lo hi ≡ shut us lo hi ++ vs
unfolding shut
shut_before us vs lo hi h = rw (take-append-le hi us vs h, drop-append-le hi us vs h) (sym (append_assoc (remove_at (take hi us) lo) (drop hi us) vs))

spread_behind : (us vs : List ℕ) (lo id hi : ℕ) → spread (us ++ vs) (length us + lo) id (length us + hi) ≡ us ++ spread vs lo id hi
unfolding spread
spread_behind us vs lo id hi =
    let e : suc (length us + hi) ≡ length us + suc hi = omega arith in
    let f : length us + hi - (length us + lo) ≡ hi - lo = omega arith in
    rw (take-append-add us vs lo, drop-append-add us vs lo, e, drop-append-add us vs (suc hi), f) (simp append_assoc)

spread_before : (us vs : List ℕ) (lo id hi : ℕ) → lo ≤ hi → hi < length us → spread (us ++ vs) lo id hi ≡ spread us lo id hi ++ vs
unfolding spread
spread_before us vs lo id hi g h =
    let a : hi - lo ≤ length (drop lo us) = simp length-drop (omega arith) in
    rw (take-append-le lo us vs (omega arith), drop-append-le lo us vs (omega arith), drop-append-le (suc hi) us vs h, take-append-le (hi - lo) (drop lo us) vs a) (simp append_assoc)

-- ---- over zeros

shut-pad : (xs : List ℕ) (k : ℕ) → k < length xs → length xs ≤ 64 → shut (pad xs) k (length xs) ≡ remove_at (pad xs) k
unfolding shut
shut-pad xs k h g =
    let Z : List ℕ = replicate (64 - length xs) 0 in
    let e : 64 - length (take k xs ++ drop (suc k) xs) ≡ 1 + (64 - length xs) = simp (length-append, length-take, length-drop) (omega arith) in
    let r : remove_at (pad xs) k ≡ pad (take k xs ++ drop (suc k) xs) = ap (λ (q : Queue). q.ids) (removed_of xs k h g) in
    let s : ◌≡◌ {A = List ℕ} (replicate (64 - length (take k xs ++ drop (suc k) xs)) 0) (0 ∷ Z) = ap (λ (n : ℕ). replicate n 0) e ∙ sym (replicate-append-replicate {A = ℕ} 1 (64 - length xs) 0) in
    rw (take-append_seam xs Z, drop-append_seam xs Z, r, s) (simp append_assoc)

spread-pad : (xs : List ℕ) (k id : ℕ) → k ≤ length xs → length xs < 64 → spread (pad xs) k id (length xs) ≡ insert_at (pad xs) k id
unfolding spread
spread-pad xs k id h g =
    let n = length xs in
    let R : List ℕ = replicate (63 - n) 0 in
    let e : 64 - n ≡ 1 + (63 - n) = omega arith in
    let z : ◌≡◌ {A = List ℕ} (replicate (64 - n) 0) (0 ∷ R) = ap (λ (n : ℕ). replicate n 0) e ∙ sym (replicate-append-replicate {A = ℕ} 1 (63 - n) 0) in
    let r : insert_at (pad xs) k id ≡ pad (take k xs ++ id ∷ drop k xs) = ap (λ (q : Queue). q.ids) (inserted_of xs k id h g) in
    let m : 64 - length (take k xs ++ id ∷ drop k xs) ≡ 63 - n = simp (length-append, length-take, length-drop) (omega arith) in
    let s : suc n ≡ n + 1 = omega arith in
    let d : drop (suc n) (xs ++ 0 ∷ R) ≡ R = ap (λ (x : ℕ). drop x (xs ++ 0 ∷ R)) s ∙ drop-append-add xs (0 ∷ R) 1 in
    let t : take (n - k) (drop k xs ++ 0 ∷ R) ≡ drop k xs = take_at (drop k xs) (0 ∷ R) (n - k) (length-drop k xs) in
    rw (r, m, z, take-append-le k xs (0 ∷ R) h, drop-append-le k xs (0 ∷ R) h, t, d) (simp append_assoc)

-- a store behind a list
pub set_behind : (us vs : List ℕ) (n v : ℕ) → set (us ++ vs) (length us + n) v ≡ us ++ set vs n v
set_behind [] vs n v = let e : 0 + n ≡ n = omega arith in ap (λ (x : ℕ). set vs x v) e
set_behind (u ∷ us) vs n v =
    let e : suc (length us) + n ≡ suc (length us + n) = omega arith in
    ap (λ (x : ℕ). set (u ∷ (us ++ vs)) x v) e ∙ ap (λ (x : List ℕ). u ∷ x) (set_behind us vs n v)

-- ---- a queue in the bytes

module _ (l : List ℕ) (at : ℕ) (h : at + 65 ≤ length l) where
  abbrev q : Queue
  q = queue_at l at

  -- the bytes before its ids, and those behind it
  abbrev pub L : List ℕ
  L = take at l ++ get_or l at 0 ∷ []

  abbrev pub D : List ℕ
  D = drop (at + 65) l

  pub long : length L ≡ at + 1
  long = let e = length-take-le at l (omega arith) in simp length-append (omega (arith, e))

  pub cut : l ≡ L ++ (q.ids ++ D)
  unfolding queue_at
  cut =
      let n = get_or l at 0 in
      let I = take 64 (drop (at + 1) l) in
      let s : suc at ≡ at + 1 = omega arith in
      let d : drop at l ≡ n ∷ drop (at + 1) l = drop-cons l at 0 (omega arith) ∙ ap (λ (x : ℕ). n ∷ drop x l) s in
      let f : at + 1 + 64 ≡ at + 65 = omega arith in
      let e : drop (at + 1) l ≡ I ++ D = sym (take-append-drop 64 (drop (at + 1) l)) ∙ ap (λ (x : List ℕ). I ++ x) (drop-drop 64 (at + 1) l ∙ ap (λ (x : ℕ). drop x l) f) in
      sym (take-append-drop at l) ∙ (ap (λ (x : List ℕ). take at l ++ x) (d ∙ ap (λ (x : List ℕ). n ∷ x) e) ∙ sym (append_assoc (take at l) (n ∷ []) (I ++ D)))

  -- the count is stored last
  pub counted : (J l₁ : List ℕ) (m : ℕ) → length J ≡ 64 → l₁ ≡ L ++ (J ++ D) → set l₁ at m ≡ splice l at (m ∷ J)
  unfolding splice
  counted J l₁ m z e =
      let f : at + 65 ≡ at + suc (length J) = omega (arith, z) in
      ap (λ (x : List ℕ). set x at m) (e ∙ append_assoc (take at l) (get_or l at 0 ∷ []) (J ++ D))
      ∙ (set_at (take at l) (get_or l at 0) (J ++ D) m at (length-take-le at l (omega arith))
      ∙ ap (λ (x : ℕ). take at l ++ m ∷ (J ++ drop x l)) f)

  module _ (t : Tidy q) where
    few : q.n ≡ length (list_of q)
    few = ap (λ (x : Queue). x.n) t

    lies : q.ids ≡ pad (list_of q)
    lies = ap (λ (x : Queue). x.ids) t

    pub remove_writes : (k : ℕ) → k < q.n → q.n ≤ 64 → set (shut l (at + 1 + k) (at + 1 + q.n)) at (q.n - 1) ≡ splice l at (queue_bytes (removed q k))
    remove_writes k g b =
        let xs = list_of q in
        let n = q.n in
        let z : Filled q = filled_at l at h in
        let s : shut q.ids k n ≡ remove_at q.ids k =
        ap₂ (λ (x : List ℕ) (y : ℕ). shut x k y) lies few ∙ (shut-pad xs k (omega (arith, few)) (omega (arith, few)) ∙ ap (λ (x : List ℕ). remove_at x k) (sym lies)) in
        let y : length (remove_at q.ids k) ≡ 64 = simp (length-append, length-take, length-drop) (omega (arith, z)) in
        counted (remove_at q.ids k) (shut l (at + 1 + k) (at + 1 + n)) (n - 1) y
        (ap (λ (x : List ℕ). shut x (at + 1 + k) (at + 1 + n)) cut
        ∙ (ap (λ (x : ℕ). shut (L ++ (q.ids ++ D)) (x + k) (x + n)) (sym long)
        ∙ (shut_behind L (q.ids ++ D) k n ∙ ap (λ (x : List ℕ). L ++ x) (shut_before q.ids D k n (omega (arith, z)) ∙ ap (λ (x : List ℕ). x ++ D) s))))

    pub insert_writes : (k id : ℕ) → k ≤ q.n → q.n < 64 → set (spread l (at + 1 + k) id (at + 1 + q.n)) at (q.n + 1) ≡ splice l at (queue_bytes (inserted q k id))
    insert_writes k id g b =
        let xs = list_of q in
        let n = q.n in
        let z : Filled q = filled_at l at h in
        let s : spread q.ids k id n ≡ insert_at q.ids k id =
        ap₂ (λ (x : List ℕ) (y : ℕ). spread x k id y) lies few ∙ (spread-pad xs k id (omega (arith, few)) (omega (arith, few)) ∙ ap (λ (x : List ℕ). insert_at x k id) (sym lies)) in
        let y : length (insert_at q.ids k id) ≡ 64 = simp (length-append, length-take, length-drop) (omega (arith, z)) in
        counted (insert_at q.ids k id) (spread l (at + 1 + k) id (at + 1 + n)) (n + 1) y
        (ap (λ (x : List ℕ). spread x (at + 1 + k) id (at + 1 + n)) cut
        ∙ (ap (λ (x : ℕ). spread (L ++ (q.ids ++ D)) (x + k) id (x + n)) (sym long)
        ∙ (spread_behind L (q.ids ++ D) k id n ∙ ap (λ (x : List ℕ). L ++ x) (spread_before q.ids D k id n g (omega (arith, z)) ∙ ap (λ (x : List ℕ). x ++ D) s))))

  -- a store among the ids, and one of the count
  pub push_writes : (id : ℕ) → q.n < 64 → set (set l (at + 1 + q.n) id) at (q.n + 1) ≡ splice l at (queue_bytes (pushed q id))
  push_writes id g =
      let z : Filled q = filled_at l at h in
      let n = q.n in
      counted (set q.ids n id) (set l (at + 1 + n) id) (n + 1) (length-set q.ids n id ∙ z)
      (ap (λ (x : List ℕ). set x (at + 1 + n) id) cut
      ∙ (ap (λ (x : ℕ). set (L ++ (q.ids ++ D)) (x + n) id) (sym long)
      ∙ (set_behind L (q.ids ++ D) n id ∙ ap (λ (x : List ℕ). L ++ x) (set-append_left q.ids D n id (omega (arith, z))))))

-- ---- what the functions leave

ids-bytes : (l : List ℕ) (at : ℕ) → Bytes l → Bytes (queue_at l at).ids
unfolding queue_at
ids-bytes l at y = bytes_take 64 (drop (at + 1) l) (bytes_drop (at + 1) l y)

module _ (l : List ℕ) (at : ℕ) (h : at + 65 ≤ length l) where
  abbrev p : Queue
  p = queue_at l at

  pub put_push : (id : ℕ) {l' : List ℕ} → p.n < 64 → id < 256 → l' ≡ set (set l (at + 1 + p.n) id) at (p.n + 1) → PutQueue l at (λ q. pushed q id) l'
  put_push id g b e =
      put-queue l at (λ q. pushed q id) h (length-set p.ids p.n id ∙ filled_at l at h) (e ∙ push_writes l at h id g)
      (λ y. bytes_more (p.n + 1) (set p.ids p.n id) (omega arith) (bytes-set p.ids p.n id b (ids-bytes l at y)))

  pub put_insert : (k id : ℕ) {l' : List ℕ} → Tidy p → k ≤ p.n → p.n < 64 → id < 256 → l' ≡ set (spread l (at + 1 + k) id (at + 1 + p.n)) at (p.n + 1)
      → PutQueue l at (λ q. inserted q k id) l'
  put_insert k id t g f b e =
      let z = filled_at l at h in
      put-queue l at (λ q. inserted q k id) h (simp (length-append, length-take, length-drop) (omega (arith, z))) (e ∙ insert_writes l at h t k id g f)
      (λ y.
      let i = ids-bytes l at y in
      let r = bytes_more id (take (63 - k) (drop k p.ids)) b (bytes_take (63 - k) (drop k p.ids) (bytes_drop k p.ids i)) in
      bytes_more (p.n + 1) (insert_at p.ids k id) (omega arith) (bytes-append (take k p.ids) (id ∷ take (63 - k) (drop k p.ids)) (bytes_take k p.ids i) r))

  pub put_remove : (k : ℕ) {l' : List ℕ} → Tidy p → k < p.n → p.n ≤ 64 → l' ≡ set (shut l (at + 1 + k) (at + 1 + p.n)) at (p.n - 1)
      → PutQueue l at (λ q. removed q k) l'
  put_remove k t g f e =
      let z = filled_at l at h in
      put-queue l at (λ q. removed q k) h (simp (length-append, length-take, length-drop) (omega (arith, z))) (e ∙ remove_writes l at h t k g f)
      (λ y.
      let i = ids-bytes l at y in
      let r = bytes-append (drop (suc k) p.ids) (0 ∷ []) (bytes_drop (suc k) p.ids i) (bytes-zeros 1) in
      bytes_more (p.n - 1) (remove_at p.ids k) (omega arith) (bytes-append (take k p.ids) (drop (suc k) p.ids ++ 0 ∷ []) (bytes_take k p.ids i) r))

  pub put_empty : {l' : List ℕ} → l' ≡ splice l at (replicate 65 0) → PutQueue l at (λ q. queue_of []) l'
  put_empty e = put-queue l at (λ q. queue_of []) h refl e (λ y. bytes-zeros 65)

  same_bytes : splice l at (queue_bytes p) ≡ l
  unfolding queue_at
  same_bytes =
      let n = get_or l at 0 in
      let s : set l at n ≡ l = lib.Seq.set-get_or l at 0 in
      sym (counted l at h p.ids l n (filled_at l at h) (cut l at h)) ∙ s

  pub put-struck : (id k : ℕ) {l' : List ℕ} → k ≡ index_of id (list_of p) → k < p.n → PutQueue l at (λ q. removed q k) l' → p.n ≤ 64 → PutQueue l at (λ q. without id q) l'
  put-struck id k e g r f =
      let w : removed p k ≡ without id p =
      ap (removed p) e ∙ sym (ap (λ (b : Bool). cond b (removed p (index_of id (list_of p))) p) (lt-ltb (index_of id (list_of p)) p.n (subst (λ (x : ℕ). x < p.n) e g))) in
      let z = filled_at l at h in
      put-queue l at (λ q. without id q) h (ap (λ (q : Queue). length q.ids) (sym w) ∙ simp (length-append, length-take, length-drop) (omega (arith, z)))
      (r.bytes ∙ ap (λ (q : Queue). splice l at (queue_bytes q)) w)
      (λ y.
      let i = ids-bytes l at y in
      let r = bytes-append (drop (suc k) p.ids) (0 ∷ []) (bytes_drop (suc k) p.ids i) (bytes-zeros 1) in
      subst (λ (q : Queue). Bytes (queue_bytes q)) w
      (bytes_more (p.n - 1) (remove_at p.ids k) (omega arith) (bytes-append (take k p.ids) (drop (suc k) p.ids ++ 0 ∷ []) (bytes_take k p.ids i) r)))

  pub put_absent : (id k : ℕ) → k ≡ index_of id (list_of p) → p.n ≤ k → p.n ≤ 64 → PutQueue l at (λ q. without id q) l
  put_absent id k e g f =
      let w : p ≡ without id p = sym (ap (λ (b : Bool). cond b (removed p (index_of id (list_of p))) p) (le-ltb (index_of id (list_of p)) p.n (subst (λ (x : ℕ). p.n ≤ x) e g))) in
      put-queue l at (λ q. without id q) h (ap (λ (q : Queue). length q.ids) (sym w) ∙ filled_at l at h)
      (sym same_bytes ∙ ap (λ (q : Queue). splice l at (queue_bytes q)) w)
      (λ y. subst (λ (q : Queue). Bytes (queue_bytes q)) w (bytes_more p.n p.ids (omega arith) (ids-bytes l at y)))
