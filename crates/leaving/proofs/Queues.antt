-- An id taken out of a queue in which no id stands twice, and out of the queues of a state that is held.
-- Assumes nothing.
use Prim.Native.Nat.{ℕ, zero, suc, ◌≤◌, ◌<◌}
use mathlib.Core.Path.{◌≡◌, refl, ap, ap₂, sym, subst, ◌∙◌}
use mathlib.Core.Bool.{Bool, true, false, not, ◌||◌, cond}
use mathlib.Core.List.{List, [], ◌∷◌, ◌++◌, map}
use native.Mathlib.Omega.{arith}
use lib.Dec.{T, T_not, not_T, eqb, eqb→eq}
use lib.ListN.{length, get_or, take, drop, set, length-append}
use Rattle.queue.specs.declared.Queue.{Queue}
use Rattle.queue.specs.Queue.{queue_of, list_of, index_of, removed}
use Rattle.queue.proofs.Laws.{list_of_queue_of, removed_of}
use Rattle.channel.specs.declared.Channel.{Channel}
use Rattle.channel.specs.Channel.{channel_of}
use Rattle.std.specs.Prelude.{if◌then◌else◌}
use Rattle.store.specs.machine.Lists.{any, among, keep, distinct}
use Rattle.store.specs.machine.State.{Write, Channel as ChannelM, Lock, Request as RequestM, State as StateM}
use Rattle.store.specs.machine.Sound.{writes_of, ids}
use Rattle.store.specs.machine.Commands.{without, leaving as leaving_m}
use Rattle.store.proofs.machine.Tests.{by_test, test_true, test_false, eqb_flip, nor_left, nor_right, and_left, and_right}
use Rattle.channel.specs.machine_laws.Lists.{Sub}
use Rattle.channel.proofs.machine_laws.Lists.{sub_refl, sub_nil, sub_append, sub_distinct}
use Rattle.channel.specs.machine_laws.Sound.{Parts}
use Rattle.channel.proofs.machine_laws.Sound.{ids_few}
use Rattle.store.specs.declared.State.{State}
use Rattle.store.specs.Store.{struct_of, state_in, lock_in, request_in, Held, Each}
use Rattle.store.proofs.Store.{held_parts, held_waiters, held_waiting, waiters-count, waiting-count, held_opens}
use Rattle.granting.proofs.Laws.{held_channels}
use Rattle.leaving.specs.Leaving.{others, Tidy, struck, cleaned, leaving}

pub eqb_sym : (m n : ℕ) → eqb m n ≡ eqb n m
eqb_sym m n =
    by_test (eqb m n)
    (λ t. test_true (eqb m n) t ∙ sym (test_true (eqb n m) (eqb_flip m n t)))
    (λ t. test_false (eqb m n) t ∙ sym (test_false (eqb n m) (not_T (eqb n m) (λ u. T_not (eqb m n) t (eqb_flip n m u)))))

-- ---- the first place is the only one

pub others_all : (i : ℕ) (l : List ℕ) → T (not (among i l)) → others i l ≡ l
unfolding among any keep
others_all i [] t = refl
others_all i (x ∷ l) t =
    rw (test_false (eqb i x) (nor_left (eqb i x) (among i l) t)) (ap (λ (y : List ℕ). x ∷ y) (others_all i l (nor_right (eqb i x) (among i l) t)))

found_out : (i : ℕ) (l : List ℕ) → T (distinct l) → index_of i l < length l → take (index_of i l) l ++ drop (suc (index_of i l)) l ≡ others i l
unfolding distinct keep
found_out i [] d h = absurd (omega arith)
found_out i (x ∷ l) d h = go (eqb x i) refl h (found_out i l (and_right (not (among x l)) (distinct l) d))
  where
    go : (b : Bool) → eqb x i ≡ b → cond b 0 (suc (index_of i l)) < suc (length l)
        → (index_of i l < length l → take (index_of i l) l ++ drop (suc (index_of i l)) l ≡ others i l)
        → take (cond b 0 (suc (index_of i l))) (x ∷ l) ++ drop (suc (cond b 0 (suc (index_of i l)))) (x ∷ l) ≡ (if not (eqb i x) then x ∷ others i l else others i l)
    go true e k ih =
        let q : x ≡ i = eqb→eq x i (subst T (sym e) tt) in
        let n : T (not (among i l)) = subst (λ (y : ℕ). T (not (among y l))) q (and_left (not (among x l)) (distinct l) d) in
        rw (eqb_sym i x, e) (sym (others_all i l n))
    go false e k ih = rw (eqb_sym i x, e) (ap (λ (y : List ℕ). x ∷ y) (ih (omega arith)))

not_found : (i : ℕ) (l : List ℕ) → length l ≤ index_of i l → T (not (among i l))
unfolding among any
not_found i [] h = tt
not_found i (x ∷ l) h = go (eqb x i) (eqb_sym i x) h (not_found i l)
  where
    go : (b : Bool) → eqb i x ≡ b → suc (length l) ≤ cond b 0 (suc (index_of i l)) → (length l ≤ index_of i l → T (not (among i l))) → T (not (eqb i x || among i l))
    go true e k ih = absurd (omega arith)
    go false e k ih = rw e (ih (omega arith))

module _ {q : Queue} (t : Tidy q) (i : ℕ) where
  pub same_count : q.n ≡ length (list_of q)
  same_count = ap (λ (x : Queue). x.n) t.lies

  pub strike_found : {k : ℕ} → k ≡ index_of i (list_of q) → k < q.n → removed q k ≡ struck i q
  strike_found {k} e h =
      let c = same_count in
      let f = t.few in
      ap (λ (x : Queue). removed x k) t.lies
      ∙ (removed_of (list_of q) k (omega arith) (omega arith)
      ∙ ap queue_of (ap (λ (x : ℕ). take x (list_of q) ++ drop (suc x) (list_of q)) e ∙ found_out i (list_of q) t.apart (omega arith)))

  pub strike_none : {k : ℕ} → k ≡ index_of i (list_of q) → q.n ≤ k → q ≡ struck i q
  strike_none e h = let c = same_count in t.lies ∙ ap queue_of (sym (others_all i (list_of q) (not_found i (list_of q) (omega arith))))

-- ---- the channels one after another: those before place i are done, those from it on are as they were

pub each_at : (P : Channel → Type 0) (cs : List Channel) (k : ℕ) (d : Channel) → Each P (drop k cs) → k < length cs → P (get_or cs k d)
each_at P [] k d e h = absurd (omega arith)
each_at P (c ∷ cs) zero d e h = e.0
each_at P (c ∷ cs) (suc k) d e h = each_at P cs k d e (omega arith)

pub each_more : (P : Channel → Type 0) (cs : List Channel) (k : ℕ) (x : Channel) → Each P (drop k cs) → Each P (drop (suc k) (set cs k x))
each_more P [] k x e = tt
each_more P (c ∷ cs) zero x e = e.1
each_more P (c ∷ cs) (suc k) x e = each_more P cs k x e

abbrev pub done_to : (Channel → Channel) → ℕ → List Channel → List Channel
done_to f k cs = take k cs ++ map f (drop k cs)

pub done_more : (f : Channel → Channel) (cs : List Channel) (k : ℕ) (d x : Channel) → k < length cs → x ≡ f (get_or cs k d) → done_to f (suc k) (set cs k x) ≡ done_to f k cs
done_more f [] k d x h e = absurd (omega arith)
done_more f (c ∷ cs) zero d x h e = ap (λ (y : Channel). y ∷ map f cs) e
done_more f (c ∷ cs) (suc k) d x h e = ap (λ (l : List Channel). c ∷ l) (done_more f cs k d x (omega arith) e)

pub done_end : (f : Channel → Channel) (cs : List Channel) (k : ℕ) → length cs ≤ k → cs ≡ done_to f k cs
done_end f [] zero h = refl
done_end f [] (suc k) h = refl
done_end f (c ∷ cs) zero h = absurd (omega arith)
done_end f (c ∷ cs) (suc k) h = ap (λ (l : List Channel). c ∷ l) (done_end f cs k (omega arith))

-- ---- the queues of a state that is held

pub sub_left : (xs ys : List ℕ) → Sub xs (xs ++ ys)
sub_left [] ys = sub_nil ys
sub_left (x ∷ xs) ys = Rattle.channel.specs.machine_laws.Lists.take (sub_left xs ys)

pub sub_right : (xs ys : List ℕ) → Sub ys (xs ++ ys)
sub_right xs ys = sub_append (sub_nil xs) (sub_refl ys)

tidy_of : (l : List ℕ) → length l ≤ 64 → T (distinct l) → Tidy (queue_of l)
tidy_of l h d = record { few = h; lies = ap queue_of (sym (list_of_queue_of l)); apart = rw (list_of_queue_of l) d }

tidy_each : (cs : List ChannelM) → length (writes_of cs) ≤ 64 → T (distinct (writes_of cs)) → Each (λ (c : Channel). Tidy c.writes) (map channel_of cs)
unfolding writes_of
tidy_each [] h d = tt
tidy_each (c ∷ cs) h d =
    let is = map (λ (w : Write). w.id) c.writes in
    let e = length-append is (writes_of cs) in (
      tidy_of is (omega arith) (sub_distinct (sub_left is (writes_of cs)) d),
      tidy_each cs (omega arith) (sub_distinct (sub_right is (writes_of cs)) d),
    )

same_ids {ℓ} : {A : Type ℓ} (f : ℕ → A) (g : A → ℕ) → ((j : ℕ) → g (f j) ≡ j) → (is : List ℕ) → map g (map f is) ≡ is
same_ids f g e [] = refl
same_ids f g e (j ∷ is) = ap₂ ◌∷◌ (e j) (same_ids f g e is)

module _ (s : StateM) (p : Parts s) where
  abbrev held : List ℕ
  held = writes_of s.channels ++ map (λ l. l.id) s.locks

  abbrev played : List ℕ
  played = held ++ map (λ w. w.id) s.waiters

  played-apart : T (distinct played)
  unfolding ids
  played-apart = sub_distinct (sub_left played (map (λ r. r.id) s.waiting)) p.apart

  pub writes_apart : T (distinct (writes_of s.channels))
  writes_apart =
      sub_distinct (sub_left (writes_of s.channels) (map (λ l. l.id) s.locks))
      (sub_distinct (sub_left held (map (λ w. w.id) s.waiters)) played-apart)

  pub waiters-apart : T (distinct (map (λ (w : Lock). w.id) s.waiters))
  waiters-apart = sub_distinct (sub_right held (map (λ w. w.id) s.waiters)) played-apart

  pub waits-apart : T (distinct (map (λ (r : RequestM). r.id) s.waiting))
  unfolding ids
  waits-apart = sub_distinct (sub_right played (map (λ r. r.id) s.waiting)) p.apart

module _ {st : State} {tb : List ℕ} (h : Held st tb) where
  pub tidy-channels : Each (λ (c : Channel). Tidy c.writes) st.channels
  tidy-channels =
      let s = state_in st tb in
      let f = ids_few s (held_parts h) in
      subst (Each (λ (c : Channel). Tidy c.writes)) (sym (held_channels h)) (tidy_each s.channels (omega arith) (writes_apart s (held_parts h)))

  pub tidy-waiters : Tidy st.waiters
  tidy-waiters =
      record {
        few = (waiters-count h).1;
        lies = held_waiters h;
        apart = rw (same_ids (lock_in tb) (λ w. w.id) (λ j. refl) (list_of st.waiters)) at (waiters-apart (state_in st tb) (held_parts h));
      }

  pub tidy-waiting : Tidy st.waiting
  tidy-waiting =
      record {
        few = (waiting-count h).1;
        lies = held_waiting h;
        apart = rw (same_ids (request_in tb) (λ r. r.id) (λ j. refl) (list_of st.waiting)) at (waits-apart (state_in st tb) (held_parts h));
      }

-- ---- the struct

-- the other ids are those of the others
kept_ids {ℓ} : {A : Type ℓ} (f : A → ℕ) (i : ℕ) (xs : List A) → others i (map f xs) ≡ map f (keep (λ x. not (eqb i (f x))) xs)
unfolding keep
kept_ids f i [] = refl
kept_ids {A = A} f i (x ∷ xs) = go (not (eqb i (f x))) (kept_ids f i xs)
  where
    go : (b : Bool) → others i (map f xs) ≡ map f (keep (λ y. not (eqb i (f y))) xs)
        → (if b then f x ∷ others i (map f xs) else others i (map f xs)) ≡ map f (cond b (x ∷ keep (λ y. not (eqb i (f y))) xs) (keep (λ y. not (eqb i (f y))) xs))
    go true e = ap (λ (l : List ℕ). f x ∷ l) e
    go false e = e

cleaned_of : (i : ℕ) (c : ChannelM) → cleaned i (channel_of c) ≡ channel_of (without i c)
unfolding without
cleaned_of i c =
    ap (λ (l : List ℕ). record { key = c.key; prec = c.prec; locked = c.locked; stopped = c.stopped; writes = queue_of l })
    (ap (others i) (list_of_queue_of (map (λ w. w.id) c.writes)) ∙ kept_ids (λ w. w.id) i c.writes)

cleaned_all : (i : ℕ) (cs : List ChannelM) → map (cleaned i) (map channel_of cs) ≡ map channel_of (map (without i) cs)
cleaned_all i [] = refl
cleaned_all i (c ∷ cs) = ap₂ ◌∷◌ (cleaned_of i c) (cleaned_all i cs)

pub leave_struct : {st : State} {tb : List ℕ} (h : Held st tb) (i : ℕ) → leaving i st ≡ struct_of (leaving_m i (state_in st tb))
unfolding leaving_m
leave_struct {st} {tb} h i =
    let s = state_in st tb in
    let cs : map (cleaned i) st.channels ≡ map channel_of (map (without i) s.channels) = ap (map (cleaned i)) (held_channels h) ∙ cleaned_all i s.channels in
    let ls = ap (λ (x : State). x.locks) h.struct in
    let vs : struck i st.waiters ≡ queue_of (map (λ w. w.id) (leaving_m i s).waiters) =
    ap (λ (l : List ℕ). queue_of (others i l)) (sym (same_ids (lock_in tb) (λ w. w.id) (λ j. refl) (list_of st.waiters))) ∙ ap queue_of (kept_ids (λ w. w.id) i s.waiters) in
    let ws : struck i st.waiting ≡ queue_of (map (λ r. r.id) (leaving_m i s).waiting) =
    ap (λ (l : List ℕ). queue_of (others i l)) (sym (same_ids (request_in tb) (λ r. r.id) (λ j. refl) (list_of st.waiting))) ∙ ap queue_of (kept_ids (λ r. r.id) i s.waiting) in
    λ k. record { channels = cs k; locks = ls k; waiters = vs k; waiting = ws k; opens = held_opens h k; last = st.last }
