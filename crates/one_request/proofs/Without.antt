-- What is left of a state that is held when a waiting request goes. Assumes nothing.
use Prim.Native.Nat.{ℕ, zero, suc, ◌*◌, ◌<◌}
use mathlib.Core.Path.{◌≡◌, refl, ap, sym, subst, ◌∙◌}
use mathlib.Core.List.{List, [], ◌∷◌, ◌++◌, map}
use native.Mathlib.Omega.{arith}
use lib.ListN.{length, take, drop, get_or}
use lib.Seq.{split_at}
use Rattle.memory.specs.Splice.{splice}
use Rattle.queue.specs.declared.Queue.{Queue}
use Rattle.queue.specs.Queue.{queue_of, list_of, removed}
use Rattle.queue.proofs.Laws.{removed_of}
use Rattle.locks.specs.table.Entry.{idle}
use Rattle.machine_laws.specs.machine.State.{Request, State as StateM}
use Rattle.machine_laws.specs.machine.Sound.{ids, writes_of}
use Rattle.machine_laws.specs.Lists.{Sub, skip}
use Rattle.machine_laws.proofs.Lists.{sub_refl, sub_append, sub_map}
use Rattle.machine_laws.proofs.Keeping.{parts_sub}
use Rattle.machine_laws.specs.Sound.{Parts}
use Rattle.locks.specs.store.declared.State.{State}
use Rattle.locks.specs.store.Store.{Item, wait_item, lock_item, waiter_item, write_items, items, struct_of, table_of, state_in, request_in, Held}
use Rattle.locks.proofs.store.Entries.{Ins, ins_left, ins_at, entry-removed}
use Rattle.locks.proofs.store.Store.{held_parts, held_waiting, waiting-count, good_of, held_opens}
use Rattle.waiting.specs.Waiting.{nobody, waiter}
use Rattle.waiting.proofs.Waiting.{inside, waiter_is, waiter_in}
use Rattle.one_request.specs.OneRequest.{out_at}

split_map {ℓ κ} : {A : Type ℓ} {B : Type κ} (f : A → B) (xs ys : List A) → map f (xs ++ ys) ≡ map f xs ++ map f ys
split_map f [] ys = refl
split_map f (x ∷ xs) ys = ap (λ l. f x ∷ l) (split_map f xs ys)

out_ins : (i : ℕ) (s : StateM) → i < length s.waiting → Ins (wait_item (waiter i s)) (items (out_at i s)) (items s)
unfolding items
out_ins i s h =
    let A = write_items s.channels ++ map lock_item s.locks ++ map waiter_item s.waiters in
    let F = take i s.waiting in
    let B = drop (suc i) s.waiting in
    let r = waiter i s in
    let e : s.waiting ≡ F ++ r ∷ B = split_at s.waiting i nobody h in
    let f : map wait_item s.waiting ≡ map wait_item F ++ wait_item r ∷ map wait_item B = ap (map wait_item) e ∙ split_map wait_item F (r ∷ B) in
    let g : map wait_item (F ++ B) ≡ map wait_item F ++ map wait_item B = split_map wait_item F B in
    subst (λ (l : List Item). Ins (wait_item r) (A ++ map wait_item (F ++ B)) (A ++ l)) (sym f)
    (subst (λ (l : List Item). Ins (wait_item r) (A ++ l) (A ++ (map wait_item F ++ wait_item r ∷ map wait_item B))) (sym g) (ins_left A (ins_at (wait_item r) (map wait_item F) (map wait_item B))))

pub out_table : (i : ℕ) (s : StateM) → Parts s → i < length s.waiting → splice (table_of s) ((waiter i s).id * 23) idle ≡ table_of (out_at i s)
unfolding table_of
out_table i s p h = entry-removed (out_ins i s h) (good_of s p)

out_sub {ℓ} : {A : Type ℓ} (i : ℕ) (xs : List A) → Sub (take i xs ++ drop (suc i) xs) xs
out_sub zero [] = sub_refl []
out_sub zero (x ∷ xs) = skip (sub_refl xs)
out_sub (suc i) [] = sub_refl []
out_sub (suc i) (x ∷ xs) = Rattle.machine_laws.specs.Lists.take (out_sub i xs)

pub out_sound : (i : ℕ) (s : StateM) → Parts s → Parts (out_at i s)
unfolding ids
out_sound i s p =
    parts_sub s (out_at i s) p refl p.channels_ok p.locks_ok p.waiters_ok (out_sub i s.waiting)
    (sub_append (sub_refl (writes_of s.channels ++ map (λ l. l.id) s.locks ++ map (λ w. w.id) s.waiters)) (sub_map (λ (r : Request). r.id) (out_sub i s.waiting)))
    p.opens_ok p.last_ok

ids_all : (tb is : List ℕ) → map (λ (r : Request). r.id) (map (request_in tb) is) ≡ is
ids_all tb [] = refl
ids_all tb (j ∷ is) = ap (λ (l : List ℕ). j ∷ l) (ids_all tb is)

ids_out : (tb : List ℕ) (i : ℕ) (is : List ℕ)
    → map (λ (r : Request). r.id) (take i (map (request_in tb) is) ++ drop (suc i) (map (request_in tb) is)) ≡ take i is ++ drop (suc i) is
ids_out tb zero [] = refl
ids_out tb zero (j ∷ is) = ids_all tb is
ids_out tb (suc i) [] = refl
ids_out tb (suc i) (j ∷ is) = ap (λ (l : List ℕ). j ∷ l) (ids_out tb i is)

pub out_queue : {st : State} {tb : List ℕ} (h : Held st tb) (i : ℕ) → i < st.waiting.n → removed st.waiting i ≡ queue_of (map (λ (r : Request). r.id) (out_at i (state_in st tb)).waiting)
out_queue {st} {tb} h i w =
    let c = waiting-count h in
    ap (λ (q : Queue). removed q i) (held_waiting h)
    ∙ (removed_of (list_of st.waiting) i (inside h i w) (omega arith) ∙ ap queue_of (sym (ids_out tb i (list_of st.waiting))))

pub out_struct : {st : State} {tb : List ℕ} (h : Held st tb) (i : ℕ) → i < st.waiting.n
    → record { channels = st.channels; locks = st.locks; waiters = st.waiters; waiting = removed st.waiting i; opens = st.opens; last = st.last } ≡ struct_of (out_at i (state_in st tb))
out_struct {st} {tb} h i w =
    let c = ap (λ (x : State). x.channels) h.struct in
    let l = ap (λ (x : State). x.locks) h.struct in
    let v = ap (λ (x : State). x.waiters) h.struct in
    let q = out_queue h i w in
    λ j. record { channels = c j; locks = l j; waiters = v j; waiting = q j; opens = held_opens h j; last = st.last }

pub out_held : {st : State} {tb : List ℕ} (h : Held st tb) (i : ℕ) → i < st.waiting.n → (j : ℕ) → j ≡ get_or st.waiting.ids i 0
    → splice tb (j * 23) idle ≡ table_of (out_at i (state_in st tb))
out_held {st} {tb} h i w j e =
    let d : (waiter i (state_in st tb)).id ≡ j = ap (λ (r : Request). r.id) (waiter_is h i w) ∙ sym e in
    ap (λ (x : List ℕ). splice x (j * 23) idle) h.table ∙ (rw d at (out_table i (state_in st tb) (held_parts h) (waiter_in h i w)))
