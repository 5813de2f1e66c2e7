-- Steps of settling put together: what the calls of a step ensure makes what the step promises. Assumes nothing.
use Prim.Native.Nat.{ℕ, ◌+◌, ◌*◌, ◌≤◌, ◌<◌}
use mathlib.Core.Path.{◌≡◌, refl, ap, ap₂, sym, ◌∙◌}
use mathlib.Core.List.{List, [], ◌∷◌, ◌++◌, map}
use native.Mathlib.Omega.{arith}
use lib.ListN.{length, get_or, length-append}
use Rattle.memory.specs.Splice.{splice, block}
use Rattle.locks.specs.table.Entry.{key_in}
use Rattle.locks.specs.reply.Replies.{encode, sent}
use Rattle.locks.proofs.reply.Laws.{sent_one, length-sent}
use Rattle.machine_laws.specs.machine.State.{Request, State as StateM, Reply}
use Rattle.machine_laws.specs.machine.Granting.{key_for, cut_replies, dropped, granted}
use Rattle.machine_laws.specs.machine.Settling.{replied}
use Rattle.locks.specs.store.declared.State.{State}
use Rattle.locks.specs.store.Store.{struct_of, table_of, state_in, Held}
use Rattle.locks.specs.store.Work.{Ready, Did}
use Rattle.locks.proofs.store.Store.{held_parts, held_eight, held_next}
use Rattle.granting.specs.declared.Granted.{Granted}
use Rattle.granting.specs.Granting.{GrantedTo}
use Rattle.waiting.specs.Waiting.{waiter}
use Rattle.waiting.proofs.Waiting.{waiter_is}
use Rattle.one_request.specs.OneRequest.{out_at}
use Rattle.one_request.proofs.Without.{out_sound}

-- ---- the reply to a waiting request

pub told : {st : State} {tb : List ℕ} (h : Held st tb) (i : ℕ) → i < st.waiting.n → (e m k j : ℕ) → j ≡ get_or st.waiting.ids i 0
    → record { id = j; command = 32; error = e; map = m; key = k } ≡ replied e m k (waiter i (state_in st tb))
unfolding replied
told {st} {tb} h i w e m k j q =
    ap (λ (x : ℕ). record { id = x; command = 32; error = e; map = m; key = k }) (q ∙ sym (ap (λ (r : Request). r.id) (waiter_is h i w)))

module _ {st : State} {tb : List ℕ} (h : Held st tb) (i : ℕ) (w : i < st.waiting.n) (j : ℕ) (e : j ≡ get_or st.waiting.ids i 0) where
  pub key_is : key_in (block 23 tb j) ≡ (waiter i (state_in st tb)).key
  key_is = ap (λ (x : ℕ). key_in (block 23 tb x)) e ∙ sym (ap (λ (r : Request). r.key) (waiter_is h i w))

  pub prec_is : get_or (block 23 tb j) 4 0 ≡ (waiter i (state_in st tb)).prec
  prec_is = ap (λ (x : ℕ). get_or (block 23 tb x) 4 0) e ∙ sym (ap (λ (r : Request). r.prec) (waiter_is h i w))

  pub told-list : (l : List ℕ) (n x m k : ℕ) → k ≡ key_in (block 23 tb j)
      → splice l (n * 6) (encode (record { id = j; command = 32; error = x; map = m; key = k })) ≡ sent l n (replied x m (waiter i (state_in st tb)).key (waiter i (state_in st tb)) ∷ [])
  told-list l n x m k q =
      ap (λ (y : Reply). splice l (n * 6) (encode y)) (told h i w x m k j e ∙ ap (λ (z : ℕ). replied x m z (waiter i (state_in st tb))) (q ∙ key_is))

-- ---- after it is out

module _ {st t : State} {tb tb' : List ℕ} (h : Held st tb) (i : ℕ) (a : t ≡ struct_of (out_at i (state_in st tb))) (b : tb' ≡ table_of (out_at i (state_in st tb))) where
  pub out_next : Held t tb' × (state_in t tb' ≡ out_at i (state_in st tb))
  out_next = held_next (out_at i (state_in st tb)) t tb' (out_sound i (state_in st tb) (held_parts h)) (held_eight h) a b

  -- it has no write and waits for no cycle
  out_dropped : (m : ℕ) → dropped m (state_in t tb') ≡ dropped m (state_in st tb)
  out_dropped m = ap (dropped m) out_next.1 ∙ (unfold dropped cut_replies in refl)

  pub out_ready : {l : List ℕ} {n : ℕ} (m : ℕ) → 384 ≤ length l → n + (length (dropped m (state_in st tb)) + 1) ≤ 64
      → Ready t tb' l n (length (dropped m (state_in t tb')))
  out_ready m r f =
      record {
        held = out_next.0;
        room = r;
        fits = rw (out_dropped m) (omega arith);
      }

  pub out_room : {l tb'' l'' : List ℕ} {n m k p : ℕ} {g : Granted} → 384 ≤ length l → n + (length (dropped m (state_in st tb)) + 1) ≤ 64
      → GrantedTo t tb' l n m k p g tb'' l'' → g.n * 6 + 6 ≤ length l''
  out_room {l} {n = n} {m = m} r f d =
      let ac = ap length (out_dropped m) in
      let c = d.did.count in
      let q = length-sent l n (dropped m (state_in t tb')) (omega arith) in
      let e = ap length d.did.list in
      omega arith

  -- granted, then replied
  pub out_granted : {l tb'' l'' l''' : List ℕ} {n m n' j k p : ℕ} {g : Granted} (w : i < st.waiting.n) → 384 ≤ length l → n + (length (dropped m (state_in st tb)) + 1) ≤ 64
      → GrantedTo t tb' l n m k p g tb'' l'' → k ≡ (waiter i (state_in st tb)).key → p ≡ (waiter i (state_in st tb)).prec → j ≡ get_or st.waiting.ids i 0
      → l''' ≡ splice l'' (g.n * 6) (encode (record { id = j; command = 32; error = 0; map = m; key = g.key })) → n' ≡ g.n + 1
      → Did (granted m (waiter i (state_in st tb)).key (waiter i (state_in st tb)).prec (out_at i (state_in st tb)))
      (dropped m (state_in st tb) ++ replied 0 m (key_for (waiter i (state_in st tb)).key (out_at i (state_in st tb))) (waiter i (state_in st tb)) ∷ [])
      l n g.state tb'' l''' n'
  out_granted {l} {tb''} {l''} {l'''} {n} {m} {n'} {j} {k} {p} {g} w r f d ek ep ej el en =
      let s = state_in st tb in
      let o = out_next.1 in
      let xs = dropped m s in
      let sc : granted m k p (state_in t tb') ≡ granted m (waiter i s).key (waiter i s).prec (out_at i s) = rw (o, ek, ep) refl in
      let ac : dropped m (state_in t tb') ≡ xs = out_dropped m in
      let gk : g.key ≡ key_for (waiter i s).key (out_at i s) = d.given ∙ ap₂ key_for ek o in
      let c : g.n ≡ n + length xs = d.did.count ∙ ap (λ (x : List Reply). n + length x) ac in
      let li : l'' ≡ sent l n xs = d.did.list ∙ ap (sent l n) ac in
      let x = replied 0 m (key_for (waiter i s).key (out_at i s)) (waiter i s) in
      let tx : record { id = j; command = 32; error = 0; map = m; key = g.key } ≡ x = told h i w 0 m g.key j ej ∙ ap (λ (y : ℕ). replied 0 m y (waiter i s)) gk in
      record {
        struct = d.did.struct ∙ ap struct_of sc;
        table = d.did.table ∙ ap table_of sc;
        list = el ∙ (ap (λ (y : Reply). splice l'' (g.n * 6) (encode y)) tx ∙ (rw (li, c) (sent_one l n xs x (omega arith))));
        count = rw (length-append xs (x ∷ [])) (omega arith);
      }
