-- What the promises come to: no second crossing fits, what is refused moves nothing, an answered call has at most 32 replies in
-- each half, a fresh device is sound, and a sound state is followed by a sound state, so that the next call takes it. Assumes nothing.
use Prim.Native.Nat.{ℕ, zero, suc, ◌+◌, ◌*◌, ◌≤◌}
use mathlib.Core.Path.{◌≡◌, refl, ap, sym, subst, ◌∙◌}
use mathlib.Core.Bool.{Bool, true, false}
use mathlib.Core.List.{List, [], ◌++◌}
use native.Mathlib.Omega.{arith}
use lib.Dec.{T, T_not, eqb}
use lib.ListN.{length, get_or, replicate, replicate-append-replicate}
use borrow.Author.Tests.{eqb-true, eqb-false}
use Rattle.std.specs.Prelude.{if◌then◌else◌}
use Rattle.answers.specs.machine.Lists.{among}
use Rattle.answers.specs.machine.State.{Op as OpM, OPEN, CLOSE, ABORT, EVENT, CYCLE_ENDED, GAVE_UP, COMMAND, frees, fresh_on}
use Rattle.answers.specs.machine.Desks.{HALF}
use Rattle.answers.specs.machine.Log.{op_of}
use Rattle.answers.specs.machine.Call.{call}
use Rattle.display.proofs.machine_laws.Sound.{parts}
use Rattle.answers.proofs.machine.Tests.{by_test}
use Rattle.display.specs.machine_laws.Refusals.{refusals}
use Rattle.display.specs.machine_laws.Keeping.{Counted}
use Rattle.answers.specs.store.Store.{items, write_items, lookup, entries, table_of}
use Rattle.image.specs.board.declared.Board.{Board}
use Rattle.image.specs.board.Board.{sized, struct_of, state_in, Held}
use Rattle.image.proofs.board.Laws.{held_next, fresh-sane, table-wide}
use Rattle.widening.proofs.Maps.{length-frees}
use Rattle.image.specs.Image.{STATE, image_of, state_of, Whole}
use Rattle.image.proofs.Round.{image_of_state_of, state_of_image_of}
use Rattle.display.specs.Display.{DISPLAY}
use Rattle.answers.specs.declared.Request.{Request}
use Rattle.bytes_call.specs.refusals.declared.Op.{Op}
use Rattle.bytes_call.specs.refusals.Refusals.{op_in, asked_of, op_for}
use Rattle.bytes_call.proofs.arbiter.Lent.{whole_or_not}
use Rattle.bytes_call.specs.desk_call.DeskCall.{Outcome}
use Rattle.bytes_call.proofs.desk_call.Promise.{one_call, one_display, refused_unmoved, few_each_half as few_laid, sound-after as sound-call}
use Rattle.starting.specs.sizes.Sizes.{TABLE, ANSWER}
use Rattle.bytes_call.specs.handed.Handed.{answer_bytes}
use Rattle.starting.specs.Starting.{Fits, Started}
use Rattle.bytes_call.specs.BytesCall.{Carried, Unread}
use Rattle.boundary.specs.Boundary.{Room, Unanswered, Crossed, Same}

-- ---- which case it is

-- two numbers are the same, or not
same_or_not {ℓ} : {R : Type ℓ} (m n : ℕ) → (m ≡ n → R) → ((m ≡ n → ⊥) → R) → R
same_or_not {R = R} m n y z = go (eqb m n) refl
  where
    go : (b : Bool) → eqb m n ≡ b → R
    go true e = y (eqb-true m n e)
    go false e = z (eqb-false m n e)

room_or_not {ℓ} : {R : Type ℓ} (an dp : List ℕ) → (Room an dp → R) → ((Room an dp → ⊥) → R) → R
room_or_not an dp y z =
    same_or_not (length an) ANSWER (λ a. same_or_not (length dp) DISPLAY (λ d. y (a, d)) (λ d. z (λ h. d h.1))) (λ a. z (λ h. a h.0))

-- ---- no second crossing fits

module _ {st tb dp l : List ℕ} {n n₂ : ℕ} {st₁ st₂ tb₁ tb₂ dp₁ dp₂ l₁ l₂ an₁ an₂ : List ℕ} where
  unanswered_same : {an : List ℕ} → Unanswered st tb dp l an n st₁ tb₁ dp₁ l₁ an₁ → Unanswered st tb dp l an n₂ st₂ tb₂ dp₂ l₂ an₂ → Same n n₂ st₁ st₂ tb₁ tb₂ dp₁ dp₂ l₁ l₂ an₁ an₂
  unanswered_same c e =
      record {
        count = c.count ∙ sym e.count;
        state = c.state ∙ sym e.state;
        table = c.table ∙ sym e.table;
        display = c.display ∙ sym e.display;
        list = c.list ∙ sym e.list;
        answer = c.answer ∙ sym e.answer;
      }

  unread_same : {k : ℕ} → Unread k st tb dp l n st₁ tb₁ dp₁ l₁ an₁ → Unread k st tb dp l n₂ st₂ tb₂ dp₂ l₂ an₂ → Same n n₂ st₁ st₂ tb₁ tb₂ dp₁ dp₂ l₁ l₂ an₁ an₂
  unread_same c e =
      record {
        count = c.count ∙ sym e.count;
        state = c.state ∙ sym e.state;
        table = c.table ∙ sym e.table;
        display = c.display ∙ sym e.display;
        list = c.list ∙ sym e.list;
        answer = c.answer ∙ sym e.answer;
      }

  carried_same : {o : Op} {r : Request} {ms : List ℕ} → Carried o r ms st tb dp l n st₁ tb₁ dp₁ l₁ an₁ → Carried o r ms st tb dp l n₂ st₂ tb₂ dp₂ l₂ an₂ → Same n n₂ st₁ st₂ tb₁ tb₂ dp₁ dp₂ l₁ l₂ an₁ an₂
  carried_same c e =
      let s = one_call c.called e.called in
      record {
        count = c.count ∙ ap (λ (d : Outcome). d.a + d.b) s.outcome ∙ sym e.count;
        state = c.state.bytes ∙ ap (λ (d : Outcome). image_of d.state) s.outcome ∙ sym e.state.bytes;
        table = s.table;
        display = one_display c.shown e.shown;
        list = s.list;
        answer = c.answer ∙ ap (λ (d : Outcome). answer_bytes d.answer d.a d.b) s.outcome ∙ sym e.answer;
      }

  pub one_crossing : {op : ℕ} {r : Request} {ms an : List ℕ} → Crossed op r ms st tb dp l an n st₁ tb₁ dp₁ l₁ an₁ → Crossed op r ms st tb dp l an n₂ st₂ tb₂ dp₂ l₂ an₂
      → Same n n₂ st₁ st₂ tb₁ tb₂ dp₁ dp₂ l₁ l₂ an₁ an₂
  one_crossing {an = an} c e =
      room_or_not an dp
      (λ h. whole_or_not st (λ w. carried_same (c.carried h w) (e.carried h w)) (λ w. unread_same (c.unread h w) (e.unread h w)))
      (λ h. unanswered_same (c.unanswered h) (e.unanswered h))

-- a second start does not fit either
fits_or_not {ℓ} : {R : Type ℓ} (w : ℕ) (st tb dp : List ℕ) → (Fits w st tb dp → R) → ((Fits w st tb dp → ⊥) → R) → R
fits_or_not w st tb dp y z =
    by_test (sized w)
    (λ t. same_or_not (length st) STATE
    (λ h. same_or_not (length tb) TABLE
    (λ g. same_or_not (length dp) DISPLAY (λ d. y record { board = t; state = h; table = g; display = d }) (λ n. z (λ p. n p.display)))
    (λ n. z (λ p. n p.table)))
    (λ n. z (λ p. n p.state)))
    (λ n. z (λ p. T_not (sized w) n p.board))

pub one_start : {w : ℕ} {st tb dp : List ℕ} {r r₂ : ℕ} {st₁ st₂ tb₁ tb₂ dp₁ dp₂ : List ℕ} → Started w st tb dp r st₁ tb₁ dp₁ → Started w st tb dp r₂ st₂ tb₂ dp₂
    → (r ≡ r₂) × (st₁ ≡ st₂) × (tb₁ ≡ tb₂) × (dp₁ ≡ dp₂)
one_start {w} {st} {tb} {dp} c e =
    fits_or_not w st tb dp
    (λ h. let x = c.begun h in
    let y = e.begun h in
    (x.result ∙ sym y.result, x.state.bytes ∙ sym y.state.bytes, x.table ∙ sym y.table, x.display ∙ sym y.display))
    (λ h. let x = c.otherwise h in
    let y = e.otherwise h in
    (x.result ∙ sym y.result, x.state ∙ sym y.state, x.table ∙ sym y.table, x.display ∙ sym y.display))

-- ---- what is refused moves no byte of state and table

error-told : {o : Op} {r : Request} {ms st tb dp l : List ℕ} {n : ℕ} {st' tb' dp' l' an' : List ℕ} (c : Carried o r ms st tb dp l n st' tb' dp' l' an')
    → get_or an' 1 0 ≡ c.outcome.answer.error
unfolding answer_bytes
error-told c = ap (λ (x : List ℕ). get_or x 1 0) c.answer

module _ {op : ℕ} {r : Request} {ms st tb dp l an : List ℕ} {n : ℕ} {st' tb' dp' l' an' : List ℕ} (c : Crossed op r ms st tb dp l an n st' tb' dp' l' an') where
  pub refused_still : T (among (get_or an' 1 0) refusals) → (st' ≡ st) × (tb' ≡ tb)
  refused_still t =
      room_or_not an dp
      (λ h. whole_or_not st (λ w. whole w (c.carried h w)) (λ w. ((c.unread h w).state, (c.unread h w).table)))
      (λ h. ((c.unanswered h).state, (c.unanswered h).table))
    where
      whole : Whole st → Carried (op_for (op_of op)) r ms st tb dp l n st' tb' dp' l' an' → (st' ≡ st) × (tb' ≡ tb)
      whole w k =
          let u = refused_unmoved k.called (subst (λ (x : ℕ). T (among x refusals)) (error-told k) t) in
          (k.state.bytes ∙ ap image_of u.0 ∙ image_of_state_of st w, u.1)

  -- ---- an answered call has at most 32 replies in each half, as its answer tells, and 64 in all

  -- the result is their sum
  pub halves-told : Room an dp → (n ≡ get_or an' 6 0 + get_or an' 7 0) × (get_or an' 6 0 ≤ HALF) × (get_or an' 7 0 ≤ HALF)
  unfolding answer_bytes
  halves-told h = whole_or_not st (λ w. carried (c.carried h w)) (λ w. unread (c.unread h w))
    where
      carried : Carried (op_for (op_of op)) r ms st tb dp l n st' tb' dp' l' an'
          → (n ≡ get_or an' 6 0 + get_or an' 7 0) × (get_or an' 6 0 ≤ HALF) × (get_or an' 7 0 ≤ HALF)
      carried k = let f = few_laid k.called in rw k.answer (k.count, f.0, f.1)

      unread : Unread r.key st tb dp l n st' tb' dp' l' an'
          → (n ≡ get_or an' 6 0 + get_or an' 7 0) × (get_or an' 6 0 ≤ HALF) × (get_or an' 7 0 ≤ HALF)
      unread k = rw k.answer (k.count, omega arith, omega arith)

  pub few_each_half : Room an dp → (get_or an' 6 0 ≤ HALF) × (get_or an' 7 0 ≤ HALF)
  few_each_half h = let f = halves-told h in (f.1, f.2)

  pub few_replies : Room an dp → n ≤ 64
  few_replies h = let f = halves-told h in omega arith

  -- ---- a sound state is followed by a sound state: the one that the machine names
  module _ (h : Room an dp) (w : Whole st) (s : Held (state_of st) tb) where
    pub sound-after : (r.prec ≤ 255) × (r.key ≤ 65535)
        → Counted (op_in (op_for (op_of op)) r.command) (asked_of (op_for (op_of op)) r ms (length l))
        → Whole st' × Held (state_of st') tb'
        × (state_in (state_of st') tb' ≡ (call (state_in (state_of st) tb) (asked_of (op_for (op_of op)) r ms (length l))).next)
    sound-after g y =
        let k = c.carried h w in
        let d = k.outcome in
        let a = sound-call k.called s g y in
        let e : d.state ≡ state_of st' = sym (ap state_of k.state.bytes ∙ state_of_image_of d.state k.state.sized) in
        let z : state_in (state_of st') tb' ≡ (call (state_in (state_of st) tb) (asked_of (op_for (op_of op)) r ms (length l))).next =
        ap (λ (x : Board). state_in x tb') (sym e) ∙ a.1 in
        (k.state.whole, subst (λ (x : Board). Held x tb') e a.0, z)

-- ---- a fresh device is sound

entries_none : (n i : ℕ) → entries n i [] ≡ replicate (n * 23) 0
unfolding entries lookup
entries_none zero i = refl
entries_none (suc n) i =
    let e : suc n * 23 ≡ 23 + n * 23 = omega arith in
    ap (λ (x : List ℕ). replicate 23 0 ++ x) (entries_none n (suc i)) ∙ replicate-append-replicate {A = ℕ} 23 (n * 23) 0 ∙ ap (λ (k : ℕ). replicate k 0) (sym e)

none_fresh : table_of (fresh_on 0) ≡ replicate TABLE 0
unfolding table_of items write_items frees
none_fresh = entries_none 64 0

fresh-table : (w : ℕ) → table_of (fresh_on w) ≡ replicate TABLE 0
unfolding frees
fresh-table w = table-wide w (fresh_on 0) ∙ none_fresh

pub fresh-after : (w : ℕ) {st tb dp : List ℕ} {r : ℕ} {st' tb' dp' : List ℕ} → Started w st tb dp r st' tb' dp' → Fits w st tb dp
    → Whole st' × Held (state_of st') tb' × (state_in (state_of st') tb' ≡ fresh_on w)
fresh-after w {tb = tb} {st' = st'} {tb' = tb'} c f =
    let b = c.begun f in
    let k = f.board in
    let g = f.table in
    let e : struct_of (fresh_on w) ≡ state_of st' = sym (ap state_of b.state.bytes ∙ state_of_image_of (struct_of (fresh_on w)) b.state.sized) in
    let t : tb' ≡ table_of (fresh_on w) = b.table ∙ ap (λ (k : ℕ). replicate k 0) g ∙ sym (fresh-table w) in
    let a = held_next (fresh_on w) (state_of st') tb' (parts _ (fresh-sane w k)) (subst (λ (n : ℕ). T (sized n)) (sym (length-frees w)) k) (sym e) t in
    (b.state.whole, a.0, a.1)

-- ---- the operation that the machine is asked for is that of the number

abbrev pick : Bool → Bool → Bool → Bool → Bool → ℕ → OpM
pick p q r s u b = if p then OPEN else if q then CLOSE else if r then ABORT else if s then EVENT CYCLE_ENDED else if u then EVENT GAVE_UP else COMMAND b

pick-asked : (p q r s u : Bool) (b : ℕ) → op_in (op_for (pick p q r s u b)) b ≡ pick p q r s u b
pick-asked true q r s u b = refl
pick-asked false true r s u b = refl
pick-asked false false true s u b = refl
pick-asked false false false true u b = refl
pick-asked false false false false true b = refl
pick-asked false false false false false b = refl

pub op-asked : (b : ℕ) → op_in (op_for (op_of b)) b ≡ op_of b
unfolding op_of
op-asked b = pick-asked (eqb b 0xF0) (eqb b 0xF1) (eqb b 0xF2) (eqb b 0xF3) (eqb b 0xF4) b
