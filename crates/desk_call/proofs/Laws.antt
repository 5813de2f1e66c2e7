-- Why a desk's call is the machine's: with fewer than 64 records lent the inner call has as many and replies to nobody; with 64 or
-- more it has 64, and the room is no longer read. Assumes nothing.
use Prim.Native.Nat.{ℕ, ◌+◌, ◌-◌, ◌/◌, ◌≤◌, ◌<◌}
use mathlib.Core.Path.{◌≡◌, refl, ap, ap₂, sym, subst, ◌∙◌}
use mathlib.Core.Bool.{Bool, true, false}
use mathlib.Core.List.{List, [], ◌∷◌, ◌++◌, append-nil}
use native.Mathlib.Omega.{arith}
use native.Mathlib.Nat.{zero-add}
use borrow.Author.Tests.{lt-ltb, le-ltb, ltb-true, ltb-false}
use lib.Dec.{T, ltb}
use lib.ListN.{length, take, drop, take-append-drop, drop_of_length-le}
use lib.Seq.{length-take-le, take_all}
use Rattle.memory.specs.Splice.{splice}
use Rattle.memory.proofs.Splice.{splice_none}
use Rattle.std.specs.Prelude.{if◌then◌else◌}
use Rattle.answers.specs.machine.Lists.{keep}
use Rattle.answers.specs.machine.State.{State as StateM, Call, Reply, Outcome as OutcomeM}
use Rattle.answers.specs.machine.Desks.{DESK_A, DESK_B, HALF, replies_to}
use Rattle.answers.specs.machine.Call.{call}
use Rattle.display.proofs.machine_laws.Replies.{call-replies}
use Rattle.display.proofs.machine_laws.Halves.{call-halves}
use Rattle.display.specs.machine_laws.Rooms.{lent}
use Rattle.display.proofs.machine_laws.Rooms.{room_unread, short-mute}
use Rattle.display.specs.Display.{displayed}
use Rattle.display.proofs.Rooms.{displayed_room}
use Rattle.answers.specs.reply.Replies.{encodes, sent}
use Rattle.halves.specs.declared.Halves.{Halves}
use Rattle.halves.specs.Halves.{Laying, Laid, laid}
use Rattle.halves.proofs.Laws.{laid-replies, laying_replies}
use Rattle.answers.specs.store.Store.{table_of}
use Rattle.answers.specs.declared.Request.{Request}
use Rattle.answers.specs.Answers.{answer_of}
use Rattle.image.specs.board.declared.Board.{Board}
use Rattle.image.specs.board.declared.Outcome.{Outcome as OutcomeI}
use Rattle.image.specs.board.Board.{struct_of, state_in, Held, Told as ToldI}
use Rattle.arbiter.specs.refusals.declared.Op.{Op}
use Rattle.arbiter.specs.refusals.Refusals.{asked_of}
use Rattle.image.specs.Image.{state_of}
use Rattle.arbiter.specs.declared.Answered.{Answered as AnsweredI}
use Rattle.arbiter.specs.Arbiter.{outcome_in as outcome_in_i, Unmoved as UnmovedI, Called as CalledI, Shows, Unread as UnreadI, Lent as LentI}
use Rattle.arbiter.proofs.Outcome.{held_or_not}
use Rattle.arbiter.proofs.Lent.{whole_or_not}
use Rattle.desk_call.specs.DeskCall.{room_of, Outcome, Told, Unmoved, Called, Unread, Lent}

-- ---- the room

pub room_short : (n : ℕ) → n < 384 → n ≡ room_of n
room_short n h = rw (lt-ltb n 384 h) refl

pub room_long : (n : ℕ) → 384 ≤ n → 384 ≡ room_of n
room_long n h = rw (le-ltb n 384 h) refl

pub room_most : {k : ℕ} (n : ℕ) → k ≡ room_of n → k ≤ 384
room_most n q = go (ltb n 384) refl q
  where
    go : {k : ℕ} (x : Bool) → ltb n 384 ≡ x → k ≡ (if x then n else 384) → k ≤ 384
    go true e p = let h = ltb-true n 384 e in omega arith
    go false e p = omega arith

pub part_long : {k : ℕ} (n : ℕ) (m : List ℕ) → k ≡ room_of n → length m ≡ 384 → k ≡ length (take k m)
part_long {k} n m q z = let h = room_most n q in sym (length-take-le k m (omega arith))

-- ---- what the inner call made

-- the machine's outcome, its replies one behind the other from the first record of `made` on
pub record Made (o : OutcomeM) (m l : List ℕ) (d : OutcomeI) (tb' made : List ℕ) : Type 0 where
  pub answer : d.answer ≡ answer_of o.answer
  pub struct : d.state ≡ struct_of o.next
  pub table : tb' ≡ table_of o.next
  pub count : d.n ≡ length o.replies
  pub list : made ≡ sent m 0 o.replies
  pub room : 0 < length o.replies → 384 ≤ length l

made_of : {o : OutcomeM} (m l : List ℕ) {x : List ℕ} {d : OutcomeI} {tb' ws made : List ℕ} → ToldI o x d tb' ws → made ≡ sent m 0 o.replies
    → (0 < length o.replies → 384 ≤ length l) → Made o m l d tb' made
made_of {o} m l t e g =
    record {
      answer = t.answer;
      struct = t.did.struct;
      table = t.did.table;
      count = t.did.count ∙ zero-add (length o.replies);
      list = e;
      room = g;
    }

-- where nothing is replied, it may be laid, and nothing is
laying_none : (l made : List ℕ) {n : ℕ} → n ≡ 0 → Laying made n l
unfolding replies_to keep
laying_none l made {n} e =
    subst (λ (x : List ℕ). Laying x n l) (splice_none made 0) (laying_replies made [] e (omega arith) (λ x. omega arith) (omega arith) (omega arith))

laid_none : (l made : List ℕ) {n : ℕ} {h : Halves} {l' : List ℕ} → n ≡ 0 → Laid made n l h l' → (h.a ≡ 0) × (h.b ≡ 0) × (l' ≡ l)
unfolding replies_to keep
laid_none l made {n} {h} {l'} e y =
    let v = laid-replies made [] e (subst (λ (x : List ℕ). Laid x n l h l') (sym (splice_none made 0)) y) in
    (v.0, v.1, v.2 ∙ splice_none (splice l 0 []) 192 ∙ splice_none l 0)

none_sent : (l : List ℕ) {rs : List Reply} → rs ≡ [] → sent l 0 rs ≡ l
none_sent l e = ap (λ (x : List Reply). sent l 0 x) e ∙ splice_none l 0

module _ {o : Op} {r : Request} {b : Board} {ms tb : List ℕ} (l m : List ℕ) (z : length m ≡ 384) {k : ℕ} (q : k ≡ room_of (length l)) {d : OutcomeI} {tb' ws : List ℕ} (c : CalledI o r b ms tb (take k m) d tb' ws) where
  abbrev asks : ℕ → Call
  asks n = asked_of o r ms n

  abbrev s₀ : StateM
  s₀ = state_in b tb

  -- fewer than 64 records: the same list is lent, and nothing is replied
  short_made : Held b tb → length l < 384 → Made (call s₀ (asks (length l))) m l d tb' (ws ++ drop k m)
  short_made h g =
      let kl : k ≡ length l = q ∙ sym (room_short (length l) g) in
      let e : length (take k m) ≡ length l = length-take-le k m (omega arith) ∙ kl in
      let t : ToldI (call s₀ (asks (length l))) (take k m) d tb' ws = subst (λ (n : ℕ). ToldI (call s₀ (asks n)) (take k m) d tb' ws) e (c.sound h) in
      let u : length l / 6 < 64 = omega arith in
      let none : (call s₀ (asks (length l))).replies ≡ [] = short-mute s₀ (asks (length l)) u in
      let w : ws ≡ take k m = t.did.list ∙ none_sent (take k m) none in
      let p : length (call s₀ (asks (length l))).replies ≡ 0 = ap (λ (x : List Reply). length x) none in
      made_of m l t (ap (λ (x : List ℕ). x ++ drop k m) w ∙ take-append-drop k m ∙ sym (none_sent m none)) (λ x. omega arith)

  -- 64 records or more: 64 are lent, and the machine does not read how many
  long_made : Held b tb → 384 ≤ length l → Made (call s₀ (asks (length l))) m l d tb' (ws ++ drop k m)
  long_made h g =
      let kl : k ≡ 384 = q ∙ sym (room_long (length l) g) in
      let e : take k m ≡ m = take_all k m (omega arith) in
      let n : length (take k m) ≡ 384 = ap length e ∙ z in
      let u : 64 ≤ length l / 6 = omega arith in
      let v : call s₀ (asks 384) ≡ call s₀ (asks (length l)) = room_unread (asks (length l)) 64 (omega arith) u s₀ in
      let t : ToldI (call s₀ (asks (length l))) (take k m) d tb' ws =
      subst (λ (x : OutcomeM). ToldI x (take k m) d tb' ws) (ap (λ (i : ℕ). call s₀ (asks i)) n ∙ v) (c.sound h)
      in
      let none : drop k m ≡ [] = drop_of_length-le m (let y : length m ≤ k = omega arith in y) in
      let w : ws ≡ sent m 0 (call s₀ (asks (length l))).replies = t.did.list ∙ ap (λ (x : List ℕ). sent x 0 (call s₀ (asks (length l))).replies) e in
      made_of m l t (ap (λ (x : List ℕ). ws ++ x) none ∙ append-nil ws ∙ w) (λ _. g)

  sound_made : Held b tb → Made (call s₀ (asks (length l))) m l d tb' (ws ++ drop k m)
  sound_made h = go (ltb (length l) 384) refl
    where
      go : (x : Bool) → ltb (length l) 384 ≡ x → Made (call s₀ (asks (length l))) m l d tb' (ws ++ drop k m)
      go true e = short_made h (ltb-true (length l) 384 e)
      go false e = long_made h (ltb-false (length l) 384 e)

  -- ---- so it may be laid

  pub may_lay : Laying (ws ++ drop k m) d.n l
  may_lay = held_or_not b tb sound (λ n. laying_none l (ws ++ drop k m) (c.unsound n).count)
    where
      sound : Held b tb → Laying (ws ++ drop k m) d.n l
      sound h =
          let y = sound_made h in
          let x = asks (length l) in
          let f = call-halves s₀ x h.sane in
          subst (λ (x : List ℕ). Laying x d.n l) (sym y.list)
          (laying_replies m (call s₀ x).replies y.count (call-replies s₀ x h.sane).1 y.room f.0 f.1)

  -- ---- and what is laid is the promise

  module _ {h : Halves} {l' : List ℕ} (y : Laid (ws ++ drop k m) d.n l h l') where
    abbrev out : Outcome
    out = record { answer = d.answer; state = d.state; a = h.a; b = h.b }

    sound-told : Held b tb → Told (call s₀ (asks (length l))) l out tb' l'
    sound-told g =
        let u = sound_made g in
        let rs = (call s₀ (asks (length l))).replies in
        let v = laid-replies m rs u.count (subst (λ (x : List ℕ). Laid x d.n l h l') u.list y) in
        record { answer = u.answer; struct = u.struct; table = u.table; numbers = (v.0, v.1); list = v.2 }

    unsound_unmoved : (Held b tb → ⊥) → Unmoved r b tb l out tb' l'
    unsound_unmoved n =
        let u = c.unsound n in
        let v = laid_none l (ws ++ drop k m) u.count y in
        record { answer = u.answer; state = u.state; numbers = (v.0, v.1); table = u.table; list = v.2 }

    pub was_called : Called o r b ms tb l out tb' l'
    was_called = record { sound = sound-told; unsound = unsound_unmoved }

-- ---- the display

module _ {o : Op} {r : Request} {b : Board} {ms tb : List ℕ} (l m : List ℕ) (z : length m ≡ 384) {k : ℕ} (q : k ≡ room_of (length l)) {dp dp' : List ℕ} where
  -- it does not show how much room is lent, but where there is too little
  pub was_shown : Shows o r b ms tb (take k m) dp dp' → Shows o r b ms tb l dp dp'
  was_shown c = record { sound = λ h. c.sound h ∙ go (ltb (length l) 384) refl; unsound = c.unsound }
    where
      go : (x : Bool) → ltb (length l) 384 ≡ x → displayed (state_in b tb) (asked_of o r ms (length (take k m))) dp ≡ displayed (state_in b tb) (asked_of o r ms (length l)) dp
      go true e =
          let u = ltb-true (length l) 384 e in
          let kl : k ≡ length l = q ∙ sym (room_short (length l) u) in
          ap (λ (n : ℕ). displayed (state_in b tb) (asked_of o r ms n) dp) (length-take-le k m (omega arith) ∙ kl)
      go false e =
          let u = ltb-false (length l) 384 e in
          let kl : k ≡ 384 = q ∙ sym (room_long (length l) u) in
          ap (λ (n : ℕ). displayed (state_in b tb) (asked_of o r ms n) dp) (length-take-le k m (omega arith) ∙ kl)
          ∙ displayed_room (asked_of o r ms (length l)) 64 (omega arith) (omega arith) (state_in b tb) dp

-- ---- on any bytes

module _ {o : Op} {r : Request} {ms st tb dp : List ℕ} (l m : List ℕ) (z : length m ≡ 384) {k : ℕ} (q : k ≡ room_of (length l)) {d : AnsweredI} {st' tb' ws dp' : List ℕ} (c : LentI o r ms st tb (take k m) dp d st' tb' ws dp') where
  pub may_lay_any : Laying (ws ++ drop k m) d.n l
  may_lay_any = whole_or_not st (λ w. may_lay l m z q (c.read w).1) (λ n. laying_none l (ws ++ drop k m) (c.unread n).count)

  pub was_lent : {h : Halves} {l' : List ℕ} → Laid (ws ++ drop k m) d.n l h l' → Lent o r ms st tb l dp (record { answer = d.answer; a = h.a; b = h.b }) st' tb' l' dp'
  was_lent y =
      record {
        read = λ w. let e = c.read w in (e.0, was_called l m z q e.1 y, was_shown l m z q e.2);
        unread =
            λ n. let u = c.unread n in
            let v = laid_none l (ws ++ drop k m) u.count y in
            record { answer = u.answer; numbers = (v.0, v.1); state = u.state; table = u.table; list = v.2; display = u.display };
      }
