-- What the promise of a desk's call comes to: no second outcome or display fits it, what is refused moves nothing, each half has at most 32
-- replies, and a sound state is followed by a sound state. Assumes nothing.
use Prim.Native.Nat.{ℕ, ◌+◌, ◌≤◌}
use mathlib.Core.Path.{◌≡◌, refl, ap, sym, subst, ◌∙◌}
use mathlib.Core.List.{List, []}
use native.Mathlib.Omega.{arith}
use lib.Dec.{T}
use lib.ListN.{length}
use Rattle.memory.specs.Splice.{splice}
use Rattle.memory.proofs.Splice.{splice_none}
use Rattle.answers.specs.machine.Numbers.{UNSOUND}
use Rattle.answers.specs.machine.Lists.{any, among, keep}
use Rattle.answers.specs.machine.State.{Reply, Outcome as OutcomeM}
use Rattle.answers.specs.machine.Desks.{DESK_A, DESK_B, HALF, replies_to}
use Rattle.answers.specs.machine.Commands.{done}
use Rattle.answers.specs.machine.Call.{call}
use Rattle.display.specs.machine_laws.Refusals.{refusals, mute, heard, own_reply}
use Rattle.display.proofs.machine_laws.Refusals.{refused_same, refused-mute, refused-heard}
use Rattle.display.proofs.machine_laws.Halves.{call-halves}
use Rattle.display.specs.machine_laws.Keeping.{Counted}
use Rattle.answers.specs.reply.Replies.{sent}
use Rattle.halves.specs.Halves.{laid}
use Rattle.answers.specs.store.Store.{table_of}
use Rattle.answers.specs.declared.Request.{Request}
use Rattle.answers.specs.declared.Answer.{Answer}
use Rattle.image.specs.board.declared.Board.{Board}
use Rattle.image.specs.board.declared.Outcome.{Outcome as OutcomeI}
use Rattle.image.specs.board.Board.{struct_of, state_in, Held, Told as ToldI}
use Rattle.arbiter.specs.refusals.declared.Op.{Op}
use Rattle.arbiter.specs.refusals.Refusals.{op_in, asked_of}
use Rattle.arbiter.specs.Arbiter.{Called as CalledI, Shows}
use Rattle.arbiter.proofs.Outcome.{held_or_not, held_after}
use Rattle.desk_call.specs.DeskCall.{Outcome, Told, Unmoved, Called, Same}

-- ---- the inner call that it stands for

-- the same outcome with its replies one behind the other
abbrev pub inner : OutcomeM → Outcome → OutcomeI
inner o d = record { answer = d.answer; state = d.state; n = 0 + length o.replies }

pub inner-told : {o : OutcomeM} {l : List ℕ} {d : Outcome} {tb' l' : List ℕ} → Told o l d tb' l' → ToldI o l (inner o d) tb' (sent l 0 o.replies)
inner-told t = record { answer = t.answer; did = record { struct = t.struct; table = t.table; list = refl; count = refl } }

pub inner-called : {o : Op} {r : Request} {b : Board} {ms tb l : List ℕ} {d : Outcome} {tb' l' : List ℕ} → Held b tb → Called o r b ms tb l d tb' l'
    → CalledI o r b ms tb l (inner (call (state_in b tb) (asked_of o r ms (length l))) d) tb' (sent l 0 (call (state_in b tb) (asked_of o r ms (length l))).replies)
inner-called h c = record { sound = λ _. inner-told (c.sound h); unsound = λ n. absurd (n h) }

-- ---- no second outcome fits

outcome_parts : (d d₂ : Outcome) → d.answer ≡ d₂.answer → d.state ≡ d₂.state → d.a ≡ d₂.a → d.b ≡ d₂.b → d ≡ d₂
outcome_parts d d₂ a s m n i = record { answer = a i; state = s i; a = m i; b = n i }

told_same : {o : OutcomeM} {l : List ℕ} {d d₂ : Outcome} {tb tb₂ l' l₂ : List ℕ} → Told o l d tb l' → Told o l d₂ tb₂ l₂ → Same d d₂ tb tb₂ l' l₂
told_same {d = d} {d₂ = d₂} t u =
    record {
      outcome =
          outcome_parts d d₂ (t.answer ∙ sym u.answer) (t.struct ∙ sym u.struct) (t.numbers.0 ∙ sym u.numbers.0) (t.numbers.1 ∙ sym u.numbers.1);
      table = t.table ∙ sym u.table;
      list = t.list ∙ sym u.list;
    }

unmoved_same : {r : Request} {b : Board} {tb l : List ℕ} {d d₂ : Outcome} {tb₁ tb₂ l₁ l₂ : List ℕ} → Unmoved r b tb l d tb₁ l₁ → Unmoved r b tb l d₂ tb₂ l₂
    → Same d d₂ tb₁ tb₂ l₁ l₂
unmoved_same {d = d} {d₂ = d₂} t u =
    record {
      outcome =
          outcome_parts d d₂ (t.answer ∙ sym u.answer) (t.state ∙ sym u.state) (t.numbers.0 ∙ sym u.numbers.0) (t.numbers.1 ∙ sym u.numbers.1);
      table = t.table ∙ sym u.table;
      list = t.list ∙ sym u.list;
    }

none_laid : (l : List ℕ) {rs : List Reply} → rs ≡ [] → laid l rs ≡ l
unfolding replies_to keep
none_laid l e = ap (laid l) e ∙ (splice_none (splice l 0 []) 192 ∙ splice_none l 0)

none_to : (d : ℕ) {rs : List Reply} → rs ≡ [] → length (replies_to d rs) ≡ 0
unfolding replies_to keep
none_to d e = ap (λ (x : List Reply). length (replies_to d x)) e

not_heard : T (among UNSOUND heard) → ⊥
unfolding among any
not_heard t = t

module _ {o : Op} {r : Request} {b : Board} {ms tb l : List ℕ} where
  pub one_call : {d d₂ : Outcome} {tb₁ tb₂ l₁ l₂ : List ℕ} → Called o r b ms tb l d tb₁ l₁ → Called o r b ms tb l d₂ tb₂ l₂ → Same d d₂ tb₁ tb₂ l₁ l₂
  one_call c e = held_or_not b tb (λ h. told_same (c.sound h) (e.sound h)) (λ n. unmoved_same (c.unsound n) (e.unsound n))

  -- nor a second display
  pub one_display : {dp dp₁ dp₂ : List ℕ} → Shows o r b ms tb l dp dp₁ → Shows o r b ms tb l dp dp₂ → dp₁ ≡ dp₂
  one_display c e = held_or_not b tb (λ h. c.sound h ∙ sym (e.sound h)) (λ n. c.unsound n ∙ sym (e.unsound n))

  module _ {d : Outcome} {tb₁ l₁ : List ℕ} (c : Called o r b ms tb l d tb₁ l₁) where
    -- the error that the code tells is the machine's
    error-told : (h : Held b tb) → d.answer.error ≡ (call (state_in b tb) (asked_of o r ms (length l))).answer.error
    error-told h = ap (λ (a : Answer). a.error) (c.sound h).answer

    -- ---- what is refused moves nothing

    -- "After 1, 2, 3, 4, 5, -1, -3, -4 or -5 the state is as before", and after 8: the board and every byte of the table
    pub refused_unmoved : T (among d.answer.error refusals) → (d.state ≡ b) × (tb₁ ≡ tb)
    refused_unmoved t = held_or_not b tb sound (λ n. ((c.unsound n).state, (c.unsound n).table))
      where
        sound : Held b tb → (d.state ≡ b) × (tb₁ ≡ tb)
        sound h =
            let g = c.sound h in
            let e = refused_same (state_in b tb) (asked_of o r ms (length l)) (subst (λ (x : ℕ). T (among x refusals)) (error-told h) t) in
            (g.struct ∙ ap struct_of e ∙ sym h.struct, g.table ∙ ap table_of e ∙ sym h.table)

    -- "After 1 to 5 the reply list is too", and after 8: no reply in either half, and every byte of the list
    pub refused-silent : T (among d.answer.error mute) → (d.a ≡ 0) × (d.b ≡ 0) × (l₁ ≡ l)
    refused-silent t = held_or_not b tb sound (λ n. ((c.unsound n).numbers.0, (c.unsound n).numbers.1, (c.unsound n).list))
      where
        sound : Held b tb → (d.a ≡ 0) × (d.b ≡ 0) × (l₁ ≡ l)
        sound h =
            let g = c.sound h in
            let e = refused-mute (state_in b tb) (asked_of o r ms (length l)) (subst (λ (x : ℕ). T (among x mute)) (error-told h) t) in
            (g.numbers.0 ∙ none_to 0 e, g.numbers.1 ∙ none_to 1 e, g.list ∙ none_laid l e)

    -- "after -3, -4 and -5 it gains only the command's own reply, if due", in the half of its id; after -1, which only OPEN gets, none
    pub refused-replied : T (among d.answer.error heard) → l₁ ≡ laid l (own_reply (op_in o r.command) (asked_of o r ms (length l)) d.answer.error)
    unfolding done
    refused-replied t = held_or_not b tb sound (λ n. absurd (not_heard (subst (λ (x : ℕ). T (among x heard)) (ap (λ (a : Answer). a.error) (c.unsound n).answer) t)))
      where
        sound : Held b tb → l₁ ≡ laid l (own_reply (op_in o r.command) (asked_of o r ms (length l)) d.answer.error)
        sound h =
            let k = error-told h in
            let e = refused-heard (state_in b tb) (asked_of o r ms (length l)) (subst (λ (x : ℕ). T (among x heard)) k t) in
            (c.sound h).list ∙ ap (laid l) (e ∙ ap (own_reply (op_in o r.command) (asked_of o r ms (length l))) (sym k))

    -- ---- each half has at most 32 replies
    pub few_each_half : (d.a ≤ HALF) × (d.b ≤ HALF)
    few_each_half = held_or_not b tb sound (λ n. let u = (c.unsound n).numbers.0 in let v = (c.unsound n).numbers.1 in (omega arith, omega arith))
      where
        sound : Held b tb → (d.a ≤ HALF) × (d.b ≤ HALF)
        sound h =
            let f = call-halves (state_in b tb) (asked_of o r ms (length l)) h.sane in
            let u = (c.sound h).numbers.0 in
            let v = (c.sound h).numbers.1 in
            let p = f.0 in
            let q = f.1 in
            (omega arith, omega arith)

    -- ---- a sound state is followed by a sound state: the one that the machine names
    pub sound-after : Held b tb → (r.prec ≤ 255) × (r.key ≤ 65535) → Counted (op_in o r.command) (asked_of o r ms (length l))
        → Held d.state tb₁ × (state_in d.state tb₁ ≡ (call (state_in b tb) (asked_of o r ms (length l))).next)
    sound-after h g y = held_after o r ms l h g y (inner-told (c.sound h))
