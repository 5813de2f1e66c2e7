-- What the promise of a call comes to: no second outcome fits it, what is refused moves nothing, and a sound state is followed
-- by a sound state. Assumes nothing.
use Prim.Native.Nat.{ℕ, ◌+◌, ◌≤◌, ◌<◌}
use mathlib.Core.Path.{◌≡◌, refl, ap, sym, subst, ◌∙◌}
use mathlib.Core.Bool.{Bool, true, false}
use mathlib.Core.List.{List, []}
use lib.Dec.{T, leb, le→leb}
use lib.ListN.{length, get_or}
use Rattle.memory.proofs.Splice.{splice_none}
use Rattle.answers.specs.machine.Numbers.{UNSOUND}
use Rattle.answers.specs.machine.Lists.{any, among}
use Rattle.answers.specs.machine.State.{Reply, Outcome as OutcomeM}
use Rattle.answers.specs.machine.Commands.{done}
use Rattle.answers.specs.machine.Call.{call, in_range}
use Rattle.answers.proofs.machine.Tests.{and_both}
use Rattle.display.proofs.machine_laws.Sound.{parts}
use Rattle.display.specs.machine_laws.Refusals.{refusals, mute, heard, own_reply}
use Rattle.display.proofs.machine_laws.Refusals.{refused_same, refused-mute, refused-heard}
use Rattle.display.specs.machine_laws.Keeping.{Counted}
use Rattle.display.proofs.machine_laws.KeepingCalls.{call-sound}
use Rattle.display.proofs.machine_laws.Board.{call-wide}
use Rattle.answers.specs.reply.Replies.{sent}
use Rattle.answers.specs.store.Store.{table_of}
use Rattle.image.specs.board.declared.Board.{Board}
use Rattle.image.specs.board.declared.Outcome.{Outcome}
use Rattle.image.specs.board.Board.{sized, struct_of, state_in, Held, Told}
use Rattle.image.proofs.board.Laws.{held_next}
use Rattle.sound.specs.Sound.{Decides, board_test}
use Rattle.sound.proofs.Own.{decides}
use Rattle.answers.specs.declared.Request.{Request}
use Rattle.answers.specs.declared.Answer.{Answer}
use Rattle.deciding.specs.refusals.declared.Op.{Op}
use Rattle.deciding.specs.refusals.Refusals.{op_in, asked_of}
use Rattle.arbiter.specs.Arbiter.{Unmoved, Handled, Called}
use Rattle.deciding.proofs.refusing.Laws.{false_true}
use Rattle.deciding.proofs.Laws.{bytes-cycles}
use Rattle.arbiter.specs.Outcome.{Same}

outcome_parts : (d d₂ : Outcome) → d.answer ≡ d₂.answer → d.state ≡ d₂.state → d.n ≡ d₂.n → d ≡ d₂
outcome_parts d d₂ a s n i = record { answer = a i; state = s i; n = n i }

pub one_telling : {o : OutcomeM} {l : List ℕ} {d d₂ : Outcome} {tb tb₂ l' l₂ : List ℕ} → Told o l d tb l' → Told o l d₂ tb₂ l₂
    → Same d d₂ tb tb₂ l' l₂
one_telling {d = d} {d₂ = d₂} t u =
    record {
      outcome = outcome_parts d d₂ (t.answer ∙ sym u.answer) (t.did.struct ∙ sym u.did.struct) (t.did.count ∙ sym u.did.count);
      table = t.did.table ∙ sym u.did.table;
      list = t.did.list ∙ sym u.did.list;
    }

-- a board and a table hold a sound state, or they do not
pub held_or_not {ℓ} : {R : Type ℓ} (b : Board) (tb : List ℕ) → (Held b tb → R) → ((Held b tb → ⊥) → R) → R
held_or_not {R = R} b tb y n = go (board_test b tb) (decides b tb)
  where
    go : (x : Bool) → Decides x (Held b tb) → R
    go true d = y (d.only refl)
    go false d = n (λ h. false_true (d.always h))

unmoved_same : {r : Request} {b : Board} {tb l : List ℕ} {d d₂ : Outcome} {tb₁ tb₂ l₁ l₂ : List ℕ} → Unmoved r b tb l d tb₁ l₁ → Unmoved r b tb l d₂ tb₂ l₂
    → Same d d₂ tb₁ tb₂ l₁ l₂
unmoved_same {d = d} {d₂ = d₂} t u =
    record {
      outcome = outcome_parts d d₂ (t.answer ∙ sym u.answer) (t.state ∙ sym u.state) (t.count ∙ sym u.count);
      table = t.table ∙ sym u.table;
      list = t.list ∙ sym u.list;
    }

not_heard : T (among UNSOUND heard) → ⊥
unfolding among any
not_heard t = t

module _ {o : Op} {r : Request} {b : Board} {ms tb l : List ℕ} where
  -- no second outcome fits
  pub one_outcome : {d d₂ : Outcome} {tb₁ tb₂ l₁ l₂ : List ℕ} → Called o r b ms tb l d tb₁ l₁ → Called o r b ms tb l d₂ tb₂ l₂
      → Same d d₂ tb₁ tb₂ l₁ l₂
  one_outcome c e = held_or_not b tb (λ h. one_telling (c.sound h) (e.sound h)) (λ n. unmoved_same (c.unsound n) (e.unsound n))

  -- nor of a call on a state that is known to be sound
  pub one_handling : {d d₂ : Outcome} {tb₁ tb₂ l₁ l₂ : List ℕ} → Handled o r b ms tb l d tb₁ l₁ → Handled o r b ms tb l d₂ tb₂ l₂
      → Same d d₂ tb₁ tb₂ l₁ l₂
  one_handling c e = one_telling c.told e.told

  -- "After 1, 2, 3, 4, 5, -1, -3, -4 or -5 the state is as before": the board and every byte of the table
  pub refused_unmoved : {d : Outcome} {tb₁ l₁ : List ℕ} → Called o r b ms tb l d tb₁ l₁ → T (among d.answer.error refusals)
      → (d.state ≡ b) × (tb₁ ≡ tb)
  refused_unmoved {d} {tb₁} c t = held_or_not b tb sound (λ n. ((c.unsound n).state, (c.unsound n).table))
    where
      sound : Held b tb → (d.state ≡ b) × (tb₁ ≡ tb)
      sound h =
          let g = c.sound h in
          let e : (call (state_in b tb) (asked_of o r ms (length l))).next ≡ state_in b tb = refused_same (state_in b tb) (asked_of o r ms (length l)) (rw (← ap (λ (a : Answer). a.error) g.answer) t) in
          (g.did.struct ∙ ap struct_of e ∙ sym h.struct, g.did.table ∙ ap table_of e ∙ sym h.table)

  -- "After 1 to 5 the reply list is too": no reply, and every byte of the list
  pub refused-silent : {d : Outcome} {tb₁ l₁ : List ℕ} → Called o r b ms tb l d tb₁ l₁ → T (among d.answer.error mute)
      → (d.n ≡ 0) × (l₁ ≡ l)
  refused-silent {d} {tb₁} {l₁} c t = held_or_not b tb sound (λ n. ((c.unsound n).count, (c.unsound n).list))
    where
      sound : Held b tb → (d.n ≡ 0) × (l₁ ≡ l)
      sound h =
          let g = c.sound h in
          let e : (call (state_in b tb) (asked_of o r ms (length l))).replies ≡ [] = refused-mute (state_in b tb) (asked_of o r ms (length l)) (rw (← ap (λ (a : Answer). a.error) g.answer) t) in
          (g.did.count ∙ ap (λ (x : List Reply). 0 + length x) e, g.did.list ∙ ap (sent l 0) e ∙ splice_none l 0)

  -- "after -3, -4 and -5 it gains only the command's own reply, if due"; after -1, which only OPEN gets, none
  pub refused-replied : {d : Outcome} {tb₁ l₁ : List ℕ} → Called o r b ms tb l d tb₁ l₁ → T (among d.answer.error heard)
      → l₁ ≡ sent l 0 (own_reply (op_in o r.command) (asked_of o r ms (length l)) d.answer.error)
  unfolding done
  refused-replied {d} {tb₁} {l₁} c t = held_or_not b tb sound (λ n. absurd (not_heard (subst (λ (x : ℕ). T (among x heard)) (ap (λ (a : Answer). a.error) (c.unsound n).answer) t)))
    where
      sound : Held b tb → l₁ ≡ sent l 0 (own_reply (op_in o r.command) (asked_of o r ms (length l)) d.answer.error)
      sound h =
          let g = c.sound h in
          let k : d.answer.error ≡ (call (state_in b tb) (asked_of o r ms (length l))).answer.error = ap (λ (a : Answer). a.error) g.answer in
          let e = refused-heard (state_in b tb) (asked_of o r ms (length l)) (subst (λ (x : ℕ). T (among x heard)) k t) in
          g.did.list ∙ ap (sent l 0) (e ∙ ap (own_reply (op_in o r.command) (asked_of o r ms (length l))) (sym k))

-- a sound state is followed by a sound state: the one that the machine names
pub held_after : (o : Op) (r : Request) (ms l : List ℕ) {b : Board} {tb : List ℕ} {d : Outcome} {tb₁ l₁ : List ℕ} → Held b tb
    → (r.prec ≤ 255) × (r.key ≤ 65535) → Counted (op_in o r.command) (asked_of o r ms (length l)) → Told (call (state_in b tb) (asked_of o r ms (length l))) l d tb₁ l₁
    → Held d.state tb₁ × (state_in d.state tb₁ ≡ (call (state_in b tb) (asked_of o r ms (length l))).next)
unfolding in_range
held_after o r ms l {b} {tb} {d} {tb₁} h g y t =
    let c = asked_of o r ms (length l) in
    let p = call-sound (state_in b tb) c (and_both (leb r.prec 255) (leb r.key 65535) (le→leb r.prec 255 g.0) (le→leb r.key 65535 g.1)) y h.sane in
    held_next (call (state_in b tb) c).next d.state tb₁ (parts _ p) (subst (λ (n : ℕ). T (sized n)) (sym (call-wide (state_in b tb) c)) h.size) t.did.struct t.did.table

pub handled : (o : Op) (r : Request) (ms l : List ℕ) {b : Board} {tb : List ℕ} {d : Outcome} {tb₁ l₁ : List ℕ} → Held b tb
    → (r.prec ≤ 255) × (r.key ≤ 65535) → ((i : ℕ) → get_or ms i 0 < 256) → Told (call (state_in b tb) (asked_of o r ms (length l))) l d tb₁ l₁
    → Handled o r b ms tb l d tb₁ l₁
handled o r ms l h g y t = let k = held_after o r ms l h g (λ _. bytes-cycles ms y) t in record { told = t; kept = k.0; next = k.1 }
