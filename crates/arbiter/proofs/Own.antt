-- From eight channels to the board's own: what is decided by the board's refusal, done on eight channels, is the machine's call on
-- the board's own (crate `widening`). Assumes nothing.
use Prim.Native.Nat.{ℕ, zero, suc, ◌-◌, ◌≤◌, ◌<◌}
use mathlib.Core.Path.{◌≡◌, ap, sym, subst, ◌∙◌}
use mathlib.Core.Bool.{Bool, false}
use mathlib.Core.List.{List}
use native.Mathlib.Omega.{arith}
use lib.Dec.{T, leb, le→leb, leb→le}
use lib.ListN.{length, get_or}
use Rattle.answers.specs.machine.State.{State as StateM, Call}
use Rattle.answers.specs.machine.Refusals.{Refusal, accepted, refusal}
use Rattle.answers.specs.machine.Call.{answering, call, in_range}
use Rattle.answers.proofs.machine.Tests.{and_both}
use Rattle.display.proofs.machine_laws.Board.{call-wide as call_as_wide}
use Rattle.widening.specs.Widening.{widen, widen_o}
use Rattle.widening.proofs.Calls.{call-wide, accepted-wide}
use Rattle.answers.specs.store.Store.{state_in as wide_in, struct_of as wide_of}
use Rattle.sound.specs.Sound.{Decides}
use Rattle.answers.specs.declared.Request.{Request}
use Rattle.answers.specs.declared.Outcome.{Outcome as WideOutcome}
use Rattle.answers.specs.Answers.{Told as WideTold}
use Rattle.answers.proofs.Laws.{told_as}
use Rattle.image.specs.board.declared.Board.{Board}
use Rattle.image.specs.board.declared.Outcome.{Outcome}
use Rattle.image.specs.board.Board.{state_in, Held, Told}
use Rattle.image.proofs.board.Laws.{table-wide, held_parts, held_width, held_wide}
use Rattle.deciding.specs.steps.Steps.{number_of}
use Rattle.deciding.specs.refusals.declared.Op.{Op}
use Rattle.deciding.specs.refusals.Refusals.{op_in, asked_of, Refuses}
use Rattle.deciding.proofs.refusing.Laws.{false_true}
use Rattle.deciding.specs.Deciding.{decision_of, Decided}
use Rattle.deciding.proofs.Laws.{number-refused, zero_accepted, late_room}
use Rattle.arbiter.specs.Arbiter.{Unmoved, Called, Shown, Shows}

module _ (l : List ℕ) {o : Op} {r : Request} {b : Board} {ms tb : List ℕ} {e : ℕ} (h : Held b tb) (g : (r.prec ≤ 255) × (r.key ≤ 65535)) (w : Refuses o r b ms tb (length l) e) where
  abbrev c₀ : Call
  c₀ = asked_of o r ms (length l)

  abbrev u₀ : StateM
  u₀ = state_in b tb

  abbrev k₀ : ℕ
  k₀ = 8 - length u₀.channels

  within : length u₀.channels ≤ 8
  within = leb→le (length u₀.channels) 8 (held_parts h).most

  pub in_range_lem : T (in_range c₀)
  unfolding in_range
  in_range_lem = and_both (leb r.prec 255) (leb r.key 65535) (le→leb r.prec 255 g.0) (le→leb r.key 65535 g.1)

  -- the number decides as the machine does
  pub decision : decision_of e ≡ refusal c₀.op c₀ u₀
  decision = go e w.number
    where
      go : (x : ℕ) → x ≡ number_of (refusal (op_in o r.command) (asked_of o r ms (length l)) (state_in b tb)) → decision_of x ≡ refusal (op_in o r.command) (asked_of o r ms (length l)) (state_in b tb)
      go zero q = sym (zero_accepted (op_in o r.command) (asked_of o r ms (length l)) (state_in b tb) q)
      go (suc x) q = sym (number-refused (refusal (op_in o r.command) (asked_of o r ms (length l)) (state_in b tb)) (suc x) q (λ z. omega arith))

  pub may_decide : ((i : ℕ) → get_or ms i 0 < 256) → Decided o e r b.state ms tb l
  may_decide y =
      record {
        held = (held_wide h).0;
        range = g;
        bytes = y;
        room =
            λ f. let z = late_room (op_in o r.command) c₀ u₀ e (number-refused (refusal (op_in o r.command) c₀ u₀) e w.number (λ q. omega arith)) (omega (arith, f)) in
            omega arith;
        allows =
            λ z. let a = zero_accepted (op_in o r.command) c₀ u₀ (sym z ∙ w.number) in
            let n = within in
            subst (λ (x : StateM). refusal (op_in o r.command) c₀ x ≡ accepted) (sym (held_wide h).1) (accepted-wide k₀ c₀ u₀ (held_parts h) (omega arith) (op_in o r.command) a);
      }

  pub done-wide : answering (decision_of e) c₀ (wide_in b.state tb) ≡ widen_o k₀ (call u₀ c₀)
  done-wide =
      ap (λ (x : Refusal). answering x c₀ (wide_in b.state tb)) decision
      ∙ (ap (answering (refusal c₀.op c₀ u₀) c₀) (held_wide h).1 ∙ call-wide k₀ u₀ c₀ (held_parts h) in_range_lem)

  -- what was told of eight channels is told of the board
  pub own_told : {d : WideOutcome} {tb' l' : List ℕ} → WideTold (answering (decision_of e) c₀ (wide_in b.state tb)) l d tb' l'
      → Told (call u₀ c₀) l (record { answer = d.answer; state = record { width = b.width; state = d.state }; n = d.n }) tb' l'
  own_told {d} {tb'} {l'} t =
      let s : StateM = (call u₀ c₀).next in
      let v : WideTold (widen_o k₀ (call u₀ c₀)) l d tb' l' = told_as (sym done-wide) t in
      let n : length s.channels ≡ length u₀.channels = call_as_wide u₀ c₀ in
      let a : b.width ≡ length s.channels = held_width h ∙ sym n in
      let k : d.state ≡ wide_of (widen (8 - length s.channels) s) = v.did.struct ∙ ap (λ (x : ℕ). wide_of (widen (8 - x) s)) (sym n) in
      record {
        answer = v.answer;
        did =
            record {
              struct = λ i. record { width = a i; state = k i };
              table = v.did.table ∙ table-wide k₀ s;
              list = v.did.list;
              count = v.did.count;
            };
      }

-- ---- the promise

module _ {o : Op} {r : Request} {b : Board} {ms tb l : List ℕ} {d : Outcome} {tb' l' : List ℕ} where
  pub unsound-called : {x : Bool} → Decides x (Held b tb) → x ≡ false → Unmoved r b tb l d tb' l' → Called o r b ms tb l d tb' l'
  unsound-called x q u = record { sound = λ h. absurd (false_true (sym q ∙ x.always h)); unsound = λ _. u }

  pub sound-called : Held b tb → Told (call (state_in b tb) (asked_of o r ms (length l))) l d tb' l' → Called o r b ms tb l d tb' l'
  sound-called h t = record { sound = λ _. t; unsound = λ n. absurd (n h) }

module _ {o : Op} {r : Request} {b : Board} {ms tb l dp dp' : List ℕ} where
  pub unsound-shows : {x : Bool} → Decides x (Held b tb) → x ≡ false → dp' ≡ dp → Shows o r b ms tb l dp dp'
  unsound-shows x q e = record { sound = λ h. absurd (false_true (sym q ∙ x.always h)); unsound = λ _. e }

  pub sound-shows : Held b tb → Shown o r b ms tb l dp dp' → Shows o r b ms tb l dp dp'
  sound-shows h e = record { sound = λ _. e; unsound = λ n. absurd (n h) }
