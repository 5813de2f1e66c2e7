-- The display after a call: what is corrected on eight channels is what the machine says of the board's own. Assumes nothing.
use Prim.Native.Nat.{ℕ, ◌-◌, ◌≤◌, ◌<◌}
use mathlib.Core.Path.{◌≡◌, refl, ap, ap₂, sym, subst, ◌∙◌}
use mathlib.Core.List.{List, ◌++◌, map}
use native.Mathlib.Omega.{arith}
use lib.ListN.{length, get_or, take}
use lib.Seq.{length-take-le}
use Rattle.answers.specs.machine.State.{State as StateM, Outcome, Call, Request as Waiting}
use Rattle.answers.specs.machine.Refusals.{Refusal, refusal}
use Rattle.answers.specs.machine.Call.{answering, call}
use Rattle.answers.specs.machine.InBytes.{two_bytes}
use Rattle.display.proofs.machine_laws.Board.{call-wide as call_as_wide}
use Rattle.widening.specs.Widening.{widen}
use Rattle.display.specs.Looks.{looked_by, looked}
use Rattle.display.specs.Display.{NUMBERS, corrected, looks_of, displayed}
use Rattle.display.proofs.Looks.{looked_most}
use Rattle.deciding.specs.lanes.Lanes.{Balanced}
use Rattle.correcting.specs.channel_numbers.ChannelNumbers.{count_at, moved, Moves}
use Rattle.correcting.proofs.channel_numbers.Laws.{moves_held, moved-corrected}
use Rattle.display.proofs.Wide.{looked-wide, corrected-wide}
use Rattle.answers.specs.store.declared.State.{State}
use Rattle.answers.specs.store.Store.{state_in as wide_in, Held as WideHeld}
use Rattle.answers.specs.declared.Request.{Request}
use Rattle.answers.specs.declared.Outcome.{Outcome as WideOutcome}
use Rattle.answers.specs.Answers.{Told as WideTold}
use Rattle.image.specs.board.declared.Board.{Board}
use Rattle.image.specs.board.Board.{state_in, Held}
use Rattle.image.proofs.board.Laws.{held_parts, held_wide}
use Rattle.deciding.specs.refusals.declared.Op.{Op}
use Rattle.deciding.specs.refusals.Refusals.{asked_of, Refuses}
use Rattle.deciding.specs.Deciding.{decision_of, Moved}
use Rattle.arbiter.proofs.Own.{in_range_lem, decision, done-wide, own_told}
use Rattle.arbiter.proofs.Outcome.{handled}
use Rattle.arbiter.specs.Arbiter.{Handled, Shown}

module _ (l : List ℕ) {o : Op} {r : Request} {b : Board} {ms tb : List ℕ} {e : ℕ} (h : Held b tb) (g : (r.prec ≤ 255) × (r.key ≤ 65535)) (w : Refuses o r b ms tb (length l) e)
    (y : (i : ℕ) → get_or ms i 0 < 256) where
  abbrev c₀ : Call
  c₀ = asked_of o r ms (length l)

  abbrev u₀ : StateM
  u₀ = state_in b tb

  abbrev k₀ : ℕ
  k₀ = 8 - length u₀.channels

  -- the looks of eight channels are the board's
  looks_own : (k : ℕ) → looked_by (decision_of e) c₀ (wide_in b.state tb) k ≡ looked u₀ c₀ k
  looks_own k =
      ap₂ (λ (f : Refusal) (s : StateM). looked_by f c₀ s k) (decision l h g w) (held_wide h).1 ∙ looked-wide k₀ u₀ c₀ k (held_parts h) (in_range_lem l h g w)

  looks_fit : {k x : ℕ} → k < 65536 → x ≡ looked_by (decision_of e) c₀ (wide_in b.state tb) k → x < 65536
  looks_fit {k} {x} f q = let a = looked_most 65535 k (omega arith) (omega arith) u₀ c₀ in omega (arith, a, q ∙ looks_own k)

  module _ {d : WideOutcome} {tb' l' : List ℕ} (t : WideTold (answering (decision_of e) c₀ (wide_in b.state tb)) l d tb' l') where
    abbrev after : Board
    after = record { width = b.width; state = d.state }

    pub done : Handled o r b ms tb l (record { answer = d.answer; state = after; n = d.n }) tb' l'
    done = handled o r ms l h g y (own_told l h g w t)

    after_held : WideHeld d.state tb'
    after_held = (held_wide done.kept).0

    after_is : wide_in d.state tb' ≡ widen k₀ (call u₀ c₀).next
    after_is =
        (held_wide done.kept).1 ∙ (ap (λ (s : StateM). widen (8 - length s.channels) s) done.next ∙ ap (λ (n : ℕ). widen (8 - n) (call u₀ c₀).next) (call_as_wide u₀ c₀))

    -- how far the numbers move
    moves : {left joined : ℕ} → Balanced (wide_in b.state tb).waiting (answering (decision_of e) c₀ (wide_in b.state tb)).next.waiting left joined
        → Moves (wide_in b.state tb) (wide_in d.state tb') (count_at (map (λ c. c.writes.n) d.state.channels) joined) (count_at (map (λ c. c.writes.n) b.state.channels) left)
    moves {left} {joined} v =
        moves_held (held_wide h).0 after_held
        (subst (λ (ws : List Waiting). Balanced (wide_in b.state tb).waiting ws left joined)
        (ap (λ (u : Outcome). u.next.waiting) (done-wide l h g w) ∙ sym (ap (λ (s : StateM). s.waiting) after_is)) v)

    pub looks_few : {k x : ℕ} → k < 65536 → x ≡ looked_by (decision_of e) c₀ (wide_in b.state tb) k → x < 65536
    looks_few f q = looks_fit f q

    pub shown : (dp : List ℕ) → length dp ≡ 18 → {dp' : List ℕ} {k x left joined : ℕ} → k ≡ looks_of dp → x ≡ looked_by (decision_of e) c₀ (wide_in b.state tb) k
        → Moved (decision_of e) c₀ (wide_in b.state tb) left joined
        → dp' ≡ moved (count_at (map (λ c. c.writes.n) d.state.channels) joined) (count_at (map (λ c. c.writes.n) b.state.channels) left) 0 (take 16 dp) ++ two_bytes x
        → Shown o r b ms tb l dp dp'
    unfolding displayed
    shown dp f {dp'} {k} {x} m q v z =
        let n : length (take 16 dp) ≡ 16 = length-take-le 16 dp (omega (arith, f)) in
        z
        ∙ (ap (λ (xs : List ℕ). xs ++ two_bytes x) (moved-corrected (moves v.balance) 0 (take 16 dp) (omega (arith, n)))
        ∙ (ap₂ (λ (s u : StateM). corrected s u 0 (take 16 dp) ++ two_bytes x) (held_wide h).1 after_is
        ∙ ap₂ (λ (xs : List ℕ) (n : ℕ). xs ++ two_bytes n) (corrected-wide k₀ u₀ (call u₀ c₀).next 0 (take 16 dp))
        (q ∙ (looks_own k ∙ ap (looked u₀ c₀) m))))
