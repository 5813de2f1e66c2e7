-- Both assurances of the machine, read off a log: the state after lines is the state after their calls, and the display too, since a
-- malformed line leaves both. A line that leaves the state is not seen by those behind it. That holds of a malformed one as well.
-- Witness.antt is named here so that its tables are computed first: a wrong definition is told by an example.
-- Assumes nothing.
use Prim.Native.Nat.{ℕ, suc}
use mathlib.Core.Path.{◌≡◌, refl, ap, sym, subst, ◌∙◌}
use mathlib.Core.List.{List, [], ◌∷◌, ◌++◌, append_assoc}
use mathlib.Core.Option.{Option, none, some}
use lib.Dec.{T}
use lib.ListN.{length, take}
use Rattle.machine.specs.State.{State, Call, fresh_on}
use Rattle.machine.specs.Commands.{silent}
use Rattle.machine.specs.Log.{outcome_of, feed, run}
use Rattle.display.specs.Display.{NUMBERS, blank, displayed_by}
use Rattle.display.specs.Runs.{after_calls, shown_after}
use Rattle.slipped.specs.nothing_left.NothingLeft.{NothingLeft}
use Rattle.slipped.proofs.nothing_left.NothingLeft.{nothing_left_standing}
use Rattle.slipped.specs.Slipped.{mild, leaving_out, settles_one}
use Rattle.slipped.proofs.Inserting.{leaving_middle}
use Rattle.slipped.proofs.Slipped.{slips-mild, mild-stays, mild_unseen, fresh_left}
use Rattle.inspected_lines.specs.Lines.{call_in, together, calls_in, slips_by, outputs, shown_by, LeftLog, Inserted, SlippedLog}
use Rattle.inspected_lines.proofs.Witness.{written_with}

-- ---- the calls of a log

outcome-after : (s : State) (o : Option Call) (cs : List Call) → after_calls (outcome_of s o).next cs ≡ after_calls s (together o cs)
unfolding outcome_of together after_calls silent
outcome-after s none cs = refl
outcome-after s (some c) cs = refl

pub run_after : (s : State) (ls : List (List ℕ)) → (run s ls).next ≡ after_calls s (calls_in ls)
unfolding run feed calls_in after_calls
run_after s [] = refl
run_after s (l ∷ ls) = run_after (outcome_of s (call_in l)).next ls ∙ outcome-after s (call_in l) (calls_in ls)

shown-together : (s : State) (o : Option Call) (cs : List Call) (d : List ℕ) → shown_after (outcome_of s o).next cs (displayed_by s o d) ≡ shown_after s (together o cs) d
unfolding outcome_of together shown_after displayed_by silent
shown-together s none cs d = refl
shown-together s (some c) cs d = refl

pub shown-after : (s : State) (ls : List (List ℕ)) (d : List ℕ) → shown_by s ls d ≡ shown_after s (calls_in ls) d
unfolding shown_by feed calls_in shown_after
shown-after s [] d = refl
shown-after s (l ∷ ls) d = shown-after (outcome_of s (call_in l)).next ls (displayed_by s (call_in l) d) ∙ shown-together s (call_in l) (calls_in ls) d

together-append : (o : Option Call) (xs ys : List Call) → together o (xs ++ ys) ≡ together o xs ++ ys
unfolding together
together-append none xs ys = refl
together-append (some c) xs ys = refl

pub calls-append : (xs ys : List (List ℕ)) → calls_in (xs ++ ys) ≡ calls_in xs ++ calls_in ys
unfolding calls_in
calls-append [] ys = refl
calls-append (l ∷ xs) ys = ap (together (call_in l)) (calls-append xs ys) ∙ together-append (call_in l) (calls_in xs) (calls_in ys)

-- ---- the first assurance

pub nothing_left_by_a_log : LeftLog
nothing_left_by_a_log n ls = subst NothingLeft (sym (run_after (fresh_on n) ls)) (nothing_left_standing n (calls_in ls))

-- ---- a line that leaves the state

run_append : (s : State) (xs ys : List (List ℕ)) → (run s (xs ++ ys)).output ≡ (run s xs).output ++ (run (run s xs).next ys).output
unfolding run
run_append s [] ys = refl
run_append s (x ∷ xs) ys =
    ap (λ (z : List ℕ). (feed s x).output ++ z) (run_append (feed s x).next xs ys) ∙ sym (append_assoc (feed s x).output (run (feed s x).next xs).output _)

next_append : (s : State) (xs ys : List (List ℕ)) → (run s (xs ++ ys)).next ≡ (run (run s xs).next ys).next
unfolding run
next_append s [] ys = refl
next_append s (x ∷ xs) ys = next_append (feed s x).next xs ys

outputs-append : (s : State) (xs ys : List (List ℕ)) → outputs s (xs ++ ys) ≡ outputs s xs ++ outputs (run s xs).next ys
unfolding run outputs
outputs-append s [] ys = refl
outputs-append s (x ∷ xs) ys = ap (λ (os : List (List ℕ)). (feed s x).output ∷ os) (outputs-append (feed s x).next xs ys)

outputs-length : (s : State) (xs : List (List ℕ)) → length (outputs s xs) ≡ length xs
unfolding outputs
outputs-length s [] = refl
outputs-length s (x ∷ xs) = ap suc (outputs-length (feed s x).next xs)

module _ (s : State) (before : List (List ℕ)) (l : List ℕ) (behind : List (List ℕ)) (e : (feed (run s before).next l).next ≡ (run s before).next) where
  abbrev t₀ : State
  t₀ = (run s before).next

  others_same : leaving_out (length before) (outputs s (before ++ l ∷ behind)) ≡ outputs s (before ++ behind)
  unfolding outputs
  others_same =
      ap (leaving_out (length before)) (outputs-append s before (l ∷ behind))
      ∙ leaving_middle (length before) (outputs s before) (feed t₀ l).output (outputs (feed t₀ l).next behind) (outputs-length s before)
      ∙ ap (λ (u : State). outputs s before ++ outputs u behind) e
      ∙ sym (outputs-append s before behind)

  written-within : (run s (before ++ l ∷ behind)).output ≡ (run s before).output ++ ((feed t₀ l).output ++ (run t₀ behind).output)
  unfolding run
  written-within = run_append s before (l ∷ behind) ∙ ap (λ (u : State). (run s before).output ++ ((feed t₀ l).output ++ (run u behind).output)) e

  state_same : (run s (before ++ l ∷ behind)).next ≡ (run s (before ++ behind)).next
  unfolding run
  state_same = next_append s before (l ∷ behind) ∙ ap (λ (u : State). (run u behind).next) e ∙ sym (next_append s before behind)

  -- what is left is the display
  inserted_by : take NUMBERS (shown_by s (before ++ l ∷ behind) blank) ≡ take NUMBERS (shown_by s (before ++ behind) blank)
      → (T (settles_one t₀ (calls_in behind)) → shown_by s (before ++ l ∷ behind) blank ≡ shown_by s (before ++ behind) blank) → Inserted s before l behind
  inserted_by n k =
      record { others = others_same; written = written-within; unwritten = run_append s before behind; state = state_same; numbers = n; looks = k }

feed_by : (s : State) (l : List ℕ) (o : Option Call) → call_in l ≡ o → (feed s l).next ≡ (outcome_of s o).next
unfolding feed
feed_by s l o e = ap (λ (x : Option Call). (outcome_of s x).next) e

calls_by : (before : List (List ℕ)) (l : List ℕ) (behind : List (List ℕ)) (o : Option Call) → call_in l ≡ o
    → calls_in (before ++ l ∷ behind) ≡ calls_in before ++ together o (calls_in behind)
unfolding calls_in
calls_by before l behind o e = calls-append before (l ∷ behind) ∙ ap (λ (x : Option Call). calls_in before ++ together x (calls_in behind)) e

-- ---- the second assurance

module _ (n : ℕ) (before : List (List ℕ)) (l : List ℕ) (behind : List (List ℕ)) where
  abbrev s₀ : State
  s₀ = fresh_on n

  -- what is asked of the id is not needed
  pub mild_line_unseen : (c : Call) → call_in l ≡ some c → T (mild (run s₀ before).next c) → Inserted s₀ before l behind
  unfolding outcome_of together
  mild_line_unseen c e t =
      let r = run_after s₀ before in
      let stays = feed_by (run s₀ before).next l (some c) e ∙ mild-stays (run s₀ before).next c (nothing_left_by_a_log n before) t in
      let m = mild_unseen s₀ (calls_in before) c (calls_in behind) (fresh_left n) (subst (λ (x : State). T (mild x c)) r t) in
      let a = shown-after s₀ (before ++ l ∷ behind) blank ∙ ap (λ (cs : List Call). shown_after s₀ cs blank) (calls_by before l behind (some c) e) in
      let b = shown-after s₀ (before ++ behind) blank ∙ ap (λ (cs : List Call). shown_after s₀ cs blank) (calls-append before behind) in
      inserted_by s₀ before l behind stays (ap (take NUMBERS) a ∙ m.numbers ∙ ap (take NUMBERS) (sym b))
      (λ y. a ∙ m.looks (subst (λ (x : State). T (settles_one x (calls_in behind))) r y) ∙ sym b)

-- it leaves the state
pub line_stays : (n : ℕ) (before : List (List ℕ)) (l : List ℕ) → T (slips_by (run (fresh_on n) before).next (call_in l)) → (feed (run (fresh_on n) before).next l).next ≡ (run (fresh_on n) before).next
unfolding slips_by outcome_of
line_stays n before l t = go (call_in l) refl t
  where
    s : State
    s = (run (fresh_on n) before).next

    go : (o : Option Call) → call_in l ≡ o → T (slips_by s o) → (feed s l).next ≡ s
    go none e u = absurd u
    go (some c) e u = feed_by s l (some c) e ∙ mild-stays s c (nothing_left_by_a_log n before) (slips-mild s c u)

pub nothing-slipped_into_a_log : SlippedLog
unfolding slips_by
nothing-slipped_into_a_log n before l behind t = go (call_in l) refl t
  where
    go : (o : Option Call) → call_in l ≡ o → T (slips_by (run (fresh_on n) before).next o) → Inserted (fresh_on n) before l behind
    go none e u = absurd u
    go (some c) e u = mild_line_unseen n before l behind c e (slips-mild (run (fresh_on n) before).next c u)

-- ---- nor a malformed line, from any state; not even the looks show it

pub malformed_unseen : (s : State) (before : List (List ℕ)) (l : List ℕ) (behind : List (List ℕ)) → call_in l ≡ none
    → Inserted s before l behind × (shown_by s (before ++ l ∷ behind) blank ≡ shown_by s (before ++ behind) blank)
unfolding outcome_of silent together
malformed_unseen s before l behind e =
    let a = shown-after s (before ++ l ∷ behind) blank ∙ ap (λ (cs : List Call). shown_after s cs blank) (calls_by before l behind none e ∙ sym (calls-append before behind)) ∙ sym (shown-after s (before ++ behind) blank) in
    (inserted_by s before l behind (feed_by (run s before).next l none e) (ap (take NUMBERS) a) (λ _. a), a)
