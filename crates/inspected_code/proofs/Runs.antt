-- A run of the code from a board and a table that hold a sound state is the machine's run from that state, with the machine's
-- display; and the calls of a run are determined by what is handed in. Examples.antt is named here so that it is computed first: a
-- wrong definition is told by an example.
-- Assumes nothing.
--
--   Chain st tb ts    the calls of a run, without the displays
use Prim.Native.Nat.{ℕ}
use mathlib.Core.Path.{◌≡◌, refl, ap, ap₂, sym, subst, ◌∙◌}
use mathlib.Core.List.{List, [], ◌∷◌, ◌++◌, map}
use native.Mathlib.Omega.{arith}
use lib.Dec.{T}
use Rattle.machine.specs.State.{State as StateM, fresh_on}
use Rattle.machine_laws.proofs.Sound.{parts}
use Rattle.widening.proofs.Maps.{length-frees}
use Rattle.display.specs.Runs.{after_calls, shown_after}
use Rattle.board.specs.store.Store.{table_of}
use Rattle.board.specs.declared.Board.{Board}
use Rattle.board.specs.declared.Outcome.{Outcome}
use Rattle.board.specs.Board.{sized, fresh_board, state_in, Held}
use Rattle.board.proofs.Laws.{fresh_of, fresh-sane, held_next}
use Rattle.code_runs.specs.CodeRuns.{Turn, Took}
use Rattle.code_runs.proofs.CodeRuns.{took_held, took_next, one_turn}
use Rattle.inspected_code.specs.Inspected.{Step, Ran, turns, calls, board_after, table_after, display_after, Handed, handed}
use Rattle.inspected_code.proofs.Examples.{hands}

-- ---- the machine's run

pub record Follows (st : Board) (tb d : List ℕ) (xs : List Step) : Type 0 where
  pub held : Held (board_after st xs) (table_after tb xs)
  pub same : state_in (board_after st xs) (table_after tb xs) ≡ after_calls (state_in st tb) (calls xs)
  pub shown : display_after d xs ≡ shown_after (state_in st tb) (calls xs) d

pub follows : (st : Board) (tb d : List ℕ) (xs : List Step) → Held st tb → Ran st tb d xs → Follows st tb d xs
unfolding board_after table_after display_after after_calls shown_after
follows st tb d [] h r = record { held = h; same = refl; shown = refl }
follows st tb d (x ∷ xs) h r =
    let k = r.0.took in
    let f = follows x.turn.outcome.state x.turn.table x.display xs (took_held h k) r.1 in
    record {
      held = f.held;
      same = f.same ∙ ap (λ (s : StateM). after_calls s (calls xs)) (took_next h k);
      shown = f.shown ∙ ap₂ (λ (s : StateM) (e : List ℕ). shown_after s (calls xs) e) (took_next h k) (r.0.shows.sound h);
    }

pub fresh_held : (w : ℕ) → T (sized w) → Held (fresh_board w) (table_of (fresh_on w)) × (state_in (fresh_board w) (table_of (fresh_on w)) ≡ fresh_on w)
fresh_held w t =
    held_next (fresh_on w) (fresh_board w) (table_of (fresh_on w)) (parts (fresh_on w) (fresh-sane w t)) (subst (λ (n : ℕ). T (sized n)) (sym (length-frees w)) t) (fresh_of w t) refl

-- ---- a run in two parts

pub front : (st : Board) (tb d : List ℕ) (xs ys : List Step) → Ran st tb d (xs ++ ys) → Ran st tb d xs
front st tb d [] ys r = tt
front st tb d (x ∷ xs) ys r = (r.0, front x.turn.outcome.state x.turn.table x.display xs ys r.1)

pub back : (st : Board) (tb d : List ℕ) (xs ys : List Step) → Ran st tb d (xs ++ ys) → Ran (board_after st xs) (table_after tb xs) (display_after d xs) ys
unfolding board_after table_after display_after
back st tb d [] ys r = r
back st tb d (x ∷ xs) ys r = back x.turn.outcome.state x.turn.table x.display xs ys r.1

-- ---- the calls of a run

abbrev pub Chain : Board → List ℕ → List Turn → Type 0
Chain st tb [] = Unit {0}
Chain st tb (t ∷ ts) = Took st tb t × Chain t.outcome.state t.table ts

pub chain : (st : Board) (tb d : List ℕ) (xs : List Step) → Ran st tb d xs → Chain st tb (turns xs)
chain st tb d [] r = tt
chain st tb d (x ∷ xs) r = (r.0.took, chain x.turn.outcome.state x.turn.table x.display xs r.1)

-- without a call that left the board and the table as they were
pub chain_without : (st : Board) (tb d : List ℕ) (xs : List Step) (x : Step) (ys : List Step) → Ran st tb d (xs ++ x ∷ ys)
    → x.turn.outcome.state ≡ board_after st xs → x.turn.table ≡ table_after tb xs → Chain st tb (turns (xs ++ ys))
unfolding board_after table_after
chain_without st tb d [] x ys r e f =
    subst (λ (b : Board). Chain b tb (turns ys)) e (subst (λ (l : List ℕ). Chain x.turn.outcome.state l (turns ys)) f (chain x.turn.outcome.state x.turn.table x.display ys r.1))
chain_without st tb d (z ∷ xs) x ys r e f = (r.0.took, chain_without z.turn.outcome.state z.turn.table z.display xs x ys r.1 e f)

-- what is handed in determines the rest of a call
abbrev turn_of : Handed → Outcome → List ℕ → List ℕ → Turn
turn_of h o tb l = record { op = h.op; request = h.request; combos = h.combos; lent = h.lent; outcome = o; table = tb; list = l }

one_handed : (st : Board) (tb : List ℕ) (t u : Turn) → Took st tb t → Took st tb u → handed t ≡ handed u → t ≡ u
unfolding handed
one_handed st tb t u k j e =
    let s = one_turn k (subst (λ (h : Handed). Took st tb (turn_of h u.outcome u.table u.list)) (sym e) j) in
    λ i. turn_of (e i) (s.outcome i) (s.table i) (s.list i)

pub one_chain : (st : Board) (tb : List ℕ) (ts us : List Turn) → Chain st tb ts → Chain st tb us → map handed ts ≡ map handed us → ts ≡ us
one_chain st tb [] [] r q e = refl
one_chain st tb [] (u ∷ us) r q e = absurd (let z : ◌≡◌ {A = ℕ} 0 1 = cc in omega arith)
one_chain st tb (t ∷ ts) [] r q e = absurd (let z : ◌≡◌ {A = ℕ} 0 1 = cc in omega arith)
one_chain st tb (t ∷ ts) (u ∷ us) r q e =
    let h : handed t ≡ handed u = cc in
    let f : map handed ts ≡ map handed us = cc in
    let p = one_handed st tb t u r.0 q.0 h in
    ap₂ (λ (y : Turn) (ys : List Turn). y ∷ ys) p
    (one_chain t.outcome.state t.table ts us r.1 (subst (λ (y : Turn). Chain y.outcome.state y.table us) (sym p) q.1) f)
