-- Every run of the machine from a fresh device of four or eight channels, whose calls fit their bytes, is a run of the code: the
-- calls are those that crates/code_runs makes of the machine's, each with the machine's display.
-- Assumes nothing.
--
--   made s d cs    the machine's run from the state s and the display d, as a run of the code
use Prim.Native.Nat.{ℕ, ◌*◌, ◌/◌}
use mathlib.Core.Path.{◌≡◌, refl, ap, ap₂, sym, subst, ◌∙◌}
use mathlib.Core.List.{List, [], ◌∷◌, ◌++◌, map, map-append}
use native.Mathlib.Omega.{arith}
use native.Mathlib.Nat.{zero-add}
use lib.Dec.{T, leb, leb→le}
use lib.ListN.{length, length-replicate}
use Rattle.machine.specs.Lists.{all}
use Rattle.machine.specs.State.{Call, Op as OpM, OPEN, CLOSE, ABORT, EVENT, CYCLE_ENDED, GAVE_UP, COMMAND, State as StateM, fresh_on}
use Rattle.machine.specs.Call.{call, in_range}
use Rattle.machine.proofs.Tests.{and_left, and_right}
use Rattle.widening.proofs.Maps.{length-frees}
use Rattle.display.specs.Display.{blank, displayed}
use Rattle.display.specs.Runs.{after_calls, shown_after}
use Rattle.reply.specs.Replies.{sent}
use Rattle.board.specs.store.Store.{table_of}
use Rattle.board.specs.declared.Board.{Board}
use Rattle.board.specs.Board.{sized, struct_of, Told}
use Rattle.board.proofs.Laws.{fresh_of, fresh-sane}
use Rattle.code_runs.specs.refusals.Refusals.{op_in, op_for}
use Rattle.two_runs.specs.TwoRuns.{counted, in_bytes}
use Rattle.code_runs.specs.CodeRuns.{asked, Took}
use Rattle.code_runs.specs.Made.{OnBoard, number_out, blank as records, outcome_of, made as turn_of}
use Rattle.code_runs.proofs.Made.{board_next, board-state, board_held, bytes-range, bytes_count}
use Rattle.inspected_code.specs.Inspected.{Step, Stepped, Ran, Fresh, turns, calls, Handed, handed}

abbrev pub made : StateM → List ℕ → List Call → List Step
made s d [] = []
made s d (c ∷ cs) = record { turn = turn_of s c; display = displayed s c d } ∷ made (call s c).next (displayed s c d) cs

-- ---- its calls are the machine's

op_out : (o : OpM) → op_in (op_for o) (number_out o) ≡ o
op_out OPEN = refl
op_out CLOSE = refl
op_out ABORT = refl
op_out (EVENT CYCLE_ENDED) = refl
op_out (EVENT GAVE_UP) = refl
op_out (COMMAND n) = refl

pub asked_of_lem : (s : StateM) (c : Call) → asked (turn_of s c) ≡ c
asked_of_lem s c =
    let a = op_out c.op in
    let e = length-replicate {A = ℕ} (c.room * 6) 0 in
    let b : length (records c.room) / 6 ≡ c.room = omega arith in
    λ i. record { op = a i; desk = c.desk; id = c.id; flags = c.flags; map = c.map; prec = c.prec; key = c.key; combos = c.combos; room = b i }

pub calls_made : (s : StateM) (d : List ℕ) (cs : List Call) → calls (made s d cs) ≡ cs
calls_made s d [] = refl
calls_made s d (c ∷ cs) = ap₂ (λ (x : Call) (xs : List Call). x ∷ xs) (asked_of_lem s c) (calls_made (call s c).next (displayed s c d) cs)

-- what is handed in does not depend on the state
abbrev handed_of : Call → Handed
handed_of c =
    record {
      op = op_for c.op;
      request = record { desk = c.desk; command = number_out c.op; id = c.id; flags = c.flags; map = c.map; prec = c.prec; key = c.key };
      combos = c.combos;
      lent = records c.room;
    }

handed_made : (s : StateM) (d : List ℕ) (cs : List Call) → map handed (turns (made s d cs)) ≡ map handed_of cs
unfolding handed
handed_made s d [] = refl
handed_made s d (c ∷ cs) = ap (λ (hs : List Handed). handed_of c ∷ hs) (handed_made (call s c).next (displayed s c d) cs)

pub made_append : (s : StateM) (d : List ℕ) (xs ys : List Call) → made s d (xs ++ ys) ≡ made s d xs ++ made (after_calls s xs) (shown_after s xs d) ys
unfolding after_calls shown_after
made_append s d [] ys = refl
made_append s d (x ∷ xs) ys =
    ap (λ (zs : List Step). record { turn = turn_of s x; display = displayed s x d } ∷ zs) (made_append (call s x).next (displayed s x d) xs ys)

-- two parts of different runs hand in what one run of both does
pub handed_parts : (s u v : StateM) (d e f : List ℕ) (xs ys : List Call) → map handed (turns (made s d xs ++ made u e ys)) ≡ map handed (turns (made v f (xs ++ ys)))
handed_parts s u v d e f xs ys =
    ap (map handed) (map-append (λ (x : Step). x.turn) (made s d xs) (made u e ys))
    ∙ map-append handed (turns (made s d xs)) (turns (made u e ys))
    ∙ ap₂ ◌++◌ (handed_made s d xs) (handed_made u e ys)
    ∙ sym (map-append handed_of xs ys)
    ∙ sym (handed_made v f (xs ++ ys))

-- ---- they keep the promises

module _ {s : StateM} (b : OnBoard s) (c : Call) (f : T (in_bytes c)) where
  told : Told (call s c) (records c.room) (outcome_of (call s c)) (table_of (call s c).next) (sent (records c.room) 0 (call s c).replies)
  told = record { answer = refl; did = record { struct = refl; table = refl; list = refl; count = sym (zero-add (length (call s c).replies)) } }

  took : Took (struct_of s) (table_of s) (turn_of s c)
  unfolding in_range
  took =
      let g = bytes-range c f in
      record {
        called = record { sound = λ _. rw (board-state b, asked_of_lem s c) told; unsound = λ n. absurd (n (board_held b)) };
        prec = leb→le c.prec 255 (and_left (leb c.prec 255) (leb c.key 65535) g);
        key = leb→le c.key 65535 (and_right (leb c.prec 255) (leb c.key 65535) g);
        count = subst (λ (x : Call). T (counted x.op x)) (sym (asked_of_lem s c)) (bytes_count c f);
      }

  stepped : (d : List ℕ) → Stepped (struct_of s) (table_of s) d (record { turn = turn_of s c; display = displayed s c d })
  stepped d = record { took = took; shows = record { sound = λ _. rw (board-state b, asked_of_lem s c) refl; unsound = λ n. absurd (n (board_held b)) } }

pub ran_made : (s : StateM) (d : List ℕ) (cs : List Call) → OnBoard s → T (all in_bytes cs) → Ran (struct_of s) (table_of s) d (made s d cs)
unfolding all
ran_made s d [] b f = tt
ran_made s d (c ∷ cs) b f =
    let g = and_left (in_bytes c) (all in_bytes cs) f in
    (stepped b c g d, ran_made (call s c).next (displayed s c d) cs (board_next s c g b) (and_right (in_bytes c) (all in_bytes cs) f))

fresh_on_lem : (w : ℕ) → T (sized w) → OnBoard (fresh_on w)
fresh_on_lem w t = record { sane = fresh-sane w t; size = subst (λ (n : ℕ). T (sized n)) (sym (length-frees w)) t }

-- so from the fresh board
pub machine_runs_are_runs_of_the_code : (w : ℕ) → T (sized w) → (cs : List Call) → T (all in_bytes cs) → Fresh w (made (fresh_on w) blank cs)
machine_runs_are_runs_of_the_code w t cs f =
    subst (λ (b : Board). Ran b (table_of (fresh_on w)) blank (made (fresh_on w) blank cs)) (sym (fresh_of w t)) (ran_made (fresh_on w) blank cs (fresh_on_lem w t) f)
