-- A run at the boundary from bytes that hold a sound state is the machine's run from that state, with the machine's display; and what
-- comes back is determined by what is handed in, whatever the display shows. Examples.antt is named here so that it is computed
-- first: a wrong definition is told by an example.
-- Assumes nothing.
--
--   Heard st tb ts       the calls of a run, whatever display was lent; each has room for its answer
--   heard_calls ts        of the calls of a run, those that have
use Prim.Native.Nat.{ℕ, ◌+◌}
use mathlib.Core.Path.{◌≡◌, refl, ap, ap₂, sym, subst, ◌∙◌}
use mathlib.Core.Bool.{not}
use mathlib.Core.List.{List, [], ◌∷◌, ◌++◌, map}
use native.Mathlib.Omega.{arith}
use lib.Dec.{T}
use Rattle.std.specs.Prelude.{if◌then◌else◌}
use Rattle.machine.specs.State.{Call, State as StateM}
use Rattle.machine.specs.Call.{call}
use Rattle.machine.proofs.Tests.{by_test, test_true, test_false}
use Rattle.display.specs.Display.{displayed}
use Rattle.display.specs.Runs.{after_calls, shown_after}
use Rattle.image.specs.store.Store.{table_of}
use Rattle.image.specs.board.Board.{struct_of, Held}
use Rattle.image.specs.Image.{image_of, state_of, Whole}
use Rattle.image.proofs.Round.{image_of_state_of}
use Rattle.c_runs.specs.desk_call.DeskCall.{Outcome}
use Rattle.c_runs.proofs.desk_call.Promise.{one_call}
use Rattle.c_runs.specs.handed.Handed.{answer_bytes}
use Rattle.c_runs.specs.CRuns.{Turn, asked, roomy, Took}
use Rattle.c_runs.proofs.CRuns.{after, over, tells, unanswered}
use Rattle.inspected_bytes.specs.Inspected.{Chain, Ran, calls, state_after, table_after, display_after, holds, Handed, handed, Back}
use Rattle.inspected_bytes.specs.Inspected.{back}
use Rattle.inspected_bytes.proofs.Examples.{hands}

-- ---- one call

module _ {st tb : List ℕ} {t : Turn} (w : Whole st) (h : Held (state_of st) tb) (k : Took st tb t) (o : T (roomy t)) where
  -- the display is the machine's
  took-shown : t.display ≡ displayed (holds st tb) (asked t) t.wall
  took-shown = (over w h k o).shown.sound h

  -- a call that leaves the state leaves every byte of the state and the table
  pub left_alone : (call (holds st tb) (asked t)).next ≡ holds st tb → (t.state ≡ st) × (t.table ≡ tb)
  left_alone e =
      let c = over w h k o in
      let d = tells w h k o in
      (c.state.bytes ∙ ap image_of (d.struct ∙ ap struct_of e ∙ sym h.struct) ∙ image_of_state_of st w, d.table ∙ ap table_of e ∙ sym h.table)

-- ---- the machine's run

pub record Follows (st tb dp : List ℕ) (ts : List Turn) : Type 0 where
  pub whole : Whole (state_after st ts)
  pub held : Held (state_of (state_after st ts)) (table_after tb ts)
  pub same : holds (state_after st ts) (table_after tb ts) ≡ after_calls (holds st tb) (calls ts)
  pub shown : display_after dp ts ≡ shown_after (holds st tb) (calls ts) dp

pub follows : (st tb dp : List ℕ) (ts : List Turn) → Whole st → Held (state_of st) tb → Ran st tb dp ts → Follows st tb dp ts
unfolding state_after table_after display_after after_calls shown_after
follows st tb dp [] w h r = record { whole = w; held = h; same = refl; shown = refl }
follows st tb dp (t ∷ ts) w h r =
    let k = r.0 in
    let a = after w h k r.1 in
    let f = follows t.state t.table t.display ts a.0 a.1 r.3 in
    record {
      whole = f.whole;
      held = f.held;
      same = f.same ∙ ap (λ (s : StateM). after_calls s (calls ts)) a.2;
      shown =
          f.shown
          ∙ ap₂ (λ (s : StateM) (e : List ℕ). shown_after s (calls ts) e) a.2
          (took-shown w h k r.1 ∙ ap (displayed (holds st tb) (asked t)) r.2);
    }

-- ---- the machine's run, whatever is lent beside state and table: a call without room moves nothing

unfoldable pub heard_calls : List Turn → List Call
heard_calls [] = []
heard_calls (t ∷ ts) = if roomy t then asked t ∷ heard_calls ts else heard_calls ts

pub chain_follows : (st tb : List ℕ) (ts : List Turn) → Whole st → Held (state_of st) tb → Chain st tb ts
    → holds (state_after st ts) (table_after tb ts) ≡ after_calls (holds st tb) (heard_calls ts)
unfolding state_after table_after heard_calls
chain_follows st tb [] w h r = unfold after_calls in refl
chain_follows st tb (t ∷ ts) w h r =
    by_test (roomy t) (λ o. let a = after w h r.0 o in with_room o (chain_follows t.state t.table ts a.0 a.1 r.1))
    (λ n. let u = unanswered r.0 n in without n (chain_follows st tb ts w h (rw (u.state, u.table) at r.1)))
  where
    with_room : T (roomy t)
        → holds (state_after t.state ts) (table_after t.table ts) ≡ after_calls (holds t.state t.table) (heard_calls ts)
        → holds (state_after st (t ∷ ts)) (table_after tb (t ∷ ts)) ≡ after_calls (holds st tb) (heard_calls (t ∷ ts))
    with_room o e =
        e ∙ ap (λ (s : StateM). after_calls s (heard_calls ts)) (after w h r.0 o).2
        ∙ rw (test_true (roomy t) o) (unfold after_calls in refl)

    without : T (not (roomy t)) → holds (state_after st ts) (table_after tb ts) ≡ after_calls (holds st tb) (heard_calls ts)
        → holds (state_after st (t ∷ ts)) (table_after tb (t ∷ ts)) ≡ after_calls (holds st tb) (heard_calls (t ∷ ts))
    without n e =
        let u = unanswered r.0 n in
        rw (test_false (roomy t) n) (ap₂ (λ (a b : List ℕ). holds (state_after a ts) (table_after b ts)) u.state u.table ∙ e)

-- ---- a run in two parts

pub front : (st tb dp : List ℕ) (ts us : List Turn) → Ran st tb dp (ts ++ us) → Ran st tb dp ts
front st tb dp [] us r = tt
front st tb dp (t ∷ ts) us r = (r.0, r.1, r.2, front t.state t.table t.display ts us r.3)

pub rest : (st tb dp : List ℕ) (ts us : List Turn) → Ran st tb dp (ts ++ us) → Ran (state_after st ts) (table_after tb ts) (display_after dp ts) us
unfolding state_after table_after display_after
rest st tb dp [] us r = r
rest st tb dp (t ∷ ts) us r = rest t.state t.table t.display ts us r.3

-- ---- the calls of a run

-- as a chain
pub chain : (st tb dp : List ℕ) (ts : List Turn) → Ran st tb dp ts → Chain st tb ts
chain st tb dp [] r = tt
chain st tb dp (t ∷ ts) r = (r.0, chain t.state t.table t.display ts r.3)

abbrev pub Heard : List ℕ → List ℕ → List Turn → Type 0
Heard st tb [] = Unit {0}
Heard st tb (t ∷ ts) = Took st tb t × T (roomy t) × Heard t.state t.table ts

pub heard : (st tb dp : List ℕ) (ts : List Turn) → Ran st tb dp ts → Heard st tb ts
heard st tb dp [] r = tt
heard st tb dp (t ∷ ts) r = (r.0, r.1, heard t.state t.table t.display ts r.3)

-- without a call that left the state and the table as they were
pub heard_without : (st tb dp : List ℕ) (ts : List Turn) (t : Turn) (us : List Turn) → Ran st tb dp (ts ++ t ∷ us)
    → t.state ≡ state_after st ts → t.table ≡ table_after tb ts → Heard st tb (ts ++ us)
unfolding state_after table_after
heard_without st tb dp [] t us r e f =
    subst (λ (b : List ℕ). Heard b tb us) e
    (subst (λ (l : List ℕ). Heard t.state l us) f (heard t.state t.table t.display us r.3))
heard_without st tb dp (u ∷ ts) t us r e f = (r.0, r.1, heard_without u.state u.table u.display ts t us r.3 e f)

-- what is handed in determines what comes back
abbrev turn_of : Handed → List ℕ → Back → List ℕ → Turn
turn_of h wall b d =
    record {
      desk = h.desk;
      op = h.op;
      id = h.id;
      flags = h.flags;
      map = h.map;
      prec = h.prec;
      key = h.key;
      combos = h.combos;
      wall = wall;
      lent = h.lent;
      room = h.room;
      n = b.n;
      state = b.state;
      table = b.table;
      display = d;
      list = b.list;
      answer = b.answer;
    }

module _ {st tb : List ℕ} (w : Whole st) (g : Held (state_of st) tb) (h : Handed) {x y d e : List ℕ} {b c : Back} where
  one_back : Took st tb (turn_of h x b d) → T (roomy (turn_of h x b d)) → Took st tb (turn_of h y c e) → T (roomy (turn_of h y c e)) → b ≡ c
  one_back k m j n =
      let p = over w g k m in
      let q = over w g j n in
      let s = one_call p.called q.called in
      let u = p.count ∙ ap (λ (o : Outcome). o.a + o.b) s.outcome ∙ sym q.count in
      let v = p.state.bytes ∙ ap (λ (o : Outcome). image_of o.state) s.outcome ∙ sym q.state.bytes in
      let a = p.answer ∙ ap (λ (o : Outcome). answer_bytes o.answer o.a o.b) s.outcome ∙ sym q.answer in
      λ i. record { n = u i; state = v i; table = s.table i; list = s.list i; answer = a i }

one_handed : {st tb : List ℕ} (w : Whole st) (g : Held (state_of st) tb) (t u : Turn) → Took st tb t → T (roomy t)
    → Took st tb u → T (roomy u) → handed t ≡ handed u → back t ≡ back u
unfolding handed back
one_handed {st} {tb} w g t u k m j n e =
    let a = subst (λ (h : Handed). Took st tb (turn_of h u.wall (back u) u.display)) (sym e) j in
    let b = subst (λ (h : Handed). T (roomy (turn_of h u.wall (back u) u.display))) (sym e) n in
    one_back w g (handed t) k m a b

same_start : (t u : Turn) (us : List Turn) → back t ≡ back u → Heard u.state u.table us → Heard t.state t.table us
unfolding back
same_start t u us p c = subst (λ (x : Back). Heard x.state x.table us) (sym p) c

pub one_chain : (st tb : List ℕ) (ts us : List Turn) → Whole st → Held (state_of st) tb → Heard st tb ts → Heard st tb us
    → map handed ts ≡ map handed us → map back ts ≡ map back us
one_chain st tb [] [] w h r q e = refl
one_chain st tb [] (u ∷ us) w h r q e = absurd (let z : ◌≡◌ {A = ℕ} 0 1 = cc in omega arith)
one_chain st tb (t ∷ ts) [] w h r q e = absurd (let z : ◌≡◌ {A = ℕ} 0 1 = cc in omega arith)
one_chain st tb (t ∷ ts) (u ∷ us) w h r q e =
    let f : handed t ≡ handed u = cc in
    let g : map handed ts ≡ map handed us = cc in
    let p = one_handed w h t u r.0 r.1 q.0 q.1 f in
    let a = after w h r.0 r.1 in
    ap₂ (λ (y : Back) (ys : List Back). y ∷ ys) p
    (one_chain t.state t.table ts us a.0 a.1 r.2 (same_start t u us p q.2) g)

-- and the machine's calls
abbrev asked_of : Handed → Call
asked_of h = asked (turn_of h [] (record { n = 0; state = []; table = []; list = []; answer = [] }) [])

calls-handed : (ts : List Turn) → calls ts ≡ map asked_of (map handed ts)
unfolding handed
calls-handed [] = refl
calls-handed (t ∷ ts) = ap (λ (cs : List Call). asked t ∷ cs) (calls-handed ts)

pub calls_same : (ts us : List Turn) → map handed ts ≡ map handed us → calls us ≡ calls ts
calls_same ts us e = calls-handed us ∙ ap (map asked_of) (sym e) ∙ sym (calls-handed ts)
