-- Both assurances of the machine, carried over to the code: a run of the code is the machine's run. A call that leaves the state
-- leaves the board and the table byte for byte, since a state has one board and one table; so the calls behind it took what they
-- would have taken without it, and no second outcome fits them.
-- Assumes nothing.
use Prim.Native.Nat.{ℕ, ◌+◌}
use mathlib.Core.Path.{◌≡◌, refl, ap, ap₂, sym, subst, ◌∙◌}
use mathlib.Core.Bool.{Bool, ◌&&◌}
use mathlib.Core.List.{List, [], ◌∷◌, ◌++◌, map, map-append}
use native.Mathlib.Omega.{arith}
use native.Mathlib.Nat.{zero-add}
use lib.Dec.{T, eqb}
use lib.ListN.{length, get_or, take, drop}
use Rattle.machine.specs.Lists.{all}
use Rattle.machine.specs.State.{Call, Reply, State as StateM, fresh_on}
use Rattle.machine.specs.Call.{call}
use Rattle.display.specs.Display.{NUMBERS, blank}
use Rattle.display.specs.Runs.{after_calls, shown_after}
use Rattle.memory.specs.Splice.{splice}
use Rattle.reply.specs.Replies.{encode, encodes, sent}
use Rattle.board.specs.store.Store.{table_of}
use Rattle.board.specs.declared.Board.{Board}
use Rattle.board.specs.Board.{sized, fresh_board, struct_of, state_in, Held}
use Rattle.code_runs.specs.CodeRuns.{Turn, asked, Took, records}
use Rattle.code_runs.proofs.CodeRuns.{took-told}
use Rattle.slipped.specs.nothing_left.NothingLeft.{NothingLeft}
use Rattle.slipped.proofs.nothing_left.NothingLeft.{nothing_left_standing}
use Rattle.slipped.specs.Slipped.{mild, settles_one}
use Rattle.slipped.proofs.Slipped.{slips-mild, mild-stays, mild_unseen, fresh_left}
use Rattle.inspected_code.specs.Inspected.{Step, Fresh, turns, calls, board_after, table_after, display_after, state_after, handed, LeftCode, Inserted, SlippedCode}
use Rattle.inspected_code.proofs.Runs.{follows, fresh_held, front, back, chain, chain_without, one_chain}

-- ---- from a fresh board

pub record FollowsFresh (w : ℕ) (xs : List Step) : Type 0 where
  pub held : Held (board_after (fresh_board w) xs) (table_after (table_of (fresh_on w)) xs)
  pub same : state_after w xs ≡ after_calls (fresh_on w) (calls xs)
  pub shown : display_after blank xs ≡ shown_after (fresh_on w) (calls xs) blank

pub follows_fresh : (w : ℕ) → T (sized w) → (xs : List Step) → Fresh w xs → FollowsFresh w xs
unfolding state_after
follows_fresh w t xs r =
    let h = fresh_held w t in
    let f = follows (fresh_board w) (table_of (fresh_on w)) blank xs h.0 r in
    record {
      held = f.held;
      same = f.same ∙ ap (λ (s : StateM). after_calls s (calls xs)) h.1;
      shown = f.shown ∙ ap (λ (s : StateM). shown_after s (calls xs) blank) h.1;
    }

-- ---- the first assurance

pub nothing_left_by_the_code : LeftCode
nothing_left_by_the_code w t xs r = subst NothingLeft (sym (follows_fresh w t xs r).same) (nothing_left_standing w (calls xs))

-- ---- the second

-- a call that leaves the state leaves the board and every byte of the table
left_alone : {st : Board} {tb : List ℕ} {t : Turn} → Held st tb → Took st tb t → (call (state_in st tb) (asked t)).next ≡ state_in st tb
    → (t.outcome.state ≡ st) × (t.table ≡ tb)
left_alone h k e =
    let d = (took-told h k).did in
    (d.struct ∙ ap struct_of e ∙ sym h.struct, d.table ∙ ap table_of e ∙ sym h.table)

calls-append : (xs ys : List Step) → calls (xs ++ ys) ≡ calls xs ++ calls ys
calls-append xs ys = ap (map asked) (map-append (λ (x : Step). x.turn) xs ys) ∙ map-append asked (turns xs) (turns ys)

-- what a call reports are the bytes of its replies
records-encodes : (rs : List Reply) (l : List ℕ) → records (length rs) (encodes rs ++ l) ≡ map encode rs
unfolding records
records-encodes [] l = refl
records-encodes (r ∷ rs) l = ap (λ (bs : List (List ℕ)). encode r ∷ bs) (records-encodes rs l)

records-sent : (rs : List Reply) (l : List ℕ) → records (length rs) (sent l 0 rs) ≡ map encode rs
unfolding splice
records-sent rs l = records-encodes rs (drop (0 + length (encodes rs)) l)

first_bytes : (i : ℕ) (rs : List Reply) → all (λ b. eqb (get_or b 0 0) i) (map encode rs) ≡ all (λ r. eqb r.id i) rs
unfolding all
first_bytes i [] = refl
first_bytes i (r ∷ rs) = ap (λ (b : Bool). eqb r.id i && b) (first_bytes i rs)

module _ {st : Board} {tb : List ℕ} {t : Turn} (h : Held st tb) (k : Took st tb t) where
  abbrev rs₀ : List Reply
  rs₀ = (call (state_in st tb) (asked t)).replies

  took-count : t.outcome.n ≡ length rs₀
  took-count = (took-told h k).did.count ∙ zero-add (length rs₀)

  took-records : records t.outcome.n t.list ≡ map encode rs₀
  took-records = ap₂ records took-count (took-told h k).did.list ∙ records-sent rs₀ t.lent

  took_own : T (all (λ r. eqb r.id t.request.id) rs₀) → T (all (λ b. eqb (get_or b 0 0) t.request.id) (records t.outcome.n t.list))
  took_own u = rw (took-records, first_bytes t.request.id rs₀) u

-- what is asked of the id is not needed
pub mild_unseen_by_the_code : (w : ℕ) → T (sized w) → (before : List Step) (x : Step) (behind ys : List Step) → Fresh w (before ++ x ∷ behind) → Fresh w ys
    → map handed (turns (before ++ behind)) ≡ map handed (turns ys) → T (mild (state_after w before) (asked x.turn)) → Inserted w before x behind ys
unfolding state_after
mild_unseen_by_the_code w t before x behind ys r q e p =
    let st = fresh_board w in
    let tb = table_of (fresh_on w) in
    let c = asked x.turn in
    let a = follows_fresh w t before (front st tb blank before (x ∷ behind) r) in
    let k = (back st tb blank before (x ∷ behind) r).0.took in
    let stays = mild-stays (state_after w before) c (nothing_left_by_the_code w t before (front st tb blank before (x ∷ behind) r)) p in
    let l = left_alone a.held k stays in
    let o = one_chain st tb (turns (before ++ behind)) (turns ys) (chain_without st tb blank before x behind r l.0 l.1) (chain st tb blank ys q) e in
    let m = mild_unseen (fresh_on w) (calls before) c (calls behind) (fresh_left w) (subst (λ (s : StateM). T (mild s c)) a.same p) in
    let b = (follows_fresh w t (before ++ x ∷ behind) r).shown ∙ ap (λ (cs : List Call). shown_after (fresh_on w) cs blank) (calls-append before (x ∷ behind)) in
    let d = (follows_fresh w t ys q).shown ∙ ap (λ (cs : List Call). shown_after (fresh_on w) cs blank) (ap (map asked) (sym o) ∙ calls-append before behind) in
    let u = ap (λ (s : StateM). (call s c).replies) a.same in
    record {
      others = o;
      board = l.0;
      table = l.1;
      own = took_own a.held k (subst (λ (rs : List Reply). T (all (λ y. eqb y.id c.id) rs)) (sym u) m.own);
      once = omega (arith, took-count a.held k, ap length u, m.once);
      numbers = ap (take NUMBERS) b ∙ m.numbers ∙ ap (take NUMBERS) (sym d);
      looks = λ y. b ∙ m.looks (subst (λ (s : StateM). T (settles_one s (calls behind))) a.same y) ∙ sym d;
    }

pub nothing-slipped_into_the_code : SlippedCode
nothing-slipped_into_the_code w t before x behind ys r q e p =
    mild_unseen_by_the_code w t before x behind ys r q e (slips-mild (state_after w before) (asked x.turn) p)
