-- Both assurances of the machine, carried over to the bytes of C: a run at the boundary is the machine's run. A call that leaves the
-- state leaves every byte of the state and the table, since a state has one image; so the calls behind it took the bytes that they
-- would have taken without it, and nothing else can come back.
-- Assumes nothing.
use Prim.Native.Nat.{ℕ, ◌+◌, ◌≤◌}
use mathlib.Core.Path.{◌≡◌, refl, ap, ap₂, sym, subst, ◌∙◌}
use mathlib.Core.Bool.{Bool, true, false, ◌&&◌}
use mathlib.Core.List.{List, [], ◌∷◌, ◌++◌, map, map-append}
use native.Mathlib.Omega.{arith}
use lib.Dec.{T, eqb, ltb}
use lib.ListN.{length, get_or, take, drop}
use Rattle.std.specs.Prelude.{if◌then◌else◌}
use Rattle.machine.specs.Lists.{all, keep}
use Rattle.machine.specs.State.{Call, Reply, State as StateM, fresh_on}
use Rattle.machine.specs.Desks.{DESK_A, DESK_B, HALF, desk_of, replies_to, halves}
use Rattle.machine.specs.Call.{call}
use Rattle.machine.proofs.Tests.{test_true}
use Rattle.machine_laws.proofs.Lists.{all_append, all_any, all_keep, keep_each}
use Rattle.display.specs.Display.{NUMBERS, blank}
use Rattle.display.specs.Runs.{after_calls, shown_after}
use Rattle.reply.specs.Replies.{encode}
use Rattle.image.specs.board.Board.{Held}
use Rattle.image.specs.Image.{state_of, Whole}
use Rattle.c_runs.proofs.boundary.Crossing.{fresh-after}
use Rattle.c_runs.specs.sizes.Sizes.{REPLIES}
use Rattle.two_runs.specs.TwoRuns.{Party, own_replies}
use Rattle.c_runs.specs.code_runs.CodeRuns.{records, records_to}
use Rattle.c_runs.specs.CRuns.{Turn, asked, roomy, Took, own_records}
use Rattle.c_runs.proofs.CRuns.{over, tells, took-records}
use Rattle.slipped.specs.nothing_left.NothingLeft.{NothingLeft}
use Rattle.slipped.proofs.nothing_left.NothingLeft.{nothing_left_standing}
use Rattle.slipped.specs.Slipped.{mild, settles_one}
use Rattle.slipped.proofs.Slipped.{slips-mild, mild-stays, mild_unseen, fresh_left}
use Rattle.inspected_bytes.specs.Inspected.{Ran, Fresh, calls, state_after, table_after, display_after, holds, handed, reported}
use Rattle.inspected_bytes.specs.Inspected.{LeftBytes, Inserted, SlippedBytes}
use Rattle.inspected_bytes.proofs.Runs.{follows, heard_calls, chain_follows, front, rest, left_alone, chain, heard, heard_without}
use Rattle.inspected_bytes.proofs.Runs.{one_chain, calls_same}

-- ---- from the bytes of a fresh device

pub record FollowsFresh (w : ℕ) (st tb dp : List ℕ) (ts : List Turn) : Type 0 where
  pub whole : Whole (state_after st ts)
  pub held : Held (state_of (state_after st ts)) (table_after tb ts)
  pub same : holds (state_after st ts) (table_after tb ts) ≡ after_calls (fresh_on w) (calls ts)
  pub shown : display_after dp ts ≡ shown_after (fresh_on w) (calls ts) blank

module _ {w : ℕ} {st tb dp : List ℕ} (n : Fresh w st tb dp) where
  begins : Whole st × Held (state_of st) tb × (holds st tb ≡ fresh_on w)
  begins = fresh-after w n.started n.fits

  pub follows_fresh : (ts : List Turn) → Ran st tb dp ts → FollowsFresh w st tb dp ts
  follows_fresh ts r =
      let f = follows st tb dp ts begins.0 begins.1 r in
      let d : dp ≡ blank = (n.started.begun n.fits).display in
      record {
        whole = f.whole;
        held = f.held;
        same = f.same ∙ ap (λ (s : StateM). after_calls s (calls ts)) begins.2;
        shown = f.shown ∙ ap (λ (s : StateM). shown_after s (calls ts) dp) begins.2 ∙ ap (shown_after (fresh_on w) (calls ts)) d;
      }

-- ---- the first assurance

pub nothing_left_in_the_bytes : LeftBytes
nothing_left_in_the_bytes w st tb dp ts n r =
    let b = begins n in
    let e = chain_follows st tb ts b.0 b.1 r ∙ ap (λ (s : StateM). after_calls s (heard_calls ts)) b.2 in
    subst NothingLeft (sym e) (nothing_left_standing w (heard_calls ts))

-- ---- the second

-- a party that every id is of: what is reported to it is all that is reported
abbrev everyone : Party
everyone = record { key = 0; floor = 0; mine = λ _. true }

all_records_lem : (n : ℕ) (l : List ℕ) → records_to everyone n l ≡ records n l
unfolding records_to
all_records_lem n l = keep_each (λ b. true) (records n l) (all_any (λ b. true) (λ _. tt) (records n l))

all_replies : (rs : List Reply) → own_replies everyone rs ≡ rs
unfolding own_replies
all_replies rs = keep_each (λ r. true) rs (all_any (λ r. true) (λ _. tt) rs)

first_bytes : (i : ℕ) (rs : List Reply) → all (λ b. eqb (get_or b 0 0) i) (map encode rs) ≡ all (λ r. eqb r.id i) rs
unfolding all
first_bytes i [] = refl
first_bytes i (r ∷ rs) = ap (λ (b : Bool). eqb r.id i && b) (first_bytes i rs)

all_halves : (q : Reply → Bool) (rs : List Reply) → T (all q rs) → T (all q (halves rs))
unfolding halves replies_to
all_halves q rs t =
    all_append q (keep (λ r. eqb (desk_of r.id) DESK_A) rs) (keep (λ r. eqb (desk_of r.id) DESK_B) rs) (all_keep q (λ r. eqb (desk_of r.id) DESK_A) rs t)
    (all_keep q (λ r. eqb (desk_of r.id) DESK_B) rs t)

-- one reply is in one half
one_half : (rs : List Reply) → length rs ≤ 1 → length (replies_to DESK_A rs) + length (replies_to DESK_B rs) ≤ 1
unfolding replies_to keep desk_of
one_half [] h = omega arith
one_half (r ∷ []) h = go (ltb r.id HALF)
  where
    go : (b : Bool) → length (if eqb (if b then DESK_A else DESK_B) DESK_A then r ∷ [] else []) + length (if eqb (if b then DESK_A else DESK_B) DESK_B then r ∷ [] else []) ≤ 1
    go true = omega arith
    go false = omega arith
one_half (r ∷ q ∷ rs) h = absurd (omega arith)

module _ {st tb : List ℕ} {t : Turn} (w : Whole st) (h : Held (state_of st) tb) (k : Took st tb t) (o : T (roomy t)) where
  abbrev rs₀ : List Reply
  rs₀ = (call (holds st tb) (asked t)).replies

  own_reported : own_records everyone t
      ≡ records_to everyone (get_or t.answer 6 0) t.list ++ records_to everyone (get_or t.answer 7 0) (drop 192 t.list)
  unfolding own_records
  own_reported = rw (test_true (roomy t) o)

  took_own : REPLIES ≤ length t.lent → T (all (λ r. eqb r.id t.id) rs₀) → T (all (λ b. eqb (get_or b 0 0) t.id) (reported t))
  unfolding reported
  took_own g u =
      let e : reported t ≡ map encode (halves rs₀) =
      ap₂ ◌++◌ (sym (all_records_lem (get_or t.answer 6 0) t.list)) (sym (all_records_lem (get_or t.answer 7 0) (drop 192 t.list)))
      ∙ sym own_reported ∙ took-records everyone w h k o g ∙ ap (λ (rs : List Reply). map encode (halves rs)) (all_replies rs₀) in
      rw (e, first_bytes t.id (halves rs₀)) (all_halves (λ r. eqb r.id t.id) rs₀ u)

  took-once : length rs₀ ≤ 1 → t.n ≤ 1
  took-once g = let c = over w h k o in let d = tells w h k o in omega (arith, one_half rs₀ g, c.count, d.numbers.0, d.numbers.1)

-- what is asked of the id is not needed
pub mild_unseen_in_the_bytes : (w : ℕ) (st tb dp : List ℕ) (before : List Turn) (t : Turn) (behind us : List Turn) → Fresh w st tb dp
    → Ran st tb dp (before ++ t ∷ behind) → Ran st tb dp us → map handed (before ++ behind) ≡ map handed us
    → T (mild (holds (state_after st before) (table_after tb before)) (asked t)) → Inserted st tb dp before t behind us
mild_unseen_in_the_bytes w st tb dp before t behind us n r q e p =
    let f = front st tb dp before (t ∷ behind) r in
    let a = follows_fresh n before f in
    let y = rest st tb dp before (t ∷ behind) r in
    let k = y.0 in
    let m₀ = y.1 in
    let s = holds (state_after st before) (table_after tb before) in
    let stays = mild-stays s (asked t) (nothing_left_in_the_bytes w st tb dp before n (chain st tb dp before f)) p in
    let l = left_alone a.whole a.held k m₀ stays in
    let i = begins n in
    let o = one_chain st tb (before ++ behind) us i.0 i.1
    (heard_without st tb dp before t behind r l.0 l.1) (heard st tb dp us q) e in
    let m = mild_unseen (fresh_on w) (calls before) (asked t) (calls behind) (fresh_left w) (subst (λ (x : StateM). T (mild x (asked t))) a.same p) in
    let b = (follows_fresh n (before ++ t ∷ behind) r).shown ∙ ap (λ (cs : List Call). shown_after (fresh_on w) cs blank) (map-append asked before (t ∷ behind)) in
    let c = (follows_fresh n us q).shown ∙ ap (λ (cs : List Call). shown_after (fresh_on w) cs blank) (calls_same (before ++ behind) us e ∙ map-append asked before behind) in
    let u = ap (λ (x : StateM). (call x (asked t)).replies) a.same in
    record {
      others = o;
      state = l.0;
      table = l.1;
      own = λ g. took_own a.whole a.held k m₀ g (subst (λ (rs : List Reply). T (all (λ y. eqb y.id t.id) rs)) (sym u) m.own);
      once = took-once a.whole a.held k m₀ (subst (λ (rs : List Reply). length rs ≤ 1) (sym u) m.once);
      numbers = ap (take NUMBERS) b ∙ m.numbers ∙ ap (take NUMBERS) (sym c);
      looks = λ z. b ∙ m.looks (subst (λ (x : StateM). T (settles_one x (calls behind))) a.same z) ∙ sym c;
    }

pub nothing-slipped_into_the_bytes : SlippedBytes
nothing-slipped_into_the_bytes w st tb dp before t behind us n r q e p =
    mild_unseen_in_the_bytes w st tb dp before t behind us n r q e (slips-mild (holds (state_after st before) (table_after tb before)) (asked t) p)
