-- A call at the boundary is the machine's call of the state that the bytes hold: its answer is the machine's, its records are the bytes
-- of the machine's replies, desk A's and desk B's, and its bytes hold the machine's next state. A call without room moves nothing. So what
-- the K party sees of a run is what its own calls show it, made alone from its part of the state, the replies of each arranged in halves.
-- Examples.antt is named here so that it is computed first: a wrong definition is told by an example.
-- Assumes nothing.
use Prim.Native.Nat.{ℕ, ◌+◌, ◌-◌, ◌*◌, ◌/◌, ◌%◌, ◌≤◌, ◌<◌}
use mathlib.Core.Path.{◌≡◌, refl, ap, ap₂, sym, subst, ◌∙◌}
use mathlib.Core.Bool.{not, ◌&&◌}
use mathlib.Core.List.{List, [], ◌∷◌, ◌++◌, map, map-append, append_assoc}
use mathlib.Core.Logic.{◌⊎◌, inl}
use mathlib.Core.Option.{Option, none, some}
use native.Mathlib.Omega.{arith}
use native.Mathlib.Nat.{mod-lt}
use lib.Dec.{T, T_not, eqb, eqb→eq, leb, le→leb}
use lib.ListN.{length, get_or, take, drop}
use lib.Seq.{length-take-le, take-append-add, drop_at}
use Rattle.memory.specs.Splice.{splice}
use Rattle.memory.proofs.Splice.{length-splice}
use Rattle.std.specs.Prelude.{if◌then◌else◌}
use Rattle.machine.specs.Lists.{keep}
use Rattle.machine.specs.State.{Answer, Call, Reply, State as StateM}
use Rattle.machine.specs.Desks.{DESK_A, DESK_B, HALF, replies_to, halves}
use Rattle.machine.specs.Log.{op_of}
use Rattle.machine.specs.Call.{call, in_range}
use Rattle.machine.proofs.Tests.{and_both, and_left, and_right, by_test, test_true, test_false}
use Rattle.code_runs.specs.refusals.Refusals.{op_for}
use Rattle.display.proofs.machine_laws.Lists.{keep_swap}
use Rattle.display.proofs.machine_laws.Halves.{call-halves}
use Rattle.channel.specs.Channel.{channel_of}
use Rattle.reply.specs.Replies.{encode, encodes, sent}
use Rattle.reply.proofs.Laws.{length-encodes}
use Rattle.halves.specs.Halves.{laid}
use Rattle.image.specs.board.Board.{state_in, Held}
use Rattle.image.specs.Image.{state_of, Whole, channel_bytes}
use Rattle.answers.specs.Answers.{answer_of}
use Rattle.boundary.specs.desk_call.DeskCall.{Told}
use Rattle.display.specs.Display.{DISPLAY}
use Rattle.boundary.specs.sizes.Sizes.{ANSWER}
use Rattle.boundary.specs.handed.Handed.{answer_bytes}
use Rattle.boundary.specs.bytes_call.BytesCall.{Carried}
use Rattle.boundary.specs.Boundary.{UNANSWERED, Room, Unanswered}
use Rattle.boundary.proofs.Crossing.{sound-after}
use Rattle.two_runs.specs.TwoRuns.{Party, Start, ByK, ByOthers, counted, in_bytes, lends, view, waiters_of, own_replies}
use Rattle.two_runs.specs.Core.{Missing, OfK, OfOthers, misses}
use Rattle.two_runs.specs.Part.{project}
use Rattle.two_runs.proofs.Part.{Ready, own_replies_twice, project_out, theirs_of, view_part, waiters_part}
use Rattle.two_runs.proofs.Begin.{start_ready}
use Rattle.two_runs.proofs.TheirsCall.{theirs_mild}
use Rattle.two_runs.proofs.TwoRuns.{begins_of, ours-alone, ours-ready, theirs_ready}
use Rattle.two_runs.proofs.Desk.{of_desk_lem}
use Rattle.code_runs.specs.CodeRuns.{records_to, stored_of}
use Rattle.code_runs.proofs.CodeRuns.{count_of, records_to-encodes, stores, view_of_lem}
use Rattle.code_runs.specs.Stored.{stored_in}
use Rattle.c_runs.specs.CRuns.{Turn, request, asked, roomy, Took, Move, ours, others, Chained, Keeps, Full, Run, own_calls, spoken}
use Rattle.c_runs.specs.CRuns.{own_records, view_bytes, Sight, told, got, has, sights, Demand3Bytes}
use Rattle.c_runs.proofs.Examples.{reported}

-- ---- one call

prec_byte : (n : ℕ) → (n + 128) % 256 ≤ 255
prec_byte n = let y : (n + 128) % 256 < 256 = mod-lt (n + 128) (omega arith) in omega arith

-- whether there is room for the answer and the display
pub room_of_lem : (t : Turn) → T (roomy t) → Room t.room t.wall
unfolding roomy
room_of_lem t o =
    let a = eqb (length t.room) ANSWER in
    let b = eqb (length t.wall) DISPLAY in
    (eqb→eq (length t.room) ANSWER (and_left a b o), eqb→eq (length t.wall) DISPLAY (and_right a b o))

pub room_test : (t : Turn) → Room t.room t.wall → T (roomy t)
unfolding roomy
room_test t o = rw (o.0, o.1) tt

module _ {st tb : List ℕ} {t : Turn} (w : Whole st) (h : Held (state_of st) tb) (k : Took st tb t) (o : T (roomy t)) where
  -- the bytes hold the machine's next state
  pub after : Whole t.state × Held (state_of t.state) t.table
      × (state_in (state_of t.state) t.table ≡ (call (state_in (state_of st) tb) (asked t)).next)
  after = sound-after k.crossed (room_of_lem t o) w h (prec_byte t.prec, k.key) (count_of (asked t).op (asked t) k.count)

  pub over : Carried (op_for (op_of t.op)) (request t) t.combos st tb t.wall t.lent t.n t.state t.table t.display t.list t.answer
  over = k.crossed.carried (room_of_lem t o) w

  pub tells : Told (call (state_in (state_of st) tb) (asked t)) t.lent over.outcome t.table t.list
  tells = over.called.sound h

-- a call without room is answered 255, and not a byte has moved
pub unanswered : {st tb : List ℕ} {t : Turn} → Took st tb t → T (not (roomy t))
    → Unanswered st tb t.wall t.lent t.room t.n t.state t.table t.display t.list t.answer
unanswered {t = t} k o = k.crossed.unanswered (λ r. T_not (roomy t) o (room_test t r))

-- ---- the premises are those of the machine's calls

took-range : {st tb : List ℕ} {t : Turn} → Took st tb t → T (in_bytes (asked t))
unfolding in_bytes in_range
took-range {t = t} k =
    and_both (leb (request t).prec 255 && leb t.key 65535) (counted (asked t).op (asked t))
    (and_both (leb (request t).prec 255) (leb t.key 65535) (le→leb (request t).prec 255 (prec_byte t.prec)) (le→leb t.key 65535 k.key))
    k.count

-- 384 bytes are 64 records
full-lends : (t : Turn) → 384 ≤ length t.lent → T (lends (asked t))
unfolding lends
full-lends t h = le→leb 64 (length t.lent / 6) (omega arith)

-- what the machine's theorem asks of each call that has room
abbrev pub GoesOn : Party → List ℕ → List ℕ → List Move → Type 0
GoesOn p st tb [] = Unit {0}
GoesOn p st tb (ours t ∷ ms) =
    (T (roomy t) → OfK p (state_in (state_of st) tb) (asked t) ⊎ Missing (asked t)) × GoesOn p t.state t.table ms
GoesOn p st tb (others t ∷ ms) = (T (roomy t) → OfOthers p (state_in (state_of st) tb) (asked t)) × GoesOn p t.state t.table ms

module _ (p : Party) {st tb : List ℕ} {t : Turn} (k : Took st tb t) (g : 384 ≤ length t.lent) where
  pub of_own : ByK p (state_in (state_of st) tb) (asked t) ⊎ T (misses (asked t).op (asked t))
      → OfK p (state_in (state_of st) tb) (asked t) ⊎ Missing (asked t)
  of_own b = of_desk_lem p (state_in (state_of st) tb) (asked t) b (full-lends t g) (took-range k)

  pub of_others : ByOthers p (state_in (state_of st) tb) (asked t) → OfOthers p (state_in (state_of st) tb) (asked t)
  of_others b = record { apart = b.apart; low = b.low; fits = took-range k }

keeps-goes : (p : Party) (st tb : List ℕ) (ms : List Move) → Chained st tb ms → Keeps p st tb ms → Full ms → GoesOn p st tb ms
keeps-goes p st tb [] c y f = tt
keeps-goes p st tb (ours t ∷ ms) c y f =
    (λ o. of_own p c.0 (f.0 o) (inl (y.0 o)), keeps-goes p t.state t.table ms c.1 y.1 f.1)
keeps-goes p st tb (others t ∷ ms) c y f =
    (λ o. of_others p c.0 (f.0 o) (y.0 o), keeps-goes p t.state t.table ms c.1 y.1 f.1)

-- ---- the records of the two halves are the bytes of the replies

-- what is put behind a part of a list is found there
drop-splice : (l : List ℕ) (at : ℕ) (vs : List ℕ) → at ≤ length l → drop at (splice l at vs) ≡ vs ++ drop (at + length vs) l
unfolding splice
drop-splice l at vs h = drop_at (take at l) (vs ++ drop (at + length vs) l) at (length-take-le at l h)

-- and the front is as it was
front_splice : (xs ys vs : List ℕ) (at : ℕ) → length xs ≤ at → splice (xs ++ ys) at vs ≡ xs ++ (take (at - length xs) ys ++ (vs ++ drop (at + length vs) (xs ++ ys)))
unfolding splice
front_splice xs ys vs at h =
    let e : at ≡ length xs + (at - length xs) = omega arith in
    ap (λ (z : List ℕ). z ++ (vs ++ drop (at + length vs) (xs ++ ys))) (ap (λ (n : ℕ). take n (xs ++ ys)) e ∙ take-append-add xs ys (at - length xs))
    ∙ append_assoc xs (take (at - length xs) ys) (vs ++ drop (at + length vs) (xs ++ ys))

module _ (l : List ℕ) (rs : List Reply) (g : 384 ≤ length l) (a : length (replies_to DESK_A rs) ≤ HALF) where
  abbrev xs : List ℕ
  xs = encodes (replies_to DESK_A rs)

  abbrev ys : List ℕ
  ys = encodes (replies_to DESK_B rs)

  xs-short : length xs ≤ 192
  xs-short = let e = length-encodes (replies_to DESK_A rs) in omega arith

  -- desk A's bytes stand in front
  pub first_bytes : laid l rs ≡ xs ++ (take (192 - length xs) (drop (0 + length xs) l) ++ (ys ++ drop (192 + length ys) (xs ++ drop (0 + length xs) l)))
  unfolding splice
  first_bytes = front_splice xs (drop (0 + length xs) l) ys 192 xs-short

  -- and desk B's from record 32 on
  pub second-bytes : drop 192 (laid l rs) ≡ ys ++ drop (192 + length ys) (sent l 0 (replies_to DESK_A rs))
  second-bytes =
      let s = xs-short in
      let n = length-splice l 0 xs (omega arith) in
      drop-splice (splice l 0 xs) 192 ys (omega arith)

  first_half : (p : Party) → records_to p (length (replies_to DESK_A rs)) (laid l rs) ≡ map encode (own_replies p (replies_to DESK_A rs))
  first_half p = ap (records_to p (length (replies_to DESK_A rs))) first_bytes ∙ records_to-encodes p (replies_to DESK_A rs) _

  second-half : (p : Party)
      → records_to p (length (replies_to DESK_B rs)) (drop 192 (laid l rs)) ≡ map encode (own_replies p (replies_to DESK_B rs))
  second-half p = ap (records_to p (length (replies_to DESK_B rs))) second-bytes ∙ records_to-encodes p (replies_to DESK_B rs) _

-- the party's of a desk's replies are the desk's of the party's
own_to : (p : Party) (d : ℕ) (rs : List Reply) → own_replies p (replies_to d rs) ≡ replies_to d (own_replies p rs)
unfolding own_replies replies_to
own_to p d rs = keep_swap _ _ rs

-- the answer's numbers are those of the halves
pub took_numbers : {st tb : List ℕ} {t : Turn} → Whole st → Held (state_of st) tb → Took st tb t → T (roomy t)
    → (get_or t.answer 6 0 ≡ length (replies_to DESK_A (call (state_in (state_of st) tb) (asked t)).replies))
    × (get_or t.answer 7 0 ≡ length (replies_to DESK_B (call (state_in (state_of st) tb) (asked t)).replies))
unfolding answer_bytes
took_numbers w h k o =
    let u = tells w h k o in
    let a = (over w h k o).answer in
    (ap (λ (x : List ℕ). get_or x 6 0) a ∙ u.numbers.0, ap (λ (x : List ℕ). get_or x 7 0) a ∙ u.numbers.1)

pub took-records : {st tb : List ℕ} {t : Turn} (p : Party) → Whole st → Held (state_of st) tb → Took st tb t → T (roomy t)
    → 384 ≤ length t.lent → own_records p t ≡ map encode (halves (own_replies p (call (state_in (state_of st) tb) (asked t)).replies))
unfolding own_records halves
took-records {st} {tb} {t} p w h k o g =
    let rs = (call (state_in (state_of st) tb) (asked t)).replies in
    let u = tells w h k o in
    let f = call-halves (state_in (state_of st) tb) (asked t) h.sane in
    let m = took_numbers w h k o in
    rw (test_true (roomy t) o)
    (ap₂ ◌++◌
    (ap₂ (records_to p) m.0 u.list ∙ first_half t.lent rs g f.0 p ∙ ap (map encode) (own_to p DESK_A rs))
    (ap₂ (λ (i : ℕ) (x : List ℕ). records_to p i (drop 192 x)) m.1 u.list
    ∙ second-half t.lent rs g f.0 p ∙ ap (map encode) (own_to p DESK_B rs))
    ∙ sym (map-append encode (replies_to DESK_A (own_replies p rs)) (replies_to DESK_B (own_replies p rs))))

-- ---- what the K party sees is what its calls show it, made alone from its part of the state

-- an answer's six bytes
abbrev pub six : Answer → List ℕ
six a = take 6 (answer_bytes (answer_of a) 0 0)

pub took-answer : {st tb : List ℕ} {t : Turn} (w : Whole st) (h : Held (state_of st) tb) (k : Took st tb t) (o : T (roomy t))
    → spoken t ≡ six (call (state_in (state_of st) tb) (asked t)).answer
unfolding spoken answer_bytes
took-answer {t = t} w h k o =
    rw (test_true (roomy t) o)
    (ap (take 6) (over w h k o).answer ∙ ap (λ (a : _). take 6 (answer_bytes a 0 0)) (tells w h k o).answer)

-- what a state shows the party of its channels
abbrev shown : Party → StateM → Sight
shown p u = has (map channel_bytes (map channel_of (view p u))) (stored_in (view p u) (waiters_of p u))

-- what its calls show it, made one behind the other from the state u; a call without room shows 255, and the state stays
unfoldable alone : Party → StateM → List (Option Call) → List Sight
alone p u [] = shown p u ∷ []
alone p u (none ∷ cs) = told (UNANSWERED ∷ []) ∷ shown p u ∷ alone p u cs
alone p u (some c ∷ cs) =
    map got (map encode (halves (own_replies p (call u c).replies)))
    ++ told (six (call u c).answer) ∷ shown p (call u c).next ∷ alone p (call u c).next cs

has_shown : (p : Party) (st : List ℕ) {tb : List ℕ} → Held (state_of st) tb
    → has (view_bytes p st) (stored_of p (state_of st) tb) ≡ shown p (state_in (state_of st) tb)
unfolding view_bytes
has_shown p st h = ap₂ has (ap (map channel_bytes) (view_of_lem p h)) (stores p h)

-- of a state and of the party's part of it
shown_part : (p : Party) (u : StateM) → shown p (project p u) ≡ shown p u
shown_part p u = rw (view_part p u, waiters_part p u)

-- a call without room reports no record, and tells 255
none_recorded : (p : Party) {st tb : List ℕ} {t : Turn} → Took st tb t → T (not (roomy t)) → own_records p t ≡ []
unfolding own_records
none_recorded p {t = t} k n = rw (test_false (roomy t) n)

none_spoken : {st tb : List ℕ} {t : Turn} → Took st tb t → T (not (roomy t)) → spoken t ≡ UNANSWERED ∷ []
unfolding spoken
none_spoken {t = t} k n = rw (test_false (roomy t) n, (unanswered k n).count)

-- no reply, no record
none_encoded : map got (map encode (halves [])) ≡ []
unfolding halves replies_to keep
none_encoded = refl

module _ (p : Party) {st tb : List ℕ} {t : Turn} (ms : List Move) (w : Whole st) (h : Held (state_of st) tb) (k : Took st tb t)
    (r : Ready p (state_in (state_of st) tb)) where
  abbrev s₀ : StateM
  s₀ = state_in (state_of st) tb

  abbrev s₁ : StateM
  s₁ = state_in (state_of t.state) t.table

  abbrev Rest : Type 0
  Rest =
      Whole t.state → Held (state_of t.state) t.table → Ready p s₁
      → sights p t.state t.table ms ≡ alone p (project p s₁) (own_calls ms)

  abbrev o₁ : StateM
  o₁ = (call s₀ (asked t)).next

  -- with room: the bytes hold the machine's next state
  goes-shown : T (roomy t) → has (view_bytes p t.state) (stored_of p (state_of t.state) t.table) ≡ shown p o₁
  goes-shown o = let a = after w h k o in has_shown p t.state a.1 ∙ ap (shown p) a.2

  goes-rest : T (roomy t) → Ready p o₁ → Rest → sights p t.state t.table ms ≡ alone p (project p o₁) (own_calls ms)
  goes-rest o q e =
      let a = after w h k o in
      e a.0 a.1 (subst (Ready p) (sym a.2) q) ∙ ap (λ (u : StateM). alone p (project p u) (own_calls ms)) a.2

  -- without: neither state nor table has moved
  stays : T (not (roomy t)) → (s₁ ≡ s₀) × Whole t.state × Held (state_of t.state) t.table
  stays n = let u = unanswered k n in rw (u.state, u.table) (refl, w, h)

  stays-shown : T (not (roomy t)) → has (view_bytes p t.state) (stored_of p (state_of t.state) t.table) ≡ shown p s₀
  stays-shown n = let y = stays n in has_shown p t.state y.2 ∙ ap (shown p) y.0

  stays-rest : T (not (roomy t)) → Rest → sights p t.state t.table ms ≡ alone p (project p s₀) (own_calls ms)
  stays-rest n e =
      let y = stays n in
      e y.1 y.2 (subst (Ready p) (sym y.0) r) ∙ ap (λ (u : StateM). alone p (project p u) (own_calls ms)) y.0

  -- a call of the party's
  ours-alone-bytes : (T (roomy t) → OfK p s₀ (asked t) ⊎ Missing (asked t)) → (T (roomy t) → 384 ≤ length t.lent) → Rest
      → sights p st tb (ours t ∷ ms) ≡ alone p (project p s₀) (own_calls (ours t ∷ ms))
  unfolding sights own_calls alone project_out
  ours-alone-bytes b g e = by_test (roomy t) yes_room no_room
    where
      yes_room : T (roomy t) → sights p st tb (ours t ∷ ms) ≡ alone p (project p s₀) (own_calls (ours t ∷ ms))
      yes_room o =
          let z = goes-rest o (ours-ready p s₀ (asked t) r (b o)) e in
          rw (
            test_true (roomy t) o,
            took-records p w h k o (g o),
            took-answer w h k o,
            goes-shown o,
            z,
            ours-alone p s₀ (asked t) r (b o),
            own_replies_twice p (call s₀ (asked t)).replies,
            shown_part p o₁,
          )

      no_room : T (not (roomy t)) → sights p st tb (ours t ∷ ms) ≡ alone p (project p s₀) (own_calls (ours t ∷ ms))
      no_room n = rw (test_false (roomy t) n, none_recorded p k n, none_spoken k n, stays-shown n, stays-rest n e, shown_part p s₀)

  -- any other call
  others-alone : (T (roomy t) → OfOthers p s₀ (asked t)) → (T (roomy t) → 384 ≤ length t.lent) → Rest
      → sights p st tb (others t ∷ ms) ≡ alone p (project p s₀) (own_calls (others t ∷ ms))
  unfolding sights own_calls
  others-alone b g e = by_test (roomy t) yes_room no_room
    where
      yes_room : T (roomy t) → sights p st tb (others t ∷ ms) ≡ alone p (project p s₀) (own_calls (others t ∷ ms))
      yes_room o =
          let m = theirs_mild p s₀ (asked t) r (theirs_of p s₀ (asked t) (b o)) in
          rw (took-records p w h k o (g o), m.quiet, none_encoded)
          (goes-rest o (theirs_ready p s₀ (asked t) r (b o)) e ∙ ap (λ (u : StateM). alone p u (own_calls ms)) m.still)

      no_room : T (not (roomy t)) → sights p st tb (others t ∷ ms) ≡ alone p (project p s₀) (own_calls (others t ∷ ms))
      no_room n = rw (none_recorded p k n) (stays-rest n e)

sights-alone : (p : Party) (st tb : List ℕ) (ms : List Move) → Whole st → Held (state_of st) tb → Chained st tb ms → GoesOn p st tb ms
    → Full ms → Ready p (state_in (state_of st) tb) → sights p st tb ms ≡ alone p (project p (state_in (state_of st) tb)) (own_calls ms)
unfolding sights own_calls alone
sights-alone p st tb [] w h c y f r = ap (λ (x : Sight). x ∷ []) (has_shown p st h ∙ sym (shown_part p (state_in (state_of st) tb)))
sights-alone p st tb (ours t ∷ ms) w h c y f r =
    ours-alone-bytes p ms w h c.0 r y.0 f.0
    (λ w' h' r'. sights-alone p t.state t.table ms w' h' c.1 y.1 f.1 r')
sights-alone p st tb (others t ∷ ms) w h c y f r =
    others-alone p ms w h c.0 r y.0 f.0
    (λ w' h' r'. sights-alone p t.state t.table ms w' h' c.1 y.1 f.1 r')

-- ---- the claim

pub same_bytes : (p : Party) (st tb : List ℕ) (ms ns : List Move) → Whole st → Held (state_of st) tb → Start p (state_in (state_of st) tb)
    → Chained st tb ms → GoesOn p st tb ms → Full ms → Chained st tb ns → GoesOn p st tb ns → Full ns
    → own_calls ms ≡ own_calls ns → sights p st tb ms ≡ sights p st tb ns
same_bytes p st tb ms ns w h a c y f c₂ y₂ f₂ e =
    let u = state_in (state_of st) tb in
    let g = start_ready p u (begins_of p u a) in
    sights-alone p st tb ms w h c y f g ∙ ap (alone p (project p u)) e ∙ sym (sights-alone p st tb ns w h c₂ y₂ f₂ g)

pub k_sees_the_same_bytes : Demand3Bytes
k_sees_the_same_bytes p st tb ms ns w h a r s e =
    same_bytes p st tb ms ns w h a r.chained (keeps-goes p st tb ms r.chained r.keeps r.full) r.full s.chained
    (keeps-goes p st tb ns s.chained s.keeps s.full) s.full e
