-- Demand 3 on the code: a run of the code from a board and a table that hold a sound state is the machine's run from that state.
-- Each call's answer is the machine's, its records are the bytes of the machine's replies, and its board and table hold the
-- machine's next state. So what the K party sees of it is what it sees of the machine's run, spelt in structs and bytes, and
-- the machine's theorem carries over.
-- Assumes nothing.
use Prim.Native.Nat.{ℕ, ◌+◌, ◌/◌, ◌≤◌, ◌<◌}
use mathlib.Core.Path.{◌≡◌, refl, ap, ap₂, sym, subst, ◌∙◌}
use mathlib.Core.Bool.{Bool, true, false, not, ◌&&◌}
use mathlib.Core.List.{List, [], ◌∷◌, ◌++◌, map, map-append}
use native.Mathlib.Omega.{arith}
use native.Mathlib.Nat.{zero-add}
use lib.Dec.{T, eqb, leb, le→leb, leb→le}
use lib.ListN.{length, get_or, drop}
use Rattle.std.specs.Prelude.{if◌then◌else◌}
use Rattle.answers.specs.machine.Lists.{all, keep}
use Rattle.answers.specs.machine.Numbers.{CMD_WRITE, CYCLES}
use Rattle.answers.specs.machine.State.{Call, Channel as ChannelM, Op as OpM, OPEN, CLOSE, ABORT, EVENT, COMMAND, Reply, State as StateM, free}
use Rattle.answers.specs.machine.Commands.{cycles_in}
use Rattle.answers.specs.machine.Call.{call, in_range}
use Rattle.answers.proofs.machine.Tests.{and_both, or_right}
use Rattle.machine_laws.specs.Keeping.{Counted}
use Rattle.memory.specs.Splice.{splice}
use Rattle.board.specs.channel.declared.Channel.{Channel}
use Rattle.board.specs.channel.Channel.{channel_of}
use Rattle.answers.specs.reply.Replies.{encode, encodes, sent}
use Rattle.board.specs.declared.Board.{Board}
use Rattle.answers.specs.Answers.{answer_in}
use Rattle.board.specs.Board.{state_in, Held, Told}
use Rattle.board.proofs.Laws.{held_channels}
use Rattle.board.specs.declared.Outcome.{Outcome}
use Rattle.answers.specs.declared.Request.{Request}
use Rattle.arbiter.specs.refusals.declared.Op.{Op}
use Rattle.arbiter.specs.Outcome.{Same}
use Rattle.arbiter.proofs.Outcome.{held_after, one_outcome}
use Rattle.two_runs.specs.TwoRuns.{Party, Start, their, Keeps as KeepsM, Run as RunM, reached, calls, counted, in_bytes, lends, own, said, mask, view, waiters_of, own_replies, answered, received, owning, seen}
use Rattle.two_runs.specs.Part.{project}
use Rattle.two_runs.proofs.TwoRuns.{k_sees_its_part, others_leave_k_alone}
use Rattle.code_runs.specs.CodeRuns.{Turn, asked, Took, Move, ours, others, Chained, Keeps, Full, Run, own_calls, records, records_to, own_records, mask_of, view_of, stored_of, Sight, got, has, sights, Demand3Code, state_after, table_after, step, steps, spelt}
use Rattle.code_runs.specs.Stored.{stored_in}
use Rattle.code_runs.proofs.Stored.{stored_of_lem}

-- ---- the machine's steps of a run

own_calls-steps : (ms : List Move) → own_calls ms ≡ own (steps ms)
unfolding own_calls own
own_calls-steps [] = refl
own_calls-steps (ours t ∷ ms) = ap (λ (cs : List Call). said (asked t) ∷ cs) (own_calls-steps ms)
own_calls-steps (others t ∷ ms) = own_calls-steps ms

-- ---- one call: the machine's outcome, and what is next is held

pub count_of : (o : OpM) (c : Call) → T (counted o c) → Counted o c
unfolding counted
count_of o c t e = leb→le (cycles_in c.combos) CYCLES (subst (λ (x : OpM). T (counted x c)) e t)

-- what a program lends are bytes, and two of them are a count
pub bytes_counted : (o : OpM) (c : Call) → ((i : ℕ) → get_or c.combos i 0 < 256) → T (counted o c)
unfolding counted cycles_in
bytes_counted OPEN c h = tt
bytes_counted CLOSE c h = tt
bytes_counted ABORT c h = tt
bytes_counted (EVENT v) c h = tt
bytes_counted (COMMAND n) c h = or_right (not (eqb n CMD_WRITE)) (leb (cycles_in c.combos) CYCLES) (le→leb (cycles_in c.combos) CYCLES (go c.combos h))
  where
    go : (ms : List ℕ) → ((i : ℕ) → get_or ms i 0 < 256) → cycles_in ms ≤ CYCLES
    go [] g = omega arith
    go (b ∷ ms) g = omega (arith, g 0, g 1)

module _ {st : Board} {tb : List ℕ} {t : Turn} (h : Held st tb) (k : Took st tb t) where
  pub took-told : Told (call (state_in st tb) (asked t)) t.lent t.outcome t.table t.list
  took-told = k.called.sound h

  took-after : Held t.outcome.state t.table × (state_in t.outcome.state t.table ≡ (call (state_in st tb) (asked t)).next)
  took-after = held_after t.op t.request t.combos t.lent h (k.prec, k.key) (count_of (asked t).op (asked t) k.count) took-told

  pub took_held : Held t.outcome.state t.table
  took_held = took-after.0

  pub took_next : state_in t.outcome.state t.table ≡ (call (state_in st tb) (asked t)).next
  took_next = took-after.1

  pub took-answer : answer_in t.outcome.answer ≡ (call (state_in st tb) (asked t)).answer
  took-answer = ap answer_in took-told.answer

-- ---- the records of a list are the bytes of the replies

pub records_to-encodes : (p : Party) (rs : List Reply) (l : List ℕ) → records_to p (length rs) (encodes rs ++ l) ≡ map encode (own_replies p rs)
unfolding records_to records keep own_replies
records_to-encodes p [] l = refl
records_to-encodes p (r ∷ rs) l = rw (records_to-encodes p rs l) (go (p.mine r.id))
  where
    go : (b : Bool) → (if b then encode r ∷ map encode (own_replies p rs) else map encode (own_replies p rs)) ≡ map encode (if b then r ∷ own_replies p rs else own_replies p rs)
    go true = refl
    go false = refl

records_to-sent : (p : Party) (rs : List Reply) (l : List ℕ) → records_to p (length rs) (sent l 0 rs) ≡ map encode (own_replies p rs)
unfolding splice
records_to-sent p rs l = records_to-encodes p rs (drop (0 + length (encodes rs)) l)

pub took-records : {st : Board} {tb : List ℕ} {t : Turn} (p : Party) → Held st tb → Took st tb t
    → own_records p t ≡ map encode (own_replies p (call (state_in st tb) (asked t)).replies)
unfolding own_records
took-records {st} {tb} {t} p h k =
    let d = (took-told h k).did in
    let rs = (call (state_in st tb) (asked t)).replies in
    ap₂ (records_to p) (d.count ∙ zero-add (length rs)) d.list ∙ records_to-sent p rs t.lent

-- ---- the channels of a board are those of its state

mask_of_lem : (p : Party) (cs : List ChannelM) → map (mask_of p) (map channel_of cs) ≡ map channel_of (map (mask p) cs)
unfolding mask_of mask
mask_of_lem p [] = refl
mask_of_lem p (c ∷ cs) = ap₂ ◌∷◌ (go (eqb c.key p.key)) (mask_of_lem p cs)
  where
    go : (b : Bool) → (if b then channel_of c else channel_of free) ≡ channel_of (if b then c else free)
    go true = refl
    go false = refl

pub view_of_lem : {st : Board} {tb : List ℕ} (p : Party) → Held st tb → view_of p st ≡ map channel_of (view p (state_in st tb))
unfolding view_of view
view_of_lem {st} {tb} p h = ap (map (mask_of p)) (held_channels h) ∙ mask_of_lem p (state_in st tb).channels

pub stores : {st : Board} {tb : List ℕ} (p : Party) → Held st tb → stored_of p st tb ≡ stored_in (view p (state_in st tb)) (waiters_of p (state_in st tb))
stores p h = stored_of_lem p h (view_of_lem p h)

-- ---- what the K party sees is what it sees of the machine's run

spelt-received : (rs : List Reply) → map spelt (map received rs) ≡ map got (map encode rs)
spelt-received [] = refl
spelt-received (r ∷ rs) = ap (λ (x : List Sight). got (encode r) ∷ x) (spelt-received rs)

pub sights-spelt : (p : Party) (st : Board) (tb : List ℕ) (ms : List Move) → Held st tb → Chained st tb ms
    → sights p st tb ms ≡ map spelt (seen p (state_in st tb) (steps ms))
unfolding sights seen
sights-spelt p st tb [] h c = ap₂ (λ (cs : List Channel) (bs : List (List ℕ)). has cs bs ∷ []) (view_of_lem p h) (stores p h)
sights-spelt p st tb (ours t ∷ ms) h c =
    let o = call (state_in st tb) (asked t) in
    rw (
      map-append spelt (map received (own_replies p o.replies)) (answered o.answer ∷ owning (view p o.next) (waiters_of p o.next) ∷ seen p o.next (steps ms)),
      spelt-received (own_replies p o.replies),
      took-records p h c.0,
      (took-told h c.0).answer,
      view_of_lem p (took_held h c.0),
      stores p (took_held h c.0),
      sights-spelt p t.outcome.state t.table ms (took_held h c.0) c.1,
      took_next h c.0,
    )
sights-spelt p st tb (others t ∷ ms) h c =
    let o = call (state_in st tb) (asked t) in
    rw (
      map-append spelt (map received (own_replies p o.replies)) (seen p o.next (steps ms)),
      spelt-received (own_replies p o.replies),
      took-records p h c.0,
      sights-spelt p t.outcome.state t.table ms (took_held h c.0) c.1,
      took_next h c.0,
    )

-- ---- the premises are those of the machine's run

keeps-steps : (p : Party) (st : Board) (tb : List ℕ) (ms : List Move) → Held st tb → Chained st tb ms → Keeps p st tb ms → KeepsM p (state_in st tb) (steps ms)
keeps-steps p st tb [] h c k = tt
keeps-steps p st tb (ours t ∷ ms) h c k =
    (k.0, subst (λ (s : StateM). KeepsM p s (steps ms)) (took_next h c.0) (keeps-steps p t.outcome.state t.table ms (took_held h c.0) c.1 k.1))
keeps-steps p st tb (others t ∷ ms) h c k =
    (k.0, subst (λ (s : StateM). KeepsM p s (steps ms)) (took_next h c.0) (keeps-steps p t.outcome.state t.table ms (took_held h c.0) c.1 k.1))

took-range : {st : Board} {tb : List ℕ} {t : Turn} → Took st tb t → T (in_bytes (asked t))
unfolding in_bytes in_range
took-range {t = t} k =
    and_both (leb t.request.prec 255 && leb t.request.key 65535) (counted (asked t).op (asked t))
    (and_both (leb t.request.prec 255) (leb t.request.key 65535) (le→leb t.request.prec 255 k.prec) (le→leb t.request.key 65535 k.key))
    k.count

fits_steps : (st : Board) (tb : List ℕ) (ms : List Move) → Chained st tb ms → T (all in_bytes (calls (steps ms)))
unfolding calls all
fits_steps st tb [] c = tt
fits_steps st tb (ours t ∷ ms) c = and_both (in_bytes (asked t)) (all in_bytes (calls (steps ms))) (took-range c.0) (fits_steps t.outcome.state t.table ms c.1)
fits_steps st tb (others t ∷ ms) c = and_both (in_bytes (asked t)) (all in_bytes (calls (steps ms))) (took-range c.0) (fits_steps t.outcome.state t.table ms c.1)

-- 384 bytes are 64 records
full-lends : (t : Turn) → 384 ≤ length t.lent → T (lends (asked t))
unfolding lends
full-lends t h = le→leb 64 (length t.lent / 6) (omega arith)

full-steps : (ms : List Move) → Full ms → T (all lends (calls (steps ms)))
unfolding calls all
full-steps [] f = tt
full-steps (ours t ∷ ms) f = and_both (lends (asked t)) (all lends (calls (steps ms))) (full-lends t f.0) (full-steps ms f.1)
full-steps (others t ∷ ms) f = and_both (lends (asked t)) (all lends (calls (steps ms))) (full-lends t f.0) (full-steps ms f.1)

pub run_steps : (p : Party) (st : Board) (tb : List ℕ) (ms : List Move) → Held st tb → Run p st tb ms → RunM p (state_in st tb) (steps ms)
run_steps p st tb ms h r =
    record { keeps = keeps-steps p st tb ms h r.chained r.keeps; full = full-steps ms r.full; fits = fits_steps st tb ms r.chained }

-- ---- the claim

-- more than is asked: the runs may begin with two boards and two tables, if K's part of what they hold is the same
pub k_sees_its_part_of_the_code : (p : Party) (st su : Board) (tb tc : List ℕ) (ms ns : List Move) → Held st tb → Held su tc
    → Start p (state_in st tb) → Start p (state_in su tc) → project p (state_in st tb) ≡ project p (state_in su tc)
    → Run p st tb ms → Run p su tc ns → own_calls ms ≡ own_calls ns → sights p st tb ms ≡ sights p su tc ns
k_sees_its_part_of_the_code p st su tb tc ms ns h g a b q r s e =
    sights-spelt p st tb ms h r.chained
    ∙ ap (map spelt)
    (k_sees_its_part p (state_in st tb) (state_in su tc) (steps ms) (steps ns) a b q (run_steps p st tb ms h r) (run_steps p su tc ns g s)
    (sym (own_calls-steps ms) ∙ e ∙ own_calls-steps ns))
    ∙ sym (sights-spelt p su tc ns g s.chained)

pub k_sees_the_same_of_the_code : Demand3Code
k_sees_the_same_of_the_code p st tb ms ns h a r s e = k_sees_its_part_of_the_code p st st tb tb ms ns h h a a refl r s e

-- ---- and the others leave it alone, at every moment

-- what stands behind a run: the board and the table hold the state that the machine has reached, and the last call took them
record Behind (st : Board) (tb : List ℕ) (ms : List Move) (t : Turn) : Type 0 where
  held : Held (state_after st ms) (table_after tb ms)
  same : state_in (state_after st ms) (table_after tb ms) ≡ reached (state_in st tb) (steps ms)
  took : Took (state_after st ms) (table_after tb ms) t

behind : (st : Board) (tb : List ℕ) (ms : List Move) (t : Turn) → Held st tb → Chained st tb (ms ++ others t ∷ []) → Behind st tb ms t
unfolding state_after table_after reached
behind st tb [] t h c = record { held = h; same = refl; took = c.0 }
behind st tb (ours u ∷ ms) t h c =
    let b = behind u.outcome.state u.table ms t (took_held h c.0) c.1 in
    record { held = b.held; same = b.same ∙ ap (λ (s : StateM). reached s (steps ms)) (took_next h c.0); took = b.took }
behind st tb (others u ∷ ms) t h c =
    let b = behind u.outcome.state u.table ms t (took_held h c.0) c.1 in
    record { held = b.held; same = b.same ∙ ap (λ (s : StateM). reached s (steps ms)) (took_next h c.0); took = b.took }

-- a call of the others, behind any run, reports no record to an id of the K party's and leaves its channels, and what is stored of
-- them, as they are
pub others_leave_k_alone_of_the_code : (p : Party) (st : Board) (tb : List ℕ) (ms : List Move) (t : Turn) → Held st tb → Start p (state_in st tb)
    → Run p st tb (ms ++ others t ∷ []) → (own_records p t ≡ []) × (view_of p t.outcome.state ≡ view_of p (state_after st ms))
    × (stored_of p t.outcome.state t.table ≡ stored_of p (state_after st ms) (table_after tb ms))
others_leave_k_alone_of_the_code p st tb ms t h a r =
    let b = behind st tb ms t h r.chained in
    let m : RunM p (state_in st tb) (steps ms ++ their (asked t) ∷ []) = rw (map-append step ms (others t ∷ [])) at (run_steps p st tb (ms ++ others t ∷ []) h r) in
    let q = rw (← b.same) at (others_leave_k_alone p (state_in st tb) (steps ms) (asked t) a m) in (
      took-records p b.held b.took ∙ ap (map encode) q.0,
      view_of_lem p (took_held b.held b.took)
          ∙ ap (λ (s : StateM). map channel_of (view p s)) (took_next b.held b.took)
          ∙ ap (map channel_of) q.1
          ∙ sym (view_of_lem p b.held),
      stores p (took_held b.held b.took)
          ∙ ap (λ (s : StateM). stored_in (view p s) (waiters_of p s)) (took_next b.held b.took)
          ∙ ap₂ stored_in q.1 q.2
          ∙ sym (stores p b.held),
    )

-- ---- one turn

-- no second outcome fits a turn: it is the call's
pub one_turn : {b : Board} {tb : List ℕ} {op : Op} {r : Request} {ms l : List ℕ} {d d₂ : Outcome} {tb₁ tb₂ l₁ l₂ : List ℕ}
    → Took b tb (record { op = op; request = r; combos = ms; lent = l; outcome = d; table = tb₁; list = l₁ })
    → Took b tb (record { op = op; request = r; combos = ms; lent = l; outcome = d₂; table = tb₂; list = l₂ })
    → Same d d₂ tb₁ tb₂ l₁ l₂
one_turn t u = one_outcome t.called u.called
