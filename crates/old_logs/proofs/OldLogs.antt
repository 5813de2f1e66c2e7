-- Document 02, #102: "An old log without F4 and commands 11, 12 and 14, whose writes all have n 0, must give the same output as before
-- #101." Since #109 for a log whose commands name ids of one half, either one. On a board of any number of channels. Assumes nothing
-- else.
use Prim.Native.Nat.{ℕ, zero, suc, ◌+◌}
use mathlib.Core.Path.{◌≡◌, refl, ap}
use mathlib.Core.Bool.{Bool, true, false, ◌&&◌}
use mathlib.Core.List.{List, [], ◌∷◌, map}
use mathlib.Core.Option.{Option, none, some}
use lib.Dec.{T, eqb, leb}
use lib.ListN.{length, get_or, drop}
use Rattle.std.specs.Prelude.{if◌then◌else◌}
use Rattle.machine.specs.Lists.{all}
use Rattle.machine.specs.State.{Channel, Call, Op, OPEN, CLOSE, ABORT, EVENT, CYCLE_ENDED, GAVE_UP, COMMAND, free, frees, fresh_on}
use Rattle.machine.specs.Commands.{done, silent}
use Rattle.machine.specs.Log.{Fed, opened, lines, digit, joined, unhex, op_of, call_of, frame, hex_digit, line, reply_line, answer_line, reply_lines, told, outcome_of, feed, run, log}
use Rattle.machine.specs.Sound.{ids, writes_of}
use Rattle.machine_laws.specs.Replies.{heard}
use Rattle.machine.proofs.Tests.{and_left, and_right}
use Rattle.old_logs.specs.Old
use Rattle.old_logs.specs.Now.{now_channel, now, now_op, now_call, now_reply, now_outcome, now_fed}
use Rattle.old_logs.specs.OldLogs.{old_op, old_call, old_line, OldLog, half_call, half_line, OneHalf}
use Rattle.old_logs.proofs.Halves.{Mine, Stays, halves_one, call_stays}
use Rattle.old_logs.proofs.Calls.{call-now}

-- ---- from a line to a call

abbrev pub now_frame : Option Old.Call → Option Call
now_frame none = none
now_frame (some c) = some (now_call c)

-- by the five tests in their order: F0 to F3 were operations, F4 a command
op_of_now : (b : ℕ) (ms : List ℕ) → T (old_op (op_of b) ms) → op_of b ≡ now_op (Old.op_of b)
unfolding op_of old_op Old.op_of
op_of_now b ms = go (eqb b 0xF0) (eqb b 0xF1) (eqb b 0xF2) (eqb b 0xF3) (eqb b 0xF4)
  where
    op : Bool → Bool → Bool → Bool → Bool → Op
    op f0 f1 f2 f3 f4 = if f0 then OPEN else if f1 then CLOSE else if f2 then ABORT else if f3 then EVENT CYCLE_ENDED else if f4 then EVENT GAVE_UP else COMMAND b

    was : Bool → Bool → Bool → Bool → Old.Op
    was f0 f1 f2 f3 = if f0 then Old.OPEN else if f1 then Old.CLOSE else if f2 then Old.ABORT else if f3 then Old.EVENT else Old.COMMAND b

    go : (f0 f1 f2 f3 f4 : Bool) → T (old_op (op f0 f1 f2 f3 f4) ms) → op f0 f1 f2 f3 f4 ≡ now_op (was f0 f1 f2 f3)
    go true f1 f2 f3 f4 t = refl
    go false true f2 f3 f4 t = refl
    go false false true f3 f4 t = refl
    go false false false true f4 t = refl
    go false false false false true t = absurd t
    go false false false false false t = refl

pub frame-now : (l : Option (List ℕ)) → T (old_call (frame l)) → frame l ≡ now_frame (Old.frame l)
unfolding frame old_call call_of Old.frame Old.call_of
frame-now none t = refl
frame-now (some bs) t = go (leb 8 (length bs) && eqb (length bs) (8 + get_or bs 7 0)) t
  where
    go : (b : Bool) → T (old_call (if b then some (call_of bs) else none)) → (if b then some (call_of bs) else none) ≡ now_frame (if b then some (Old.call_of bs) else none)
    go true u = rw (op_of_now (get_or bs 0 0) (drop 8 bs) u)
    go false u = refl

-- ---- from an outcome to lines

pub reply_lines-now : (rs : List Old.Reply) → reply_lines (map now_reply rs) ≡ Old.reply_lines rs
unfolding reply_lines reply_line line hex_digit Old.reply_lines Old.reply_line Old.line Old.hex_digit
reply_lines-now [] = refl
reply_lines-now (r ∷ rs) = rw (reply_lines-now rs)

told-now : (d : ℕ) (o : Old.Outcome) → Mine d (heard (map now_reply o.replies)) → told (now_outcome o) ≡ Old.told o
unfolding told answer_line line hex_digit Old.told Old.answer_line Old.line Old.hex_digit
told-now d o m = rw (halves_one d (map now_reply o.replies) m, reply_lines-now o.replies)

-- ---- lines in order

outcome_of-now : (d : ℕ) (f : Option Old.Call) (s : Old.State) → Mine d (ids (now s)) → T (half_call d (now_frame f)) → T (old_call (now_frame f))
    → (outcome_of (now s) (now_frame f) ≡ now_outcome (Old.outcome_of s f)) × Stays d (now_outcome (Old.outcome_of s f))
unfolding outcome_of silent done old_call half_call Old.outcome_of Old.silent Old.done
outcome_of-now d none s m h t = (refl, (unfold all in tt, m))
outcome_of-now d (some c) s m h t = let e = call-now d c s m h t in (e, rw e at (call_stays d (now s) (now_call c) m h))

pub feed-now : (d : ℕ) (s : Old.State) (l : List ℕ) → Mine d (ids (now s)) → T (half_line d l) → T (old_line l)
    → (feed (now s) l ≡ now_fed (Old.feed s l)) × Mine d (ids (now (Old.feed s l).next))
unfolding feed old_line half_line unhex digit joined Old.feed Old.unhex Old.digit Old.joined
feed-now d s l m h t =
    let f = Old.frame (Old.unhex l) in
    let e = frame-now (unhex l) t in
    let q = outcome_of-now d f s m (rw e at h) (rw e at t) in
    (rw (e, q.0, told-now d (Old.outcome_of s f) q.1.0), q.1.1)

pub run_now : (d : ℕ) (s : Old.State) (ls : List (List ℕ)) → Mine d (ids (now s)) → T (all (half_line d) ls) → T (all old_line ls) → run (now s) ls ≡ now_fed (Old.run s ls)
unfolding run all Old.run
run_now d s [] m h t = refl
run_now d s (l ∷ ls) m h t =
    let f = feed-now d s l m (and_left (half_line d l) (all (half_line d) ls) h) (and_left (old_line l) (all old_line ls) t) in
    let r =
    run_now d (Old.feed s l).next ls f.1 (and_right (half_line d l) (all (half_line d) ls) h) (and_right (old_line l) (all old_line ls) t) in
    rw (f.0, r)

-- ---- whole logs, from the fresh device

pub fresh-now : (n : ℕ) → fresh_on n ≡ now (Old.fresh_on n)
unfolding frees Old.frees
fresh-now n = ap (λ (cs : List Channel). record { channels = cs; locks = []; waiters = []; waiting = []; opens = []; last = 0 }) (frees-now n)
  where
    frees-now : (n : ℕ) → frees n ≡ map now_channel (Old.frees n)
    frees-now zero = refl
    frees-now (suc n) = ap (λ (cs : List Channel). free ∷ cs) (frees-now n)

-- nothing is outstanding
no_writes : (n : ℕ) → writes_of (map now_channel (Old.frees n)) ≡ []
unfolding writes_of Old.frees
no_writes zero = refl
no_writes (suc n) = no_writes n

fresh-mine : (d n : ℕ) → Mine d (ids (now (Old.fresh_on n)))
unfolding ids
fresh-mine d n = rw (no_writes n) (unfold all in tt)

-- the output, and with it the state: each write stands as n 0 says, and nobody waits for a cycle
pub old_run : (d n : ℕ) (bs : List ℕ) → OldLog bs → OneHalf d bs → run (fresh_on n) (lines bs) ≡ now_fed (Old.run (Old.fresh_on n) (Old.lines bs))
unfolding lines opened Old.lines Old.opened
old_run d n bs t h = rw (fresh-now n) (run_now d (Old.fresh_on n) (lines bs) (fresh-mine d n) h t)

pub old_log : (d n : ℕ) (bs : List ℕ) → OldLog bs → OneHalf d bs → (run (fresh_on n) (lines bs)).output ≡ (Old.run (Old.fresh_on n) (Old.lines bs)).output
old_log d n bs t h = ap (λ (f : Fed). f.output) (old_run d n bs t h)

pub old_log-state : (d n : ℕ) (bs : List ℕ) → OldLog bs → OneHalf d bs → (run (fresh_on n) (lines bs)).next ≡ now (Old.run (Old.fresh_on n) (Old.lines bs)).next
old_log-state d n bs t h = ap (λ (f : Fed). f.next) (old_run d n bs t h)

pub old_log-four : (d : ℕ) (bs : List ℕ) → OldLog bs → OneHalf d bs → log bs ≡ Old.log bs
unfolding log frees Old.log Old.frees
old_log-four d bs t h = old_log d 4 bs t h
