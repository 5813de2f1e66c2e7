-- One desk hears nothing of the other, of the bytes of a log: what is its own of a line's output is the same in two states that are alike,
-- and is taken from that output, its replies in front of the answer and apart from the other desk's.
-- Assumes nothing.
use Prim.Native.Nat.{ℕ}
use mathlib.Core.Path.{◌≡◌, refl, ap, ap₂, sym, ◌∙◌}
use mathlib.Core.List.{List, [], ◌∷◌, ◌++◌, append_assoc}
use mathlib.Core.Option.{Option, some}
use Rattle.machine_laws.specs.machine.State.{State, Reply, Answer, Outcome, Call}
use Rattle.machine_laws.specs.machine.Desks.{DESK_A, DESK_B, replies_to, halves}
use Rattle.machine_laws.specs.machine.Call.{call}
use Rattle.machine_laws.specs.machine.Log.{unhex, frame, reply_line, reply_lines, answer_line, told, outcome_of, feed}
use Rattle.one_desk.specs.OneDesk.{Premises, Same, reads, OneDeskLog}
use Rattle.one_desk.proofs.OneDesk.{one_desk_lem}

pub one_desk-log : OneDeskLog
unfolding reads outcome_of
one_desk-log d l c s t e p =
    let h = one_desk_lem d c s t p in
    rw e (ap₂ (λ (rs : List Reply) (a : Answer). reply_lines rs ++ answer_line a) h.replies h.answer)

reply_lines-append : (xs ys : List Reply) → reply_lines (xs ++ ys) ≡ reply_lines xs ++ reply_lines ys
unfolding reply_lines
reply_lines-append [] ys = refl
reply_lines-append (x ∷ xs) ys = rw (reply_lines-append xs ys) (simp append_assoc)

-- a line's output: A's replies, B's replies, the answer
pub reads-output : (s : State) (l : List ℕ)
    → (feed s l).output
    ≡ reply_lines (replies_to DESK_A (outcome_of s (frame (unhex l))).replies) ++ reads DESK_B s l
unfolding feed told halves reads
reads-output s l =
    let o = outcome_of s (frame (unhex l)) in
    let a = replies_to DESK_A o.replies in
    let b = replies_to DESK_B o.replies in
    ap (λ (x : List ℕ). x ++ answer_line o.answer) (reply_lines-append a b) ∙ simp append_assoc
