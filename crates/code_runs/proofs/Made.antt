-- Every run of the machine on a board of four or eight channels is a run of the code: a call of the code that hands in the numbers of a
-- machine's call, and a list of as many records, may become the board, the table and the bytes of the machine's outcome. So
-- the premises of demand 3 on the code can be met wherever those on the machine can.
-- Assumes nothing.
use Prim.Native.Nat.{ℕ, ◌*◌, ◌/◌, ◌≤◌}
use mathlib.Core.Path.{◌≡◌, refl, ap₂, sym, subst, ◌∙◌}
use mathlib.Core.List.{List, [], ◌∷◌, map}
use native.Mathlib.Omega.{arith}
use native.Mathlib.Nat.{zero-add}
use lib.Dec.{T, leb, leb→le}
use lib.ListN.{length, length-replicate}
use Rattle.answers.specs.machine.Lists.{all}
use Rattle.answers.specs.machine.State.{Call, Op as OpM, OPEN, CLOSE, ABORT, EVENT, CYCLE_ENDED, GAVE_UP, COMMAND, State as StateM}
use Rattle.answers.specs.machine.Call.{call, in_range}
use Rattle.answers.specs.machine.Sound.{sound}
use Rattle.answers.proofs.machine.Tests.{and_left, and_right}
use Rattle.machine_laws.proofs.Sound.{parts}
use Rattle.machine_laws.proofs.KeepingCalls.{call-sound}
use Rattle.machine_laws.proofs.Board.{call-wide}
use Rattle.answers.specs.reply.Replies.{sent}
use Rattle.answers.specs.store.Store.{table_of}
use Rattle.board.specs.Board.{sized, struct_of, state_in, Held, Told}
use Rattle.board.proofs.Laws.{held_of, state_in_of}
use Rattle.arbiter.specs.refusals.Refusals.{op_in, op_for}
use Rattle.two_runs.specs.TwoRuns.{Party, Step, our, their, Keeps as KeepsM, Run as RunM, calls, counted, in_bytes, lends, own, said}
use Rattle.code_runs.specs.CodeRuns.{asked, Took, Chained, Keeps, Full, Run, own_calls}
use Rattle.code_runs.specs.Made.{number_out, blank, outcome_of, made, moves, OnBoard}
use Rattle.code_runs.proofs.CodeRuns.{count_of}

-- ---- the call of the code

op_out : (o : OpM) → op_in (op_for o) (number_out o) ≡ o
op_out OPEN = refl
op_out CLOSE = refl
op_out ABORT = refl
op_out (EVENT CYCLE_ENDED) = refl
op_out (EVENT GAVE_UP) = refl
op_out (COMMAND n) = refl

length-blank : (n : ℕ) → length (blank n) ≡ n * 6
length-blank n = length-replicate {A = ℕ} (n * 6) 0

asked_made : (s : StateM) (c : Call) → asked (made s c) ≡ c
asked_made s c =
    let a = op_out c.op in
    let e = length-blank c.room in
    let b : length (blank c.room) / 6 ≡ c.room = omega arith in
    λ i. record { op = a i; desk = c.desk; id = c.id; flags = c.flags; map = c.map; prec = c.prec; key = c.key; combos = c.combos; room = b i }

pub own_calls-moves : (s : StateM) (xs : List Step) → own_calls (moves s xs) ≡ own xs
unfolding own_calls own
own_calls-moves s [] = refl
own_calls-moves s (our c ∷ xs) = ap₂ (λ (d : Call) (ds : List Call). said d ∷ ds) (asked_made s c) (own_calls-moves (call s c).next xs)
own_calls-moves s (their c ∷ xs) = own_calls-moves (call s c).next xs

-- ---- it keeps the promise

pub bytes-range : (c : Call) → T (in_bytes c) → T (in_range c)
unfolding in_bytes
bytes-range c t = and_left (in_range c) (counted c.op c) t

pub bytes_count : (c : Call) → T (in_bytes c) → T (counted c.op c)
unfolding in_bytes
bytes_count c t = and_right (in_range c) (counted c.op c) t

pub sound_next : (s : StateM) (c : Call) → T (in_bytes c) → T (sound s) → T (sound (call s c).next)
sound_next s c f t = call-sound s c (bytes-range c f) (count_of c.op c (bytes_count c f)) t

pub board_next : (s : StateM) (c : Call) → T (in_bytes c) → OnBoard s → OnBoard (call s c).next
board_next s c f b = record { sane = sound_next s c f b.sane; size = subst (λ (n : ℕ). T (sized n)) (sym (call-wide s c)) b.size }

module _ {s : StateM} (b : OnBoard s) where
  pub board-state : state_in (struct_of s) (table_of s) ≡ s
  board-state = state_in_of s (parts s b.sane)

  pub board_held : Held (struct_of s) (table_of s)
  board_held = held_of s (parts s b.sane) b.size

  module _ (c : Call) where
    made_told : Told (call s c) (blank c.room) (outcome_of (call s c)) (table_of (call s c).next) (sent (blank c.room) 0 (call s c).replies)
    made_told = record { answer = refl; did = record { struct = refl; table = refl; list = refl; count = sym (zero-add (length (call s c).replies)) } }

    made_took : T (in_bytes c) → Took (struct_of s) (table_of s) (made s c)
    unfolding in_range
    made_took f =
        let g = bytes-range c f in
        record {
          called = record { sound = λ _. rw (board-state, asked_made s c) made_told; unsound = λ n. absurd (n board_held) };
          prec = leb→le c.prec 255 (and_left (leb c.prec 255) (leb c.key 65535) g);
          key = leb→le c.key 65535 (and_right (leb c.prec 255) (leb c.key 65535) g);
          count = subst (λ (d : Call). T (counted d.op d)) (sym (asked_made s c)) (bytes_count c f);
        }

-- ---- so the run is one of the code

chained-moves : (s : StateM) (xs : List Step) → OnBoard s → T (all in_bytes (calls xs)) → Chained (struct_of s) (table_of s) (moves s xs)
unfolding calls all
chained-moves s [] b f = tt
chained-moves s (our c ∷ xs) b f =
    let g = and_left (in_bytes c) (all in_bytes (calls xs)) f in
    (made_took b c g, chained-moves (call s c).next xs (board_next s c g b) (and_right (in_bytes c) (all in_bytes (calls xs)) f))
chained-moves s (their c ∷ xs) b f =
    let g = and_left (in_bytes c) (all in_bytes (calls xs)) f in
    (made_took b c g, chained-moves (call s c).next xs (board_next s c g b) (and_right (in_bytes c) (all in_bytes (calls xs)) f))

keeps-moves : (p : Party) (s : StateM) (xs : List Step) → OnBoard s → T (all in_bytes (calls xs)) → KeepsM p s xs
    → Keeps p (struct_of s) (table_of s) (moves s xs)
unfolding calls all
keeps-moves p s [] b f k = tt
keeps-moves p s (our c ∷ xs) b f k =
    let g = and_left (in_bytes c) (all in_bytes (calls xs)) f in (
      rw (board-state b, asked_made s c) k.0,
      keeps-moves p (call s c).next xs (board_next s c g b) (and_right (in_bytes c) (all in_bytes (calls xs)) f) k.1,
    )
keeps-moves p s (their c ∷ xs) b f k =
    let g = and_left (in_bytes c) (all in_bytes (calls xs)) f in (
      rw (board-state b, asked_made s c) k.0,
      keeps-moves p (call s c).next xs (board_next s c g b) (and_right (in_bytes c) (all in_bytes (calls xs)) f) k.1,
    )

made_full : (c : Call) → T (lends c) → 384 ≤ length (blank c.room)
unfolding lends
made_full c l = let e = length-blank c.room in let h = leb→le 64 c.room l in omega arith

full-moves : (s : StateM) (xs : List Step) → T (all lends (calls xs)) → Full (moves s xs)
unfolding calls all
full-moves s [] l = tt
full-moves s (our c ∷ xs) l = (made_full c (and_left (lends c) (all lends (calls xs)) l), full-moves (call s c).next xs (and_right (lends c) (all lends (calls xs)) l))
full-moves s (their c ∷ xs) l = (made_full c (and_left (lends c) (all lends (calls xs)) l), full-moves (call s c).next xs (and_right (lends c) (all lends (calls xs)) l))

pub machine_runs_are_code_runs : (p : Party) (s : StateM) (xs : List Step) → OnBoard s → RunM p s xs → Run p (struct_of s) (table_of s) (moves s xs)
machine_runs_are_code_runs p s xs b r =
    record { chained = chained-moves s xs b r.fits; keeps = keeps-moves p s xs b r.fits r.keeps; full = full-moves s xs r.full }
