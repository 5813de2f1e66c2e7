-- Demand 3 of the bytes that a program in C lends is about something: every run of the machine whose calls are numbers of a program
-- in C is a run of its calls, and two such runs, from one state, meet every premise. K sees the same bytes in both.
-- Assumes nothing.
use Prim.Native.Nat.{ℕ, ◌≤◌}
use mathlib.Core.Path.{◌≡◌, refl, ap, sym, subst, ◌∙◌}
use mathlib.Core.List.{List, [], ◌∷◌, ◌++◌, map}
use mathlib.Core.Option.{Option, none, some}
use native.Mathlib.Omega.{arith}
use lib.Dec.{T, leb, leb→le}
use lib.ListN.{length, length-replicate}
use Rattle.machine.specs.Lists.{all}
use Rattle.machine.specs.State.{Call, Outcome as OutcomeM, State as StateM}
use Rattle.machine.specs.Desks.{DESK_A, DESK_B, desk_of, replies_to}
use Rattle.machine.specs.Log.{op_of}
use Rattle.machine.specs.Call.{call, in_range}
use Rattle.machine.specs.Machine.{machine}
use Rattle.machine.proofs.Tests.{and_left, and_right}
use Rattle.display.proofs.machine_laws.Sound.{parts}
use Rattle.display.specs.Display.{blank, displayed}
use Rattle.halves.specs.Halves.{laid}
use Rattle.image.specs.store.Store.{table_of}
use Rattle.image.specs.board.declared.Board.{Board}
use Rattle.image.specs.board.Board.{struct_of, state_in, Held}
use Rattle.image.specs.Image.{state_of, Whole}
use Rattle.image.proofs.Round.{state_of_image_of}
use Rattle.images.proofs.Images.{saved_of, sized_of}
use Rattle.answers.specs.Answers.{answer_of}
use Rattle.code_runs.specs.refusals.Refusals.{op_for}
use Rattle.code_runs.specs.arbiter.Arbiter.{Shows}
use Rattle.boundary.specs.desk_call.DeskCall.{Outcome, Told, Called}
use Rattle.boundary.specs.sizes.Sizes.{REPLIES}
use Rattle.two_runs.specs.TwoRuns.{Party, Start, Step, our, their, Keeps as KeepsM, Run as RunM, calls, claim, counted, in_bytes, said}
use Rattle.two_runs.specs.Desk.{KeepsApart as KeepsApartM, RunOfDesk as RunOfDeskM}
use Rattle.two_runs.proofs.Premises.{premises, runs_all, starts_all}
use Rattle.boundary.specs.Boundary.{UNANSWERED}
use Rattle.code_runs.specs.Made.{OnBoard}
use Rattle.code_runs.proofs.Made.{bytes_count, bytes-range, board_held, board_next, board-state, sound_next}
use Rattle.code_runs.proofs.Witness.{party, start, board, numbers}
use Rattle.c_runs.specs.CRuns.{Turn, roomy, request, Took, Move, ours, others, Chained, Keeps, Full, Run, own_calls, sights}
use Rattle.c_runs.specs.Desk.{KeepsApart, RunOfDesk}
use Rattle.c_runs.specs.Made.{Ask, records, spelt, bytes_of, made, missed, Says, our_ask, their_ask, our_miss, their_miss, steps, moves, own_says}
use Rattle.c_runs.proofs.CRuns.{k_sees_the_same_bytes}

-- ---- a call as a program in C makes it, with a full reply list, and what it may become

-- it has room
pub made_roomy : (s : StateM) (a : Ask) → T (roomy (made s a))
unfolding roomy
made_roomy s a = tt

pub own_calls-moves : (s : StateM) (xs : List Says) → own_calls (moves s xs) ≡ own_says xs
unfolding roomy own_calls
own_calls-moves s [] = refl
own_calls-moves s (our_ask a ∷ xs) = ap (λ (cs : List (Option Call)). some (said (spelt a)) ∷ cs) (own_calls-moves (call s (spelt a)).next xs)
own_calls-moves s (their_ask a ∷ xs) = own_calls-moves (call s (spelt a)).next xs
own_calls-moves s (our_miss ∷ xs) = ap (λ (cs : List (Option Call)). none ∷ cs) (own_calls-moves s xs)
own_calls-moves s (their_miss ∷ xs) = own_calls-moves s xs

-- ---- it keeps the promise

abbrev outcome_of : OutcomeM → Outcome
outcome_of o =
    record {
      answer = answer_of o.answer;
      state = struct_of o.next;
      a = length (replies_to DESK_A o.replies);
      b = length (replies_to DESK_B o.replies);
    }

module _ {s : StateM} (b : OnBoard s) where
  pub bytes_whole : Whole (bytes_of s)
  bytes_whole = (saved_of s (parts s b.sane)).whole

  pub bytes-state : state_of (bytes_of s) ≡ struct_of s
  bytes-state = state_of_image_of (struct_of s) (sized_of s (parts s b.sane))

  pub bytes_held : Held (state_of (bytes_of s)) (table_of s)
  bytes_held = rw bytes-state (board_held b)

  module _ (a : Ask) (f : T (in_bytes (spelt a))) where
    made_told : Told (call s (spelt a)) records (outcome_of (call s (spelt a))) (table_of (call s (spelt a)).next) (laid records (call s (spelt a)).replies)
    made_told = record { answer = refl; struct = refl; table = refl; numbers = (refl, refl); list = refl }

    made_called : Called (op_for (op_of a.op)) (request (made s a)) (struct_of s) a.combos (table_of s) records (outcome_of (call s (spelt a)))
        (table_of (call s (spelt a)).next) (laid records (call s (spelt a)).replies)
    made_called = record { sound = λ _. rw (board-state b) made_told; unsound = λ n. absurd (n (board_held b)) }

    made_shown : Shows (op_for (op_of a.op)) (request (made s a)) (struct_of s) a.combos (table_of s) records blank (displayed s (spelt a) blank)
    made_shown = record { sound = λ _. rw (board-state b); unsound = λ n. absurd (n (board_held b)) }

    pub made_took : Took (bytes_of s) (table_of s) (made s a)
    unfolding in_range
    made_took =
        let o = call s (spelt a) in
        record {
          crossed =
              record {
                unanswered = λ n. absurd (n (refl, refl));
                unread = λ _ n. absurd (n bytes_whole);
                carried = λ _ _. record {
                  outcome = outcome_of o;
                  called = rw bytes-state made_called;
                  shown = rw bytes-state made_shown;
                  count = refl;
                  state = saved_of o.next (parts o.next (sound_next s (spelt a) f b.sane));
                  answer = refl;
                };
              };
          key = leb→le a.key 65535 (and_right (leb (spelt a).prec 255) (leb a.key 65535) (bytes-range (spelt a) f));
          count = bytes_count (spelt a) f;
        }

-- and so does a call without room
pub missed-took : (s : StateM) → Took (bytes_of s) (table_of s) (missed s)
unfolding op_of counted
missed-took s =
    record {
      crossed =
          record {
            unanswered = λ _. record { count = refl; state = refl; table = refl; display = refl; list = refl; answer = refl };
            unread = λ r _. absurd (let z = r.0 in omega arith);
            carried = λ r _. absurd (let z = r.0 in omega arith);
          };
      key = omega arith;
      count = tt;
    }

missed-roomy : (s : StateM) → T (roomy (missed s)) → ⊥
unfolding roomy
missed-roomy s t = t

-- ---- so the run is one of a program in C

chained-moves : (s : StateM) (xs : List Says) → OnBoard s → T (all in_bytes (calls (steps xs))) → Chained (bytes_of s) (table_of s) (moves s xs)
unfolding calls all
chained-moves s [] b f = tt
chained-moves s (our_ask a ∷ xs) b f =
    let g = and_left (in_bytes (spelt a)) (all in_bytes (calls (steps xs))) f in
    (made_took b a g, chained-moves (call s (spelt a)).next xs (board_next s (spelt a) g b) (and_right (in_bytes (spelt a)) (all in_bytes (calls (steps xs))) f))
chained-moves s (their_ask a ∷ xs) b f =
    let g = and_left (in_bytes (spelt a)) (all in_bytes (calls (steps xs))) f in
    (made_took b a g, chained-moves (call s (spelt a)).next xs (board_next s (spelt a) g b) (and_right (in_bytes (spelt a)) (all in_bytes (calls (steps xs))) f))
chained-moves s (our_miss ∷ xs) b f = (missed-took s, chained-moves s xs b f)
chained-moves s (their_miss ∷ xs) b f = (missed-took s, chained-moves s xs b f)

keeps-moves : (p : Party) (s : StateM) (xs : List Says) → OnBoard s → T (all in_bytes (calls (steps xs))) → KeepsM p s (steps xs)
    → Keeps p (bytes_of s) (table_of s) (moves s xs)
unfolding calls all
keeps-moves p s [] b f k = tt
keeps-moves p s (our_ask a ∷ xs) b f k =
    let g = and_left (in_bytes (spelt a)) (all in_bytes (calls (steps xs))) f in (
      λ _. rw (bytes-state b, board-state b) k.0,
      keeps-moves p (call s (spelt a)).next xs (board_next s (spelt a) g b) (and_right (in_bytes (spelt a)) (all in_bytes (calls (steps xs))) f) k.1,
    )
keeps-moves p s (their_ask a ∷ xs) b f k =
    let g = and_left (in_bytes (spelt a)) (all in_bytes (calls (steps xs))) f in (
      λ _. rw (bytes-state b, board-state b) k.0,
      keeps-moves p (call s (spelt a)).next xs (board_next s (spelt a) g b) (and_right (in_bytes (spelt a)) (all in_bytes (calls (steps xs))) f) k.1,
    )
keeps-moves p s (our_miss ∷ xs) b f k = (λ o. absurd (missed-roomy s o), keeps-moves p s xs b f k)
keeps-moves p s (their_miss ∷ xs) b f k = (λ o. absurd (missed-roomy s o), keeps-moves p s xs b f k)

enough : REPLIES ≤ length records
enough = omega (arith, length-replicate {A = ℕ} 384 0)

full-moves : (s : StateM) (xs : List Says) → Full (moves s xs)
full-moves s [] = tt
full-moves s (our_ask a ∷ xs) = (λ _. enough, full-moves (call s (spelt a)).next xs)
full-moves s (their_ask a ∷ xs) = (λ _. enough, full-moves (call s (spelt a)).next xs)
full-moves s (our_miss ∷ xs) = (λ o. absurd (missed-roomy s o), full-moves s xs)
full-moves s (their_miss ∷ xs) = (λ o. absurd (missed-roomy s o), full-moves s xs)

pub machine_runs_are_runs_of_C : (p : Party) (s : StateM) (xs : List Says) → OnBoard s → RunM p s (steps xs) → Run p (bytes_of s) (table_of s) (moves s xs)
machine_runs_are_runs_of_C p s xs b r =
    record { chained = chained-moves s xs b r.fits; keeps = keeps-moves p s xs b r.fits r.keeps; full = full-moves s xs }

-- ---- and of a desk's

apart-moves : (d : ℕ) (p : Party) (s : StateM) (xs : List Says) → OnBoard s → T (all in_bytes (calls (steps xs))) → KeepsApartM d p s (steps xs)
    → KeepsApart d p (bytes_of s) (table_of s) (moves s xs)
unfolding calls all
apart-moves d p s [] b f k = tt
apart-moves d p s (our_ask a ∷ xs) b f k =
    let g = and_left (in_bytes (spelt a)) (all in_bytes (calls (steps xs))) f in (
      λ _. rw (bytes-state b, board-state b) k.0,
      apart-moves d p (call s (spelt a)).next xs (board_next s (spelt a) g b) (and_right (in_bytes (spelt a)) (all in_bytes (calls (steps xs))) f) k.1,
    )
apart-moves d p s (their_ask a ∷ xs) b f k =
    let g = and_left (in_bytes (spelt a)) (all in_bytes (calls (steps xs))) f in (
      λ _. rw (bytes-state b, board-state b) k.0,
      apart-moves d p (call s (spelt a)).next xs (board_next s (spelt a) g b) (and_right (in_bytes (spelt a)) (all in_bytes (calls (steps xs))) f) k.1,
    )
apart-moves d p s (our_miss ∷ xs) b f k = (λ o. absurd (missed-roomy s o), apart-moves d p s xs b f k)
apart-moves d p s (their_miss ∷ xs) b f k = (λ o. absurd (missed-roomy s o), apart-moves d p s xs b f k)

pub desk_runs_are_runs_of_C : (d : ℕ) (p : Party) (s : StateM) (xs : List Says) → OnBoard s → RunOfDeskM d p s (steps xs) → RunOfDesk d p (bytes_of s) (table_of s) (moves s xs)
desk_runs_are_runs_of_C d p s xs b r =
    record { chained = chained-moves s xs b r.fits; keeps = apart-moves d p s xs b r.fits r.keeps; full = full-moves s xs }

-- ---- two runs

-- operation, id, map, precedence, key, combinations; the desk is the id's
abbrev pub ask : ℕ → ℕ → ℕ → ℕ → ℕ → List ℕ → Ask
ask op i m p k l = record { desk = desk_of i; op = op; id = i; flags = 0; map = m; prec = p; key = k; combos = l }

-- K writes on channel 1, makes a call without room for an answer, waits for a cycle there, its write on channel 0 ends, it stops both
abbrev quiet : List Says
quiet =
    our_ask (ask 3 9 2 0 1 numbers) ∷ our_miss ∷ our_ask (ask 14 11 2 0 1 []) ∷ our_ask (ask 0xF3 0 1 0 0 []) ∷ our_ask (ask 6 5 3 0 1 []) ∷ []

-- the others open with a list and steal channel 2, take channel 3, wait for channel 0 and close, and make a call without room; the
-- event has a bit more
abbrev busy : List Says
busy =
    their_ask (ask 0xF0 0 0 10 0 (4 ∷ []))
    ∷ our_ask (ask 3 9 2 0 1 numbers)
    ∷ their_miss
    ∷ their_ask (ask 32 31 0 10 0 (8 ∷ []))
    ∷ our_miss
    ∷ our_ask (ask 14 11 2 0 1 [])
    ∷ their_ask (ask 32 32 0 10 0 (1 ∷ []))
    ∷ our_ask (ask 0xF3 0 5 0 0 [])
    ∷ their_ask (ask 0xF1 0 0 0 8 [])
    ∷ our_ask (ask 6 5 3 0 1 [])
    ∷ []

begins : Start party start
begins = starts_all party start (unfold machine claim premises in tt)

quiet_runs : RunM party start (steps quiet)
quiet_runs = runs_all party start (steps quiet) (unfold machine claim premises in tt)

busy_runs : RunM party start (steps busy)
busy_runs = runs_all party start (steps busy) (unfold machine claim premises in tt)

same_calls : own_says quiet ≡ own_says busy
unfolding machine claim
same_calls = refl

pub alike : sights party (bytes_of start) (table_of start) (moves start quiet) ≡ sights party (bytes_of start) (table_of start) (moves start busy)
alike =
    k_sees_the_same_bytes party (bytes_of start) (table_of start) (moves start quiet) (moves start busy) (bytes_whole board) (bytes_held board)
    (rw (bytes-state board, board-state board) begins) (machine_runs_are_runs_of_C party start quiet board quiet_runs)
    (machine_runs_are_runs_of_C party start busy board busy_runs) (own_calls-moves start quiet ∙ (same_calls ∙ sym (own_calls-moves start busy)))
