-- Every run of the machine from a fresh device of four or eight channels, whose calls are numbers of a program in C, is a run of its
-- calls, each lent the display that the one before it left; and there are bytes that `qamhudeer_fresh` leaves.
-- Assumes nothing.
--
--   bytes_of s         the bytes of a state
--   turn_of s d a      the call a in the state s, with the display d, as it may become
--   made s d qs       a run of such calls
use Prim.Native.Nat.{ℕ, ◌+◌}
use mathlib.Core.Path.{◌≡◌, refl, ap, ap₂, sym, subst, ◌∙◌}
use mathlib.Core.List.{List, [], ◌∷◌, ◌++◌, map, map-append}
use lib.Dec.{T, leb, leb→le}
use lib.ListN.{length, replicate, length-replicate}
use Rattle.machine.specs.Lists.{all}
use Rattle.machine.specs.State.{Call, Outcome as OutcomeM, State as StateM, fresh_on}
use Rattle.machine.specs.Desks.{DESK_A, DESK_B, replies_to}
use Rattle.machine.specs.Log.{op_of}
use Rattle.machine.specs.Call.{call, in_range}
use Rattle.c_runs.specs.refusals.Refusals.{op_for}
use Rattle.machine.proofs.Tests.{and_left, and_right}
use Rattle.machine_laws.proofs.Sound.{parts}
use Rattle.widening.proofs.Maps.{length-frees}
use Rattle.display.specs.Display.{DISPLAY, blank, displayed}
use Rattle.display.proofs.Display.{displayed-length}
use Rattle.display.specs.Runs.{after_calls, shown_after}
use Rattle.c_runs.specs.halves.Halves.{laid}
use Rattle.image.specs.store.Store.{table_of}
use Rattle.image.specs.board.Board.{sized, struct_of}
use Rattle.image.proofs.board.Laws.{fresh-sane}
use Rattle.image.specs.Image.{STATE}
use Rattle.c_runs.proofs.images.Images.{saved_of}
use Rattle.answers.specs.Answers.{answer_of}
use Rattle.c_runs.specs.arbiter.Arbiter.{Shows}
use Rattle.c_runs.specs.desk_call.DeskCall.{Outcome, Told, Called}
use Rattle.c_runs.specs.sizes.Sizes.{TABLE}
use Rattle.c_runs.specs.starting.Starting.{Fits, Started}
use Rattle.c_runs.specs.handed.Handed.{answer_bytes}
use Rattle.c_runs.proofs.boundary.Crossing.{fresh-after}
use Rattle.two_runs.specs.TwoRuns.{in_bytes}
use Rattle.c_runs.specs.code_runs.Made.{OnBoard}
use Rattle.c_runs.proofs.code_runs.Made.{board_held, board_next, board-state, bytes_count, bytes-range, sound_next}
use Rattle.c_runs.specs.CRuns.{Turn, request, roomy, Took}
use Rattle.c_runs.specs.Made.{Ask, spelt, bytes_of}
use Rattle.c_runs.proofs.Witness.{bytes_whole, bytes-state}
use Rattle.inspected_bytes.specs.Inspected.{Ran, Fresh, calls, Handed, handed}

-- a full reply list
abbrev records : List ℕ
records = replicate 384 0

abbrev pub turn_of : StateM → List ℕ → Ask → Turn
turn_of s d a =
    let o = call s (spelt a) in
    record {
      desk = a.desk;
      op = a.op;
      id = a.id;
      flags = a.flags;
      map = a.map;
      prec = a.prec;
      key = a.key;
      combos = a.combos;
      wall = d;
      lent = records;
      room = replicate 8 0;
      n = length (replies_to DESK_A o.replies) + length (replies_to DESK_B o.replies);
      state = bytes_of o.next;
      table = table_of o.next;
      display = displayed s (spelt a) d;
      list = laid records o.replies;
      answer = answer_bytes (answer_of o.answer) (length (replies_to DESK_A o.replies)) (length (replies_to DESK_B o.replies));
    }

abbrev pub made : StateM → List ℕ → List Ask → List Turn
made s d [] = []
made s d (a ∷ qs) = turn_of s d a ∷ made (call s (spelt a)).next (displayed s (spelt a) d) qs

abbrev pub spelts : List Ask → List Call
spelts qs = map spelt qs

-- ---- its calls are the machine's

pub calls_made : (s : StateM) (d : List ℕ) (qs : List Ask) → calls (made s d qs) ≡ spelts qs
calls_made s d [] = refl
calls_made s d (a ∷ qs) = ap (λ (xs : List Call). spelt a ∷ xs) (calls_made (call s (spelt a)).next (displayed s (spelt a) d) qs)

-- what is handed in does not depend on the state
abbrev handed_of : Ask → Handed
handed_of a =
    record {
      desk = a.desk;
      op = a.op;
      id = a.id;
      flags = a.flags;
      map = a.map;
      prec = a.prec;
      key = a.key;
      combos = a.combos;
      lent = records;
      room = replicate 8 0;
    }

handed_made : (s : StateM) (d : List ℕ) (qs : List Ask) → map handed (made s d qs) ≡ map handed_of qs
unfolding handed
handed_made s d [] = refl
handed_made s d (a ∷ qs) = ap (λ (hs : List Handed). handed_of a ∷ hs) (handed_made (call s (spelt a)).next (displayed s (spelt a) d) qs)

pub made_append : (s : StateM) (d : List ℕ) (xs ys : List Ask) → made s d (xs ++ ys) ≡ made s d xs ++ made (after_calls s (spelts xs)) (shown_after s (spelts xs) d) ys
unfolding after_calls shown_after
made_append s d [] ys = refl
made_append s d (x ∷ xs) ys = ap (λ (zs : List Turn). turn_of s d x ∷ zs) (made_append (call s (spelt x)).next (displayed s (spelt x) d) xs ys)

-- two parts of different runs hand in what one run of both does
pub handed_parts : (s u v : StateM) (d e f : List ℕ) (xs ys : List Ask) → map handed (made s d xs ++ made u e ys) ≡ map handed (made v f (xs ++ ys))
handed_parts s u v d e f xs ys =
    map-append handed (made s d xs) (made u e ys)
    ∙ ap₂ ◌++◌ (handed_made s d xs) (handed_made u e ys)
    ∙ sym (map-append handed_of xs ys)
    ∙ sym (handed_made v f (xs ++ ys))

-- ---- they keep the promise

abbrev outcome_of : OutcomeM → Outcome
outcome_of o =
    record { answer = answer_of o.answer; state = struct_of o.next; a = length (replies_to DESK_A o.replies); b = length (replies_to DESK_B o.replies) }

module _ {s : StateM} (b : OnBoard s) (d : List ℕ) (l : length d ≡ DISPLAY) (a : Ask) (f : T (in_bytes (spelt a))) where
  told : Told (call s (spelt a)) records (outcome_of (call s (spelt a))) (table_of (call s (spelt a)).next) (laid records (call s (spelt a)).replies)
  told = record { answer = refl; struct = refl; table = refl; numbers = (refl, refl); list = refl }

  called : Called (op_for (op_of a.op)) (request (turn_of s d a)) (struct_of s) a.combos (table_of s) records (outcome_of (call s (spelt a))) (table_of (call s (spelt a)).next)
      (laid records (call s (spelt a)).replies)
  called = record { sound = λ _. rw (board-state b) told; unsound = λ n. absurd (n (board_held b)) }

  shows : Shows (op_for (op_of a.op)) (request (turn_of s d a)) (struct_of s) a.combos (table_of s) records d (displayed s (spelt a) d)
  shows = record { sound = λ _. rw (board-state b); unsound = λ n. absurd (n (board_held b)) }

  took : Took (bytes_of s) (table_of s) (turn_of s d a)
  unfolding in_range
  took =
      let o = call s (spelt a) in
      record {
        crossed =
            record {
              unanswered = λ n. absurd (n (refl, l));
              unread = λ _ n. absurd (n (bytes_whole b));
              carried = λ _ _. record {
                outcome = outcome_of o;
                called = rw (bytes-state b) called;
                shown = rw (bytes-state b) shows;
                count = refl;
                state = saved_of o.next (parts o.next (sound_next s (spelt a) f b.sane));
                answer = refl;
              };
            };
        key = leb→le a.key 65535 (and_right (leb (spelt a).prec 255) (leb a.key 65535) (bytes-range (spelt a) f));
        count = bytes_count (spelt a) f;
      }

has_room : (s : StateM) (d : List ℕ) → length d ≡ DISPLAY → (a : Ask) → T (roomy (turn_of s d a))
unfolding roomy
has_room s d l a = rw l tt

pub ran_made : (s : StateM) (d : List ℕ) (qs : List Ask) → OnBoard s → length d ≡ DISPLAY → T (all in_bytes (spelts qs)) → Ran (bytes_of s) (table_of s) d (made s d qs)
unfolding all
ran_made s d [] b l f = tt
ran_made s d (a ∷ qs) b l f =
    let g = and_left (in_bytes (spelt a)) (all in_bytes (spelts qs)) f in (
      took b d l a g,
      has_room s d l a,
      refl,
      ran_made (call s (spelt a)).next (displayed s (spelt a) d) qs (board_next s (spelt a) g b) (displayed-length s (spelt a) d l)
          (and_right (in_bytes (spelt a)) (all in_bytes (spelts qs)) f),
    )

-- ---- and there are bytes of a fresh device

pub fresh_on_lem : (w : ℕ) → T (sized w) → OnBoard (fresh_on w)
fresh_on_lem w t = record { sane = fresh-sane w t; size = subst (λ (n : ℕ). T (sized n)) (sym (length-frees w)) t }

module _ (w : ℕ) (t : T (sized w)) where
  fits : Fits w (replicate STATE 0) (replicate TABLE 0) blank
  fits = record { board = t; state = length-replicate {A = ℕ} STATE 0; table = length-replicate {A = ℕ} TABLE 0; display = refl }

  starts : Started w (replicate STATE 0) (replicate TABLE 0) blank 0 (bytes_of (fresh_on w)) (replicate TABLE 0) blank
  starts =
      record {
        begun = λ _. record {
          result = refl;
          state = saved_of (fresh_on w) (parts (fresh_on w) (fresh-sane w t));
          table = ap (λ (k : ℕ). replicate k 0) (sym (length-replicate {A = ℕ} TABLE 0));
          display = refl;
        };
        otherwise = λ n. absurd (n fits);
      }

  zeros : replicate TABLE 0 ≡ table_of (fresh_on w)
  zeros = let a = fresh-after w starts fits in a.1.table ∙ ap table_of a.2

  pub fresh-bytes : Fresh w (bytes_of (fresh_on w)) (table_of (fresh_on w)) blank
  fresh-bytes =
      subst (λ (tb : List ℕ). Fresh w (bytes_of (fresh_on w)) tb blank) zeros
      (record { lent_state = replicate STATE 0; lent_table = replicate TABLE 0; lent_display = blank; result = 0; fits = fits; started = starts })

  pub machine_runs_are_runs_of_C : (qs : List Ask) → T (all in_bytes (spelts qs)) → Ran (bytes_of (fresh_on w)) (table_of (fresh_on w)) blank (made (fresh_on w) blank qs)
  machine_runs_are_runs_of_C qs f = ran_made (fresh_on w) blank qs (fresh_on_lem w t) refl f
