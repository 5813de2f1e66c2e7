-- The machine's refusals of a sound state are each operation's list of tests, with the bound of the board's maps. Assumes nothing.
use Prim.Native.Nat.{ℕ, ◌+◌, ◌/◌, ◌^◌, ◌≤◌, ◌<◌}
use mathlib.Core.Path.{◌≡◌, ap, sym, ◌∙◌}
use mathlib.Core.Bool.{Bool, true, false, not, ◌&&◌}
use mathlib.Core.List.{List, [], ◌∷◌, ◌++◌, map}
use native.Mathlib.Omega.{arith}
use borrow.Author.Tests.{eq-eqb, ne_eqb, ltb-false, lt-ltb, le-ltb}
use lib.Dec.{T, eqb, ltb}
use lib.ListN.{length}
use Rattle.open_keys.specs.machine.Numbers.{NOROOM}
use Rattle.std.specs.Prelude.{if◌then◌else◌}
use Rattle.open_keys.specs.machine.Lists.{any, all, among}
use Rattle.open_keys.specs.machine.State.{State as StateM, Call, Op as OpM, Event, OPEN, CLOSE, ABORT, EVENT, CYCLE_ENDED, GAVE_UP, COMMAND}
use Rattle.open_keys.specs.machine.Desks.{desk_of, foreign}
use Rattle.open_keys.specs.machine.Sound.{sound, sound_tone, ids}
use Rattle.open_keys.specs.machine.Kinds.{kind, unknown, allocates, carries}
use Rattle.open_keys.specs.machine.Refusals.{refused, first, bad_list, bad_maps, bad_map, bad_numbers, refusal}
use Rattle.open_keys.proofs.machine.Tests.{by_test, test_true, test_false}
use Rattle.open_keys.specs.OpenKeys.{keys_in}
use Rattle.board.specs.declared.Board.{Board}
use Rattle.board.specs.Board.{top_of, state_in, Held}
use Rattle.board.proofs.Laws.{top_pow, held_parts, held_width, held_sized, held_opens-count}
use Rattle.answers.specs.declared.Request.{Request}
use Rattle.refusals.specs.declared.Op.{Op}
use Rattle.refusals.specs.declared.Op.TheVariants.{Open, Close, Abort, CycleEnded, GaveUp, Command}
use Rattle.refusals.specs.Refusals.{op_in, asked_of, open_tests, close_tests, abort_tests, command_tests, Refuses}
use Rattle.steps.specs.Steps.{number_of, high, used, wrong_numbers, event_tests}
use Rattle.steps.proofs.Laws.{all_past, used-among}

-- ---- the machine's tests of a sound state, on a board whose maps are those below a bound

maps-below : (bound : ℕ) (c : Call) (s : StateM) → 2 ^ length s.channels ≡ bound → bad_maps c s ≡ any (high bound) c.combos
unfolding bad_maps
maps-below bound c s e = rw e

map_below : (bound : ℕ) (c : Call) (s : StateM) → 2 ^ length s.channels ≡ bound → bad_map c s ≡ high bound c.map
unfolding bad_map
map_below bound c s e = rw e

module _ (c : Call) (s : StateM) (ok : T (sound s)) where
  short-list : (o : OpM) → c.room < 64 → refusal o c s ≡ refused NOROOM
  unfolding refusal first
  short-list OPEN h = rw (test_true (sound s) ok, lt-ltb _ _ h)
  short-list CLOSE h = rw (test_true (sound s) ok, lt-ltb _ _ h)
  short-list ABORT h = rw (test_true (sound s) ok, lt-ltb _ _ h)
  short-list (EVENT v) h = rw (test_true (sound s) ok, lt-ltb _ _ h)
  short-list (COMMAND n) h = rw (test_true (sound s) ok, lt-ltb _ _ h)

  module _ (h : 64 ≤ c.room) where
    close_left : refusal CLOSE c s ≡ first (close_tests c.key s.opens)
    unfolding refusal first
    close_left = rw (test_true (sound s) ok, le-ltb _ _ h)

    abort_left : refusal ABORT c s ≡ first (abort_tests c.id c.desk)
    unfolding refusal first foreign
    abort_left = rw (test_true (sound s) ok, le-ltb _ _ h)

    module _ (bound : ℕ) (wide : 2 ^ length s.channels ≡ bound) where
      open_left : refusal OPEN c s ≡ first (open_tests bound c.combos (length s.opens))
      unfolding refusal first bad_list
      open_left = rw (test_true (sound s) ok, le-ltb _ _ h, maps-below bound c s wide)

      event_left : (v : Event) → refusal (EVENT v) c s ≡ first (event_tests bound c.map)
      unfolding refusal first
      event_left v = rw (test_true (sound s) ok, le-ltb _ _ h, map_below bound c s wide)

      command_left : (n : ℕ) (u : Bool) → (c.id < 64 → u ≡ among c.id (ids s))
          → refusal (COMMAND n) c s
          ≡ first
          ((ltb 63 c.id, 4)
          ∷ (not (eqb (desk_of c.id) c.desk), 8)
          ∷ (u, 3)
          ∷ (eqb (length s.opens) 0, 2)
          ∷ (unknown (kind n), 253)
          ∷ (allocates (kind n) && ltb 16 (length c.combos), 252)
          ∷ (if allocates (kind n) then any (high bound) c.combos else high bound c.map, 251)
          ∷ (carries (kind n) && wrong_numbers c.combos, 252)
          ∷ [])
      unfolding refusal first foreign bad_list bad_numbers sound_tone
      command_left n u e =
          by_test (ltb 63 c.id) (λ t. rw (test_true (sound s) ok, le-ltb _ _ h, test_true (ltb 63 c.id) t))
          (λ t.
          let g = ltb-false 63 c.id (test_false (ltb 63 c.id) t) in
          rw (test_true (sound s) ok, le-ltb _ _ h, e (omega arith), maps-below bound c s wide, map_below bound c s wide))

-- ---- the desk of an id, as the code finds it

pub own_desk : {x y d : ℕ} → x ≡ y → x ≡ d → not (eqb y d) ≡ false
own_desk e f = ap not (eq-eqb _ _ (sym e ∙ f))

pub other_desk : {x y d : ℕ} → x ≡ y → (x ≡ d → ⊥) → not (eqb y d) ≡ true
other_desk e n = ap not (ne_eqb _ _ (λ f. n (e ∙ f)))

-- the first two tests of a command are those of an ABORT
pub id_small : (id desk : ℕ) → 0 ≡ number_of (first (abort_tests id desk)) → id < 64
unfolding first
id_small id desk q = by_test (ltb 63 id) (λ t. absurd (let z : 0 ≡ 4 = rw (test_true (ltb 63 id) t) at q in omega arith)) (λ t. let g = ltb-false 63 id (test_false (ltb 63 id) t) in omega arith)

pub own_id : (id desk : ℕ) (us : List (Bool × ℕ)) → 0 ≡ number_of (first (abort_tests id desk)) → {n : ℕ} → n ≡ number_of (first us)
    → n ≡ number_of (first (abort_tests id desk ++ us))
unfolding all
own_id id desk us q e = all_past (abort_tests id desk) us tt q e

-- ---- the promise

room_six : (len : ℕ) → 384 ≤ len → 64 ≤ len / 6
room_six len h = omega arith

-- the bound is that of the board's highest map
bound_is : {b : Board} {tb : List ℕ} → Held b tb → {top : ℕ} → top ≡ top_of b.width → 2 ^ length (state_in b tb).channels ≡ top + 1
bound_is {b} {tb} h {top} e = ap (λ (n : ℕ). 2 ^ n) (sym (held_width h)) ∙ (sym (top_pow b.width (held_sized h)) ∙ ap (λ (n : ℕ). n + 1) (sym e))

module _ {o : Op} {r : Request} {b : Board} {ms tb : List ℕ} {len : ℕ} (h : Held b tb) where
  pub no_room : len < 384 → Refuses o r b ms tb len 5
  no_room l = record { number = sym (ap number_of (short-list (asked_of o r ms len) (state_in b tb) h.sane (op_in o r.command) (omega arith))) }

module _ {r : Request} {b : Board} {ms tb : List ℕ} {len : ℕ} (h : Held b tb) (l : 384 ≤ len) {top : ℕ} (t : top ≡ top_of b.width) {e : ℕ} where
  pub open_told : e ≡ number_of (first (open_tests (top + 1) ms b.state.opens.n)) → Refuses Open r b ms tb len e
  open_told q =
      record {
        number =
            q
            ∙ ap (λ (n : ℕ). number_of (first (open_tests (top + 1) ms n))) (held_opens-count h).0
            ∙ sym (ap number_of (open_left (asked_of Open r ms len) (state_in b tb) h.sane (room_six len l) (top + 1) (bound_is h t)));
      }

  pub close_told : e ≡ number_of (first (close_tests r.key (keys_in b.state.opens))) → Refuses Close r b ms tb len e
  close_told q = record { number = q ∙ sym (ap number_of (close_left (asked_of Close r ms len) (state_in b tb) h.sane (room_six len l))) }

  pub abort_told : e ≡ number_of (first (abort_tests r.id r.desk)) → Refuses Abort r b ms tb len e
  abort_told q = record { number = q ∙ sym (ap number_of (abort_left (asked_of Abort r ms len) (state_in b tb) h.sane (room_six len l))) }

  pub cycle_told : e ≡ number_of (first (event_tests (top + 1) r.map)) → Refuses CycleEnded r b ms tb len e
  cycle_told q =
      record { number = q ∙ sym (ap number_of (event_left (asked_of CycleEnded r ms len) (state_in b tb) h.sane (room_six len l) (top + 1) (bound_is h t) CYCLE_ENDED)) }

  pub up_told : e ≡ number_of (first (event_tests (top + 1) r.map)) → Refuses GaveUp r b ms tb len e
  up_told q =
      record { number = q ∙ sym (ap number_of (event_left (asked_of GaveUp r ms len) (state_in b tb) h.sane (room_six len l) (top + 1) (bound_is h t) GAVE_UP)) }

  pub command-told : e ≡ number_of (first (command_tests (top + 1) r ms tb b.state.opens.n)) → Refuses Command r b ms tb len e
  command-told q =
      record {
        number =
            q
            ∙ ap (λ (n : ℕ). number_of (first (command_tests (top + 1) r ms tb n))) (held_opens-count h).0
            ∙ sym
            (ap number_of
            (command_left (asked_of Command r ms len) (state_in b tb) h.sane (room_six len l) (top + 1) (bound_is h t) r.command (used tb r.id)
            (used-among (state_in b tb) (held_parts h) tb h.table r.id)));
      }
