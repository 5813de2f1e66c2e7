-- Why a flag bit without a meaning changes nothing: a call reads its flags by `quick`, `nowait` and `synced` alone.
-- Assumes nothing.
use Prim.Native.Nat.{ℕ, ◌/◌, ◌%◌}
use mathlib.Core.Path.{◌≡◌, refl, ap, ◌∙◌}
use mathlib.Core.Bool.{Bool, true, false}
use mathlib.Core.List.{List, [], ◌∷◌}
use lib.Dec.{eqb}
use Rattle.machine.specs.Numbers.{quick, nowait, synced}
use Rattle.std.specs.Prelude.{if◌then◌else◌}
use Rattle.machine.specs.State.{State, Reply, Answer, Outcome, Call, Op, OPEN, CLOSE, ABORT, EVENT, COMMAND}
use Rattle.machine.specs.Desks.{foreign}
use Rattle.machine.specs.Choosing.{Look, fails, held, grants, look}
use Rattle.machine.specs.Commands.{finished, silent, each, each_change, do_free, do_finish, do_pervol, do_lock, do_read, do_write, do_waitcycle, do_event, do_close, do_abort}
use Rattle.machine.specs.Allocating.{waits, allocating, do_allocate, opening, do_open}
use Rattle.machine.specs.Kinds.{Kind, RESET, READ, WRITE, UPDATE, CLEAR, STOP, START, FLUSH, FREE, SETPREC, FINISH, PERVOL, LOCK, WAITCYCLE, ALLOCATE, UNKNOWN, kind}
use Rattle.machine.specs.Refusals.{Refusal, accepted, refused, bad_list, bad_maps, bad_map, bad_numbers, refusal, refuse}
use Rattle.machine.specs.Call.{perform, accept, answering, call}
use Rattle.machine.specs.Flags.{with_flags}
use Rattle.machine.specs.Walks.{asks_from}

pub flags-told : (f : ℕ) → with_flags f (asks_from 1 OPEN 2 64 3 128 7 (1 ∷ []) 63) ≡ asks_from 1 OPEN 2 f 3 128 7 (1 ∷ []) 63
flags-told f = refl

-- no refusal reads a flag
refusal_flagged : (o : Op) (f : ℕ) (c : Call) (s : State) → refusal o (with_flags f c) s ≡ refusal o c s
unfolding refusal foreign bad_list bad_maps bad_map bad_numbers
refusal_flagged OPEN f c s = refl
refusal_flagged CLOSE f c s = refl
refusal_flagged ABORT f c s = refl
refusal_flagged (EVENT v) f c s = refl
refusal_flagged (COMMAND n) f c s = refl

module _ (f : ℕ) (c : Call) (q : quick f ≡ quick c.flags) (w : nowait f ≡ nowait c.flags) (y : synced f ≡ synced c.flags) where
  finished_flagged : (n : ℕ) (a : Answer) (rs : List Reply) (s : State) → finished n (with_flags f c) a rs s ≡ finished n c a rs s
  unfolding finished
  finished_flagged n a rs s = rw q refl

  refuse_flagged : (o : Op) (e : ℕ) (s : State) → refuse o e (with_flags f c) s ≡ refuse o e c s
  unfolding refuse
  refuse_flagged OPEN e s = refl
  refuse_flagged CLOSE e s = refl
  refuse_flagged ABORT e s = refl
  refuse_flagged (EVENT v) e s = refl
  refuse_flagged (COMMAND n) e s = rw (finished_flagged n _ _ s) refl

  allocating_flagged : (l : Look) (s : State) → allocating l (with_flags f c) s ≡ allocating l c s
  unfolding allocating waits finished
  allocating_flagged fails s = rw (q, w) refl
  allocating_flagged (held m) s = rw w refl
  allocating_flagged (grants m) s = rw q refl

  opening_flagged : (l : Look) (s : State) → opening l (with_flags f c) s ≡ opening l c s
  unfolding opening
  opening_flagged fails s = refl
  opening_flagged (held m) s = refl
  opening_flagged (grants m) s = refl

  perform_flagged : (k : Kind) (s : State) → perform k (with_flags f c) s ≡ perform k c s
  unfolding perform each_change each do_free do_finish do_pervol do_lock do_read do_write do_waitcycle do_allocate finished
  perform_flagged RESET s = rw q refl
  perform_flagged READ s = rw q refl
  perform_flagged WRITE s = rw q refl
  perform_flagged UPDATE s = rw q refl
  perform_flagged CLEAR s = rw q refl
  perform_flagged STOP s = rw q refl
  perform_flagged START s = rw q refl
  perform_flagged FLUSH s = rw q refl
  perform_flagged FREE s = rw q refl
  perform_flagged SETPREC s = rw q refl
  perform_flagged FINISH s = rw (q, y) refl
  perform_flagged PERVOL s = rw (q, y) refl
  perform_flagged LOCK s = rw q refl
  perform_flagged WAITCYCLE s = rw q refl
  perform_flagged ALLOCATE s = allocating_flagged (look c.prec c.combos s.channels) s
  perform_flagged UNKNOWN s = refl

  accept_flagged : (o : Op) (s : State) → accept o (with_flags f c) s ≡ accept o c s
  unfolding accept do_open do_close do_abort do_event
  accept_flagged OPEN s = rw (opening_flagged (look c.prec c.combos s.channels) s) refl
  accept_flagged CLOSE s = refl
  accept_flagged ABORT s = refl
  accept_flagged (EVENT v) s = refl
  accept_flagged (COMMAND n) s = rw (perform_flagged (kind n) s) refl

  answering_flagged : (r : Refusal) (s : State) → answering r (with_flags f c) s ≡ answering r c s
  unfolding answering
  answering_flagged accepted s = accept_flagged c.op s
  answering_flagged (refused e) s = refuse_flagged c.op e s

-- "Flag bits without a meaning here are ignored": where QUICK (1), NOWAIT (64) and SYNCCYCLE (32) stand alike, so does all that a
-- call comes to
pub other_flags_ignored : (s : State) (c : Call) (f : ℕ) → f % 2 ≡ c.flags % 2 → f / 64 % 2 ≡ c.flags / 64 % 2
    → f / 32 % 2 ≡ c.flags / 32 % 2 → call s (with_flags f c) ≡ call s c
unfolding call quick nowait synced
other_flags_ignored s c f p q y =
    ap (λ (r : Refusal). answering r (with_flags f c) s) (refusal_flagged c.op f c s)
    ∙ answering_flagged f c (ap (λ (n : ℕ). eqb n 1) p) (ap (λ (n : ℕ). eqb n 1) q) (ap (λ (n : ℕ). eqb n 1) y) (refusal c.op c s) s
