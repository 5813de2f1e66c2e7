-- What the length of the lent reply list decides: a call with room for 64 records comes to the same whatever the room, and one with
-- less replies to nobody.
-- Assumes nothing.
use Prim.Native.Nat.{ℕ, ◌≤◌, ◌<◌}
use mathlib.Core.Path.{◌≡◌, refl, ap, ◌∙◌}
use mathlib.Core.Bool.{Bool, true, false, not}
use mathlib.Core.Logic.{◌⊎◌, inl, inr}
use mathlib.Core.List.{List, [], ◌∷◌}
use borrow.Author.Tests.{lt-ltb, le-ltb}
use lib.Dec.{T, ltb, leb}
use Rattle.std.specs.Prelude.{if◌then◌else◌}
use Rattle.machine.specs.State.{State, Call, Op, OPEN, CLOSE, ABORT, EVENT, COMMAND}
use Rattle.machine.specs.Desks.{foreign}
use Rattle.machine.specs.Choosing.{Look, fails, held, grants, look}
use Rattle.machine.specs.Commands.{finished, silent, each, each_change, do_free, do_finish, do_pervol, do_lock, do_read, do_write, do_waitcycle, do_event, do_close, do_abort}
use Rattle.machine.specs.Allocating.{waits, allocating, do_allocate, opening, do_open}
use Rattle.machine.specs.Sound.{sound}
use Rattle.machine.specs.Kinds.{Kind, RESET, READ, WRITE, UPDATE, CLEAR, STOP, START, FLUSH, FREE, SETPREC, FINISH, PERVOL, LOCK, WAITCYCLE, ALLOCATE, UNKNOWN, kind}
use Rattle.machine.specs.Refusals.{Refusal, accepted, refused, first, bad_list, bad_maps, bad_map, bad_numbers, refusal, refuse}
use Rattle.machine.specs.Call.{perform, settling, open_settling, accept, answering, call}
use Rattle.machine_laws.specs.Rooms.{lent}
use Rattle.machine_laws.proofs.Refusals.{refuse-mute}

module _ (c : Call) (n : ℕ) (h : 64 ≤ n) (g : 64 ≤ c.room) where
  pub refusal-lent : (o : Op) (s : State) → refusal o (lent n c) s ≡ refusal o c s
  unfolding refusal foreign bad_list bad_maps bad_map bad_numbers
  refusal-lent OPEN s = rw (le-ltb n 64 h, le-ltb c.room 64 g)
  refusal-lent CLOSE s = rw (le-ltb n 64 h, le-ltb c.room 64 g)
  refusal-lent ABORT s = rw (le-ltb n 64 h, le-ltb c.room 64 g)
  refusal-lent (EVENT v) s = rw (le-ltb n 64 h, le-ltb c.room 64 g)
  refusal-lent (COMMAND k) s = rw (le-ltb n 64 h, le-ltb c.room 64 g)

  look_lent : (l : Look) (s : State) → allocating l (lent n c) s ≡ allocating l c s
  unfolding allocating waits finished silent
  look_lent fails s = refl
  look_lent (held m) s = refl
  look_lent (grants m) s = refl

  pub open_lent : (l : Look) (s : State) → opening l (lent n c) s ≡ opening l c s
  unfolding opening silent
  open_lent fails s = refl
  open_lent (held m) s = refl
  open_lent (grants m) s = refl

  pub perform-lent : (k : Kind) (s : State) → perform k (lent n c) s ≡ perform k c s
  unfolding perform each_change each finished silent do_read do_write do_free do_finish do_pervol do_lock do_waitcycle do_allocate
  perform-lent RESET s = refl
  perform-lent READ s = refl
  perform-lent WRITE s = refl
  perform-lent UPDATE s = refl
  perform-lent CLEAR s = refl
  perform-lent STOP s = refl
  perform-lent START s = refl
  perform-lent FLUSH s = refl
  perform-lent FREE s = refl
  perform-lent SETPREC s = refl
  perform-lent FINISH s = refl
  perform-lent PERVOL s = refl
  perform-lent LOCK s = refl
  perform-lent WAITCYCLE s = refl
  perform-lent ALLOCATE s = look_lent (look c.prec c.combos s.channels) s
  perform-lent UNKNOWN s = refl

  accept-lent : (o : Op) (s : State) → accept o (lent n c) s ≡ accept o c s
  unfolding accept do_open do_close do_abort do_event silent
  accept-lent OPEN s = ap open_settling (open_lent (look c.prec c.combos s.channels) s)
  accept-lent CLOSE s = refl
  accept-lent ABORT s = refl
  accept-lent (EVENT v) s = refl
  accept-lent (COMMAND k) s = ap settling (perform-lent (kind k) s)

  refuse-lent : (o : Op) (e : ℕ) (s : State) → refuse o e (lent n c) s ≡ refuse o e c s
  unfolding refuse finished silent
  refuse-lent OPEN e s = refl
  refuse-lent CLOSE e s = refl
  refuse-lent ABORT e s = refl
  refuse-lent (EVENT v) e s = refl
  refuse-lent (COMMAND k) e s = refl

  pub room_unread : (s : State) → call s (lent n c) ≡ call s c
  unfolding call
  room_unread s = ap (λ (r : Refusal). answering r (lent n c) s) (refusal-lent c.op s) ∙ go (refusal c.op c s)
    where
      go : (f : Refusal) → answering f (lent n c) s ≡ answering f c s
      go accepted = unfold answering in accept-lent c.op s
      go (refused e) = unfold answering in refuse-lent c.op e s

-- refused with 1 or 5, a call replies to nobody
module _ (s : State) (c : Call) (h : c.room < 64) where
  two_first : (b : Bool) (ts : List (Bool × ℕ)) → (first ((not b, 1) ∷ (ltb c.room 64, 5) ∷ ts) ≡ refused 1) ⊎ (first ((not b, 1) ∷ (ltb c.room 64, 5) ∷ ts) ≡ refused 5)
  unfolding first
  two_first true ts = inr (rw (lt-ltb c.room 64 h) refl)
  two_first false ts = inl refl

  pub short-refused : (o : Op) → (refusal o c s ≡ refused 1) ⊎ (refusal o c s ≡ refused 5)
  unfolding refusal
  short-refused OPEN = two_first (sound s) _
  short-refused CLOSE = two_first (sound s) _
  short-refused ABORT = two_first (sound s) _
  short-refused (EVENT v) = two_first (sound s) _
  short-refused (COMMAND k) = two_first (sound s) _

  pub short-mute : (call s c).replies ≡ []
  unfolding call answering
  short-mute = go (short-refused c.op)
    where
      go : (refusal c.op c s ≡ refused 1) ⊎ (refusal c.op c s ≡ refused 5) → (answering (refusal c.op c s) c s).replies ≡ []
      go (inl e) = rw e (refuse-mute c.op 1 c s tt)
      go (inr e) = rw e (refuse-mute c.op 5 c s tt)
