-- A sound state stays sound along a log: the numbers of a frame fit their bytes, and a malformed line changes nothing. So what a
-- call leaves is held again. Assumes nothing.
use Prim.Native.Nat.{ℕ, zero, suc, ◌+◌, ◌*◌, ◌-◌, ◌%◌, ◌≤◌, ◌<◌}
use mathlib.Core.Path.{◌≡◌, refl, ap, sym, subst, ◌∙◌}
use mathlib.Core.Bool.{◌&&◌}
use mathlib.Core.List.{List, [], ◌∷◌}
use mathlib.Core.Option.{Option, none, some}
use native.Mathlib.Nat.{mod-lt}
use native.Mathlib.Omega.{arith}
use lib.Dec.{T, eqb, leb, le→leb, ltb, ltb→lt, lt→ltb}
use lib.ListN.{length, get_or, take, drop}
use Rattle.std.specs.Prelude.{if◌then◌else◌}
use Rattle.digits.specs.machine.Lists.{all}
use Rattle.digits.specs.machine.State.{State as StateM, Call}
use Rattle.digits.specs.machine.Sound.{sound}
use Rattle.digits.specs.machine.Commands.{silent}
use Rattle.digits.specs.machine.Call.{call, in_range}
use Rattle.digits.specs.machine.Log.{digit, joined, unhex, call_of, frame, outcome_of, feed}
use Rattle.digits.proofs.machine.Tests.{if_elim, and_both, and_left, and_right}
use Rattle.display.proofs.machine_laws.Sound.{parts}
use Rattle.display.specs.machine_laws.Keeping.{Counted}
use Rattle.display.proofs.machine_laws.KeepingCalls.{bytes_count, call-sound}
use Rattle.display.proofs.machine_laws.Board.{call-wide}
use Rattle.image.specs.board.declared.Board.{Board}
use Rattle.image.specs.store.Store.{table_of}
use Rattle.image.specs.board.Board.{sized, struct_of, state_in, Held}
use Rattle.image.proofs.board.Laws.{held_next}
use Rattle.gathering.specs.Lumps.{ended, used}
use Rattle.digits.proofs.Laws.{Small, small-digit}
use Rattle.taking.specs.declared.Show.{Show}
use Rattle.taking.specs.Desk.{Taken, fed, Desk, gathered, answered, taken, fits, takes, filled, closed, finished, Leaves}

-- ---- a frame's numbers fit their bytes

abbrev Bytes : Option (List ℕ) → Type 0
Bytes none = Unit {0}
Bytes (some bs) = T (all (λ b. ltb b 256) bs)

abbrev Fits : Option Call → Type 0
Fits none = Unit {0}
Fits (some c) = T (in_range c) × Counted c.op c

joined_bytes : (h l : Option ℕ) (r : Option (List ℕ)) → Small h → Small l → Bytes r → Bytes (joined h l r)
unfolding joined all
joined_bytes (some h) (some l) (some bs) a b c =
    and_both (ltb (16 * h + l) 256) (all (λ x. ltb x 256) bs) (lt→ltb (16 * h + l) 256 (omega arith)) c
joined_bytes (some h) (some l) none a b c = tt
joined_bytes (some h) none r a b c = tt
joined_bytes none l r a b c = tt

unhex-bytes : (bs : List ℕ) → Bytes (unhex bs)
unfolding unhex all
unhex-bytes [] = tt
unhex-bytes (h ∷ []) = tt
unhex-bytes (h ∷ l ∷ bs) = joined_bytes (digit h) (digit l) (unhex bs) (small-digit h) (small-digit l) (unhex-bytes bs)

get_d_byte : (bs : List ℕ) (i : ℕ) → T (all (λ b. ltb b 256) bs) → get_or bs i 0 < 256
unfolding all
get_d_byte [] i t = omega arith
get_d_byte (b ∷ bs) zero t = ltb→lt b 256 (and_left (ltb b 256) (all (λ x. ltb x 256) bs) t)
get_d_byte (b ∷ bs) (suc i) t = get_d_byte bs i (and_right (ltb b 256) (all (λ x. ltb x 256) bs) t)

drop-bytes : (n : ℕ) (bs : List ℕ) → T (all (λ b. ltb b 256) bs) → T (all (λ b. ltb b 256) (drop n bs))
unfolding all
drop-bytes zero bs t = t
drop-bytes (suc n) [] t = tt
drop-bytes (suc n) (b ∷ bs) t = drop-bytes n bs (and_right (ltb b 256) (all (λ x. ltb x 256) bs) t)

call_of_fits : (bs : List ℕ) → T (all (λ b. ltb b 256) bs) → Fits (some (call_of bs))
unfolding call_of in_range
call_of_fits bs t =
    let prec : (get_or bs 4 0 + 128) % 256 < 256 = mod-lt (get_or bs 4 0 + 128) (omega arith) in
    let high = get_d_byte bs 5 t in
    let low = get_d_byte bs 6 t in (
      and_both (leb ((get_or bs 4 0 + 128) % 256) 255) (leb (256 * get_or bs 5 0 + get_or bs 6 0) 65535)
          (le→leb ((get_or bs 4 0 + 128) % 256) 255 (omega arith)) (le→leb (256 * get_or bs 5 0 + get_or bs 6 0) 65535 (omega arith)),
      λ _. bytes_count (drop 8 bs) (drop-bytes 8 bs t),
    )

frame_fits : (r : Option (List ℕ)) → Bytes r → Fits (frame r)
unfolding frame
frame_fits none t = tt
frame_fits (some bs) t = if_elim Fits (leb 8 (length bs) && eqb (length bs) (8 + get_or bs 7 0)) (λ _. call_of_fits bs t) (λ _. tt)

-- ---- sound, and of a board's size

pub record Fine (s : StateM) : Type 0 where
  pub sane : T (sound s)
  pub size : T (sized (length s.channels))

pub held_fine : {st : Board} {tb : List ℕ} → Held st tb → Fine (state_in st tb)
held_fine h = record { sane = h.sane; size = h.size }

pub feed_fine : (s : StateM) (l : List ℕ) → Fine s → Fine (feed s l).next
unfolding feed outcome_of
feed_fine s l h = go (frame (unhex l)) (frame_fits (unhex l) (unhex-bytes l))
  where
    go : (o : Option Call) → Fits o → Fine (outcome_of s o).next
    go none t = unfold outcome_of silent in h
    go (some c) t = record { sane = call-sound s c t.0 t.1 h.sane; size = subst (λ (n : ℕ). T (sized n)) (sym (call-wide s c)) h.size }

pub fed_next : (show : Show) (s : StateM) (d l : List ℕ) → (fed show s d l).next ≡ (feed s l).next
unfolding fed
fed_next show s d l = refl

pub answered_fine : (show : Show) (d : Desk) → Fine d.state → Fine (answered show d).state
answered_fine show d h = rw (fed_next show d.state d.display (take d.n d.line)) (feed_fine d.state (take d.n d.line) h)

pub taken_fine : (show : Show) (d : Desk) (bs : List ℕ) → Fine d.state → Fine (taken show d bs).state
unfolding taken
taken_fine show d bs h = if_elim (λ (x : Desk). Fine x.state) (ended bs) (λ _. answered_fine show (gathered d bs) h) (λ _. h)

takes_fine : (show : Show) (k : ℕ) (d : Desk) (bs : List ℕ) → Fine d.state → Fine (takes show k d bs).state
unfolding takes
takes_fine show zero d bs h = h
takes_fine show (suc k) d [] h = h
takes_fine show (suc k) d (b ∷ bs) h =
    if_elim (λ (x : Desk). Fine x.state) (fits show d)
    (λ _. takes_fine show k (taken show d (b ∷ bs)) (drop (used (b ∷ bs)) (b ∷ bs)) (taken_fine show d (b ∷ bs) h))
    (λ _. h)

pub filled_fine : (show : Show) (d : Desk) (bs : List ℕ) → Fine d.state → Fine (filled show d bs).state
unfolding filled
filled_fine show d bs h = takes_fine show (length bs) d bs h

pub closed_fine : (show : Show) (d : Desk) → Fine d.state → Fine (closed show d).state
unfolding closed
closed_fine show d h = if_elim (λ (x : Desk). Fine x.state) (eqb d.n 0) (λ _. h) (λ _. answered_fine show d h)

pub finished_fine : (show : Show) (d : Desk) → Fine d.state → Fine (finished show d).state
unfolding finished
finished_fine show d h = if_elim (λ (x : Desk). Fine x.state) (fits show d) (λ _. closed_fine show d h) (λ _. h)

-- ---- what a call leaves

module _ {t : Taken} {l tb dp page : List ℕ} {d : Desk} (h : Fine d.state) (w : Leaves t l tb dp page d) where
  left : Held t.state tb × (state_in t.state tb ≡ d.state)
  left = held_next d.state t.state tb (parts d.state h.sane) h.size w.struct w.table

  pub leaves_held : Held t.state tb
  leaves_held = left.0

  pub leaves-state : state_in t.state tb ≡ d.state
  leaves-state = left.1
