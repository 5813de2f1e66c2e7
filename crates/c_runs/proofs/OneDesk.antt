-- What a desk gets of a call at the boundary is the machine's answer and the machine's replies to it, in bytes: a list too short for
-- replies gets none. So two states in which the machine tells it the same show it the same bytes. OneDeskExamples.antt is named here
-- so that it is computed first: a wrong definition is told by an example. Assumes nothing.
use Prim.Native.Nat.{ℕ, zero, suc, ◌+◌}
use mathlib.Core.Path.{◌≡◌, refl, ap, ap₂, sym, ◌∙◌}
use mathlib.Core.Bool.{Bool, true, false}
use mathlib.Core.List.{List, [], ◌∷◌, map}
use native.Mathlib.Omega.{arith}
use borrow.Author.Tests.{ltb-true, ltb-false}
use lib.Dec.{T, ltb}
use lib.ListN.{length, get_or}
use Rattle.machine.specs.State.{Answer, Call, Reply, State as StateM}
use Rattle.std.specs.Prelude.{if◌then◌else◌}
use Rattle.machine.specs.Lists.{keep}
use Rattle.machine.specs.Desks.{DESK_A, DESK_B, HALF, desk_of, replies_to}
use Rattle.machine.specs.Call.{call}
use Rattle.machine.proofs.Tests.{eqb_false}
use Rattle.display.proofs.machine_laws.Rooms.{short-mute}
use Rattle.reply.specs.Replies.{encode}
use Rattle.image.specs.board.Board.{state_in, Held}
use Rattle.image.specs.Image.{state_of, Whole}
use Rattle.boundary.specs.handed.Handed.{answer_bytes}
use Rattle.code_runs.specs.CodeRuns.{records}
use Rattle.one_desk.proofs.OneDesk.{one_desk_lem}
use Rattle.c_runs.specs.CRuns.{Turn, asked, roomy, Took, spoken}
use Rattle.c_runs.specs.Desk.{half}
use Rattle.c_runs.specs.OneDesk.{Gets, gets, OneDeskBytes}
use Rattle.c_runs.proofs.CRuns.{over, six, took-answer, took_numbers}
use Rattle.c_runs.proofs.Desk.{half_a, half-b}
use Rattle.c_runs.proofs.OneDeskExamples.{a_gets}

-- what the machine tells a desk, in bytes
abbrev told_in : Answer → List Reply → Gets
told_in a rs = record { answer = six a; number = length rs; records = map encode rs }

-- there is no third desk
two_desks : (i d : ℕ) → desk_of i ≡ suc (suc d) → ⊥
unfolding desk_of
two_desks i d q = go (ltb i HALF) q
  where
    go : (b : Bool) → (if b then DESK_A else DESK_B) ≡ suc (suc d) → ⊥
    go true e = omega arith
    go false e = omega arith

no_third : (d : ℕ) (rs : List Reply) → replies_to (suc (suc d)) rs ≡ []
unfolding replies_to keep
no_third d [] = refl
no_third d (r ∷ rs) = rw (eqb_false (desk_of r.id) (suc (suc d)) (two_desks r.id d)) (no_third d rs)

none_to : (d : ℕ) → replies_to d [] ≡ []
unfolding replies_to keep
none_to d = refl

module _ {st tb : List ℕ} {t : Turn} (w : Whole st) (h : Held (state_of st) tb) (k : Took st tb t) (o : T (roomy t)) where
  abbrev s₀ : StateM
  s₀ = state_in (state_of st) tb

  abbrev rs₀ : List Reply
  rs₀ = (call s₀ (asked t)).replies

  -- its own number
  number-told : (d : ℕ) → get_or t.answer (6 + d) 0 ≡ length (replies_to d rs₀)
  unfolding answer_bytes
  number-told zero = (took_numbers w h k o).0
  number-told (suc zero) = (took_numbers w h k o).1
  number-told (suc (suc d)) =
      let e : 6 + suc (suc d) ≡ suc (suc (suc (suc (suc (suc (suc (suc d))))))) = omega arith in
      ap₂ (λ (l : List ℕ) (i : ℕ). get_or l i 0) (over w h k o).answer e ∙ sym (ap (λ (rs : List Reply). length rs) (no_third d rs₀))

  -- no replies, no records
  none_told : (d : ℕ) → replies_to d rs₀ ≡ [] → half d t ≡ map encode (replies_to d rs₀)
  unfolding half records
  none_told d e = rw (number-told d, e)

  -- a list of 64 records has its half; a shorter one gets no replies
  half-told : (d : ℕ) → half d t ≡ map encode (replies_to d rs₀)
  half-told d = go (ltb (length t.lent) 384) refl d
    where
      go : (b : Bool) → ltb (length t.lent) 384 ≡ b → (d : ℕ) → half d t ≡ map encode (replies_to d rs₀)
      go true e d =
          let g = ltb-true (length t.lent) 384 e in
          none_told d (ap (replies_to d) (short-mute s₀ (asked t) (omega arith)) ∙ none_to d)
      go false e zero = half_a w h k o (ltb-false (length t.lent) 384 e)
      go false e (suc zero) = half-b w h k o (ltb-false (length t.lent) 384 e)
      go false e (suc (suc d)) = none_told (suc (suc d)) (no_third d rs₀)

  gets-told : (d : ℕ) → gets d t ≡ told_in (call s₀ (asked t)).answer (replies_to d rs₀)
  unfolding gets spoken
  gets-told d =
      let a = took-answer w h k o in
      let n = number-told d in
      let r = half-told d in
      λ i. record { answer = a i; number = n i; records = r i }

-- "give that desk's next call .. the same answer and replies in its half"
pub one_desk-bytes : OneDeskBytes
one_desk-bytes d st tb st₂ tb₂ t u w h w₂ h₂ k j m n e p =
    let same : asked t ≡ asked u = cc in
    let s₂ = state_in (state_of st₂) tb₂ in
    let o = one_desk_lem d (asked t) (state_in (state_of st) tb) s₂ p in
    gets-told w h k m d
    ∙ ap₂ told_in o.answer o.replies
    ∙ ap (λ (c : Call). told_in (call s₂ c).answer (replies_to d (call s₂ c).replies)) same
    ∙ sym (gets-told w₂ h₂ j n d)
