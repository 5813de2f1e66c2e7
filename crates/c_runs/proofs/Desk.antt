-- Demand 3 for a desk on the bytes that a program in C lends: the others' calls are such as demand 3 asks, as in crates/two_runs; and
-- what the desk reads of a reply list is its half of it, all of it. Assumes nothing.
use Prim.Native.Nat.{ℕ, ◌≤◌}
use mathlib.Core.Path.{◌≡◌, refl, ap, ap₂, sym, ◌∙◌}
use mathlib.Core.List.{List, [], ◌∷◌, ◌++◌, map, append-nil}
use native.Mathlib.Omega.{arith}
use lib.Dec.{T, eqb, eqb→eq}
use lib.ListN.{length, drop}
use Rattle.std.specs.Prelude.{if◌then◌else◌}
use Rattle.machine.specs.Lists.{keep}
use Rattle.machine.specs.State.{Reply}
use Rattle.machine.specs.Desks.{DESK_A, DESK_B, desk_of, replies_to, halves}
use Rattle.machine.specs.Call.{call}
use Rattle.machine.proofs.Tests.{by_test, eqb_false, test_true, test_false}
use Rattle.display.proofs.machine_laws.Lists.{keep_twice}
use Rattle.display.proofs.machine_laws.Halves.{call-halves}
use Rattle.reply.specs.Replies.{encode, encodes}
use Rattle.image.specs.board.Board.{state_in, Held}
use Rattle.image.specs.Image.{state_of, Whole}
use Rattle.two_runs.specs.TwoRuns.{own_replies}
use Rattle.two_runs.specs.Desk.{of_desk}
use Rattle.two_runs.proofs.Desk.{avoids_of}
use Rattle.code_runs.specs.CodeRuns.{records}
use Rattle.c_runs.specs.CRuns.{Turn, asked, roomy, Took, Move, ours, others, Chained, Full, own_records}
use Rattle.c_runs.specs.Desk.{KeepsApart, half, Demand3DeskBytes}
use Rattle.c_runs.proofs.CRuns.{GoesOn, of_own, of_others, same_bytes, first_bytes, second-bytes, tells, took_numbers, took-records}

-- ---- the claim

apart-goes : (d k f : ℕ) (st tb : List ℕ) (ms : List Move) → Chained st tb ms → KeepsApart d (of_desk d k f) st tb ms → Full ms
    → GoesOn (of_desk d k f) st tb ms
apart-goes d k f st tb [] c h g = tt
apart-goes d k f st tb (ours t ∷ ms) c h g =
    (λ o. of_own (of_desk d k f) c.0 (g.0 o) (h.0 o), apart-goes d k f t.state t.table ms c.1 h.1 g.1)
apart-goes d k f st tb (others t ∷ ms) c h g = (
  λ o. let b = h.0 o in
      of_others (of_desk d k f) c.0 (g.0 o)
      (record { apart = avoids_of d k f (asked t).op (asked t) (state_in (state_of st) tb) b.other b.apart; low = b.low }),
  apart-goes d k f t.state t.table ms c.1 h.1 g.1,
)

pub desk_sees_the_same_bytes : Demand3DeskBytes
desk_sees_the_same_bytes d k f st tb ms ns w h a r s e =
    same_bytes (of_desk d k f) st tb ms ns w h a r.chained (apart-goes d k f st tb ms r.chained r.keeps r.full) r.full
    s.chained (apart-goes d k f st tb ns s.chained s.keeps s.full) s.full e

-- ---- what it reads is its half

records-encodes : (rs : List Reply) (l : List ℕ) → records (length rs) (encodes rs ++ l) ≡ map encode rs
unfolding records
records-encodes [] l = refl
records-encodes (r ∷ rs) l = ap (λ (x : List (List ℕ)). encode r ∷ x) (records-encodes rs l)

-- no reply is to both desks
none_of : (d e : ℕ) → (d ≡ e → ⊥) → (rs : List Reply) → replies_to e (replies_to d rs) ≡ []
unfolding replies_to keep
none_of d e n [] = refl
none_of d e n (r ∷ rs) =
    by_test (eqb (desk_of r.id) d)
    (λ t. rw (test_true (eqb (desk_of r.id) d) t, eqb_false (desk_of r.id) e (λ q. n (sym (eqb→eq (desk_of r.id) d t) ∙ q))) (none_of d e n rs))
    (λ t. rw (test_false (eqb (desk_of r.id) d) t) (none_of d e n rs))

to_twice : (d : ℕ) (rs : List Reply) → replies_to d (replies_to d rs) ≡ replies_to d rs
unfolding replies_to
to_twice d rs = keep_twice (λ (r : Reply). eqb (desk_of r.id) d) rs

own_a : (k f : ℕ) (rs : List Reply) → halves (own_replies (of_desk DESK_A k f) rs) ≡ replies_to DESK_A rs
unfolding halves own_replies replies_to
own_a k f rs = ap₂ ◌++◌ (to_twice DESK_A rs) (none_of DESK_A DESK_B (λ q. omega arith) rs) ∙ append-nil (replies_to DESK_A rs)

own_b : (k f : ℕ) (rs : List Reply) → halves (own_replies (of_desk DESK_B k f) rs) ≡ replies_to DESK_B rs
unfolding halves own_replies replies_to
own_b k f rs = ap₂ ◌++◌ (none_of DESK_B DESK_A (λ q. omega arith) rs) (to_twice DESK_B rs)

module _ {st tb : List ℕ} {t : Turn} (w : Whole st) (h : Held (state_of st) tb) (x : Took st tb t) (o : T (roomy t))
    (g : 384 ≤ length t.lent) where
  abbrev rs₀ : List Reply
  rs₀ = (call (state_in (state_of st) tb) (asked t)).replies

  few : length (replies_to DESK_A rs₀) ≤ 32
  few = (call-halves (state_in (state_of st) tb) (asked t) h.sane).0

  -- desk A's half of the list is the bytes of its replies
  pub half_a : half DESK_A t ≡ map encode (replies_to DESK_A rs₀)
  unfolding half
  half_a =
      ap₂ (λ (n : ℕ) (l : List ℕ). records n (drop 0 l)) (took_numbers w h x o).0 ((tells w h x o).list ∙ first_bytes t.lent rs₀ g few)
      ∙ records-encodes (replies_to DESK_A rs₀) _

  -- and so is desk B's
  pub half-b : half DESK_B t ≡ map encode (replies_to DESK_B rs₀)
  unfolding half
  half-b =
      ap₂ (λ (n : ℕ) (l : List ℕ). records n l) (took_numbers w h x o).1
      (ap (drop 192) (tells w h x o).list ∙ second-bytes t.lent rs₀ g few)
      ∙ records-encodes (replies_to DESK_B rs₀) _

  pub a_reads_its_half : (k f : ℕ) → own_records (of_desk DESK_A k f) t ≡ half DESK_A t
  a_reads_its_half k f = took-records (of_desk DESK_A k f) w h x o g ∙ ap (map encode) (own_a k f rs₀) ∙ sym half_a

  pub b-reads_its_half : (k f : ℕ) → own_records (of_desk DESK_B k f) t ≡ half DESK_B t
  b-reads_its_half k f = took-records (of_desk DESK_B k f) w h x o g ∙ ap (map encode) (own_b k f rs₀) ∙ sym half-b
