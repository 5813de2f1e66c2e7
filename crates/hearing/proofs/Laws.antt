-- A line on the state that the bytes hold, and on bytes that hold none; no second outcome fits; one line's output has its room.
-- Assumes nothing.
use Prim.Native.Nat.{ℕ, ◌≤◌}
use mathlib.Core.Path.{◌≡◌, refl, ap, sym, subst, ◌∙◌}
use mathlib.Core.List.{List}
use mathlib.Core.Option.{Option, none, some}
use native.Mathlib.Omega.{arith}
use lib.ListN.{length}
use Rattle.machine.specs.State.{Call as CallM}
use Rattle.machine.specs.Log.{line, answer_line, unhex, frame, feed}
use Rattle.memory.specs.Splice.{splice}
use Rattle.image.specs.board.declared.Board.{Board}
use Rattle.image.specs.board.Board.{Held}
use Rattle.image.specs.Image.{image_of, state_of, Whole, Saved}
use Rattle.image.proofs.Round.{image_of_state_of, one_image, whole_saved}
use Rattle.feeding.proofs.arbiter.Outcome.{held_or_not}
use Rattle.feeding.proofs.arbiter.Lent.{whole_or_not}
use Rattle.feeding.specs.unheard.Unheard.{Fed, unheard, Unheard}
use Rattle.feeding.specs.serving.Serving.{Feeds, FeedsDisplay}
use Rattle.feeding.proofs.serving.Laws.{feed_few}
use Rattle.feeding.specs.Feeding.{FeedsAny, FeedsDisplayAny, FeedsLent}
use Rattle.hearing.specs.Hearing.{Kept, held_in, Hears, Tells, Same}

-- ---- whether the bytes hold a sound state

pub kept_or_not {ℓ} : {R : Type ℓ} (st tb : List ℕ) → (Kept st tb → R) → ((Kept st tb → ⊥) → R) → R
kept_or_not st tb y z =
    whole_or_not st
    (λ w. held_or_not (state_of st) tb (λ h. y (record { whole = w; held = h })) (λ n. z (λ k. n k.held)))
    (λ n. z (λ k. n k.whole))

-- ---- a line

-- on bytes that hold no struct
unread-tells : {st tb dp l out : List ℕ} {s : Board} {f : Fed} {out' : List ℕ} {w : ℕ} → (Whole st → ⊥) → Unheard s l out f out' → w ≡ f.n → Tells l st tb dp out w st tb dp out'
unread-tells {l = l} n u e =
    record {
      text = unheard (frame (unhex l));
      heard = record { sound = λ k. absurd (n k.whole); unsound = λ _. record { output = refl; state = refl; table = refl; display = refl } };
      count = e ∙ u.count;
      bytes = u.bytes;
    }

module _ {st tb dp l out : List ℕ} {f : Fed} {st' tb' dp' out' : List ℕ} {r : ℕ} (w : Whole st) (v : Saved f.state st') (e : r ≡ f.n) where
  heard-tells : Held (state_of st) tb → Feeds (state_of st) tb l out f tb' out' → FeedsDisplay (state_of st) tb l dp dp' → Tells l st tb dp out r st' tb' dp' out'
  heard-tells h t d =
      record {
        text = (feed (held_in st tb) l).output;
        heard =
            record {
              sound = λ _. record { output = refl; state = subst (λ (b : Board). Saved b st') t.struct v; table = t.table; display = d };
              unsound = λ n. absurd (n (record { whole = w; held = h }));
            };
        count = e ∙ t.count;
        bytes = t.bytes;
      }

  unheard-tells : (Held (state_of st) tb → ⊥) → Unheard (state_of st) l out f out' × (tb' ≡ tb) → dp' ≡ dp → Tells l st tb dp out r st' tb' dp' out'
  unheard-tells n u d =
      record {
        text = unheard (frame (unhex l));
        heard =
            record {
              sound = λ k. absurd (n k.held);
              unsound = λ _. record { output = refl; state = v.bytes ∙ ap image_of u.0.state ∙ image_of_state_of st w; table = u.1; display = d };
            };
        count = e ∙ u.0.count;
        bytes = u.0.bytes;
      }

  -- on the struct that they hold
  read_tells : FeedsAny (state_of st) tb l out f tb' out' × FeedsDisplayAny (state_of st) tb l dp dp' → Tells l st tb dp out r st' tb' dp' out'
  read_tells t = held_or_not (state_of st) tb (λ h. heard-tells h (t.0.sound h) (t.1.sound h)) (λ n. unheard-tells n (t.0.unsound n) (t.1.unsound n))

-- on any bytes
pub lent-tells : {st tb dp l out : List ℕ} {n : ℕ} {st' tb' dp' out' : List ℕ} → FeedsLent l st tb dp out n st' tb' dp' out' → Tells l st tb dp out n st' tb' dp' out'
lent-tells {st} {tb} {dp} {l} {out} {n} {st'} {tb'} {dp'} {out'} c = whole_or_not st read unread
  where
    read : Whole st → Tells l st tb dp out n st' tb' dp' out'
    read w = let e = c.read w in read_tells w (whole_saved _ e.0) refl (e.1, e.2)

    unread : (Whole st → ⊥) → Tells l st tb dp out n st' tb' dp' out'
    unread w =
        let u = c.unread w in
        subst (λ (x : List ℕ). Tells l st tb dp out n x tb' dp' out') (sym u.1)
        (subst (λ (x : List ℕ). Tells l st tb dp out n st x dp' out') (sym u.2) (subst (λ (x : List ℕ). Tells l st tb dp out n st tb x out') (sym u.3) (unread-tells w u.0 refl)))

-- ---- no second outcome fits

pub one_hearing : {l st tb dp t₁ t₂ st₁ st₂ tb₁ tb₂ dp₁ dp₂ : List ℕ} → Hears l st tb dp t₁ st₁ tb₁ dp₁ → Hears l st tb dp t₂ st₂ tb₂ dp₂ → (t₁ ≡ t₂) × (st₁ ≡ st₂) × (tb₁ ≡ tb₂) × (dp₁ ≡ dp₂)
one_hearing {st = st} {tb = tb} a b =
    kept_or_not st tb
    (λ k. let x = a.sound k in let y = b.sound k in (x.output ∙ sym y.output, one_image x.state y.state, x.table ∙ sym y.table, x.display ∙ sym y.display))
    (λ n. let x = a.unsound n in let y = b.unsound n in (x.output ∙ sym y.output, x.state ∙ sym y.state, x.table ∙ sym y.table, x.display ∙ sym y.display))

pub one_telling : {l st tb dp out : List ℕ} {n n₂ : ℕ} {st₁ st₂ tb₁ tb₂ dp₁ dp₂ out₁ out₂ : List ℕ} → Tells l st tb dp out n st₁ tb₁ dp₁ out₁ → Tells l st tb dp out n₂ st₂ tb₂ dp₂ out₂
    → Same n n₂ st₁ st₂ tb₁ tb₂ dp₁ dp₂ out₁ out₂
one_telling {out = out} a b =
    let h = one_hearing a.heard b.heard in
    record {
      count = a.count ∙ ap length h.0 ∙ sym b.count;
      state = h.1;
      table = h.2;
      display = h.3;
      output = a.bytes ∙ ap (splice out 0) h.0 ∙ sym b.bytes;
    }

-- ---- the room that a line's output takes: 64 replies and an answer

unheard_few : (o : Option CallM) → length (unheard o) ≤ 973
unfolding answer_line line
unheard_few none = omega arith
unheard_few (some c) = omega arith

pub hears_few : {l st tb dp text st' tb' dp' : List ℕ} → Hears l st tb dp text st' tb' dp' → length text ≤ 973
hears_few {l} {st} {tb} h =
    kept_or_not st tb
    (λ k. rw (h.sound k).output (feed_few (held_in st tb) l k.held.sane))
    (λ n. rw (h.unsound n).output (unheard_few (frame (unhex l))))
