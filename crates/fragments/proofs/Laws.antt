-- How a call with a fragment meets its promise, case by case; no second outcome fits; an empty fragment moves nothing; no more than the
-- fragment is used. Assumes nothing.
use Prim.Native.Nat.{ℕ, ◌+◌, ◌-◌, ◌≤◌}
use mathlib.Core.Path.{◌≡◌, refl, ap, ap₂, sym, ◌∙◌}
use mathlib.Core.Bool.{Bool, true, false}
use mathlib.Core.List.{List, [], ◌∷◌}
use native.Mathlib.Omega.{arith}
use native.Mathlib.Nat.{add-zero}
use lib.ListN.{length, length-take, length-drop}
use lib.Seq.{take-nil}
use Rattle.memory.specs.Splice.{splice}
use Rattle.memory.proofs.Splice.{splice_none, length-splice}
use Rattle.gathering.specs.declared.Gathered.{Gathered}
use Rattle.gathering.specs.Lumps.{LINE, front, ended, used, kept, Gathers}
use Rattle.gathering.proofs.Lumps.{used-within, used_open}
use Rattle.telling.specs.port.Port.{started_in, line_in, port_of}
use Rattle.telling.specs.admitting.Admitting.{refusal, Proper}
use Rattle.telling.proofs.admitting.Laws.{allowed, port_again}
use Rattle.telling.specs.Telling.{Says, Still, Moves, SameCall}
use Rattle.telling.proofs.Laws.{cons_cons, none_or_not, one_porting}
use Rattle.fragments.specs.Fragments.{grown, line_with, line_fed, port_fed, Feeds}

-- ---- a fragment

module _ (p bs : List ℕ) {l : List ℕ} {n : ℕ} {g : Gathered} {l' : List ℕ} (el : l ≡ line_in p) (en : n ≡ started_in p) (w : Gathers l n bs g l') where
  the_line : l' ≡ line_with p bs
  the_line = w.filled ∙ rw (el, en)

  the_count : g.n ≡ grown p bs
  the_count = ap (λ (x : Gathered). x.n) w.answer ∙ rw en

  pub gathered-within : started_in p ≤ LINE → g.n ≤ LINE
  gathered-within h = let e = the_count in let k = length-take (LINE - started_in p) (front bs) in omega arith

  pub gathered-length : Proper p → length l' ≡ LINE
  gathered-length h =
      let e = h.long in
      let f = h.few in
      let d = length-drop 2 p in
      let k = length-take (LINE - started_in p) (front bs) in
      ap length the_line ∙ length-splice (line_in p) (started_in p) (kept (started_in p) bs) (omega arith) ∙ omega arith

  pub gathered-used : g.used ≡ used bs
  gathered-used = ap (λ (x : Gathered). x.used) w.answer

  the_ended : ended bs ≡ g.ended
  the_ended = sym (ap (λ (x : Gathered). x.ended) w.answer)

  -- the line goes on
  pub open_moves : {p' st tb dp out : List ℕ} {u w : ℕ} (m : ℕ) → g.ended ≡ false → u ≡ used bs → w ≡ 0 → m ≡ g.n → p' ≡ port_of m l'
      → Moves (line_fed p bs) (port_fed p bs) (used bs) st tb dp out u w p' st tb dp out
  unfolding line_fed port_fed
  open_moves m z u w e k =
      rw (the_ended ∙ z)
      (record {
        used = u;
        port = k ∙ ap₂ port_of (e ∙ the_count) the_line;
        answers = record { count = w; state = refl; table = refl; display = refl; bytes = refl };
      })

  -- without an LF all of it is used
  pub open_used : g.ended ≡ false → used bs ≡ length bs
  open_used z = used_open bs (the_ended ∙ z)

  -- it has ended
  pub ended-moves : {p' st tb dp out : List ℕ} {u w k a b : ℕ} {st' tb' dp' out' : List ℕ} → g.ended ≡ true → u ≡ used bs → w ≡ k
      → p' ≡ a ∷ b ∷ l' → a ≡ 0 → b ≡ 0 → {j : ℕ} → j ≡ g.n → Says l' j st tb dp out k st' tb' dp' out' → Moves (line_fed p bs) (port_fed p bs) (used bs) st tb dp out u w p' st' tb' dp' out'
  unfolding line_fed port_fed
  ended-moves z u w k ea eb ej t =
      rw (the_ended ∙ z, w) (record { used = u; port = k ∙ cons_cons ea eb the_line; answers = rw (ej, the_count, the_line) at t.tells })

-- ---- no second outcome fits

pub one_feed : (bs p : List ℕ) {st tb dp out : List ℕ} {e e₂ u u₂ n n₂ : ℕ} {p₁ p₂ st₁ st₂ tb₁ tb₂ dp₁ dp₂ out₁ out₂ : List ℕ} → Feeds bs p st tb dp out e u n p₁ st₁ tb₁ dp₁ out₁
    → Feeds bs p st tb dp out e₂ u₂ n₂ p₂ st₂ tb₂ dp₂ out₂ → SameCall e e₂ u u₂ n n₂ p₁ p₂ st₁ st₂ tb₁ tb₂ dp₁ dp₂ out₁ out₂
one_feed bs p c d = one_porting c d

-- ---- no bytes, and no more than there are

none_kept : (n : ℕ) → kept n [] ≡ []
unfolding front
none_kept n = take-nil (LINE - n)

none_more : (p : List ℕ) → grown p [] ≡ started_in p
none_more p = ap (λ (x : List ℕ). started_in p + length x) (none_kept (started_in p)) ∙ add-zero (started_in p)

none_put : (p : List ℕ) → line_with p [] ≡ line_in p
none_put p = ap (splice (line_in p) (started_in p)) (none_kept (started_in p)) ∙ splice_none (line_in p) (started_in p)

-- "some of them with no bytes": an empty fragment changes nothing
pub empty_still : (p : List ℕ) {st tb dp out : List ℕ} {e u n : ℕ} {p' st' tb' dp' out' : List ℕ} → Feeds [] p st tb dp out e u n p' st' tb' dp' out' → Still p st tb dp out u n p' st' tb' dp' out'
unfolding line_fed port_fed ended used front
empty_still p {dp = dp} {out = out} c =
    none_or_not (refusal p (length dp) (length out))
    (λ z. let m = c.served z in
    let h = (allowed p (length dp) (length out) z).0 in
    record { used = m.used; port = m.port ∙ ap₂ port_of (none_more p) (none_put p) ∙ port_again p h; silent = m.answers })
    (λ z. c.refused z)

-- no more than the fragment is used
pub few_used : (bs p : List ℕ) {st tb dp out : List ℕ} {e u n : ℕ} {p' st' tb' dp' out' : List ℕ} → Feeds bs p st tb dp out e u n p' st' tb' dp' out' → u ≤ length bs
few_used bs p {dp = dp} {out = out} c =
    let k = used-within bs in
    none_or_not (refusal p (length dp) (length out)) (λ z. let m = (c.served z).used in omega arith) (λ z. let m = (c.refused z).used in omega arith)
