-- Gathering and feeding are what `taken` and `finished` say; and no second outcome fits. Assumes nothing.
use Prim.Native.Nat.{ℕ, suc, ◌+◌, ◌-◌, ◌≤◌, ◌<◌}
use mathlib.Core.Path.{◌≡◌, refl, ap, sym, subst, ◌∙◌}
use mathlib.Core.Bool.{true, false}
use mathlib.Core.List.{List, [], ◌∷◌, append-nil}
use native.Mathlib.Nat.{zero-add}
use native.Mathlib.Omega.{arith}
use borrow.Author.Tests.{eq-eqb, ne_eqb}
use lib.Dec.{eqb}
use lib.ListN.{length, take, length-take}
use Rattle.std.specs.Prelude.{if◌then◌else◌}
use Rattle.digits.specs.machine.State.{State as StateM}
use Rattle.digits.specs.machine.Log.{Fed as FedM, feed}
use Rattle.memory.specs.Splice.{splice}
use Rattle.digits.proofs.machine.Tests.{if_elim}
use Rattle.image.specs.board.declared.Board.{Board}
use Rattle.image.specs.store.Store.{table_of}
use Rattle.image.specs.board.Board.{struct_of, state_in, Held}
use Rattle.gathering.specs.declared.Gathered.{Gathered}
use Rattle.gathering.specs.Lumps.{LINE, front, ended, used, kept, Gathers}
use Rattle.serving.specs.unheard.Unheard.{Fed}
use Rattle.serving.specs.Serving.{Feeds, FeedsDisplay}
use Rattle.taking.specs.declared.Show.{Show}
use Rattle.taking.specs.Desk.{Taken, hidden, shown_of, fed, Desk, desk_of, gathered, answered, taken, closed, Leaves, Takes, Ends, Same}

-- ---- fed

pub fed-hidden : (s : StateM) (d l : List ℕ) → fed hidden s d l ≡ feed s l
unfolding fed shown_of
fed-hidden s d l i = record { output = append-nil (feed s l).output i; next = (feed s l).next }

-- ---- taken, by whether there is an LF

module _ (show : Show) (d : Desk) (bs : List ℕ) where
  pub taken_open : ended bs ≡ false → taken show d bs ≡ gathered d bs
  unfolding taken
  taken_open e = rw e

  pub taken-ended : ended bs ≡ true → taken show d bs ≡ answered show (gathered d bs)
  unfolding taken
  taken-ended e = rw e

-- ---- closed, by whether anything stands

module _ (show : Show) (d : Desk) where
  pub closed_none : d.n ≡ 0 → closed show d ≡ d
  unfolding closed
  closed_none e = rw (eq-eqb d.n 0 e)

  pub closed_some : (d.n ≡ 0 → ⊥) → closed show d ≡ answered show d
  unfolding closed
  closed_some h = rw (ne_eqb d.n 0 h)

-- ---- what a line at most counts

pub kept_few : (n : ℕ) (bs : List ℕ) → n ≤ LINE → n + length (kept n bs) ≤ LINE
kept_few n bs h = let k = length-take (LINE - n) (front bs) in omega arith

module _ (show : Show) (d : Desk) (bs : List ℕ) where
  pub taken-within : d.n ≤ LINE → (taken show d bs).n ≤ LINE
  unfolding taken
  taken-within h = if_elim (λ (x : Desk). x.n ≤ LINE) (ended bs) (λ _. omega arith) (λ _. kept_few d.n bs h)

  pub taken-used : (taken show d bs).used ≡ d.used + used bs
  unfolding taken
  taken-used = if_elim (λ (x : Desk). x.used ≡ d.used + used bs) (ended bs) (λ _. refl) (λ _. refl)

-- some of the lump is used where there is any
pub used_some : (bs : List ℕ) → 0 < length bs → 1 ≤ used bs
unfolding used
used_some [] h = absurd (omega arith)
used_some (b ∷ bs) h = if_elim (λ (n : ℕ). 1 ≤ n) (eqb b 10) (λ _. omega arith) (λ _. omega arith)

-- ---- what is gathered

module _ {l : List ℕ} {n : ℕ} {bs : List ℕ} {g : Gathered} {l' : List ℕ} (w : Gathers l n bs g l') where
  gathered-n : g.n ≡ n + length (kept n bs)
  gathered-n = ap (λ (x : Gathered). x.n) w.answer

  gathered-used : g.used ≡ used bs
  gathered-used = ap (λ (x : Gathered). x.used) w.answer

  gathered-ended : g.ended ≡ ended bs
  gathered-ended = ap (λ (x : Gathered). x.ended) w.answer

  pub gathered_few : n ≤ LINE → g.n ≤ LINE
  gathered_few h = rw gathered-n (kept_few n bs h)

  -- the line goes on: nothing is answered
  pub open_takes : {s : Board} {tb dp out : List ℕ} → Held s tb → g.ended ≡ false
      → Takes s tb dp l n bs out (record { state = s; line = g.n; used = g.used; at = 0 }) l' tb dp out
  open_takes {s} {tb} {dp} {out} h e =
      record {
        leaves = rw (taken_open hidden (desk_of s tb dp l n out 0) bs (sym gathered-ended ∙ e))
            (record {
              struct = h.struct;
              table = h.table;
              display = refl;
              line = w.filled;
              started = gathered-n;
              page = refl;
              at = refl;
              used = gathered-used ∙ sym (zero-add (used bs));
            });
      }

  gathered-desk : (s : Board) (tb dp out : List ℕ)
      → record { state = state_in s tb; display = dp; line = l'; n = g.n; page = out; at = 0; used = g.used } ≡ gathered (desk_of s tb dp l n out 0) bs
  gathered-desk s tb dp out i =
      record { state = state_in s tb; display = dp; line = w.filled i; n = gathered-n i; page = out; at = 0; used = (gathered-used ∙ sym (zero-add (used bs))) i }

-- a line that is fed is answered on an empty page
feeds-answered : {s : Board} {tb l out : List ℕ} (dp : List ℕ) (n u : ℕ) {f : Fed} {tb' dp' out' : List ℕ} → Feeds s tb (take n l) out f tb' out' → FeedsDisplay s tb (take n l) dp dp'
    → Leaves (record { state = f.state; line = 0; used = u; at = f.n }) l tb' dp' out'
    (answered hidden (record { state = state_in s tb; display = dp; line = l; n = n; page = out; at = 0; used = u }))
feeds-answered {s} {tb} {l} {out} dp n u v q =
    let a : feed (state_in s tb) (take n l) ≡ fed hidden (state_in s tb) dp (take n l) = sym (fed-hidden (state_in s tb) dp (take n l)) in
    record {
      struct = v.struct ∙ ap (λ (x : FedM). struct_of x.next) a;
      table = v.table ∙ ap (λ (x : FedM). table_of x.next) a;
      display = q;
      line = refl;
      started = refl;
      page = v.bytes ∙ ap (λ (x : FedM). splice out 0 x.output) a;
      at = v.count ∙ ap (λ (x : FedM). length x.output) a ∙ sym (zero-add _);
      used = refl;
    }

-- the line has ended, and is fed
pub ended-takes : {s : Board} {tb l out : List ℕ} (dp : List ℕ) {n : ℕ} {bs : List ℕ} {g : Gathered} {l' : List ℕ} {f : Fed} {tb' dp' out' : List ℕ}
    → Gathers l n bs g l' → g.ended ≡ true → Feeds s tb (take g.n l') out f tb' out' → FeedsDisplay s tb (take g.n l') dp dp'
    → Takes s tb dp l n bs out (record { state = f.state; line = 0; used = g.used; at = f.n }) l' tb' dp' out'
ended-takes {s} {tb} {l} {out} dp {n} {bs} {g} {l'} {f} {tb'} {dp'} {out'} w e v q =
    let t : Taken = record { state = f.state; line = 0; used = g.used; at = f.n } in
    record {
      leaves = rw (taken-ended hidden (desk_of s tb dp l n out 0) bs (sym (gathered-ended w) ∙ e))
          (subst (λ (d : Desk). Leaves t l' tb' dp' out' (answered hidden d)) (gathered-desk w s tb dp out) (feeds-answered dp g.n g.used v q));
    }

-- ---- the end of the log

pub none_ends : {s : Board} {tb dp l out : List ℕ} {n : ℕ} → Held s tb → n ≡ 0 → Ends s tb dp l n out (record { state = s; line = 0; used = 0; at = 0 }) tb dp out
none_ends {s} {tb} {dp} {l} {out} {n} h e =
    record {
      leaves = rw (closed_none hidden (desk_of s tb dp l n out 0) e)
          (record { struct = h.struct; table = h.table; display = refl; line = refl; started = sym e; page = refl; at = refl; used = refl });
    }

pub some_ends : {s : Board} {tb l out : List ℕ} (dp : List ℕ) {n : ℕ} {f : Fed} {tb' dp' out' : List ℕ} → (n ≡ 0 → ⊥) → Feeds s tb (take n l) out f tb' out'
    → FeedsDisplay s tb (take n l) dp dp' → Ends s tb dp l n out (record { state = f.state; line = 0; used = 0; at = f.n }) tb' dp' out'
some_ends {s} {tb} {l} {out} dp {n} h v q = record { leaves = rw (closed_some hidden (desk_of s tb dp l n out 0) h) (feeds-answered dp n 0 v q) }

-- ---- no second outcome fits

taken_parts : (t t₂ : Taken) → t.state ≡ t₂.state → t.line ≡ t₂.line → t.used ≡ t₂.used → t.at ≡ t₂.at → t ≡ t₂
taken_parts t t₂ s l u a i = record { state = s i; line = l i; used = u i; at = a i }

-- whichever of the functions left it
pub one_leaving : {t t₂ : Taken} {l l₂ tb tb₂ dp dp₂ page page₂ : List ℕ} {d : Desk} → Leaves t l tb dp page d → Leaves t₂ l₂ tb₂ dp₂ page₂ d
    → Same t t₂ l l₂ tb tb₂ dp dp₂ page page₂
one_leaving {t} {t₂} a b =
    record {
      taken = taken_parts t t₂ (a.struct ∙ sym b.struct) (a.started ∙ sym b.started) (a.used ∙ sym b.used) (a.at ∙ sym b.at);
      line = a.line ∙ sym b.line;
      table = a.table ∙ sym b.table;
      display = a.display ∙ sym b.display;
      page = a.page ∙ sym b.page;
    }

pub one_taking : {s : Board} {tb dp l : List ℕ} {n : ℕ} {bs out : List ℕ} {t t₂ : Taken} {l₁ l₂ tb₁ tb₂ dp₁ dp₂ out₁ out₂ : List ℕ} → Takes s tb dp l n bs out t l₁ tb₁ dp₁ out₁
    → Takes s tb dp l n bs out t₂ l₂ tb₂ dp₂ out₂ → Same t t₂ l₁ l₂ tb₁ tb₂ dp₁ dp₂ out₁ out₂
one_taking a b = one_leaving a.leaves b.leaves

pub one_ending : {s : Board} {tb dp l : List ℕ} {n : ℕ} {out : List ℕ} {t t₂ : Taken} {tb₁ tb₂ dp₁ dp₂ out₁ out₂ : List ℕ} → Ends s tb dp l n out t tb₁ dp₁ out₁
    → Ends s tb dp l n out t₂ tb₂ dp₂ out₂ → Same t t₂ l l tb₁ tb₂ dp₁ dp₂ out₁ out₂
one_ending a b = one_leaving a.leaves b.leaves
