-- A lump is taken line by line, and what is left of it, taken by the rule, gives the whole. Assumes nothing.
use Prim.Native.Nat.{ℕ, zero, suc, ◌+◌, ◌-◌, ◌≤◌, ◌<◌}
use mathlib.Core.Path.{◌≡◌, refl, ap, ap₂, sym, subst, ◌∙◌}
use mathlib.Core.Bool.{Bool, true, false}
use mathlib.Core.List.{List, [], ◌∷◌}
use native.Mathlib.Nat.{zero-add}
use native.Mathlib.Omega.{arith}
use lib.Dec.{leb}
use lib.ListN.{length, take, drop, length-drop, drop_of_length-le}
use lib.Seq.{take_all, drop-drop}
use Rattle.std.specs.Prelude.{if◌then◌else◌}
use Rattle.image.specs.board.declared.Board.{Board}
use Rattle.image.specs.board.Board.{state_in, Held}
use Rattle.one_line.specs.gathering.Lumps.{LINE, ended, used}
use Rattle.one_line.proofs.gathering.Lumps.{used-within}
use Rattle.one_line.specs.taking.declared.Show.{Show}
use Rattle.one_line.specs.taking.Desk.{Taken, Desk, desk_of, gathered, answered, taken, needed, fits, takes, filled, Leaves, Same}
use Rattle.one_line.proofs.taking.Kept.{Fine, held_fine, taken_fine, leaves_held, leaves-state}
use Rattle.one_line.proofs.taking.Laws.{taken-within, taken-used, used_some, one_leaving}
use Rattle.one_line.specs.OneLine.{Turns}
use Rattle.one_line.proofs.Laws.{stays}
use Rattle.paging.specs.Paging.{Fills}

-- ---- a lump, line by line

module _ (show : Show) where
  pub takes_none : (k : ℕ) (d : Desk) → takes show k d [] ≡ d
  unfolding takes
  takes_none zero d = refl
  takes_none (suc k) d = refl

  pub takes-full : (k : ℕ) (d : Desk) (bs : List ℕ) → fits show d ≡ false → takes show k d bs ≡ d
  unfolding takes
  takes-full zero d bs e = refl
  takes-full (suc k) d [] e = refl
  takes-full (suc k) d (b ∷ bs) e = rw e

  pub takes_more : (k : ℕ) (d : Desk) (bs : List ℕ) → 0 < length bs → fits show d ≡ true → takes show (suc k) d bs ≡ takes show k (taken show d bs) (drop (used bs) bs)
  unfolding takes
  takes_more k d [] h e = absurd (omega arith)
  takes_more k d (b ∷ bs) h e = rw e

-- the desk of a call that is `from` bytes into its lump
abbrev pub desk_at : Board → List ℕ → List ℕ → List ℕ → ℕ → List ℕ → ℕ → ℕ → Desk
desk_at s tb dp l n page at from = record { state = state_in s tb; display = dp; line = l; n = n; page = page; at = at; used = from }

-- what is left of the lump, taken by the rule from where the loop is, gives the whole
pub record Filling (show : Show) (d : Desk) (input : List ℕ) (s : Board) (tb dp l : List ℕ) (n : ℕ) (page : List ℕ) (at from : ℕ) : Type 0 where
  pub held : Held s tb
  pub within : n ≤ LINE
  pub inside : from ≤ length input
  pub left : ℕ
  pub enough : length input ≤ from + left
  pub whole : filled show d input ≡ takes show left (desk_at s tb dp l n page at from) (drop from input)

module _ {show : Show} {s : Board} {tb dp l : List ℕ} {n : ℕ} {page : List ℕ} {at : ℕ} {input : List ℕ} where
  pub filling_start : Held s tb → n ≤ LINE → Filling show (desk_of s tb dp l n page at) input s tb dp l n page at 0
  unfolding filled
  filling_start h w = record { held = h; within = w; inside = omega arith; left = length input; enough = omega arith; whole = refl }

module _ {show : Show} {d : Desk} {input : List ℕ} {s : Board} {tb dp l : List ℕ} {n : ℕ} {page : List ℕ} {at from : ℕ} (i : Filling show d input s tb dp l n page at from) where
  done : takes show i.left (desk_at s tb dp l n page at from) (drop from input) ≡ desk_at s tb dp l n page at from
      → Leaves (record { state = s; line = n; used = from; at = at }) l tb dp page (filled show d input)
  done e = rw (i.whole ∙ e) (stays i.held dp l n page at from)

  pub filling_end : length input ≤ from → Leaves (record { state = s; line = n; used = from; at = at }) l tb dp page (filled show d input)
  filling_end h = done (rw (drop_of_length-le input h) (takes_none show i.left (desk_at s tb dp l n page at from)))

  pub filling_full : leb (at + needed show) (length page) ≡ false → Leaves (record { state = s; line = n; used = from; at = at }) l tb dp page (filled show d input)
  filling_full e = done (takes-full show i.left (desk_at s tb dp l n page at from) (drop from input) e)

-- a turn, wherever in the lump it is made
taken_from : (show : Show) (d : Desk) (bs : List ℕ) → d.used ≡ 0 → (u : ℕ)
    → taken show (record { state = d.state; display = d.display; line = d.line; n = d.n; page = d.page; at = d.at; used = u }) bs
    ≡ record { state = (taken show d bs).state; display = (taken show d bs).display; line = (taken show d bs).line; n = (taken show d bs).n; page = (taken show d bs).page; at = (taken show d bs).at; used = u + used bs }
unfolding taken
taken_from show d bs _ u = go (ended bs)
  where
    e : Desk
    e = record { state = d.state; display = d.display; line = d.line; n = d.n; page = d.page; at = d.at; used = u }

    x : Bool → Desk
    x b = if b then answered show (gathered d bs) else gathered d bs

    go : (b : Bool) → (if b then answered show (gathered e bs) else gathered e bs)
        ≡ record { state = (x b).state; display = (x b).display; line = (x b).line; n = (x b).n; page = (x b).page; at = (x b).at; used = u + used bs }
    go true = refl
    go false = refl

module _ {show : Show} {d : Desk} {input : List ℕ} {s : Board} {tb dp l : List ℕ} {n : ℕ} {page : List ℕ} {at from : ℕ} (i : Filling show d input s tb dp l n page at from)
    (h : from < length input) {t : Taken} {l' tb' dp' page' : List ℕ}
    (w : Turns show s tb dp l n (take (length input - from) (drop from input)) page at t l' tb' dp' page') where
  v : Leaves t l' tb' dp' page' (taken show (desk_of s tb dp l n page at) (drop from input))
  v =
      subst (λ (x : List ℕ). Leaves t l' tb' dp' page' (taken show (desk_of s tb dp l n page at) x))
      (take_all (length input - from) (drop from input) (let e = length-drop from input in omega arith)) w.leaves

  fine : Fine (taken show (desk_of s tb dp l n page at) (drop from input)).state
  fine = taken_fine show (desk_of s tb dp l n page at) (drop from input) (held_fine i.held)

  turn_used : t.used ≡ used (drop from input)
  turn_used = v.used ∙ taken-used show (desk_of s tb dp l n page at) (drop from input) ∙ zero-add _

  pub filling_on : (from + t.used ≤ length input) × (from < from + t.used)
  filling_on =
      let e = length-drop from input in
      let a = used-within (drop from input) in
      let b = used_some (drop from input) (omega arith) in
      let c = turn_used in
      (omega arith, omega arith)

  next : taken show (desk_at s tb dp l n page at from) (drop from input) ≡ desk_at t.state tb' dp' l' t.line page' t.at (from + t.used)
  next =
      taken_from show (desk_of s tb dp l n page at) (drop from input) refl from
      ∙ (λ j. record { state = sym (leaves-state fine v) j; display = sym v.display j; line = sym v.line j; n = sym v.started j; page = sym v.page j; at = sym v.at j; used = from + sym turn_used j })

  pub filling_step : leb (at + needed show) (length page) ≡ true → Filling show d input t.state tb' dp' l' t.line page' t.at (from + t.used)
  filling_step f = go i.left i.enough i.whole
    where
      go : (k : ℕ) → length input ≤ from + k → filled show d input ≡ takes show k (desk_at s tb dp l n page at from) (drop from input)
          → Filling show d input t.state tb' dp' l' t.line page' t.at (from + t.used)
      go zero e q = absurd (omega arith)
      go (suc k) e q =
          let m = length-drop from input in
          let b = filling_on in
          record {
            held = leaves_held fine v;
            within = rw v.started (taken-within show (desk_of s tb dp l n page at) (drop from input) i.within);
            inside = b.0;
            left = k;
            enough = omega arith;
            whole = q ∙ takes_more show k (desk_at s tb dp l n page at from) (drop from input) (omega arith) f
                ∙ ap₂ (takes show k) next (ap (λ (x : ℕ). drop x (drop from input)) (sym turn_used) ∙ drop-drop t.used from input);
          }

-- ---- no second outcome fits

pub one_filling : {show : Show} {s : Board} {tb dp l : List ℕ} {n : ℕ} {bs page : List ℕ} {at : ℕ} {t t₂ : Taken} {l₁ l₂ tb₁ tb₂ dp₁ dp₂ page₁ page₂ : List ℕ}
    → Fills show s tb dp l n bs page at t l₁ tb₁ dp₁ page₁ → Fills show s tb dp l n bs page at t₂ l₂ tb₂ dp₂ page₂ → Same t t₂ l₁ l₂ tb₁ tb₂ dp₁ dp₂ page₁ page₂
one_filling a b = one_leaving a.leaves b.leaves
