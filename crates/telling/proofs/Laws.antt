-- How a line's answer is told, and how a call on a port meets its promise, refused or served; no second outcome of a call fits; what is
-- refused moves nothing; what a call writes has its room. Assumes nothing.
use Prim.Native.Nat.{ℕ, ◌+◌, ◌≤◌}
use mathlib.Core.Path.{◌≡◌, refl, ap, sym, subst, ◌∙◌}
use mathlib.Core.Bool.{Bool, true, false}
use mathlib.Core.List.{List, ◌∷◌}
use mathlib.Core.Option.{Option, none, some}
use native.Mathlib.Omega.{arith}
use borrow.Author.Tests.{eqb-true, eqb-false}
use lib.Dec.{eqb}
use lib.ListN.{length, take, drop}
use lib.Seq.{take_at}
use Rattle.memory.specs.Splice.{splice}
use Rattle.memory.proofs.Splice.{length-splice}
use Rattle.display.specs.Display.{DISPLAY}
use Rattle.pouring.specs.Pouring.{Pours}
use Rattle.admitting.specs.sizes.Sizes.{ROOM}
use Rattle.admitting.specs.Admitting.{refusal, Proper}
use Rattle.admitting.proofs.Laws.{allowed}
use Rattle.hearing.specs.Hearing.{Hears, Tells, Same}
use Rattle.hearing.proofs.Laws.{one_telling, hears_few}
use Rattle.telling.specs.Telling.{Silent, Says, Answers, Still, Moves, Ported, SameCall}

-- ---- a line's output

-- the bytes that are counted are the output
pub told_front : {l st tb dp out : List ℕ} {n : ℕ} {st' tb' dp' out' : List ℕ} (t : Tells l st tb dp out n st' tb' dp' out') → take n out' ≡ t.text
unfolding splice
told_front {out = out} t = rw (t.count, t.bytes) (take_at t.text (drop (0 + length t.text) out) (length t.text) refl)

pub told_few : {l st tb dp out : List ℕ} {n : ℕ} {st' tb' dp' out' : List ℕ} → Tells l st tb dp out n st' tb' dp' out' → n ≤ 973
told_few t = let e = t.count in let f = hears_few t.heard in omega arith

pub told-length : {l st tb dp out : List ℕ} {n : ℕ} {st' tb' dp' out' : List ℕ} → 973 ≤ length out → Tells l st tb dp out n st' tb' dp' out' → length out' ≡ length out
told-length {out = out} h t = let f = hears_few t.heard in ap length t.bytes ∙ length-splice out 0 t.text (omega arith)

-- copied into another room, and the display as it was lent
pub poured : (l : List ℕ) (m : ℕ) {st tb xs dp z out : List ℕ} {n k : ℕ} {st' tb' ys dp' z' out' : List ℕ} → Tells (take m l) st tb xs z n st' tb' ys z' → xs ≡ dp → dp' ≡ ys
    → Pours z' k out out' → k ≡ n → Says l m st tb dp out n st' tb' dp' out'
poured l m {st} {tb} {xs} {out = out} {st' = st'} {tb' = tb'} {dp' = dp'} {z' = z'} t a b e h =
    record {
      tells =
          record {
            text = t.text;
            heard =
                subst (λ (x : List ℕ). Hears (take m l) st tb x t.text st' tb' dp') a
                (subst (λ (y : List ℕ). Hears (take m l) st tb xs t.text st' tb' y) (sym b) t.heard);
            count = t.count;
            bytes = e.bytes ∙ ap (λ (x : ℕ). splice out 0 (take x z')) h ∙ ap (splice out 0) (told_front t);
          };
    }

-- ---- what is not refused is served

pub is_served : {o : Option (List ℕ)} {q : List ℕ} {v : ℕ} {p st tb dp out : List ℕ} → refusal p (length dp) (length out) ≡ 0
    → {x u n : ℕ} {p' st' tb' dp' out' : List ℕ} → x ≡ 0 → Moves o q v st tb dp out u n p' st' tb' dp' out' → Ported o q v p st tb dp out x u n p' st' tb' dp' out'
is_served z y m = record { error = y ∙ sym z; refused = λ n. absurd (n z); served = λ _. m }

-- a port by its bytes
pub cons_cons : {a a₂ b b₂ : ℕ} {l l₂ : List ℕ} → a ≡ a₂ → b ≡ b₂ → l ≡ l₂ → a ∷ b ∷ l ≡ a₂ ∷ b₂ ∷ l₂
cons_cons e f g i = e i ∷ f i ∷ g i

-- ---- refused, or not

-- a number is 0, or not
pub none_or_not {ℓ} : {R : Type ℓ} (n : ℕ) → (n ≡ 0 → R) → ((n ≡ 0 → ⊥) → R) → R
none_or_not {R = R} n y z = go (eqb n 0) refl
  where
    go : (b : Bool) → eqb n 0 ≡ b → R
    go true e = y (eqb-true n 0 e)
    go false e = z (eqb-false n 0 e)

-- ---- no second outcome fits

one_silence : {st tb dp out : List ℕ} {n n₂ : ℕ} {st₁ st₂ tb₁ tb₂ dp₁ dp₂ out₁ out₂ : List ℕ} → Silent st tb dp out n st₁ tb₁ dp₁ out₁ → Silent st tb dp out n₂ st₂ tb₂ dp₂ out₂
    → Same n n₂ st₁ st₂ tb₁ tb₂ dp₁ dp₂ out₁ out₂
one_silence a b =
    record {
      count = a.count ∙ sym b.count;
      state = a.state ∙ sym b.state;
      table = a.table ∙ sym b.table;
      display = a.display ∙ sym b.display;
      output = a.bytes ∙ sym b.bytes;
    }

one_answering : (o : Option (List ℕ)) (st tb dp out : List ℕ) {n n₂ : ℕ} {st₁ st₂ tb₁ tb₂ dp₁ dp₂ out₁ out₂ : List ℕ} → Answers o st tb dp out n st₁ tb₁ dp₁ out₁
    → Answers o st tb dp out n₂ st₂ tb₂ dp₂ out₂ → Same n n₂ st₁ st₂ tb₁ tb₂ dp₁ dp₂ out₁ out₂
one_answering none st tb dp out a b = one_silence a b
one_answering (some l) st tb dp out a b = one_telling a b

module _ {p st tb dp out : List ℕ} {e e₂ u u₂ n n₂ : ℕ} {p₁ p₂ st₁ st₂ tb₁ tb₂ dp₁ dp₂ out₁ out₂ : List ℕ} where
  pub one_porting : {o : Option (List ℕ)} {q : List ℕ} {v : ℕ} → Ported o q v p st tb dp out e u n p₁ st₁ tb₁ dp₁ out₁ → Ported o q v p st tb dp out e₂ u₂ n₂ p₂ st₂ tb₂ dp₂ out₂
      → SameCall e e₂ u u₂ n n₂ p₁ p₂ st₁ st₂ tb₁ tb₂ dp₁ dp₂ out₁ out₂
  one_porting {o} c d =
      none_or_not (refusal p (length dp) (length out))
      (λ z. let x = c.served z in let y = d.served z in same (x.used ∙ sym y.used) (x.port ∙ sym y.port) (one_answering o st tb dp out x.answers y.answers))
      (λ z. let x = c.refused z in let y = d.refused z in same (x.used ∙ sym y.used) (x.port ∙ sym y.port) (one_silence x.silent y.silent))
    where
      same : u ≡ u₂ → p₁ ≡ p₂ → Same n n₂ st₁ st₂ tb₁ tb₂ dp₁ dp₂ out₁ out₂ → SameCall e e₂ u u₂ n n₂ p₁ p₂ st₁ st₂ tb₁ tb₂ dp₁ dp₂ out₁ out₂
      same a b s =
          record { error = c.error ∙ sym d.error; used = a; written = s.count; port = b; state = s.state; table = s.table; display = s.display; output = s.output }

-- ---- what is refused moves nothing

module _ {o : Option (List ℕ)} {q : List ℕ} {v : ℕ} {p st tb dp out : List ℕ} {e u n : ℕ} {p' st' tb' dp' out' : List ℕ} (c : Ported o q v p st tb dp out e u n p' st' tb' dp' out') where
  pub refused_still : (e ≡ 0 → ⊥) → Still p st tb dp out u n p' st' tb' dp' out'
  refused_still h = c.refused (λ z. h (c.error ∙ z))

  -- what is not refused had a port, a display and room
  pub served-lent : e ≡ 0 → Proper p × (length dp ≡ DISPLAY) × (ROOM ≤ length out)
  served-lent z = allowed p (length dp) (length out) (sym c.error ∙ z)

  -- the output of a line at most: it has its room
  pub few_written : n ≤ ROOM
  few_written =
      none_or_not (refusal p (length dp) (length out))
      (λ z. go o (c.served z).answers)
      (λ z. let k = (c.refused z).silent.count in omega arith)
    where
      go : (o : Option (List ℕ)) → Answers o st tb dp out n st' tb' dp' out' → n ≤ ROOM
      go none a = let k = a.count in omega arith
      go (some l) a = told_few a
