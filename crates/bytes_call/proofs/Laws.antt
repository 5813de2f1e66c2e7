-- A display in an array of the code's own is the display in the bytes lent; a desk's outcome in an answer's bytes. Assumes nothing.
use Prim.Native.Nat.{ℕ, ◌+◌, ◌≤◌}
use mathlib.Core.Path.{◌≡◌, ap, sym, subst, ◌∙◌}
use mathlib.Core.List.{List}
use native.Mathlib.Omega.{arith}
use Rattle.image.proofs.Round.{whole_saved}
use Rattle.answers.specs.declared.Request.{Request}
use Rattle.answers.specs.declared.Answer.{Answer}
use Rattle.handed.specs.refusals.declared.Op.{Op}
use Rattle.answers.specs.machine.Desks.{HALF}
use Rattle.desk_call.proofs.arbiter.Lent.{whole_or_not}
use Rattle.handed.specs.Handed.{answer_bytes}
use Rattle.desk_call.specs.declared.Answered.{Answered}
use Rattle.desk_call.specs.DeskCall.{outcome_in, Lent}
use Rattle.desk_call.proofs.Promise.{few_each_half}
use Rattle.bytes_call.specs.BytesCall.{Carries}

pub shown_as : {o : Op} {r : Request} {ms st tb l xs ys dp dp' : List ℕ} {d : Answered} {st' tb' l' : List ℕ} → xs ≡ dp → dp' ≡ ys → Lent o r ms st tb l xs d st' tb' l' ys → Lent o r ms st tb l dp d st' tb' l' dp'
shown_as {o} {r} {ms} {st} {tb} {l} {xs} {ys} {dp} {d = d} {st'} {tb'} {l'} e f c =
    subst (λ (x : List ℕ). Lent o r ms st tb l dp d st' tb' l' x) (sym f) (subst (λ (x : List ℕ). Lent o r ms st tb l x d st' tb' l' ys) e c)

-- at most 32 replies in each half
pub few_lent : {o : Op} {r : Request} {ms st tb l dp : List ℕ} {d : Answered} {st' tb' l' dp' : List ℕ} → Lent o r ms st tb l dp d st' tb' l' dp' → (d.a ≤ HALF) × (d.b ≤ HALF)
few_lent {st = st} c = whole_or_not st (λ w. few_each_half (c.read w).1) (λ n. let u = (c.unread n).numbers in (omega (arith, u.0), omega (arith, u.1)))

pub carries : {o : Op} {r : Request} {ms st tb l dp : List ℕ} {d : Answered} {st' tb' l' dp' an' : List ℕ} {n : ℕ} → Lent o r ms st tb l dp d st' tb' l' dp' → n ≡ d.a + d.b
    → an' ≡ answer_bytes d.answer d.a d.b → Carries o r ms st tb dp l n st' tb' dp' l' an'
carries {d = d} {st' = st'} c e f =
    record {
      read = λ w. let y = c.read w in record { outcome = outcome_in st' d; called = y.1; shown = y.2; count = e; state = whole_saved _ y.0; answer = f };
      unread =
          λ n. let u = c.unread n in
          let a = u.numbers.0 in
          let b = u.numbers.1 in
          record {
            count = omega (arith, e, a, b);
            state = u.state;
            table = u.table;
            display = u.display;
            list = u.list;
            answer = f ∙ (λ i. answer_bytes (u.answer i) (a i) (b i));
          };
    }
