-- How the functions meet their promises, case by case. Assumes nothing.
use Prim.Native.Nat.{ℕ, ◌+◌, ◌%◌}
use mathlib.Core.Path.{◌≡◌, refl, ap, subst}
use mathlib.Core.List.{List}
use lib.ListN.{length}
use Rattle.answers.specs.machine.Log.{op_of}
use Rattle.answers.specs.declared.Request.{Request}
use Rattle.bytes_call.specs.refusals.declared.Op.{Op}
use Rattle.bytes_call.specs.refusals.Refusals.{op_for}
use Rattle.bytes_call.specs.handed.Handed.{request_of}
use Rattle.bytes_call.specs.BytesCall.{Carries}
use Rattle.boundary.specs.Boundary.{Room, Crossed}

-- ---- the request

pub request_made : (desk op id flags map prec key : ℕ) {p : ℕ} → p ≡ (prec + 128) % 256
    → ◌≡◌ {A = Request} (record { desk = desk; command = op; id = id; flags = flags; map = map; prec = p; key = key }) (request_of desk op id flags map prec key)
request_made desk op id flags map prec key e = ap (λ (x : ℕ). record { desk = desk; command = op; id = id; flags = flags; map = map; prec = x; key = key }) e

-- ---- a call

module _ {op : ℕ} {r : Request} {ms st tb dp l an : List ℕ} where
  pub no_answer : (Room an dp → ⊥) → Crossed op r ms st tb dp l an 255 st tb dp l an
  no_answer n =
      record {
        unanswered = λ _. record { count = refl; state = refl; table = refl; display = refl; list = refl; answer = refl };
        unread = λ h. absurd (n h);
        carried = λ h. absurd (n h);
      }

  pub no_answer_room : (length an ≡ 8 → ⊥) → Crossed op r ms st tb dp l an 255 st tb dp l an
  no_answer_room n = no_answer (λ h. n h.0)

  pub no_display_room : (length dp ≡ 18 → ⊥) → Crossed op r ms st tb dp l an 255 st tb dp l an
  no_display_room n = no_answer (λ h. n h.1)

  pub was_carried : Room an dp → {o : Op} → o ≡ op_for (op_of op) → {x : Request} → x ≡ r → {n : ℕ} {st' tb' dp' l' an' : List ℕ}
      → Carries o x ms st tb dp l n st' tb' dp' l' an' → Crossed op r ms st tb dp l an n st' tb' dp' l' an'
  was_carried h {o} e {x} f {n} {st'} {tb'} {dp'} {l'} {an'} c =
      let k : Carries (op_for (op_of op)) r ms st tb dp l n st' tb' dp' l' an' =
      subst (λ (o : Op). Carries o r ms st tb dp l n st' tb' dp' l' an') e (subst (λ (y : Request). Carries o y ms st tb dp l n st' tb' dp' l' an') f c)
      in
      record { unanswered = λ n. absurd (n h); unread = λ _. k.unread; carried = λ _. k.read }
