-- A refusal sends what is due: the own reply of a command refused with a number above 8, else nothing. Assumes nothing.
use Prim.Native.Nat.{ℕ, zero, ◌<◌}
use mathlib.Core.Path.{◌≡◌, refl, ap, sym, ◌∙◌}
use mathlib.Core.Bool.{Bool, true, false}
use mathlib.Core.List.{List, []}
use native.Mathlib.Omega.{arith}
use native.Mathlib.Nat.{zero-add}
use lib.Dec.{ltb, ltb→lt}
use lib.ListN.{length}
use Rattle.std.specs.Prelude.{if◌then◌else◌}
use Rattle.answers.specs.machine.Commands.{done}
use Rattle.memory.specs.Splice.{splice}
use Rattle.answers.specs.reply.Replies.{sent}
use Rattle.answers.specs.store.declared.State.{State}
use Rattle.answers.specs.declared.Request.{Request}
use Rattle.answers.specs.declared.Answer.{Answer}
use Rattle.answers.specs.declared.Outcome.{Outcome}
use Rattle.answers.specs.Answers.{answer_of, answer_in, own_reply}
use Rattle.answers.proofs.Laws.{Finished}
use Rattle.refusals.specs.declared.Op.{Op}
use Rattle.refusals.specs.declared.Op.TheVariants.{Open, Close, Abort, CycleEnded, GaveUp, Command}
use Rattle.refusing.specs.Refusing.{is_due, due_replies, Refused}

pub false_true : false ≡ true → ⊥
false_true z = let y : ◌≡◌ {A = ℕ} 0 1 = ap (λ (b : Bool). if b then 1 else 0) z in omega arith

sent_none : (l : List ℕ) → sent l 0 [] ≡ l
unfolding splice
sent_none l = refl

pub due_late : (o : Op) (e : ℕ) → is_due o e ≡ true → 8 < e
due_late Open e q = absurd (false_true q)
due_late Close e q = absurd (false_true q)
due_late Abort e q = absurd (false_true q)
due_late CycleEnded e q = absurd (false_true q)
due_late GaveUp e q = absurd (false_true q)
due_late Command e q = ltb→lt 8 e (rw q tt)

-- how `refuse` meets its contract
module _ {o : Op} {e : ℕ} {r : Request} {s : State} {l : List ℕ} {d : Outcome} {l' : List ℕ} where
  pub due_refused : is_due o e ≡ true → {a : Answer} → a ≡ answer_of (done e 0 r.key 255) → Finished r a s l 0 d l' → Refused o e r s l d l'
  due_refused q {a} h f =
      let z : own_reply r (answer_in a) ≡ due_replies o e r = ap (λ (x : Answer). own_reply r (answer_in x)) h ∙ sym (ap (λ (b : Bool). if b then own_reply r (done e 0 r.key 255) else []) q) in
      record {
        answer = f.answer ∙ h;
        state = f.state;
        count = f.count ∙ zero-add _ ∙ ap length z;
        list = f.list ∙ ap (sent l 0) z;
      }

pub mute-refused : {o : Op} {e : ℕ} {r : Request} {s : State} {a : Answer} (l : List ℕ) → is_due o e ≡ false → a ≡ answer_of (done e 0 r.key 255)
    → Refused o e r s l (record { answer = a; state = s; n = 0 }) l
mute-refused {o} {e} {r} l q h =
    let z : [] ≡ due_replies o e r = sym (ap (λ (b : Bool). if b then own_reply r (done e 0 r.key 255) else []) q) in
    record { answer = h; state = refl; count = ap length z; list = sym (sent_none l) ∙ ap (sent l 0) z }
