-- Why a line that is not served is told as it is promised; no second outcome fits. Assumes nothing.
use Prim.Native.Nat.{ℕ}
use mathlib.Core.Path.{◌≡◌, refl, ap, sym, ◌∙◌}
use mathlib.Core.List.{List}
use mathlib.Core.Option.{none}
use lib.ListN.{length}
use Rattle.answers.specs.machine.Commands.{done}
use Rattle.answers.specs.machine.Log.{unhex, frame, answer_line}
use Rattle.memory.specs.Splice.{splice}
use Rattle.board.specs.declared.Board.{Board}
use Rattle.answers.specs.declared.Answer.{Answer}
use Rattle.answers.specs.Answers.{answer_of, answer_in}
use Rattle.frames.specs.declared.Frame.{Frame}
use Rattle.frames.specs.Frames.{Asked}
use Rattle.lines.specs.Lines.{Tells}
use Rattle.lines.proofs.Laws.{lines-alone, tells_as}
use Rattle.unheard.specs.Unheard.{Fed, Dull, unheard, Unheard}

-- ---- a line that is no frame

pub dull-told : {s : Board} {zs out : List ℕ} {a : Answer} {r : ℕ} {out' : List ℕ} → a ≡ answer_of (done 7 0 0 255) → Tells zs 0 a out r out'
    → Dull s out (record { state = s; n = r }) out'
dull-told {zs = zs} {a = a} e t =
    let u = tells_as t (lines-alone zs a ∙ ap (λ (x : Answer). answer_line (answer_in x)) e) in
    record { state = refl; count = u.0; bytes = u.1 }

-- ---- a state that is not sound

pub dull-unheard : {s : Board} {l out : List ℕ} {f : Fed} {out' : List ℕ} → frame (unhex l) ≡ none → Dull s out f out' → Unheard s l out f out'
dull-unheard {out = out} e d =
    let o = sym (ap unheard e) in record { state = d.state; count = d.count ∙ ap length o; bytes = d.bytes ∙ ap (splice out 0) o }

pub call-unheard : {f : Frame} {s : Board} {ms l zs out : List ℕ} {a : Answer} {r : ℕ} {out' : List ℕ} → Asked l ms f
    → a ≡ answer_of (done 1 0 f.request.key 255) → Tells zs 0 a out r out' → Unheard s l out (record { state = s; n = r }) out'
call-unheard {zs = zs} {out = out} {a = a} w e t =
    let u = tells_as t (lines-alone zs a ∙ ap (λ (x : Answer). answer_line (answer_in x)) e) in
    let o = sym (ap unheard w.whole) in
    record { state = refl; count = u.0 ∙ ap length o; bytes = u.1 ∙ ap (splice out 0) o }

-- ---- no second outcome fits

pub fed_parts : (f f₂ : Fed) → f.state ≡ f₂.state → f.n ≡ f₂.n → f ≡ f₂
fed_parts f f₂ s n i = record { state = s i; n = n i }

pub one_unheard : {s : Board} {l out : List ℕ} {f f₂ : Fed} {out₁ out₂ : List ℕ} → Unheard s l out f out₁ → Unheard s l out f₂ out₂ → (f ≡ f₂) × (out₁ ≡ out₂)
one_unheard {f = f} {f₂ = f₂} x y = (fed_parts f f₂ (x.state ∙ sym y.state) (x.count ∙ sym y.count), x.bytes ∙ sym y.bytes)
