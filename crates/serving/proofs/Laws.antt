-- Why reading, serving and telling a line is the machine's `feed`; no second outcome fits. Assumes nothing.
use Prim.Native.Nat.{ℕ, ◌+◌, ◌≤◌}
use mathlib.Core.Path.{◌≡◌, refl, ap, sym, subst, ◌∙◌}
use mathlib.Core.List.{List}
use mathlib.Core.Option.{Option as OptionM, none, some}
use Rattle.std.specs.Prelude.{Option, Some}
use native.Mathlib.Omega.{arith}
use lib.Dec.{T}
use lib.ListN.{length, take, length-take}
use Rattle.answers.specs.machine.State.{State as StateM, Call as CallM}
use Rattle.answers.specs.machine.Sound.{sound}
use Rattle.answers.specs.machine.Commands.{silent}
use Rattle.answers.specs.machine.Call.{call}
use Rattle.answers.specs.machine.Log.{Fed as FedM, unhex, frame, told, reply_lines, outcome_of, feed}
use Rattle.display.proofs.machine_laws.Replies.{call-replies}
use Rattle.answers.specs.machine.Lists.{keep}
use Rattle.answers.specs.machine.Desks.{replies_to, halves}
use Rattle.display.proofs.machine_laws.Halves.{length-halves}
use Rattle.memory.specs.Splice.{splice}
use Rattle.memory.proofs.Splice.{length-splice}
use Rattle.image.specs.board.declared.Board.{Board}
use Rattle.answers.proofs.reply.Laws.{length-encodes}
use Rattle.halves.specs.Halves.{in_order, Ordering}
use Rattle.answers.specs.store.Store.{table_of}
use Rattle.image.specs.board.Board.{struct_of, state_in, Held}
use Rattle.answers.specs.declared.Request.{Request}
use Rattle.image.specs.board.declared.Outcome.{Outcome}
use Rattle.arbiter.specs.refusals.declared.Op.{Op}
use Rattle.arbiter.specs.refusals.Refusals.{asked_of}
use Rattle.display.specs.Display.{displayed_by}
use Rattle.arbiter.specs.Arbiter.{Handled, Shown}
use Rattle.unheard.specs.frames.declared.Frame.{Frame}
use Rattle.unheard.specs.frames.Frames.{combos_after, Reads, Asked}
use Rattle.unheard.proofs.frames.Laws.{asked-frame}
use Rattle.unheard.specs.lines.Lines.{Tells}
use Rattle.unheard.proofs.lines.Laws.{length-told, ordered_replies, tells-outcome}
use Rattle.unheard.specs.Unheard.{Fed, dull, Dull}
use Rattle.unheard.proofs.Laws.{fed_parts}
use Rattle.serving.specs.Serving.{Feeds, FeedsDisplay, Same}

-- ---- the machine's `feed` by the kind of line

feed-frame : (s : StateM) (l : List ℕ) (c : CallM) → frame (unhex l) ≡ some c → feed s l ≡ record { output = told (call s c); next = (call s c).next }
unfolding feed outcome_of
feed-frame s l c e = rw e

pub feed_malformed : (s : StateM) (l : List ℕ) → frame (unhex l) ≡ none → feed s l ≡ record { output = dull; next = s }
unfolding feed outcome_of told silent halves replies_to keep reply_lines
feed_malformed s l e = rw e

-- ---- a line that is no frame

pub dull-feeds : {s : Board} {tb l out : List ℕ} {f : Fed} {out' : List ℕ} → Held s tb → frame (unhex l) ≡ none → Dull s out f out' → Feeds s tb l out f tb out'
dull-feeds {s} {tb} {l} {out} {f} h e d =
    let q = feed_malformed (state_in s tb) l e in
    let n = sym (ap (λ (x : FedM). x.next) q) in
    let o = sym (ap (λ (x : FedM). x.output) q) in
    record {
      struct = d.state ∙ h.struct ∙ ap struct_of n;
      table = h.table ∙ ap table_of n;
      count = d.count ∙ ap length o;
      bytes = d.bytes ∙ ap (splice out 0) o;
      kept = subst (λ (x : Board). Held x tb) (sym d.state) h;
      next = ap (λ (x : Board). state_in x tb) d.state ∙ n;
    }

pub dull-display : {s : Board} {tb l out : List ℕ} {f : Fed} {tb' out' : List ℕ} (dp : List ℕ) → Feeds s tb l out f tb' out' → frame (unhex l) ≡ none → FeedsDisplay s tb l dp dp
unfolding displayed_by
dull-display {s} {tb} dp _ e = sym (ap (λ o. displayed_by (state_in s tb) o dp) e)

-- ---- a line that is one

-- the list of combinations keeps its length
pub reads-length : {l ms ms' : List ℕ} {r : Option Frame} {f : Frame} → Reads l ms r ms' → r ≡ Some f → 255 ≡ length ms → 255 ≡ length ms'
unfolding combos_after
reads-length {l} {ms} {ms'} {r} {f} t e h =
    let a = asked-frame t e in
    let q : ms' ≡ splice ms 0 (take f.n ms') = t.filled ∙ ap (λ o. combos_after o ms) a.whole in
    let k : length (take f.n ms') ≤ 255 = let m = length-take f.n ms' in let b = a.few in omega arith in
    h ∙ sym (ap length q ∙ length-splice ms 0 (take f.n ms') (omega arith))

pub served_few : {o : Op} {r : Request} {s : Board} {ms tb zs : List ℕ} {d : Outcome} {tb' l' : List ℕ} → Held s tb
    → Handled o r s ms tb zs d tb' l' → d.n ≤ 64
served_few {o} {r} {s} {ms} {tb} {zs} h w =
    let c = w.told.did.count in
    let k = (call-replies (state_in s tb) (asked_of o r ms (length zs)) h.sane).1 in
    omega arith

-- and they fit in 64 records in the order of the log
pub served-order : {o : Op} {r : Request} {s : Board} {ms tb zs os : List ℕ} {d : Outcome} {tb' l' : List ℕ} → Held s tb → 384 ≡ length os
    → Handled o r s ms tb zs d tb' l' → Ordering l' d.n os
served-order {o} {r} {s} {ms} {tb} {zs} {os} {d} h e w =
    let rs = (call (state_in s tb) (asked_of o r ms (length zs))).replies in
    let k = (call-replies (state_in s tb) (asked_of o r ms (length zs)) h.sane).1 in
    let z = ap length (ordered_replies w.told) ∙ length-encodes (halves rs) in
    let y = length-halves rs in
    record { many = served_few h w; room = omega arith }

pub served-feeds : {f : Frame} {s : Board} {ms tb l zs out : List ℕ} {d : Outcome} {tb' l' : List ℕ} (os : List ℕ) {os' : List ℕ} {r : ℕ} {out' : List ℕ} → 384 ≡ length zs → Asked l ms f
    → Handled f.op f.request s (take f.n ms) tb zs d tb' l' → os' ≡ splice os 0 (in_order d.n l') → Tells os' d.n d.answer out r out'
    → Feeds s tb l out (record { state = d.state; n = r }) tb' out'
served-feeds {f} {s} {ms} {tb} {l} {zs} {out} os n a w p t =
    let c = asked_of f.op f.request (take f.n ms) (length zs) in
    let e : frame (unhex l) ≡ some c = a.whole ∙ ap (λ (k : ℕ). some (asked_of f.op f.request (take f.n ms) k)) n in
    let q = feed-frame (state_in s tb) l c e in
    let m = sym (ap (λ (x : FedM). x.next) q) in
    let o = sym (ap (λ (x : FedM). x.output) q) in
    let u = tells-outcome os w.told p t in
    record {
      struct = w.told.did.struct ∙ ap struct_of m;
      table = w.told.did.table ∙ ap table_of m;
      count = u.0 ∙ ap length o;
      bytes = u.1 ∙ ap (splice out 0) o;
      kept = w.kept;
      next = w.next ∙ m;
    }

pub served-display : {f : Frame} {s : Board} {ms tb l zs : List ℕ} {d : Outcome} {tb' l' : List ℕ} (dp : List ℕ) {dp' : List ℕ} → 384 ≡ length zs → Asked l ms f
    → Handled f.op f.request s (take f.n ms) tb zs d tb' l' → Shown f.op f.request s (take f.n ms) tb zs dp dp' → FeedsDisplay s tb l dp dp'
unfolding displayed_by
served-display {f} {s} {ms} {tb} dp n a _ w =
    let e = a.whole ∙ ap (λ (k : ℕ). some (asked_of f.op f.request (take f.n ms) k)) n in
    w ∙ sym (ap (λ o. displayed_by (state_in s tb) o dp) e)

-- ---- the room that a line's output takes

pub feed_few : (s : StateM) (l : List ℕ) → T (sound s) → length (feed s l).output ≤ 973
unfolding feed outcome_of
feed_few s l h = go (frame (unhex l))
  where
    go : (o : OptionM CallM) → length (told (outcome_of s o)) ≤ 973
    go none = let z = length-told (outcome_of s none) in let y : length (outcome_of s none).replies ≡ 0 = unfold outcome_of silent in refl in omega arith
    go (some c) = let z = length-told (call s c) in let k = (call-replies s c h).1 in omega arith

module _ {s : Board} {tb l out : List ℕ} {f : Fed} {tb' out' : List ℕ} (h : Held s tb) (t : Feeds s tb l out f tb' out') where
  pub fed_few : f.n ≤ 973
  fed_few = rw t.count (feed_few (state_in s tb) l h.sane)

  pub fed-length : 973 ≡ length out → 973 ≡ length out'
  fed-length e =
      let k = feed_few (state_in s tb) l h.sane in
      e ∙ sym (ap length t.bytes ∙ length-splice out 0 (feed (state_in s tb) l).output (omega arith))

-- ---- no second outcome fits

-- of a line on a sound state
pub one_sound_feeding : {s : Board} {tb l out : List ℕ} {f f₂ : Fed} {tb₁ tb₂ out₁ out₂ : List ℕ} → Feeds s tb l out f tb₁ out₁ → Feeds s tb l out f₂ tb₂ out₂
    → Same f f₂ tb₁ tb₂ out₁ out₂
one_sound_feeding {f = f} {f₂ = f₂} x y =
    record {
      fed = fed_parts f f₂ (x.struct ∙ sym y.struct) (x.count ∙ sym y.count);
      table = x.table ∙ sym y.table;
      output = x.bytes ∙ sym y.bytes;
    }
