-- However a log is cut, it comes to the machine's output of its lines and to the machine's state; so demand 3 of two stretches of a log
-- carries over to the fragments. Assumes nothing.
use Prim.Native.Nat.{ℕ}
use mathlib.Core.Path.{◌≡◌, sym, subst, ◌∙◌}
use mathlib.Core.List.{List, []}
use Rattle.slow_line.specs.port.Port.{started_in}
use Rattle.slow_line.specs.hearing.Hearing.{Kept, held_in}
use Rattle.slow_line.specs.Slow.{Came}
use Rattle.slow_line.proofs.Whole.{begun_none}
use Rattle.slow_line.proofs.Log.{slow_run}
use Rattle.two_runs.specs.TwoRuns.{own}
use Rattle.two_runs.specs.Logs.{Line, steps, texts}
use Rattle.two_runs.proofs.Logs.{k_reads_the_same, k_has_the_same, output-written, reads-output}
use Rattle.port_runs.specs.PortRuns.{Fed, Demand3Port}

-- the fragments come to the machine's run of the stretch
came : {st tb : List ℕ} {xs : List Line} {out st₂ tb₂ : List ℕ} → Kept st tb → (f : Fed st tb xs out st₂ tb₂)
    → Came (held_in st tb) f.display (texts xs) out st₂ tb₂ f.last_display
came {st} {tb} {xs} {out} {st₂} {tb₂} k f =
    let z : started_in f.port ≡ 0 = cc in
    subst (λ (ls : List (List ℕ)). Came (held_in st tb) f.display ls out st₂ tb₂ f.last_display) f.spelt
    (slow_run [] (begun_none f.port z) k f.ran)

pub k_reads_the_same_through_the_port : Demand3Port
k_reads_the_same_through_the_port p st tb xs ys out st₂ tb₂ out₃ st₃ tb₃ k a f g h j e =
    let s = held_in st tb in
    let m = came k f in
    let n = came k g in
    let q : own (steps xs) ≡ own (steps ys) = cc in
    let c = k_has_the_same p s xs ys a h j q in
    record {
      first = m.output ∙ sym (output-written s xs);
      second = n.output ∙ sym (output-written s ys);
      of_first = reads-output p s xs;
      of_second = reads-output p s ys;
      same = k_reads_the_same p s xs ys a h j q;
      channels = rw (m.held, n.held) c;
    }
