-- The log program's output falls into what was written for the common lines and what was written for the stretch; what K reads
-- of the latter is the same in both. Assumes nothing.
use Prim.Native.Nat.{ℕ}
use mathlib.Core.Path.{◌≡◌, refl, ap, sym, ◌∙◌}
use mathlib.Core.List.{List, [], ◌∷◌, ◌++◌, append_assoc}
use lib.Dec.{T}
use Rattle.machine.specs.State.{State, fresh_on}
use Rattle.machine.specs.Log.{feed, run}
use Rattle.board.specs.Board.{sized}
use Rattle.whole_log.proofs.Whole.{whole_log}
use Rattle.two_runs.specs.Logs.{Line, output, texts, joined_lines}
use Rattle.two_runs.proofs.Logs.{k_reads_the_same, output-written, reads-output}
use Rattle.log_runs.specs.LogRuns.{Log, begun, Alike, Demand3Log}

run_append : (s : State) (ks ls : List (List ℕ)) → (run s (ks ++ ls)).output ≡ (run s ks).output ++ (run (run s ks).next ls).output
unfolding run
run_append s [] ls = refl
run_append s (k ∷ ks) ls =
    ap (λ x. (feed s k).output ++ x) (run_append (feed s k).next ks ls) ∙ sym (append_assoc (feed s k).output (run (feed s k).next ks).output _)

-- what the program writes: for the common lines, then line by line for the stretch
pub written : (w : ℕ) → T (sized w) → {l page : List ℕ} {pre : List (List ℕ)} {xs : List Line} {bss : List (List ℕ)} {out : List ℕ} → Log w l page pre xs bss out
    → out ≡ (run (fresh_on w) pre).output ++ joined_lines (output (begun w pre) xs)
written w t {pre = pre} {xs = xs} g =
    whole_log w t g.ran
    ∙ ap (λ x. (run (fresh_on w) x).output) g.spelt
    ∙ run_append (fresh_on w) pre (texts xs)
    ∙ ap (λ x. (run (fresh_on w) pre).output ++ x) (sym (output-written (begun w pre) xs))

pub k_reads_the_same_of_the_program : Demand3Log
k_reads_the_same_of_the_program w t p l l₂ page page₂ pre xs ys bss bss₂ out out₂ g h a k m e =
    record {
      first = written w t g;
      second = written w t h;
      of_first = reads-output p (begun w pre) xs;
      of_second = reads-output p (begun w pre) ys;
      same = k_reads_the_same p (begun w pre) xs ys a k m e;
    }
