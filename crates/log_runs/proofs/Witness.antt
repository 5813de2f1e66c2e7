-- The claim about the program is about something: the two logs of crates/two_runs, the quiet one in three lumps and the busy one in
-- one. For each there is a run of the program, and K reads the same lines of both.
-- Assumes nothing.
use Prim.Native.Nat.{ℕ}
use mathlib.Core.Path.{◌≡◌, refl}
use mathlib.Core.List.{List, [], ◌∷◌, ◌++◌}
use native.Mathlib.Omega.{arith}
use lib.ListN.{length, replicate, take, drop, length-replicate}
use Rattle.machine.specs.State.{fresh_on, frees}
use Rattle.machine.specs.Log.{lines}
use Rattle.machine.specs.Machine.{machine}
use Rattle.machine.specs.Text.{bytes, page}
use Rattle.display.specs.Display.{blank}
use Rattle.board.specs.store.Store.{table_of}
use Rattle.board.specs.Board.{struct_of}
use Rattle.whole_log.specs.taking.Desk.{hidden}
use Rattle.whole_log.specs.Whole.{joined, Runs}
use Rattle.whole_log.proofs.Runs.{run_exists}
use Rattle.two_runs.specs.TwoRuns.{Keeps, Start, claim}
use Rattle.two_runs.specs.Logs.{logs, reads, steps, texts}
use Rattle.two_runs.proofs.Premises.{keeps_all, premises, starts_all}
use Rattle.two_runs.proofs.LogWitness.{party, before, quiet, busy, same_calls}
use Rattle.log_runs.specs.LogRuns.{Log, begun}
use Rattle.log_runs.proofs.LogRuns.{k_reads_the_same_of_the_program}

-- the lines of both before the stretch
abbrev common : List (List ℕ)
common = lines before

-- the quiet log is cut within a line, and has a lump without bytes
abbrev quiet_text : List ℕ
quiet_text =
    page
    ("0D06000100000100"
    ∷ "0308000100000106000200012C32"
    ∷ "0E0A000100000100"
    ∷ "F300000100000000"
    ∷ "F400000100000000"
    ∷ "0309000200000100"
    ∷ "0208000200000100"
    ∷ "0B08000200000100"
    ∷ [])

abbrev quiet_lumps : List (List ℕ)
quiet_lumps = (before ++ take 20 quiet_text) ∷ [] ∷ drop 20 quiet_text ∷ []

abbrev busy_lumps : List (List ℕ)
busy_lumps =
    (before
    ++ page
    ("0D06000100000100"
    ∷ "200740000A00000103"
    ∷ "0308000100000106000200012C32"
    ∷ "F00000000A00000104"
    ∷ "0E0A000100000100"
    ∷ "no line at all"
    ∷ "030B000400000200"
    ∷ "0E0C000400000200"
    ∷ "F300000100000000"
    ∷ "200700000A00000101"
    ∷ "F40A010300000000"
    ∷ "0309000200000100"
    ∷ "F100000000000200"
    ∷ "F207000000000000"
    ∷ "0208000200000100"
    ∷ "0B08000200000100"
    ∷ []))
    ∷ []

-- a page with room for one line's output
abbrev lent : List ℕ
lent = replicate 973 0

ran : (bss : List (List ℕ)) → Runs hidden (struct_of (fresh_on 4)) (table_of (fresh_on 4)) blank [] 0 lent bss
ran bss = run_exists 4 tt hidden bss [] lent (omega (arith, length-replicate {A = ℕ} 973 0))

quiet_spelt : lines (joined quiet_lumps) ≡ common ++ texts quiet
unfolding machine bytes page logs
quiet_spelt = refl

busy-spelt : lines (joined busy_lumps) ≡ common ++ texts busy
unfolding machine bytes page logs
busy-spelt = refl

begins : Start party (begun 4 common)
begins = starts_all party (begun 4 common) (unfold machine frees bytes page claim premises in tt)

quiet_keeps : Keeps party (begun 4 common) (steps quiet)
quiet_keeps = keeps_all party (begun 4 common) (steps quiet) (unfold machine frees bytes page claim premises logs in tt)

busy-keeps : Keeps party (begun 4 common) (steps busy)
busy-keeps = keeps_all party (begun 4 common) (steps busy) (unfold machine frees bytes page claim premises logs in tt)

pub alike : reads party (begun 4 common) quiet ≡ reads party (begun 4 common) busy
alike =
    let q = ran quiet_lumps in
    let b = ran busy_lumps in
    (k_reads_the_same_of_the_program 4 tt party [] [] lent lent common quiet busy quiet_lumps busy_lumps q.out b.out (record { ran = q.ran; spelt = quiet_spelt }) (record { ran = b.ran; spelt = busy-spelt }) begins quiet_keeps busy-keeps same_calls
    ).same
