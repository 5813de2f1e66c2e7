-- Document 02, #102: what pins the two events. What becomes of the write in front when a cycle ends, by its count and by what is
-- remembered; then what no line of a log shows, of states, by computation.
-- Assumes nothing.
use Prim.Native.Nat.{ℕ, suc, ◌-◌}
use mathlib.Core.Path.{◌≡◌, refl}
use mathlib.Core.Bool.{true, false}
use mathlib.Core.List.{List, [], ◌∷◌}
use native.Mathlib.Omega.{arith}
use lib.Dec.{eqb}
use Rattle.machine.specs.Numbers.{ABORTED, CMD_WRITE}
use Rattle.machine.specs.State.{Write, Reply, EVENT, CYCLE_ENDED, GAVE_UP}
use Rattle.machine.specs.Granting.{aborted}
use Rattle.machine.specs.Commands.{toned, is_last, last_replies, cycled}
use Rattle.machine.specs.Call.{call}
use Rattle.machine.specs.Walks.{plays, tunes, both, lock}
use Rattle.machine.specs.Machine.{machine}
use Rattle.machine.proofs.Tests.{eqb_false}
use Rattle.machine.proofs.Cuts.{on, two, asks, left}

-- ---- a cycle ended

-- "(FINISH ends the write with -2 and stops here)": whatever its count
pub finish_ends : (m k n p v : ℕ) (i : ℕ) (q : _) (ws : List Write)
    → let w : Write = record { id = i; cycles = n; period = p; volume = v; finish = true; pervol = q } in
    (cycled (w ∷ ws) ≡ ws) × (last_replies m k (w ∷ ws) ≡ record { id = i; command = CMD_WRITE; error = ABORTED; map = 0; key = k } ∷ [])
unfolding cycled is_last last_replies aborted
finish_ends m k n p v i q ws = (refl, refl)

-- "the last cycle ends the write with 0"
pub last_cycle_ends : (m k p v : ℕ) (i : ℕ) (q : _) (ws : List Write)
    → let w : Write = record { id = i; cycles = 1; period = p; volume = v; finish = false; pervol = q } in
    (cycled (w ∷ ws) ≡ ws) × (last_replies m k (w ∷ ws) ≡ record { id = i; command = CMD_WRITE; error = 0; map = m; key = k } ∷ [])
unfolding cycled is_last last_replies
last_cycle_ends m k p v i q ws = (refl, refl)

-- "(0 is endless)"
pub endless_goes_on : (m k p v : ℕ) (i : ℕ) (ws : List Write)
    → (cycled (plays i 0 p v ∷ ws) ≡ plays i 0 p v ∷ ws) × (last_replies m k (plays i 0 p v ∷ ws) ≡ [])
unfolding cycled is_last last_replies toned
endless_goes_on m k p v i ws = (refl, refl)

more : (n : ℕ) → eqb (suc (suc n)) 1 ≡ false
more n = eqb_false (suc (suc n)) 1 (λ e. omega (arith, e))

less : (n : ℕ) → suc (suc n) - 1 ≡ suc n
less n = omega arith

-- "then counts down": a write with more than one cycle left has one less, and says nothing
pub counts_down_lem : (m k n p v : ℕ) (i : ℕ) (ws : List Write)
    → (cycled (plays i (suc (suc n)) p v ∷ ws) ≡ plays i (suc n) p v ∷ ws) × (last_replies m k (plays i (suc (suc n)) p v ∷ ws) ≡ [])
unfolding cycled is_last last_replies toned
counts_down_lem m k n p v i ws = (rw (more n, less n) refl, rw (more n) refl)

-- "applies what was remembered": PERVOL's numbers stand, and are remembered no longer
pub pervol_applied : (n p v q u : ℕ) (i : ℕ) (ws : List Write)
    → (cycled (tunes i (suc (suc n)) p v q u ∷ ws) ≡ plays i (suc n) q u ∷ ws) × (cycled (tunes i 0 p v q u ∷ ws) ≡ plays i 0 q u ∷ ws)
unfolding cycled is_last toned
pervol_applied n p v q u i ws = (rw (more n, less n) refl, refl)

-- ---- whole states: what the write has then, who waits on, what the other channels keep

-- write 2 goes on; who waited for its cycle waits no longer
pub cycle_ended : (call (on false two (lock 9 1 1 ∷ lock 8 1 1 ∷ [])) (asks (EVENT CYCLE_ENDED) 0 [])).next ≡ on false (plays 2 2 200 10 ∷ plays 3 1 300 20 ∷ []) []
unfolding machine
cycle_ended = refl

-- the driver gave up write 2, with what was remembered for it: write 3 is in front as it came
pub gave_up : (call (on false (both 2 0 200 10 256 7 ∷ plays 3 1 300 20 ∷ []) (lock 9 1 1 ∷ [])) (asks (EVENT GAVE_UP) 0 [])).next ≡ on false (plays 3 1 300 20 ∷ []) []
unfolding machine
gave_up = refl

-- "on a stopped or empty channel both answer map 0", and nothing moves
pub stopped-stays : ((call (on true two (lock 9 1 1 ∷ [])) (asks (EVENT CYCLE_ENDED) 0 [])).next ≡ on true two (lock 9 1 1 ∷ []))
    × ((call (on true two (lock 9 1 1 ∷ [])) (asks (EVENT GAVE_UP) 0 [])).next ≡ on true two (lock 9 1 1 ∷ []))
unfolding machine
stopped-stays = (refl, refl)
