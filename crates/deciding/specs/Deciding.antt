-- What is done once a call's refusal is decided: what `decided` asks.
-- Assumes nothing.
--
--   rests_at o e           nothing settles after an operation answered with e, though it is not refused
--   decision_of e          the refusal of a number; 0 is none
--   waits_in tb i          the entry of id i is a waiting request's; wait_word tb i: its word, and 0 where it is not
--   gone_by o tb i, joined_by n n' ms   the words of who leaves before settling, and of who joins
--   joined_of f c s        the word of who joins at a call so decided: the call's own request, where one more waits before settling
--   Moved f c s l j       the words of who joined are j, and of who left l: with j the balance says what l is
--   Decided o e r s ms tb l   what `decided` asks: eight channels are held, the numbers fit their bytes, and e is the number of the
--                             board's refusal
use Rattle.std.specs.Prelude.{ℕ, zero, suc, ◌≤◌, ◌<◌, ◌≡◌, Bool, false, List, eqb, ltb, length, get_or, if◌then◌else◌}
use Rattle.answers.specs.machine.Numbers.{ALLOCFAILED, ADCMD_ALLOCATE}
use Rattle.answers.specs.machine.Refusals.{Refusal, accepted, refused, refusal}
use Rattle.answers.specs.machine.State.{State as StateM, Call}
use Rattle.answers.specs.machine.Call.{answering}
use Rattle.display.specs.Looks.{acting}
use Rattle.table.specs.memory.Splice.{block}
use Rattle.table.specs.Entry.{list_in}
use Rattle.settling.specs.lanes.Lanes.{word_of, Balanced}
use Rattle.answers.specs.store.declared.State.{State}
use Rattle.answers.specs.store.Store.{state_in as wide_in, Held as WideHeld}
use Rattle.answers.specs.declared.Request.{Request}
use Rattle.operations.specs.refusals.declared.Op.{Op}
use Rattle.operations.specs.refusals.declared.Op.TheVariants.{Open, Close, Abort, CycleEnded, GaveUp, Command}
use Rattle.operations.specs.refusals.Refusals.{op_in, asked_of}

-- "After every call, except .. an OPEN answered -11, walk from the head."
abbrev pub rests_at : Op → ℕ → Bool
rests_at Open e = eqb e ALLOCFAILED
rests_at Close e = false
rests_at Abort e = false
rests_at CycleEnded e = false
rests_at GaveUp e = false
rests_at Command e = false

abbrev pub decision_of : ℕ → Refusal
decision_of zero = accepted
decision_of (suc e) = refused (suc e)

abbrev pub waits_in : List ℕ → ℕ → Bool
waits_in tb i = eqb (get_or (block 23 tb i) 0 0) ADCMD_ALLOCATE

abbrev pub wait_word : List ℕ → ℕ → ℕ
wait_word tb i = if waits_in tb i then word_of (list_in (block 23 tb i)) else 0

abbrev pub gone_by : Op → List ℕ → ℕ → ℕ
gone_by Open tb i = 0
gone_by Close tb i = 0
gone_by Abort tb i = wait_word tb i
gone_by CycleEnded tb i = 0
gone_by GaveUp tb i = 0
gone_by Command tb i = 0

abbrev pub joined_by : ℕ → ℕ → List ℕ → ℕ
joined_by n n' ms = if ltb n n' then word_of ms else 0

unfoldable pub joined_of : Refusal → Call → StateM → ℕ
joined_of accepted c s = joined_by (length s.waiting) (length (acting c.op c s).next.waiting) c.combos
joined_of (refused e) c s = 0

pub record Moved (f : Refusal) (c : Call) (s : StateM) (left joined : ℕ) : Type 0 where
  pub joins : joined ≡ joined_of f c s
  pub balance : Balanced s.waiting (answering f c s).next.waiting left joined

pub record Decided (o : Op) (e : ℕ) (r : Request) (s : State) (ms tb l : List ℕ) : Type 0 where
  pub held : WideHeld s tb
  pub range : (r.prec ≤ 255) × (r.key ≤ 65535)
  pub bytes : (i : ℕ) → get_or ms i 0 < 256
  pub room : 8 < e → 6 ≤ length l
  pub allows : e ≡ 0 → refusal (op_in o r.command) (asked_of o r ms (length l)) (wide_in s tb) ≡ accepted
