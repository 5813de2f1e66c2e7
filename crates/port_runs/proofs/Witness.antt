-- The claim is about something: the two logs of crates/two_runs, from the state that their common lines left. The quiet one comes in
-- three fragments, cut within a line, one of them without bytes; the busy one line by line but for its last, which has no LF. K reads the
-- same thirteen lines of both, and has the same channels.
-- Assumes nothing.
--
--   Comes st tb xs    a run whose fragments spell the stretch xs
use Prim.Native.Nat.{ℕ}
use mathlib.Core.Path.{◌≡◌, refl, subst}
use mathlib.Core.List.{List, [], ◌∷◌, ◌++◌, map}
use lib.Dec.{T}
use lib.ListN.{length, replicate, take, drop}
use Rattle.machine.specs.Lists.{all}
use Rattle.machine.specs.State.{State}
use Rattle.machine.specs.Log.{lines}
use Rattle.machine.specs.Machine.{machine}
use Rattle.machine.specs.Text.{bytes, page}
use Rattle.machine_laws.specs.Sound.{Parts}
use Rattle.machine_laws.proofs.Sound.{parts}
use Rattle.display.specs.Display.{blank}
use Rattle.image.specs.store.Store.{table_of}
use Rattle.image.specs.board.Board.{struct_of, Held}
use Rattle.image.proofs.board.Laws.{held_next}
use Rattle.image.specs.Image.{image_of, state_of, is_byte}
use Rattle.image.proofs.Round.{state_of_image_of}
use Rattle.slow_line.proofs.images.Images.{saved_of, sized_of}
use Rattle.slow_line.specs.hearing.Hearing.{Kept, held_in}
use Rattle.slow_line.specs.sizes.Sizes.{PORT}
use Rattle.slow_line.specs.whole_log.Whole.{joined}
use Rattle.slow_line.proofs.Runs.{run_exists, fresh-port}
use Rattle.two_runs.specs.Logs.{Line, logs, output, texts}
use Rattle.two_runs.proofs.LogWitness.{party, start, quiet, busy, begins, quiet_keeps, busy-keeps, same_calls}
use Rattle.port_runs.specs.PortRuns.{Fed, Alike}
use Rattle.port_runs.proofs.PortRuns.{k_reads_the_same_through_the_port}

-- any bytes, fed in any fragments to a sound state, come to something
pub record Comes (st tb : List ℕ) (xs : List Line) : Type 0 where
  pub out : List ℕ
  pub state : List ℕ
  pub table : List ℕ
  pub fed : Fed st tb xs out state table

pub comes : (st tb : List ℕ) (bss : List (List ℕ)) (xs : List Line)
    → T (all is_byte (joined bss)) → lines (joined bss) ≡ texts xs → Comes st tb xs
comes st tb bss xs b e =
    let r = run_exists bss b (replicate PORT 0) st tb blank fresh-port.0 refl in
    record {
      out = r.out;
      state = r.state;
      table = r.table;
      fed =
          record {
            port = replicate PORT 0;
            last_port = r.port;
            display = blank;
            last_display = r.display;
            fragments = bss;
            none = fresh-port.1;
            ran = r.ran;
            spelt = e;
          };
    }

-- ---- the bytes of the state in which the stretches begin

abbrev pub first : List ℕ
first = image_of (struct_of start)

start_parts : Parts start
start_parts = parts start (unfold machine bytes page in tt)

begun : Held (state_of first) (table_of start) × (held_in first (table_of start) ≡ start)
begun = held_next start (state_of first) (table_of start) start_parts (unfold machine bytes page in tt)
    (state_of_image_of (struct_of start) (sized_of start start_parts)) refl

kept : Kept first (table_of start)
kept = record { whole = (saved_of start start_parts).whole; held = begun.0 }

-- ---- the fragments

-- each line with its LF
abbrev whole : List Line → List (List ℕ)
whole xs = map (λ l. l ++ 10 ∷ []) (texts xs)

-- within a line, without bytes, and but for the last LF
abbrev cut : List (List ℕ)
cut = take 20 (joined (whole quiet)) ∷ [] ∷ take 127 (drop 20 (joined (whole quiet))) ∷ []

pub quiet_fed : Comes first (table_of start) quiet
quiet_fed = comes first (table_of start) cut quiet (unfold machine bytes page logs in tt) (unfold machine bytes page logs in refl)

pub busy-fed : Comes first (table_of start) busy
busy-fed = comes first (table_of start) (whole busy) busy (unfold machine bytes page logs in tt) (unfold machine bytes page logs in refl)

-- K reads thirteen lines of each: all that is written for the quiet one, and about half of what is for the busy one
pub how_many-written : (length (output start quiet) ≡ 13) × (length (output start busy) ≡ 25)
unfolding machine bytes page logs
how_many-written = (refl, refl)

-- what is shown of the two outputs, from a state
abbrev Shown : State → Type 0
Shown s =
    Alike party s quiet busy quiet_fed.out busy-fed.out (held_in quiet_fed.state quiet_fed.table)
    (held_in busy-fed.state busy-fed.table)

pub alike : Shown start
alike =
    subst Shown begun.1
    (k_reads_the_same_through_the_port party first (table_of start) quiet busy quiet_fed.out quiet_fed.state quiet_fed.table
    busy-fed.out busy-fed.state busy-fed.table kept (rw begun.1 begins) quiet_fed.fed busy-fed.fed
    (rw begun.1 quiet_keeps) (rw begun.1 busy-keeps) same_calls)
