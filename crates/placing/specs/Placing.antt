-- The walks over the ids that the queues of a state name.
-- Assumes nothing.
--
--   spare seen i       the table has the id, and it was not seen
--   Marks, marks_in m  the ids seen by a walk, 1 at each: Ok where it found all in order, Err where it did not
--   placed p seen is   a walk over ids: each is spare and passes p, and is seen from then on; where one is not, the walk ends
--   next m f           the walk f behind a walk that found all in order
--   kind_test k         what the place of an id asks of its entry; a write is in front where it is the channel's first
--   placed_writes, placed_all   the walks over the writes, and over all places
use Rattle.std.specs.Prelude.{ℕ, ◌+◌, Bool, true, false, ◌&&◌, List, [], ◌∷◌, Result, Ok, Err, eqb, ltb, get_or, set, replicate, if◌then◌else◌}
use Rattle.queue.specs.Queue.{list_of}
use Rattle.channel.specs.declared.Channel.{Channel}
use Rattle.span_entries.specs.store.declared.State.{State}
use Rattle.span_entries.specs.entries.Entries.{write_test, lock_test, waiter_test, wait_test}
use Rattle.placing.specs.declared.Kind.{Kind}
use Rattle.placing.specs.declared.Kind.TheVariants.{Write, Lock, Cycle, Wait}

unfoldable pub spare : List ℕ → ℕ → Bool
spare seen i = ltb i 64 && eqb (get_or seen i 0) 0

abbrev pub Marks : Type 0
Marks = Result (List ℕ) (List ℕ)

abbrev pub marks_in : Marks → List ℕ
marks_in (Ok seen) = seen
marks_in (Err seen) = seen

unfoldable pub placed : (ℕ → Bool) → List ℕ → List ℕ → Marks
placed p seen [] = Ok seen
placed p seen (i ∷ is) = if spare seen i && p i then placed p (set seen i 1) is else Err seen

abbrev pub next : Marks → (List ℕ → Marks) → Marks
next (Ok seen) f = f seen
next (Err seen) f = Err seen

abbrev pub kind_test : Kind → List Channel → List ℕ → ℕ → Bool
kind_test (Write key lead) cs tb i = write_test key (eqb i lead) tb i
kind_test Lock cs tb i = lock_test cs tb i
kind_test Cycle cs tb i = waiter_test cs tb i
kind_test (Wait top) cs tb i = wait_test (top + 1) tb i

-- a write of a channel: its first is in front
abbrev pub write_of : Channel → List ℕ → ℕ → Bool
write_of c tb i = write_test c.key (eqb i (get_or c.writes.ids 0 0)) tb i

unfoldable pub placed_writes : List ℕ → List ℕ → List Channel → Marks
placed_writes tb seen [] = Ok seen
placed_writes tb seen (c ∷ cs) = next (placed (write_of c tb) seen (list_of c.writes)) (λ marks. placed_writes tb marks cs)

unfoldable pub placed_all : ℕ → State → List ℕ → Marks
placed_all bound st tb =
    next (placed_writes tb (replicate 64 0) st.channels)
    (λ a. next (placed (lock_test st.channels tb) a (list_of st.locks))
    (λ b. next (placed (waiter_test st.channels tb) b (list_of st.waiters)) (λ d. placed (wait_test bound tb) d (list_of st.waiting))))
