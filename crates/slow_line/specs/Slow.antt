-- Document 02, #107, "The log over a slow line": a log fed through a port in any way, and the log taken in one.
-- Assumes nothing.
--
--   Heard st tb dp ls out st₂ tb₂ dp₂   a log taken in one: its lines ls, each by `Hears`, on the bytes of a state, a table and a display,
--                                    whatever they are, come to the output out, and leave the bytes st₂, tb₂ and dp₂
--   Ran p st tb dp bss out p₂ st₂ tb₂ dp₂   from the port p and the bytes st, tb and dp, the fragments bss come to the output out, and leave
--                                    the port p₂ and the bytes st₂, tb₂ and dp₂. Of the code only its promises are used: `Feeds` of
--                                    `feed`, `Ends` of `feed_end`. Each call lends a room of its own, and may be refused
--     feeds                          a call takes the next fragment, or a part of it: what it does not use is next
--     used_up                        a fragment is used up, or had no bytes
--     ends                           the log has ended, and a call answers a last line without LF
--     over                           the log has ended, and nothing stands of a line
--   shown_after s dp ls               the display after the lines ls from the state s, which had the display dp
--   Runs p st tb dp bss              there is a run of the fragments bss, with what it comes to and what it leaves
--   Begun p q                        the port p has a line begun, of which the bytes q have come
--   Came s dp ls out st₂ tb₂ dp₂     the output and the state at the end are those that the machine's `run` gives from the state s, and
--                                    the display is the one that its calls show
use Rattle.std.specs.Prelude.{ℕ, ◌≡◌, List, [], ◌∷◌, ◌++◌, false, take, drop}
use Rattle.digits.specs.machine.State.{State as StateM}
use Rattle.digits.specs.machine.Log.{unhex, frame, feed, run}
use Rattle.display.specs.Display.{displayed_by}
use Rattle.image.specs.store.Store.{table_of}
use Rattle.image.specs.board.Board.{struct_of}
use Rattle.image.specs.Image.{image_of}
use Rattle.fragments.specs.port.Port.{started_in, line_in}
use Rattle.fragments.specs.hearing.Hearing.{Kept, held_in, Hears}
use Rattle.fragments.specs.Fragments.{Feeds}
use Rattle.last_line.specs.LastLine.{Ends}
use Rattle.gathering.specs.Lumps.{ended, Stands}

-- "the log taken in one"
pub data Heard : (st tb dp : List ℕ) → List (List ℕ) → (out st₂ tb₂ dp₂ : List ℕ) → Type 0 where
  none : {st tb dp : List ℕ} → Heard st tb dp [] [] st tb dp
  more : {st tb dp l : List ℕ} {ls : List (List ℕ)} {text st' tb' dp' out st₂ tb₂ dp₂ : List ℕ} → Hears l st tb dp text st' tb' dp' → Heard st' tb' dp' ls out st₂ tb₂ dp₂
      → Heard st tb dp (l ∷ ls) (text ++ out) st₂ tb₂ dp₂

-- "in fragments of any length, some of them with no bytes"
pub data Ran : (p st tb dp : List ℕ) → List (List ℕ) → (out p₂ st₂ tb₂ dp₂ : List ℕ) → Type 0 where
  feeds : {bs p st tb dp room : List ℕ} {e u n : ℕ} {p' st' tb' dp' room' : List ℕ} {bss : List (List ℕ)} {out p₂ st₂ tb₂ dp₂ : List ℕ}
      → Feeds bs p st tb dp room e u n p' st' tb' dp' room' → Ran p' st' tb' dp' (drop u bs ∷ bss) out p₂ st₂ tb₂ dp₂
      → Ran p st tb dp (bs ∷ bss) (take n room' ++ out) p₂ st₂ tb₂ dp₂
  used_up : {p st tb dp : List ℕ} {bss : List (List ℕ)} {out p₂ st₂ tb₂ dp₂ : List ℕ} → Ran p st tb dp bss out p₂ st₂ tb₂ dp₂ → Ran p st tb dp ([] ∷ bss) out p₂ st₂ tb₂ dp₂
  ends : {p st tb dp room : List ℕ} {e n : ℕ} {p' st' tb' dp' room' out p₂ st₂ tb₂ dp₂ : List ℕ}
      → Ends p st tb dp room e n p' st' tb' dp' room' → Ran p' st' tb' dp' [] out p₂ st₂ tb₂ dp₂ → Ran p st tb dp [] (take n room' ++ out) p₂ st₂ tb₂ dp₂
  over : {p st tb dp : List ℕ} → started_in p ≡ 0 → Ran p st tb dp [] [] p st tb dp

-- #110: "corrected at each call"
unfoldable pub shown_after : StateM → List ℕ → List (List ℕ) → List ℕ
shown_after s dp [] = dp
shown_after s dp (l ∷ ls) = shown_after (feed s l).next (displayed_by s (frame (unhex l)) dp) ls

-- "The output, the state at the end"
pub record Came (s : StateM) (dp : List ℕ) (ls : List (List ℕ)) (out st₂ tb₂ dp₂ : List ℕ) : Type 0 where
  pub output : out ≡ (run s ls).output
  pub kept : Kept st₂ tb₂
  pub held : held_in st₂ tb₂ ≡ (run s ls).next
  pub state : st₂ ≡ image_of (struct_of (run s ls).next)
  pub table : tb₂ ≡ table_of (run s ls).next
  pub display : dp₂ ≡ shown_after s dp ls

-- whatever the fragments are: `run_exists` of proofs/Runs.antt
pub record Runs (p st tb dp : List ℕ) (bss : List (List ℕ)) : Type 0 where
  pub out : List ℕ
  pub port : List ℕ
  pub state : List ℕ
  pub table : List ℕ
  pub display : List ℕ
  pub ran : Ran p st tb dp bss out port state table display

-- the bytes q of a line have come, and it has not ended
pub record Begun (p q : List ℕ) : Type 0 where
  pub stands : Stands (line_in p) (started_in p) q
  pub unended : ended q ≡ false
