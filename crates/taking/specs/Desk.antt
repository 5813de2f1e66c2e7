-- A log taken a lump at a time: what is kept from call to call, what a call makes of it, and the whole log's output.
-- Assumes nothing.
--
--   hidden                 nothing is told behind a line's answer
--   shown_of show s d       what is told there in the state s with the display d: the lines B0 of the board's channels, then the lines
--                          E0 and E1 of the display, each where it is shown
--   display_after s l d     the display after a line
--   fed show s d l         the machine's `feed` of a line, with what is shown behind its output
--   run_shown show s d ls   the machine's `run`, so
--   log_shown show w bs     the output of a whole log from the fresh device of w channels, so; on four, and where nothing is shown, the
--                          machine's `log`
--   Desk                   the state and the display; the line's bytes, of which the first n stand; the page, of which `at` bytes
--                          stand; how much of the lump is used
--   desk_of s tb dp l n page at   that of a struct, a table, a display, and lent bytes, before a lump
--   gathered d bs          the lump's bytes up to its first LF, or all of them, put behind what stands of the line
--   answered show d        the line that stands is fed, and its output put behind what stands on the page
--   taken show d bs        one line at most: the bytes are gathered, and the line answered where it has ended
--   needed show            what room the output of one line may take: 64 replies, an answer, and what is shown of eight channels and of
--                          64 that wait
--   fits show d            the page has that room
--   takes show k d bs      k lines at most, as long as the page has room for one more
--   filled show d bs       a whole lump, as far as the page has room: a lump has no more lines than bytes
--   closed show d          the log has ended: what stands of a last line is answered; nothing where nothing stands
--   finished show d        the same, where the page has room
--   Taken                  what a call leaves beside the lent bytes: the state, how much stands of a line that has not ended, how much of
--                          the fragment is used, and how much output stands; taken_in st t: of a call that leaves the state in bytes
--   Leaves t l tb dp p d   what a call leaves, beside the lent bytes, is the desk d: every field and every byte
--   Same t t₂ l l₂ ..      the same is left, and the same bytes
--   Takes, Ends            what `take` and `take_end` promise: on an empty page, and nothing shown
use Rattle.std.specs.Prelude.{ℕ, zero, suc, ◌+◌, ◌≡◌, Bool, false, List, [], ◌∷◌, ◌++◌, eqb, leb, length, take, drop, if◌then◌else◌}
use Rattle.digits.specs.machine.State.{State as StateM, fresh_on}
use Rattle.digits.specs.machine.Log.{Fed as FedM, lines, unhex, frame, feed}
use Rattle.display.specs.Display.{blank, displayed_by, display_lines}
use Rattle.memory.specs.Splice.{splice}
use Rattle.image.specs.board.declared.Board.{Board}
use Rattle.image.specs.store.Store.{table_of}
use Rattle.image.specs.board.Board.{struct_of, state_in}
use Rattle.image.specs.Image.{state_of}
use Rattle.channel_lines.specs.ChannelLines.{board_lines}
use Rattle.gathering.specs.Lumps.{ended, used, kept}
use Rattle.taking.specs.declared.Show.{Show}
use Rattle.taking.specs.declared.Left.{Left}

-- ---- the log with what is shown

abbrev pub hidden : Show
hidden = record { channels = false; display = false }

unfoldable pub shown_of : Show → StateM → List ℕ → List ℕ
shown_of show s d =
    (if show.channels then board_lines (struct_of s) else []) ++ (if show.display then display_lines s d else [])

-- #110: "corrected at each call". A line that is no call leaves it.
abbrev pub display_after : StateM → List ℕ → List ℕ → List ℕ
display_after s l d = displayed_by s (frame (unhex l)) d

unfoldable pub fed : Show → StateM → List ℕ → List ℕ → FedM
fed show s d l =
    let f = feed s l in record { output = f.output ++ shown_of show f.next (display_after s l d); next = f.next }

unfoldable pub run_shown : Show → StateM → List ℕ → List (List ℕ) → List ℕ
run_shown show s d [] = []
run_shown show s d (l ∷ ls) = let f = fed show s d l in f.output ++ run_shown show f.next (display_after s l d) ls

-- "on a fresh device they are 0"
unfoldable pub log_shown : Show → ℕ → List ℕ → List ℕ
log_shown show w bs = run_shown show (fresh_on w) blank (lines bs)

-- ---- a lump

pub record Desk : Type 0 where
  pub state : StateM
  pub display : List ℕ
  pub line : List ℕ
  pub n : ℕ
  pub page : List ℕ
  pub at : ℕ
  pub used : ℕ

abbrev pub desk_of : Board → List ℕ → List ℕ → List ℕ → ℕ → List ℕ → ℕ → Desk
desk_of s tb dp l n page at = record { state = state_in s tb; display = dp; line = l; n = n; page = page; at = at; used = 0 }

abbrev pub gathered : Desk → List ℕ → Desk
gathered d bs =
    record {
      state = d.state;
      display = d.display;
      line = splice d.line d.n (kept d.n bs);
      n = d.n + length (kept d.n bs);
      page = d.page;
      at = d.at;
      used = d.used + used bs;
    }

abbrev pub answered : Show → Desk → Desk
answered show d =
    let f = fed show d.state d.display (take d.n d.line) in
    record {
      state = f.next;
      display = display_after d.state (take d.n d.line) d.display;
      line = d.line;
      n = 0;
      page = splice d.page d.at f.output;
      at = d.at + length f.output;
      used = d.used;
    }

unfoldable pub taken : Show → Desk → List ℕ → Desk
taken show d bs = if ended bs then answered show (gathered d bs) else gathered d bs

abbrev pub needed : Show → ℕ
needed show = 973 + (if show.channels then 120 else 0) + (if show.display then 743 else 0)

abbrev pub fits : Show → Desk → Bool
fits show d = leb (d.at + needed show) (length d.page)

unfoldable pub takes : Show → ℕ → Desk → List ℕ → Desk
takes show zero d bs = d
takes show (suc k) d [] = d
takes show (suc k) d (b ∷ bs) =
    if fits show d then takes show k (taken show d (b ∷ bs)) (drop (used (b ∷ bs)) (b ∷ bs)) else d

unfoldable pub filled : Show → Desk → List ℕ → Desk
filled show d bs = takes show (length bs) d bs

unfoldable pub closed : Show → Desk → Desk
closed show d = if eqb d.n 0 then d else answered show d

unfoldable pub finished : Show → Desk → Desk
finished show d = if fits show d then closed show d else d

pub record Taken : Type 0 where
  pub state : Board
  pub line : ℕ
  pub used : ℕ
  pub at : ℕ

abbrev pub taken_in : List ℕ → Left → Taken
taken_in st t = record { state = state_of st; line = t.line; used = t.used; at = t.at }

pub record Leaves (t : Taken) (l tb dp p : List ℕ) (d : Desk) : Type 0 where
  pub struct : t.state ≡ struct_of d.state
  pub table : tb ≡ table_of d.state
  pub display : dp ≡ d.display
  pub line : l ≡ d.line
  pub started : t.line ≡ d.n
  pub page : p ≡ d.page
  pub at : t.at ≡ d.at
  pub used : t.used ≡ d.used

pub record Takes (s : Board) (tb dp l : List ℕ) (n : ℕ) (bs out : List ℕ) (t : Taken) (l' tb' dp' out' : List ℕ) : Type 0 where
  pub leaves : Leaves t l' tb' dp' out' (taken hidden (desk_of s tb dp l n out 0) bs)

pub record Ends (s : Board) (tb dp l : List ℕ) (n : ℕ) (out : List ℕ) (t : Taken) (tb' dp' out' : List ℕ) : Type 0 where
  pub leaves : Leaves t l tb' dp' out' (closed hidden (desk_of s tb dp l n out 0))

-- no second outcome fits the promise: `one_taking` of proofs/Laws.antt
pub record Same (t t₂ : Taken) (l l₂ tb tb₂ dp dp₂ p p₂ : List ℕ) : Type 0 where
  pub taken : t ≡ t₂
  pub line : l ≡ l₂
  pub table : tb ≡ tb₂
  pub display : dp ≡ dp₂
  pub page : p ≡ p₂
