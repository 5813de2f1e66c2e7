-- Document 02, #106: "Service staff want to save the whole state and load it elsewhere." A state as a text. docs/saved.md writes the
-- lines down, with a worked example.
-- Assumes nothing.
--
--   kept ws               what is remembered for the front write of a channel: FINISH or not, PERVOL or not, its period and volume
--   channel_frame .. lastFrame   the bytes of one line: of a channel, a waiting request, a lock or WAITCYCLE (by its first byte), a write
--                         of channel i, an open key, the last key
--   write_frames i cs      the writes of channels, the first of them numbered i
--   frames s              all lines behind the first, in their order
--   spelt fs              lines of hexadecimal, each ended by LF
--   text s                the saved text of a state
--   TextOf w s t          the text t was saved of the sound state s of a board with w channels
use Rattle.std.specs.Prelude.{ℕ, suc, ◌≡◌, List, [], ◌∷◌, ◌++◌, map, T, length}
use Rattle.std.proofs.Math.Option.{none}
use Rattle.machine_laws.specs.machine.State.{Write, Channel, Lock, Request, State}
use Rattle.machine_laws.specs.machine.Sound.{sound}
use Rattle.machine_laws.specs.machine.Log.{line}
use Rattle.machine_laws.specs.machine.InBytes.{two_bytes, mark_of, signed}
use Rattle.table.specs.Entry.{tone_bytes, pervol_bytes}

-- #101: what is remembered stands with the front write; what is not is 0
unfoldable pub kept : List Write → List ℕ
kept [] = 0 ∷ pervol_bytes none
kept (w ∷ ws) = mark_of w.finish ∷ pervol_bytes w.pervol

-- "Then come the channels 0 to 3": key, precedence, locked, stopped, what is remembered
unfoldable pub channel_frame : Channel → List ℕ
channel_frame c = 0xD1 ∷ two_bytes c.key ++ (signed c.prec ∷ mark_of c.locked ∷ mark_of c.stopped ∷ kept c.writes)

-- "the waiting requests in order": id, key, precedence, NOWAIT or not, how many combinations, the combinations
unfoldable pub request_frame : Request → List ℕ
request_frame r =
    0xD2 ∷ r.id ∷ two_bytes r.key ++ (signed r.prec ∷ mark_of r.impatient ∷ length r.combos ∷ r.combos)

abbrev pub LOCK : ℕ
LOCK = 0xD3

abbrev pub WAITCYCLE : ℕ
WAITCYCLE = 0xD4

-- "the locks and the WAITCYCLEs oldest first": id, key, map
unfoldable pub span_frame : ℕ → Lock → List ℕ
span_frame first l = first ∷ l.id ∷ two_bytes l.key ++ (l.map ∷ [])

-- "each channel's writes front first": channel, id, cycles left, period, volume
unfoldable pub write_frame : ℕ → Write → List ℕ
write_frame i w = 0xD5 ∷ i ∷ w.id ∷ two_bytes w.cycles ++ tone_bytes w.period w.volume

unfoldable pub write_frames : ℕ → List Channel → List (List ℕ)
write_frames i [] = []
write_frames i (c ∷ cs) = map (write_frame i) c.writes ++ write_frames (suc i) cs

abbrev pub OPEN : ℕ
OPEN = 0xD6

abbrev pub LAST : ℕ
LAST = 0xD7

-- "the open keys in order of opening, the last key"
unfoldable pub key_frame : ℕ → ℕ → List ℕ
key_frame first k = first ∷ two_bytes k

unfoldable pub frames : State → List (List ℕ)
frames s =
    map channel_frame s.channels
    ++ (map request_frame s.waiting
    ++ (map (span_frame LOCK) s.locks
    ++ (map (span_frame WAITCYCLE) s.waiters ++ (write_frames 0 s.channels ++ (map (key_frame OPEN) s.opens ++ (key_frame LAST s.last ∷ []))))))

-- "The saved text is hexadecimal, one frame a line"; "every line ends with LF"
unfoldable pub spelt : List (List ℕ) → List ℕ
spelt [] = []
spelt (f ∷ fs) = line f ++ spelt fs

-- "and opens with the line D001"
abbrev pub FIRST : List ℕ
FIRST = 0xD0 ∷ 0x01 ∷ []

unfoldable pub text : State → List ℕ
text s = spelt (FIRST ∷ frames s)

pub record TextOf (w : ℕ) (s : State) (t : List ℕ) : Type 0 where
  pub sane : T (sound s)
  pub width : length s.channels ≡ w
  pub saved : t ≡ text s
