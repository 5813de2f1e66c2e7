-- Document 02, #101, "Clean cuts": whom a state lets wait for a cycle, and which calls end whose waiting. "A front write that ends
-- otherwise has its channel's waiters replied -2, map 0, oldest first after the writes." Laws: proofs/Cutting.antt.
-- Assumes nothing.
--
--   Stands cs w             the WAITCYCLE w is for one channel, which has its key and a write; AllStand cs ws: each does
--   Spares c k              a command that ends no front write
--   look_cut l               the map that was granted, or none
--   kind_cut k c s           the channels whose front write a command ends otherwise than by the event, as a map
--   cut_by o c s             the same of any operation
--   Cuts m s o              those who waited for a cycle of a channel of m are told, and wait no longer
use Rattle.std.specs.Prelude.{ℕ, ◌<◌, ◌≡◌, not, List, [], ◌∷◌, T, length, if◌then◌else◌}
use Rattle.machine.specs.Numbers.{synced}
use Rattle.machine.specs.Lists.{all}
use Rattle.machine.specs.State.{Channel, Lock, State, Outcome, Call, Op, OPEN, CLOSE, ABORT, CYCLE_ENDED, GAVE_UP, EVENT, COMMAND}
use Rattle.machine.specs.Maps.{lowest, at}
use Rattle.machine.specs.Choosing.{Look, fails, held, grants, look}
use Rattle.machine.specs.Granting.{on_channels, cut_replies}
use Rattle.machine.specs.Commands.{matching, playing, in_progress, owned, led_by}
use Rattle.machine.specs.Kinds.{Kind, RESET, READ, WRITE, UPDATE, CLEAR, STOP, START, FLUSH, FREE, SETPREC, FINISH, PERVOL, LOCK, WAITCYCLE, ALLOCATE, UNKNOWN, kind}
use Rattle.machine.specs.Rule.{channel, Names}
use Rattle.machine_laws.specs.Lists.{Sub}

-- "a WAITCYCLE .. has the key of its channel, which has a write"
pub record Stands (cs : List Channel) (w : Lock) : Type 0 where
  pub place : ℕ
  pub inside : place < length cs
  pub named : Names w.map place
  pub alone : (i : ℕ) → i < length cs → Names w.map i → i ≡ place
  pub key : (channel cs place).key ≡ w.key
  pub write : 0 < length (channel cs place).writes

abbrev pub AllStand : List Channel → List Lock → Type 0
AllStand cs [] = Unit {0}
AllStand cs (w ∷ ws) = Stands cs w × AllStand cs ws

-- "STOP keeps it"; a synced FINISH is only remembered
pub data Spares (c : Call) : Kind → Type 0 where
  read : Spares c READ
  write : Spares c WRITE
  update : Spares c UPDATE
  clear : Spares c CLEAR
  stop : Spares c STOP
  start : Spares c START
  setprec : Spares c SETPREC
  pervol : Spares c PERVOL
  lock : Spares c LOCK
  finish : T (synced c.flags) → Spares c FINISH

-- a grant resets its channels; who fails or is held takes none
abbrev pub look_cut : Look → ℕ
look_cut fails = 0
look_cut (held m) = 0
look_cut (grants m) = m

-- RESET, FLUSH and FREE end the writes of the channels that match, FINISH the ones in progress
unfoldable pub kind_cut : Kind → Call → State → ℕ
kind_cut RESET c s = matching c.key c.map s.channels
kind_cut READ c s = 0
kind_cut WRITE c s = 0
kind_cut UPDATE c s = 0
kind_cut CLEAR c s = 0
kind_cut STOP c s = 0
kind_cut START c s = 0
kind_cut FLUSH c s = matching c.key c.map s.channels
kind_cut FREE c s = matching c.key c.map s.channels
kind_cut SETPREC c s = 0
kind_cut FINISH c s = if synced c.flags then 0 else in_progress (matching c.key c.map s.channels) s.channels
kind_cut PERVOL c s = 0
kind_cut LOCK c s = 0
kind_cut WAITCYCLE c s = 0
kind_cut ALLOCATE c s = look_cut (look c.prec c.combos s.channels)
kind_cut UNKNOWN c s = 0

-- CLOSE frees the channels of its key; ABORT may name a front write; the driver gives up the front write of one channel
unfoldable pub cut_by : Op → Call → State → ℕ
cut_by OPEN c s = look_cut (look c.prec c.combos s.channels)
cut_by CLOSE c s = owned c.key s.channels
cut_by ABORT c s = led_by c.id s.channels
cut_by (EVENT CYCLE_ENDED) c s = 0
cut_by (EVENT GAVE_UP) c s = let m = lowest (length s.channels) c.map in if playing (at m s.channels) then m else 0
cut_by (COMMAND n) c s = kind_cut (kind n) c s

-- the WAITCYCLEs of the channels of m are gone, and their replies of -2 are among the replies, oldest first
pub record Cuts (m : ℕ) (s : State) (o : Outcome) : Type 0 where
  pub told : Sub (cut_replies m s) o.replies
  pub left : T (all (λ w. not (on_channels (length s.channels) m w)) o.next.waiters)
