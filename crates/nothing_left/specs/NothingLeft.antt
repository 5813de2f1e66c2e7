-- Document 02, #113, the first assurance: "over any calls from a fresh device without loads .. after every call no waiting request
-- could be granted, none with NOWAIT is failing, and no lock is outstanding over a channel that a held request has chosen". It is
-- said of what a look at each waiting request would find now; nothing here settles. proofs/NothingLeft.antt proves it as
-- `nothing_left_standing`.
-- Assumes nothing.
--
--   finds s r           what a waiting request would come to, looked at now, in the state s
--   would_go, would_fail  it would be granted; it would fail
--   in_the_way n k l      the lock k is over a channel that a held request has chosen, on a board of n channels
--   none_goes s          no waiting request could be granted
--   none_fails s         none with NOWAIT is failing
--   none_in_the_way s      no lock is outstanding over a channel that a held request has chosen
--   NothingLeft s       all three
--   Standing s r        the same of one waiting request, without tests: it could not be granted; where it fails it may wait; where it is
--                       held for the map m, no outstanding lock names a channel that m names
--   NothingLeftStanding the assurance; a board of n channels, and any calls, refused ones too
--   left                one name that unfolds these definitions
use Rattle.std.specs.Prelude.{ℕ, ◌<◌, Bool, true, false, not, ◌&&◌, ◌≡◌, T, length}
use mathlib.Core.List.{List, Memᴰ}
use Rattle.machine.specs.Lists.{all}
use Rattle.machine.specs.State.{Lock, Request, State, Call, fresh_on}
use Rattle.machine.specs.Maps.{meets}
use Rattle.machine.specs.Choosing.{Look, fails, held, grants, look}
use Rattle.display.specs.Runs.{after_calls}
use Rattle.machine.specs.Rule.{Names}

unfoldable pub finds : State → Request → Look
finds s r = look r.prec r.combos s.channels

unfoldable pub would_go : Look → Bool
would_go fails = false
would_go (held m) = false
would_go (grants m) = true

unfoldable pub would_fail : Look → Bool
would_fail fails = true
would_fail (held m) = false
would_fail (grants m) = false

unfoldable pub in_the_way : ℕ → Lock → Look → Bool
in_the_way n k fails = false
in_the_way n k (held m) = meets n m k.map
in_the_way n k (grants m) = false

-- "no waiting request could be granted"
unfoldable pub none_goes : State → Bool
none_goes s = all (λ r. not (would_go (finds s r))) s.waiting

-- "none with NOWAIT is failing"
unfoldable pub none_fails : State → Bool
none_fails s = all (λ r. not (r.impatient && would_fail (finds s r))) s.waiting

-- "no lock is outstanding over a channel that a held request has chosen"
unfoldable pub none_in_the_way : State → Bool
none_in_the_way s = all (λ r. all (λ k. not (in_the_way (length s.channels) k (finds s r))) s.locks) s.waiting

pub record NothingLeft (s : State) : Type 0 where
  pub goes : T (none_goes s)
  pub fails : T (none_fails s)
  pub locked : T (none_in_the_way s)

-- the calls are any, so "after every call" is after all of them
abbrev pub NothingLeftStanding : Type 0
NothingLeftStanding = (n : ℕ) (cs : List Call) → NothingLeft (after_calls (fresh_on n) cs)

unfoldable pub left : Unit {0}
unfolding finds would_go would_fail in_the_way none_goes none_fails none_in_the_way
left = tt

-- proofs/Reading.antt: it holds of each waiting request exactly where nothing is left
pub record Standing (s : State) (r : Request) : Type 0 where
  pub stays : (m : ℕ) → finds s r ≡ grants m → ⊥
  pub waits : finds s r ≡ fails → r.impatient ≡ false
  pub clear : (m : ℕ) (k : Lock) (i : ℕ) → finds s r ≡ held m → Memᴰ k s.locks → i < length s.channels → Names m i → Names k.map i → ⊥
