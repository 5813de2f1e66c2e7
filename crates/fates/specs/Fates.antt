-- What becomes of a lock when the channels m are freed and when a held request wants them; of a WAITCYCLE when a write on one of them
-- is cut and when a cycle of it ends. Assumes nothing.
--
--   how               Freed: the channels m are freed; Stolen: a held request wants them; Cut: their front writes end otherwise than at
--                     a cycle's end; Met: a cycle of theirs ends
--   command_of how     whom that concerns: locks, or WAITCYCLEs
--   ends_at how m x    whether one with the map x ends
--   map_at how m x     the map that it is replied with then, and has where it stays
--   error_of how       what one that ends is replied
--   Told m x e k r     the fate of a map x that ends where m shares a bit, with the error e and the map k
--   Fated how m x r    the fate of a map
use Rattle.std.specs.Prelude.{ℕ, ◌≡◌, Bool, eqb, if◌then◌else◌}
use Rattle.store.specs.machine.Numbers.{ABORTED, CHANNELSTOLEN, ADCMD_LOCK, ADCMD_WAITCYCLE}
use Rattle.store.specs.machine.Maps.{minus, meets}
use Rattle.fates.specs.declared.Fate.{Fate}
use Rattle.fates.specs.declared.Fate.TheVariants.{Ends, Stays}
use Rattle.fates.specs.declared.End.{End}
use Rattle.fates.specs.declared.End.TheVariants.{Freed, Stolen, Cut, Met}

abbrev pub command_of : End → ℕ
command_of Freed = ADCMD_LOCK
command_of Stolen = ADCMD_LOCK
command_of Cut = ADCMD_WAITCYCLE
command_of Met = ADCMD_WAITCYCLE

-- "every outstanding lock over a channel of its chosen combination is replied -12 .. and ends"; "a lock with no bit left is
-- replied 0 with map 0"; #101: "its channel's waiters"
unfoldable pub ends_at : End → ℕ → ℕ → Bool
ends_at Freed m x = eqb (minus 8 x m) 0
ends_at Stolen m x = meets 8 m x
ends_at Cut m x = meets 8 m x
ends_at Met m x = meets 8 m x

-- "clears its bit in every lock"; #101: "The event answers waiters 0 with that bit"; "replied -2, map 0"
unfoldable pub map_at : End → ℕ → ℕ → ℕ
map_at Freed m x = minus 8 x m
map_at Stolen m x = x
map_at Cut m x = if meets 8 m x then 0 else x
map_at Met m x = x

unfoldable pub error_of : End → ℕ
error_of Freed = 0
error_of Stolen = CHANNELSTOLEN
error_of Cut = ABORTED
error_of Met = 0

abbrev pub Told : ℕ → ℕ → ℕ → ℕ → Fate → Type 0
Told m x e k r = r ≡ (if meets 8 m x then Ends e k else Stays x)

abbrev pub Fated : End → ℕ → ℕ → Fate → Type 0
Fated how m x r = r ≡ (if ends_at how m x then Ends (error_of how) (map_at how m x) else Stays (map_at how m x))
