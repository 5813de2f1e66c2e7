-- The number of a command of devices/audio.h, and the command of a number.
-- Assumes nothing.
--
--   command_number c   the number of a command
--   Numbered n r       r is the command with the number n, or an error where no command has it
use Rattle.std.specs.Prelude.{ℕ, ◌≡◌, ◌≢◌, Result, MatchResult}
use Rattle.audio.specs.declared.Command.{Command}
use Rattle.audio.specs.declared.Command.TheVariants.{Reset, Read, Write, Update, Clear, Stop, Start, Flush, Free, SetPrec, Finish, PerVol, Lock, WaitCycle, Allocate}
use Rattle.audio.specs.declared.UnknownCommand.{UnknownCommand}

abbrev pub command_number : Command → ℕ
command_number Reset = 1
command_number Read = 2
command_number Write = 3
command_number Update = 4
command_number Clear = 5
command_number Stop = 6
command_number Start = 7
command_number Flush = 8
command_number Free = 9
command_number SetPrec = 10
command_number Finish = 11
command_number PerVol = 12
command_number Lock = 13
command_number WaitCycle = 14
command_number Allocate = 32

abbrev pub Numbered : ℕ → Result Command UnknownCommand → Type 0
Numbered n r = MatchResult r (λ c. command_number c ≡ n) (λ e. (c : Command) → command_number c ≢ n)
