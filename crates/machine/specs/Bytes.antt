-- Every command number and every flag byte: what is read in each of the 256 is computed, so that no number or bit can slip in.
-- Assumes nothing.
--
--   run k n       the n numbers from k on
--   listed        the fifteen command numbers that document 01 and document 02, #101, list as in
--   number k      the number of a command; 0 of an unknown one
--   known         -3: "any command number not listed above": the known ones among the bytes are those listed
--   numbered      each is the command whose number it is
--   quicks        QUICK is flag 1: the odd bytes
--   nowaits       NOWAIT is flag 64: the bytes 64 to 127 and 192 to 255
--   synceds       SYNCCYCLE is flag 32: of each 64 bytes the upper half
--   carrying      WRITE and PERVOL alone carry numbers
use Rattle.std.specs.Prelude.{ℕ, zero, suc, ◌+◌, ◌≡◌, refl, Bool, not, List, [], ◌∷◌, ◌++◌, map, if◌then◌else◌}
use Rattle.machine.specs.Numbers.{quick, nowait, synced, CMD_RESET, CMD_READ, CMD_WRITE, CMD_UPDATE, CMD_CLEAR, CMD_STOP, CMD_START, CMD_FLUSH, ADCMD_FREE, ADCMD_SETPREC, ADCMD_FINISH, ADCMD_PERVOL, ADCMD_LOCK, ADCMD_WAITCYCLE, ADCMD_ALLOCATE}
use Rattle.machine.specs.Lists.{keep}
use Rattle.machine.specs.Kinds.{Kind, RESET, READ, WRITE, UPDATE, CLEAR, STOP, START, FLUSH, FREE, SETPREC, FINISH, PERVOL, LOCK, WAITCYCLE, ALLOCATE, UNKNOWN, kind, unknown, carries}

unfoldable pub run : ℕ → ℕ → List ℕ
run k zero = []
run k (suc n) = k ∷ run (suc k) n

-- "the commands RESET 1, READ 2, WRITE 3, UPDATE 4, CLEAR 5, STOP 6, START 7, FLUSH 8, FREE 9, SETPREC 10, LOCK 13, ALLOCATE 32"; #101: "Add
-- FINISH 11, PERVOL 12 and WAITCYCLE 14"
abbrev pub listed : List ℕ
listed = 1 ∷ 2 ∷ 3 ∷ 4 ∷ 5 ∷ 6 ∷ 7 ∷ 8 ∷ 9 ∷ 10 ∷ 11 ∷ 12 ∷ 13 ∷ 14 ∷ 32 ∷ []

unfoldable pub number : Kind → ℕ
number RESET = CMD_RESET
number READ = CMD_READ
number WRITE = CMD_WRITE
number UPDATE = CMD_UPDATE
number CLEAR = CMD_CLEAR
number STOP = CMD_STOP
number START = CMD_START
number FLUSH = CMD_FLUSH
number FREE = ADCMD_FREE
number SETPREC = ADCMD_SETPREC
number FINISH = ADCMD_FINISH
number PERVOL = ADCMD_PERVOL
number LOCK = ADCMD_LOCK
number WAITCYCLE = ADCMD_WAITCYCLE
number ALLOCATE = ADCMD_ALLOCATE
number UNKNOWN = 0

pub known : keep (λ n. not (unknown (kind n))) (run 0 256) ≡ listed
unfolding keep unknown kind run
known = refl

pub numbered : map (λ n. number (kind n)) listed ≡ listed
unfolding number kind
numbered = refl

-- "QUICK (flag 1)"
pub quicks : keep quick (run 0 256) ≡ map (λ k. k + k + 1) (run 0 128)
unfolding keep quick run
quicks = refl

-- "NOWAIT (flag 64)"
pub nowaits : keep nowait (run 0 256) ≡ run 64 64 ++ run 192 64
unfolding keep nowait run
nowaits = refl

-- #101: "the sync flag 32"
pub synceds : keep synced (run 0 256) ≡ run 32 32 ++ run 96 32 ++ run 160 32 ++ run 224 32
unfolding keep synced run
synceds = refl

-- #101: "For WRITE and PERVOL"
pub carrying : keep (λ n. carries (kind n)) (run 0 256) ≡ 3 ∷ 12 ∷ []
unfolding keep carries kind run
carrying = refl
