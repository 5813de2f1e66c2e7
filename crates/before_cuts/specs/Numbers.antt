-- Document 01, "Numbers a caller can get back", and the public numbers of exec/io.h, exec/errors.h and devices/audio.h.
-- Assumes nothing.
--
--   neg n                     the error number -n, as the byte that a reply and the log show
--   OPENFAIL .. CHANNELSTOLEN the errors -1 to -12
--   UNSOUND .. MALFORMED      the refusals 1 to 5, and 7
--   CMD_RESET .. ADCMD_ALLOCATE  the command numbers, named as in the include files with · for _
--   quick f, nowait f         the flags QUICK (1) and NOWAIT (64) of a flag byte; other bits have no meaning here
--   REQUESTS, COMBOS, KEYS    64 requests, 16 combinations, keys up to 65,535
--   ENTRIES                   32 open keys
--   NONE                      255: no id
use Rattle.std.specs.Prelude.{ℕ, ◌-◌, ◌/◌, ◌%◌, Bool, not, eqb}

abbrev pub neg : ℕ → ℕ
neg n = 256 - n

abbrev pub OPENFAIL : ℕ
OPENFAIL = neg 1

abbrev pub ABORTED : ℕ
ABORTED = neg 2

abbrev pub NOCMD : ℕ
NOCMD = neg 3

abbrev pub BADLENGTH : ℕ
BADLENGTH = neg 4

abbrev pub BADADDRESS : ℕ
BADADDRESS = neg 5

abbrev pub NOALLOCATION : ℕ
NOALLOCATION = neg 10

abbrev pub ALLOCFAILED : ℕ
ALLOCFAILED = neg 11

abbrev pub CHANNELSTOLEN : ℕ
CHANNELSTOLEN = neg 12

-- "state handed in is not sound"
abbrev pub UNSOUND : ℕ
UNSOUND = 1

-- "CLOSE or a command at open count 0"; #105: CLOSE "gets 2 if there is none", no entry with its key
abbrev pub NOTOPEN : ℕ
NOTOPEN = 2

-- "id already outstanding"
abbrev pub INUSE : ℕ
INUSE = 3

-- "id above 63"
abbrev pub BADID : ℕ
BADID = 4

-- "reply list shorter than 64 records"
abbrev pub NOROOM : ℕ
NOROOM = 5

-- "log line malformed"
abbrev pub MALFORMED : ℕ
MALFORMED = 7

abbrev pub CMD_RESET : ℕ
CMD_RESET = 1

abbrev pub CMD_READ : ℕ
CMD_READ = 2

abbrev pub CMD_WRITE : ℕ
CMD_WRITE = 3

abbrev pub CMD_UPDATE : ℕ
CMD_UPDATE = 4

abbrev pub CMD_CLEAR : ℕ
CMD_CLEAR = 5

abbrev pub CMD_STOP : ℕ
CMD_STOP = 6

abbrev pub CMD_START : ℕ
CMD_START = 7

abbrev pub CMD_FLUSH : ℕ
CMD_FLUSH = 8

abbrev pub ADCMD_FREE : ℕ
ADCMD_FREE = 9

abbrev pub ADCMD_SETPREC : ℕ
ADCMD_SETPREC = 10

abbrev pub ADCMD_LOCK : ℕ
ADCMD_LOCK = 13

abbrev pub ADCMD_ALLOCATE : ℕ
ADCMD_ALLOCATE = 32

unfoldable pub quick : ℕ → Bool
quick f = eqb (f % 2) 1

unfoldable pub nowait : ℕ → Bool
nowait f = eqb (f / 64 % 2) 1

abbrev pub REQUESTS : ℕ
REQUESTS = 64

abbrev pub COMBOS : ℕ
COMBOS = 16

abbrev pub KEYS : ℕ
KEYS = 65535

-- #105: "at most 32"
abbrev pub ENTRIES : ℕ
ENTRIES = 32

abbrev pub NONE : ℕ
NONE = 255
