-- How much a program in C lends. Assumes nothing.
--
--   TABLE, REPLIES, ANSWER     how many bytes a table, a full reply list and an answer have
--   PORT, ROOM                 how many a port has, and the output of one line at most
--   RECORDS                    how many a full list of records has; those of a display are counted in crate `display`
use Rattle.std.specs.Prelude.{ℕ}

-- 64 entries of 23 bytes
abbrev pub TABLE : ℕ
TABLE = 1472

-- 64 records of 6 bytes
abbrev pub REPLIES : ℕ
REPLIES = 384

-- the six bytes of document 01's answer, and a number for each desk's replies
abbrev pub ANSWER : ℕ
ANSWER = 8

-- document 02, #107: "memory stays at one line": its length in two bytes, and the 527 bytes that are kept of a line
abbrev pub PORT : ℕ
PORT = 529

-- 64 lines of 15 bytes for replies, and an answer's line of 13
abbrev pub ROOM : ℕ
ROOM = 973

-- document 02, #110: "a list shorter than 64 gets 5": 64 records of 4 bytes
abbrev pub RECORDS : ℕ
RECORDS = 256
