-- The test of a table of open keys, as the code makes it. proofs/Laws.antt says what it comes to.
-- Assumes nothing.
--
--   is_key k, is_none k   a key, of two bytes and not 0; 0
--   sound_keys q         at most 32 keys, none 0, and zeros behind them
use Rattle.std.specs.Prelude.{ℕ, Bool, ◌&&◌, eqb, leb, length, take, drop}
use Rattle.open_keys.specs.machine.Numbers.{ENTRIES, KEYS}
use Rattle.open_keys.specs.machine.Lists.{all}
use Rattle.open_keys.specs.declared.Keys.{Keys}

unfoldable pub is_key : ℕ → Bool
is_key k = leb 1 k && leb k KEYS

unfoldable pub is_none : ℕ → Bool
is_none k = eqb k 0

unfoldable pub sound_keys : Keys → Bool
sound_keys q =
    leb q.n ENTRIES && (eqb (length q.keys) ENTRIES && (all is_key (take q.n q.keys) && all is_none (drop q.n q.keys)))
