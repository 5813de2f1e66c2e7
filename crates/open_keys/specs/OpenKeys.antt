-- The table of open keys as it lies in memory. `remove_at` of queue/specs/Queue.antt is what `close` does to the array.
-- Assumes nothing.
--
--   keys_of l           the table of a list of keys: its length, and the keys with zeros behind them
--   keys_in q           the keys of a table
--   Tidy q             zeros stand behind the keys
--   index_of key l      where a key first stands in a list; the length where it stands nowhere
--   place_of key l      where a key first stands in a list, if it is in it
use Rattle.std.specs.Prelude.{ℕ, suc, ◌-◌, ◌≡◌, cond, List, [], ◌∷◌, ◌++◌, eqb, position, length, take, replicate}
use Rattle.std.specs.declared.option.Option.{Option}
use Rattle.machine.specs.Numbers.{ENTRIES}
use Rattle.open_keys.specs.declared.Keys.{Keys}

abbrev pub pad : List ℕ → List ℕ
pad l = l ++ replicate (ENTRIES - length l) 0

abbrev pub keys_of : List ℕ → Keys
keys_of l = record { n = length l; keys = pad l }

abbrev pub keys_in : Keys → List ℕ
keys_in q = take q.n q.keys

abbrev pub Tidy : Keys → Type 0
Tidy q = q ≡ keys_of (keys_in q)

abbrev pub index_of : ℕ → List ℕ → ℕ
index_of key [] = 0
index_of key (x ∷ l) = cond (eqb key x) 0 (suc (index_of key l))

abbrev pub place_of : ℕ → List ℕ → Option ℕ
place_of key l = position (λ x. eqb key x) l
