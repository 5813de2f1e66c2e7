-- What the machine's channels and WAITCYCLEs hold, as the entries of a table. Laws: `stored_of_lem` of proofs/Stored.antt.
-- Assumes nothing.
--
--   writes_in cs       the ids of the writes of channels, each with the bytes of its entry, front first
--   waiters_in ws      those of WAITCYCLEs
--   stored_in cs ws    both
use Rattle.std.specs.Prelude.{ℕ, List, [], ◌∷◌, ◌++◌, map}
use Rattle.answers.specs.machine.State.{Write, Channel as ChannelM, Lock}
use Rattle.table.specs.Entry.{write_entry, waiter_entry}

unfoldable pub writes_in : List ChannelM → List (List ℕ)
writes_in [] = []
writes_in (c ∷ cs) = map (λ (w : Write). w.id ∷ write_entry c.key w) c.writes ++ writes_in cs

unfoldable pub waiters_in : List Lock → List (List ℕ)
waiters_in ws = map (λ (w : Lock). w.id ∷ waiter_entry w) ws

abbrev pub stored_in : List ChannelM → List Lock → List (List ℕ)
stored_in cs ws = writes_in cs ++ waiters_in ws
