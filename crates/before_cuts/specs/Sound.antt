-- Document 01, "Sound means": which states are sound, as a test. The number of channels is the list's length, 1 to 8.
-- Assumes nothing.
--
--   sound_channel c       "free channels as described; allocated ones with key not 0", numbers in their range
--   sound_lock cs l       "each lock's map nonempty and naming only locked channels; .. with the key of its channels"
--   sound_request cs r    "waiting requests with 1 to 16 combinations, each at most 15" (on four channels)
--   in_order rs           "in the order given below": highest precedence first
--   writes_of cs, ids s   the outstanding ids, each place in turn
--   sound_opens ks        #105: "at most 32 entries, none 0"
--   sound s              all of it, with "each outstanding id in exactly one place"
--
-- That a write has the key of its channel, that the table has 64 entries and that an idle id's entry is all 0 are matters of
-- the table, which the representation (crate `store`) states.
use Rattle.std.specs.Prelude.{ℕ, ◌^◌, Bool, true, not, ◌&&◌, List, [], ◌∷◌, ◌++◌, map, eqb, leb, ltb, length, if◌then◌else◌}
use Rattle.before_cuts.specs.Numbers.{REQUESTS, COMBOS, KEYS, ENTRIES}
use Rattle.machine.specs.Lists.{all, distinct}
use Rattle.before_cuts.specs.State.{Channel, Lock, Request, State, is_free}
use Rattle.before_cuts.specs.Maps.{named}

unfoldable pub sound_channel : Channel → Bool
sound_channel c =
    if is_free c then
    eqb c.prec 128 && not c.locked && not c.stopped && eqb (length c.writes) 0
    else
    leb c.key KEYS && leb c.prec 255

unfoldable pub sound_lock : List Channel → Lock → Bool
sound_lock cs l =
    not (eqb l.map 0) && ltb l.map (2 ^ length cs) && not (eqb l.key 0)
    && named (λ c. c.locked && eqb c.key l.key) l.map cs

unfoldable pub sound_request : List Channel → Request → Bool
sound_request cs r =
    leb 1 (length r.combos) && leb (length r.combos) COMBOS && all (λ m. ltb m (2 ^ length cs)) r.combos
    && leb r.key KEYS && leb r.prec 255

unfoldable pub in_order : List Request → Bool
in_order [] = true
in_order (r ∷ rs) = all (λ q. leb q.prec r.prec) rs && in_order rs

unfoldable pub writes_of : List Channel → List ℕ
writes_of [] = []
writes_of (c ∷ cs) = c.writes ++ writes_of cs

unfoldable pub ids : State → List ℕ
ids s = writes_of s.channels ++ map (λ l. l.id) s.locks ++ map (λ r. r.id) s.waiting

unfoldable pub sound_opens : List ℕ → Bool
sound_opens ks = leb (length ks) ENTRIES && all (λ k. leb 1 k && leb k KEYS) ks

unfoldable pub sound : State → Bool
sound s =
    leb 1 (length s.channels) && leb (length s.channels) 8
    && all sound_channel s.channels
    && all (sound_lock s.channels) s.locks
    && all (sound_request s.channels) s.waiting && in_order s.waiting
    && all (λ i. ltb i REQUESTS) (ids s) && distinct (ids s)
    && sound_opens s.opens && leb s.last KEYS
