-- Document 01, the paragraph "Granting resets each channel", with "in use" as document 02, #105, amends it: the new key, and the
-- state after a grant.
-- Assumes nothing.
--
--   after k                  the number after a key, 65,535 being followed by 1
--   in_use s                  the keys on a channel, in a waiting allocation or open
--   first_unused n k used     the first of the n + 1 candidates from k on that is not used
--   new_key s                 the key made in the state s
--   key_for k s, last_for k s  the key of a grant to a request with key k, and the last key issued after it
--   aborted key ids          the replies to writes that are aborted
--   aborted_in m cs           those to the writes of the channels that m names: by channel, then oldest first
--   taken key prec c         the channel reset, and given to a key at a precedence
--   granted m k prec s       the state after map m is granted to a request with key k
use Rattle.std.specs.Prelude.{ℕ, zero, suc, ◌+◌, Bool, true, false, List, [], ◌∷◌, ◌++◌, map, ltb, length, if◌then◌else◌}
use Rattle.before_cuts.specs.Numbers.{ABORTED, CMD_WRITE, KEYS}
use Rattle.machine.specs.Lists.{among}
use Rattle.before_cuts.specs.State.{Channel, Request, Reply, State}
use Rattle.before_cuts.specs.Maps.{odd, half, change}

unfoldable pub after : ℕ → ℕ
after k = if ltb k KEYS then k + 1 else 1

-- #105: "A new key is unlike every key on a channel, in a waiting request or in the table"; "in the state just before the grant"
unfoldable pub in_use : State → List ℕ
in_use s = map (λ c. c.key) s.channels ++ (map (λ r. r.key) s.waiting ++ s.opens)

-- "count up from the number after the last key issued .. to the first not in use": of one candidate more than there are
-- keys in use, one is not in use, so the last candidate needs no look.
unfoldable pub first_unused : ℕ → ℕ → List ℕ → ℕ
first_unused zero k used = k
first_unused (suc n) k used = let later = first_unused n (after k) used in if among k used then later else k

unfoldable pub new_key : State → ℕ
new_key s = first_unused (length (in_use s)) (after s.last) (in_use s)

-- "If the request's key is 0, a new one is made"
unfoldable pub key_for : ℕ → State → ℕ
key_for zero s = new_key s
key_for (suc k) s = suc k

-- "The number found becomes the last key issued. A key given by the caller leaves it unchanged."
unfoldable pub last_for : ℕ → State → ℕ
last_for zero s = new_key s
last_for (suc k) s = s.last

-- "-2 ABORTED: a write or waiting allocation cancelled; map 0"
unfoldable pub aborted : ℕ → List ℕ → List Reply
aborted key ids = map (λ i. record { id = i; command = CMD_WRITE; error = ABORTED; map = 0; key = key }) ids

unfoldable pub aborted_in : ℕ → List Channel → List Reply
aborted_in m [] = []
aborted_in m (c ∷ cs) = (if odd m then aborted c.key c.writes else []) ++ aborted_in (half m) cs

-- "Granting resets each channel (its writes are aborted, it is un-stopped), then sets key and precedence."
unfoldable pub taken : ℕ → ℕ → Channel → Channel
taken key prec c = record { key = key; prec = prec; locked = c.locked; stopped = false; writes = [] }

unfoldable pub granted : ℕ → ℕ → ℕ → State → State
granted m key prec s =
    record {
      channels = change (taken (key_for key s) prec) m s.channels;
      locks = s.locks;
      waiting = s.waiting;
      opens = s.opens;
      last = last_for key s;
    }
