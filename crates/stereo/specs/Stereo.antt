-- Document 02, #108, "A list maker for stereo": what the maker writes, and which lists the checker accepts.
-- Assumes nothing.
--
--   below n              the numbers below n, ascending
--   wished l r           the maps that meet the wish, ascending
--   ascending ms         each number is below every later one
--   BADWISH              11
--   refusal l r room     why the maker refuses, or 0
--   made l r ms          what then stands in the room ms
--   count l r room       how many maps were written
--   Listed l r ms e n ms'   the maker's promise: its refusal or 0, the number of maps, and the room afterwards
--   Makes l r ms m ms'   the same of an answer that is a struct
--   times b ms           at how many places of the list the number b stands
--   accepts l r ms       the checker's test
--   Accepted l r ms      the same as the request words it
use Rattle.std.specs.Prelude.{ℕ, zero, suc, ◌≤◌, ◌≡◌, Bool, ◌&&◌, ◌||◌, true, List, [], ◌∷◌, ◌++◌, eqb, leb, ltb, length, if◌then◌else◌}
use Rattle.machine_laws.specs.machine.Lists.{all, keep}
use Rattle.machine_laws.specs.machine.Numbers.{TOOSMALL}
use Rattle.memory.specs.Splice.{splice}
use Rattle.wishes.specs.Wishes.{meets}
use Rattle.stereo.specs.declared.Made.{Made}

unfoldable pub below : ℕ → List ℕ
below zero = []
below (suc n) = below n ++ n ∷ []

-- "get a list": "every map meeting the wish, each once", "in ascending order"
unfoldable pub wished : ℕ → ℕ → List ℕ
wished l r = keep (meets l r) (below 16)

abbrev pub BADWISH : ℕ
BADWISH = 11

-- "A number above 2 gets 11, then room for fewer than 4 maps gets 12, nothing written"
unfoldable pub refusal : ℕ → ℕ → ℕ → ℕ
refusal l r room = if ltb 2 l || ltb 2 r then BADWISH else if ltb room 4 then TOOSMALL else 0

unfoldable pub made : ℕ → ℕ → List ℕ → List ℕ
made l r ms = if eqb (refusal l r (length ms)) 0 then splice ms 0 (wished l r) else ms

unfoldable pub count : ℕ → ℕ → ℕ → ℕ
count l r room = if eqb (refusal l r room) 0 then length (wished l r) else 0

pub record Listed (l r : ℕ) (ms : List ℕ) (e n : ℕ) (ms' : List ℕ) : Type 0 where
  pub error : e ≡ refusal l r (length ms)
  pub number : n ≡ count l r (length ms)
  pub bytes : ms' ≡ made l r ms

abbrev pub Makes : ℕ → ℕ → List ℕ → Made → List ℕ → Type 0
Makes l r ms m ms' = Listed l r ms m.error m.count ms'

unfoldable pub times : ℕ → List ℕ → ℕ
times b [] = 0
times b (m ∷ ms) = if eqb m b then suc (times b ms) else times b ms

unfoldable pub accepts : ℕ → ℕ → List ℕ → Bool
accepts l r ms = leb l 2 && leb r 2 && all (meets l r) ms && all (λ m. eqb (times m ms) 1) (wished l r)

-- "exactly the lists that hold every map meeting the wish, each once, in any order, and nothing else"; "no list for such a
-- number" above 2
pub record Accepted (l r : ℕ) (ms : List ℕ) : Type 0 where
  pub left : l ≤ 2
  pub right : r ≤ 2
  pub places : (b : ℕ) → times b ms ≡ (if meets l r b then 1 else 0)

-- "in ascending order": `wished_ascends` of proofs/Laws.antt
unfoldable pub ascending : List ℕ → Bool
ascending [] = true
ascending (m ∷ ms) = all (ltb m) ms && ascending ms
