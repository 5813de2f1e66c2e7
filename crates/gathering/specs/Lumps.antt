-- A lump of input as it is gathered into a line of the log.
-- Assumes nothing.
--
--   front bs              the bytes before the first LF, or all where there is none
--   ended bs, used bs     whether there is an LF; how many bytes stand up to it, itself included, or all where there is none
--   LINE                  527: how many bytes of a line are kept. The longest frame has 526, so a cut line is malformed as well
--   kept n bs             what is kept of a lump behind n bytes
--   gathered_of n bs       what `gather` answers
--   Stands l n p          n bytes stand in l, of a line whose bytes so far are p
--   Gathers l n bs g l'   the promise of `gather`, for what stands in l
use Rattle.std.specs.Prelude.{ℕ, suc, ◌+◌, ◌-◌, ◌≡◌, Bool, true, false, List, [], ◌∷◌, eqb, length, take, if◌then◌else◌}
use Rattle.memory.specs.Splice.{splice}
use Rattle.digits.specs.machine.Log.{LF}
use Rattle.gathering.specs.declared.Gathered.{Gathered}

unfoldable pub front : List ℕ → List ℕ
front [] = []
front (b ∷ bs) = if eqb b LF then [] else b ∷ front bs

unfoldable pub ended : List ℕ → Bool
ended [] = false
ended (b ∷ bs) = if eqb b LF then true else ended bs

unfoldable pub used : List ℕ → ℕ
used [] = 0
used (b ∷ bs) = if eqb b LF then 1 else suc (used bs)

abbrev pub LINE : ℕ
LINE = 527

abbrev pub kept : ℕ → List ℕ → List ℕ
kept n bs = take (LINE - n) (front bs)

abbrev pub gathered_of : ℕ → List ℕ → Gathered
gathered_of n bs = record { n = n + length (kept n bs); used = used bs; ended = ended bs }

pub record Gathers (l : List ℕ) (n : ℕ) (bs : List ℕ) (g : Gathered) (l' : List ℕ) : Type 0 where
  pub answer : g ≡ gathered_of n bs
  pub filled : l' ≡ splice l n (kept n bs)

-- all of them, or the first 527
pub record Stands (l : List ℕ) (n : ℕ) (p : List ℕ) : Type 0 where
  pub bytes : take n l ≡ take LINE p
  pub count : n ≡ length (take LINE p)
