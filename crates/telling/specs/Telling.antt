-- Document 02, #107, "The log over a slow line": the answer to a line, and what a call on a port leaves.
-- Assumes nothing.
--
--   Silent ..                     nothing is written, and nothing moves
--   Says l n ..                   the first n bytes of l are answered, as a line
--   Answers o ..                  the line o is answered; where there is none, it is silent
--   Still ..                      what a refused call leaves: everything as it was, and both numbers 0
--   Moves o q u ..                what a call leaves that is not refused: the line o answered, the port q, u bytes used
--   Ported o q u ..               a call by a line, a port and a number of bytes
--   SameCall e e₂ ..              the same answer, the same numbers and the same bytes
use Rattle.std.specs.Prelude.{ℕ, ◌≡◌, List, length, take}
use Rattle.std.proofs.Math.Option.{Option, none, some}
use Rattle.admitting.specs.Admitting.{refusal}
use Rattle.hearing.specs.Hearing.{Tells}

pub record Silent (st tb dp out : List ℕ) (n : ℕ) (st' tb' dp' out' : List ℕ) : Type 0 where
  pub count : n ≡ 0
  pub state : st' ≡ st
  pub table : tb' ≡ tb
  pub display : dp' ≡ dp
  pub bytes : out' ≡ out

pub record Says (l : List ℕ) (n : ℕ) (st tb dp out : List ℕ) (k : ℕ) (st' tb' dp' out' : List ℕ) : Type 0 where
  pub tells : Tells (take n l) st tb dp out k st' tb' dp' out'

abbrev pub Answers : Option (List ℕ) → List ℕ → List ℕ → List ℕ → List ℕ → ℕ → List ℕ → List ℕ → List ℕ → List ℕ → Type 0
Answers none st tb dp out n st' tb' dp' out' = Silent st tb dp out n st' tb' dp' out'
Answers (some l) st tb dp out n st' tb' dp' out' = Tells l st tb dp out n st' tb' dp' out'

pub record Still (p st tb dp out : List ℕ) (u n : ℕ) (p' st' tb' dp' out' : List ℕ) : Type 0 where
  pub used : u ≡ 0
  pub port : p' ≡ p
  pub silent : Silent st tb dp out n st' tb' dp' out'

pub record Moves (o : Option (List ℕ)) (q : List ℕ) (v : ℕ) (st tb dp out : List ℕ) (u n : ℕ) (p' st' tb' dp' out' : List ℕ) : Type 0 where
  pub used : u ≡ v
  pub port : p' ≡ q
  pub answers : Answers o st tb dp out n st' tb' dp' out'

pub record Ported (o : Option (List ℕ)) (q : List ℕ) (v : ℕ) (p st tb dp out : List ℕ) (e u n : ℕ) (p' st' tb' dp' out' : List ℕ) : Type 0 where
  pub error : e ≡ refusal p (length dp) (length out)
  pub refused : (refusal p (length dp) (length out) ≡ 0 → ⊥) → Still p st tb dp out u n p' st' tb' dp' out'
  pub served : refusal p (length dp) (length out) ≡ 0 → Moves o q v st tb dp out u n p' st' tb' dp' out'

-- no second outcome fits the promises of `feed` and `feed_end`: `one_feed_end` of last_line/proofs/Laws.antt
pub record SameCall (e e₂ u u₂ n n₂ : ℕ) (p p₂ st st₂ tb tb₂ dp dp₂ out out₂ : List ℕ) : Type 0 where
  pub error : e ≡ e₂
  pub used : u ≡ u₂
  pub written : n ≡ n₂
  pub port : p ≡ p₂
  pub state : st ≡ st₂
  pub table : tb ≡ tb₂
  pub display : dp ≡ dp₂
  pub output : out ≡ out₂
