-- The premises of demand 3 as one test for a computed example, with one of them left out or none: with none left out the test
-- is as good as the premises, since it is the same tests, taken together (`premises` of proofs/Premises.antt).
-- Assumes nothing.
--
--   Premise            the premises that can be left out; `nothing` leaves out none
--   number x, is x y   the place of a premise among them; x is the premise y
--   starts_but x p s    all that `Start` asks, but for x
--   by_kbut, by_others_but x p s c    all that is asked of a call of either kind, but for x
--   keeps_but x p s xs, runs_but x p s xs   all that `Keeps` and `Run` ask, but for x
use Rattle.std.specs.Prelude.{ℕ, Bool, ◌&&◌, ◌||◌, not, true, List, [], ◌∷◌, eqb}
use Rattle.machine_laws.specs.machine.Lists.{all, among, any}
use Rattle.machine_laws.specs.machine.State.{Call, State}
use Rattle.machine_laws.specs.machine.Call.{call}
use Rattle.machine_laws.specs.machine.Sound.{sound}
use Rattle.two_runs.specs.TwoRuns.{Party, Step, at_least, at_most, avoids, calls, carries, elsewhere, holds, in_bytes, keeps_floor, lends, may_send, modest, of_k, our, their, under}

pub data Premise : Type 0 where
  nothing entry_for_k channels_at_p waiting_at_p waiting_without_k outstanding_owned others_idle : Premise
  with_kand_id not_sent no_lower_precedence list_full unused at_por_less fit_bytes : Premise

unfoldable pub number : Premise → ℕ
number nothing = 0
number entry_for_k = 1
number channels_at_p = 2
number waiting_at_p = 3
number waiting_without_k = 4
number outstanding_owned = 5
number others_idle = 6
number with_kand_id = 7
number not_sent = 8
number no_lower_precedence = 9
number list_full = 10
number unused = 11
number at_por_less = 12
number fit_bytes = 13

unfoldable pub is : Premise → Premise → Bool
is x y = eqb (number x) (number y)

unfoldable pub starts_but : Premise → Party → State → Bool
starts_but x p s =
    sound s
    && ((is x entry_for_k || among p.key s.opens)
    && (not (eqb p.key 0)
    && (any (holds p) s.channels
    && ((is x channels_at_p || all (at_least p) s.channels)
    && ((is x waiting_at_p || all (at_most p) s.waiting)
    && ((is x waiting_without_k || all (λ r. not (carries p r)) s.waiting)
    && ((is x outstanding_owned || all p.mine (under p s)) && (is x others_idle || all (λ i. not (p.mine i)) (elsewhere p s)))))))))

unfoldable pub by_kbut : Premise → Party → State → Call → Bool
by_kbut x p s c =
    (is x with_kand_id || of_k p c.op c s)
    && ((is x not_sent || may_send c.op)
    && (is x no_lower_precedence || keeps_floor p c.op c s))

unfoldable pub by_others_but : Premise → Party → State → Call → Bool
by_others_but x p s c = (is x unused || avoids p c.op c s) && (is x at_por_less || modest p c.op c)

unfoldable pub keeps_but : Premise → Party → State → List Step → Bool
keeps_but x p s [] = true
keeps_but x p s (our c ∷ xs) = by_kbut x p s c && keeps_but x p (call s c).next xs
keeps_but x p s (their c ∷ xs) = by_others_but x p s c && keeps_but x p (call s c).next xs

unfoldable pub runs_but : Premise → Party → State → List Step → Bool
runs_but x p s xs = keeps_but x p s xs && ((is x list_full || all lends (calls xs)) && (is x fit_bytes || all in_bytes (calls xs)))
