-- What PERVOL, a synced FINISH and the end of a cycle make of a write: of its numbers' bytes, and in the machine's words.
-- Assumes nothing.
--
--   tone_set b a          the bytes b with the period and volume of a
--   tone_kept b a         with those remembered, and that they are
--   finish_kept b         with FINISH remembered
--   retuned_of how b a    the same by the name of what is done
--   meaning how p v      the machine's function of that name, with the period p and the volume v: proofs/Laws.antt shows that the two
--                        agree
use Rattle.std.specs.Prelude.{ℕ, List, get_or, set}
use Rattle.machine.specs.State.{Write}
use Rattle.machine.specs.Commands.{set_tone, remember_tone, remember_finish}
use Rattle.cycles.specs.Cycles.{next_in, next_of}
use Rattle.retuning.specs.declared.Tune.{Tune}
use Rattle.retuning.specs.declared.Tune.TheVariants.{Set, Later, Finish, Next}

abbrev pub tone_set : List ℕ → List ℕ → List ℕ
tone_set b a = set (set (set (set b 2 (get_or a 2 0)) 3 (get_or a 3 0)) 4 (get_or a 4 0)) 5 (get_or a 5 0)

abbrev pub tone_kept : List ℕ → List ℕ → List ℕ
tone_kept b a = set (set (set (set (set b 7 1) 8 (get_or a 2 0)) 9 (get_or a 3 0)) 10 (get_or a 4 0)) 11 (get_or a 5 0)

abbrev pub finish_kept : List ℕ → List ℕ
finish_kept b = set b 6 1

abbrev pub retuned_of : Tune → List ℕ → List ℕ → List ℕ
retuned_of Set b a = tone_set b a
retuned_of Later b a = tone_kept b a
retuned_of Finish b a = finish_kept b
retuned_of Next b a = next_in b

abbrev pub meaning : Tune → ℕ → ℕ → Write → Write
meaning Set p v w = set_tone p v w
meaning Later p v w = remember_tone p v w
meaning Finish p v w = remember_finish w
meaning Next p v w = next_of w
