-- ABORT of an id of desk d's on its part is the same on the state, as far as desk d sees. Assumes that no queue has writes of both
-- desks: what stands in front of the write decides whether its end is a cut.
use Prim.Native.Nat.{ℕ}
use mathlib.Core.Path.{◌≡◌, refl, ap, subst, ◌∙◌}
use mathlib.Core.Bool.{Bool, true, false, not}
use mathlib.Core.List.{List, [], ◌∷◌, ◌++◌, map, map-map}
use lib.Dec.{T, eqb, eqb→eq}
use Rattle.machine_laws.specs.machine.Lists.{all, keep}
use Rattle.machine_laws.specs.machine.State.{Write, Channel, Lock, State, Call}
use Rattle.machine_laws.specs.machine.Maps.{bit}
use Rattle.machine_laws.specs.machine.Granting.{aborted, cut, cut_replies}
use Rattle.machine_laws.specs.machine.Commands.{set_writes, aborted_writes, without, leads, led_by, aborted_by, leaving, do_abort}
use Rattle.machine_laws.proofs.machine.Tests.{and_left, and_right, by_test, test_false}
use Rattle.one_desk.specs.OneDesk.{of_desk, bare, mine, mask, own_locks, part}
use Rattle.one_desk.proofs.Lists.{keep_map, kept_keep, keep_in}
use Rattle.one_desk.proofs.Part.{Sees, through, to_append, own_twice, own_keep, cut_part, cut_replies_part, silent_sees}
use Rattle.one_desk.proofs.Commands.{pure, mine_whole, mine_none, mine-bare, pure_elim}

module _ (d i : ℕ) (its : T (of_desk d i)) where
  same_desk : (j : ℕ) → T (eqb i j) → T (of_desk d j)
  same_desk j t = subst (λ (x : ℕ). T (of_desk d x)) (eqb→eq i j t) its

  -- ---- what is aborted

  keep_mine : (p : Write → Bool) → ((w : Write) → p (bare w) ≡ p w) → (ws : List Write) → keep p (mine d ws) ≡ map bare (keep p (keep (λ w. of_desk d w.id) ws))
  unfolding mine
  keep_mine p e ws = keep_map p p bare e (keep (λ w. of_desk d w.id) ws)

  aborted_one : (k : ℕ) (ws : List Write) → aborted k (keep (λ w. eqb i w.id) (mine d ws)) ≡ aborted k (keep (λ w. eqb i w.id) ws)
  unfolding aborted
  aborted_one k ws =
      let p : Write → Bool = λ w. eqb i w.id in
      let q : Write → Bool = λ w. of_desk d w.id in
      ap (aborted k) (keep_mine p (λ _. refl) ws) ∙ map-map _ bare (keep p (keep q ws)) ∙ ap (aborted k) (keep_in p q (λ w. same_desk w.id) ws)

  aborted_writes_part : (cs : List Channel) → aborted_writes i (map (mask d) cs) ≡ aborted_writes i cs
  unfolding aborted_writes
  aborted_writes_part [] = refl
  aborted_writes_part (c ∷ cs) = rw (aborted_one c.key c.writes, aborted_writes_part cs)

  aborted_by_part : (s : State) → aborted_by i (part d s) ≡ aborted_by i s
  unfolding aborted_by own_locks
  aborted_by_part s =
      rw (aborted_writes_part s.channels, keep_in (λ (w : Lock). eqb i w.id) (λ w. of_desk d w.id) (λ w. same_desk w.id) s.waiters)

  -- ---- what its end cuts

  leads_bare : (ws : List Write) → leads i (map bare ws) ≡ leads i ws
  unfolding leads
  leads_bare [] = refl
  leads_bare (w ∷ ws) = refl

  leads_none : (ws : List Write) → T (all (λ w. not (of_desk d w.id)) ws) → leads i ws ≡ false
  unfolding leads all
  leads_none [] t = refl
  leads_none (w ∷ ws) t =
      by_test (eqb i w.id)
      (λ u. absurd (clash (of_desk d w.id) (same_desk w.id u) (and_left (not (of_desk d w.id)) (all (λ v. not (of_desk d v.id)) ws) t)))
      (λ u. test_false (eqb i w.id) u)
    where
      clash : (b : Bool) → T b → T (not b) → ⊥
      clash true x y = y
      clash false x y = x

  leads_part : (c : Channel) → T (pure d c) → leads i (mine d c.writes) ≡ leads i c.writes
  leads_part c t =
      let ws = c.writes in
      pure_elim d c t
      (λ u. rw (mine_whole d ws u, leads_bare ws))
      (λ u. rw (mine_none d ws u, leads_none ws u, leads_none [] (unfold all in tt)))

  led_by_part : (cs : List Channel) → T (all (pure d) cs) → led_by i (map (mask d) cs) ≡ led_by i cs
  unfolding led_by all
  led_by_part [] t = refl
  led_by_part (c ∷ cs) t = λ j. bit (leads_part c (and_left (pure d c) (all (pure d) cs) t) j) (led_by_part cs (and_right (pure d c) (all (pure d) cs) t) j)

  -- ---- what is left

  mine_without : (ws : List Write) → mine d (keep (λ w. not (eqb i w.id)) (mine d ws)) ≡ mine d (keep (λ w. not (eqb i w.id)) ws)
  mine_without ws =
      let p : Write → Bool = λ w. not (eqb i w.id) in
      let q : Write → Bool = λ w. of_desk d w.id in
      ap (mine d) (keep_mine p (λ _. refl) ws) ∙ mine-bare d (keep p (keep q ws)) ∙ (unfold mine in ap (map bare) (kept_keep q p ws))

  without_part : (cs : List Channel) → map (mask d) (map (without i) (map (mask d) cs)) ≡ map (mask d) (map (without i) cs)
  unfolding without
  without_part [] = refl
  without_part (c ∷ cs) = λ j. set_writes (mine_without c.writes j) c ∷ without_part cs j

  leaving_part : (s : State) → part d (leaving i (part d s)) ≡ part d (leaving i s)
  unfolding leaving
  leaving_part s = simp (without_part s.channels, own_twice d s.locks, own_keep d (λ w. not (eqb i w.id)) s.waiters)

pub do_abort_part : (d : ℕ) (c : Call) (s : State) → T (of_desk d c.id) → T (all (pure d) s.channels) → Sees d (do_abort c (part d s)) (do_abort c s)
unfolding do_abort
do_abort_part d c s its t =
    let m = led_by c.id s.channels in
    let rs = aborted_by c.id s in
    rw (led_by_part d c.id its s.channels t, aborted_by_part d c.id its s)
    (silent_sees d _ _ (rs ++ cut_replies m (part d s)) (rs ++ cut_replies m s) (cut m (leaving c.id (part d s))) (cut m (leaving c.id s)) refl
    (to_append d rs rs (cut_replies m (part d s)) (cut_replies m s) refl (cut_replies_part d m s))
    (through d (λ u. part d (cut m u)) (cut_part d m) (leaving c.id (part d s)) (leaving c.id s) (leaving_part d c.id its s)))
