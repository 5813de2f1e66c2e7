-- No key has writes of both desks, so no queue has. Assumes nothing.
use Prim.Native.Nat.{ℕ}
use mathlib.Core.Bool.{Bool, true, false, not, ◌&&◌, ◌||◌}
use mathlib.Core.List.{List, [], ◌∷◌}
use lib.Dec.{T, eqb, eqb→eq, eqb_refl, ltb}
use Rattle.std.specs.Prelude.{if◌then◌else◌}
use Rattle.machine_laws.specs.machine.Lists.{any, all}
use Rattle.machine_laws.specs.machine.State.{Write, Channel, State}
use Rattle.machine_laws.specs.machine.Desks.{DESK_A, DESK_B, HALF, desk_of}
use Rattle.machine_laws.proofs.machine.Tests.{and_left, and_right, and_both, or_left, or_right, by_test}
use Rattle.machine_laws.proofs.Lists.{all_mono}
use Rattle.one_desk.specs.OneDesk.{of_desk, under, one_key}
use Rattle.one_desk.proofs.Commands.{pure}

-- ---- an id is A's or B's

not_b : (i : ℕ) → T (not (of_desk DESK_B i)) → T (of_desk DESK_A i)
unfolding desk_of
not_b i t = go (ltb i HALF) t
  where
    go : (b : Bool) → T (not (eqb (if b then DESK_A else DESK_B) DESK_B)) → T (eqb (if b then DESK_A else DESK_B) DESK_A)
    go true u = tt
    go false u = u

not_a : (i : ℕ) → T (not (of_desk DESK_A i)) → T (of_desk DESK_B i)
unfolding desk_of
not_a i t = go (ltb i HALF) t
  where
    go : (b : Bool) → T (not (eqb (if b then DESK_A else DESK_B) DESK_A)) → T (eqb (if b then DESK_A else DESK_B) DESK_B)
    go true u = u
    go false u = tt

none_any : (q : Write → Bool) (ws : List Write) → T (not (any q ws)) → T (all (λ w. not (q w)) ws)
unfolding any all
none_any q [] t = tt
none_any q (w ∷ ws) t = go (q w) (none_any q ws) t
  where
    go : (b : Bool) → (T (not (any q ws)) → T (all (λ v. not (q v)) ws)) → T (not (b || any q ws)) → T (not b && all (λ v. not (q v)) ws)
    go true f u = u
    go false f u = f u

-- a queue of desk a's alone is all desk d's or has nothing of it
of_one : (d a : ℕ) (c : Channel) → T (all (λ w. of_desk a w.id) c.writes) → T (pure d c)
of_one d a c t =
    let ws = c.writes in
    by_test (eqb a d)
    (λ u. or_left (all (λ w. of_desk d w.id) ws) (all (λ w. not (of_desk d w.id)) ws)
    (all_mono (λ (w : Write). of_desk a w.id) (λ w. of_desk d w.id) (λ w v. rw (eqb→eq (desk_of w.id) a v) u) ws t))
    (λ u. or_right (all (λ w. of_desk d w.id) ws) (all (λ w. not (of_desk d w.id)) ws)
    (all_mono (λ (w : Write). of_desk a w.id) (λ w. not (of_desk d w.id)) (λ w v. rw (eqb→eq (desk_of w.id) a v) u) ws t))

abbrev of_a : Write → Bool
of_a w = of_desk DESK_A w.id

abbrev of_b : Write → Bool
of_b w = of_desk DESK_B w.id

not_both : (a b : Bool) → T (not (a && b)) → T a → T (not b)
not_both true b t u = t
not_both false b t u = absurd u

module _ (d : ℕ) (all-cs : List Channel) where
  head_pure : (c : Channel) → ((q : Write → Bool) → T (any q c.writes) → T (under q c.key all-cs)) → T (not (under of_a c.key all-cs && under of_b c.key all-cs)) → T (pure d c)
  head_pure c f t =
      by_test (any of_a c.writes)
      (λ u. by_test (any of_b c.writes)
      (λ v. absurd (clash (under of_b c.key all-cs) (f of_b v) (not_both (under of_a c.key all-cs) (under of_b c.key all-cs) t (f of_a u))))
      (λ v. of_one d DESK_A c (all_mono (λ w. not (of_b w)) of_a (λ w. not_b w.id) c.writes (none_any of_b c.writes v))))
      (λ u. of_one d DESK_B c (all_mono (λ w. not (of_a w)) of_b (λ w. not_a w.id) c.writes (none_any of_a c.writes u)))
    where
      clash : (b : Bool) → T b → T (not b) → ⊥
      clash true x y = y
      clash false x y = x

  each_pure : (cs : List Channel) → ((q : Write → Bool) (k : ℕ) → T (under q k cs) → T (under q k all-cs))
      → T (all (λ c. not (under of_a c.key all-cs && under of_b c.key all-cs)) cs) → T (all (pure d) cs)
  unfolding all under any
  each_pure [] f t = tt
  each_pure (c ∷ cs) f t =
      let one : Channel → Bool = λ e. not (under of_a e.key all-cs && under of_b e.key all-cs) in
      and_both (pure d c) (all (pure d) cs)
      (head_pure c (λ q u. f q c.key (or_left (eqb c.key c.key && any q c.writes) (under q c.key cs) (and_both (eqb c.key c.key) (any q c.writes) (eqb_refl c.key) u)))
      (and_left (one c) (all one cs) t))
      (each_pure cs (λ q k u. f q k (or_right (eqb c.key k && any q c.writes) (under q k cs) u)) (and_right (one c) (all one cs) t))

pub keys-pure : (d : ℕ) (s : State) → T (one_key s) → T (all (pure d) s.channels)
unfolding one_key
keys-pure d s t = each_pure d s.channels s.channels (λ q k u. u) t
