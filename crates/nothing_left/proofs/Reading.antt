-- The first assurance as a reader would say it, of each waiting request and each outstanding lock: it says no less, and no more.
-- Assumes nothing.
use Prim.Native.Nat.{ℕ, ◌<◌}
use mathlib.Core.Path.{◌≡◌, refl, subst}
use mathlib.Core.Logic.{◌⊎◌, inl, inr}
use mathlib.Core.Bool.{Bool, true, false, not, ◌&&◌, true≢false}
use mathlib.Core.List.Memᴰ
use mathlib.Core.List.{List, [], ◌∷◌, Memᴰ}
use lib.Dec.{T, T_not}
use lib.ListN.{length}
use Rattle.machine.specs.Lists.{all}
use Rattle.machine.specs.State.{Lock, Request, State, Call, fresh_on}
use Rattle.machine.specs.Maps.{meets}
use Rattle.machine.specs.Choosing.{Look, fails, held, grants}
use Rattle.machine.specs.Rule.{Names}
use Rattle.machine.proofs.Tests.{and_left, and_right, and_both, by_test}
use Rattle.display.proofs.machine_laws.Maps.{meets_iff}
use Rattle.display.specs.Runs.{after_calls}
use Rattle.nothing_left.specs.NothingLeft.{finds, would_go, would_fail, in_the_way, none_goes, none_fails, none_in_the_way, NothingLeft, Standing}
use Rattle.nothing_left.proofs.NothingLeft.{nothing_left_standing}

all_of {ℓ} : {A : Type ℓ} (q : A → Bool) (x : A) (xs : List A) → T (all q xs) → Memᴰ x xs → T (q x)
unfolding all
all_of q x [] t m = absurd (Memᴰ.not-nil m)
all_of {A = A} q x (y ∷ ys) t m = go (Memᴰ.cases_cons m) (all_of q x ys (and_right (q y) (all q ys) t))
  where
    go : (x ≡ y) ⊎ Memᴰ x ys → (Memᴰ x ys → T (q x)) → T (q x)
    go (inl e) ih = rw e (and_left (q y) (all q ys) t)
    go (inr n) ih = ih n

patient : (b : Bool) → T (not (b && true)) → b ≡ false
patient true t = absurd t
patient false t = refl

pub each_stands : (s : State) → NothingLeft s → (r : Request) → Memᴰ r s.waiting → Standing s r
unfolding none_goes none_fails none_in_the_way would_go would_fail in_the_way
each_stands s l r m =
    record {
      stays = λ n e. subst (λ (x : Look). T (not (would_go x))) e (all_of (λ q. not (would_go (finds s q))) r s.waiting l.goes m);
      waits =
          λ e. patient r.impatient
          (subst (λ (x : Look). T (not (r.impatient && would_fail x))) e (all_of (λ q. not (q.impatient && would_fail (finds s q))) r s.waiting l.fails m));
      clear =
          λ n k i e p h x y. T_not (meets (length s.channels) n k.map)
          (subst (λ (x : Look). T (not (in_the_way (length s.channels) k x))) e
          (all_of (λ j. not (in_the_way (length s.channels) j (finds s r))) k s.locks
          (all_of (λ q. all (λ j. not (in_the_way (length s.channels) j (finds s q))) s.locks) r s.waiting l.locked m) p))
          ((meets_iff (length s.channels) n k.map).1 (i, h, x, y));
    }

pub each_stands-after : (n : ℕ) (cs : List Call) (r : Request) → Memᴰ r (after_calls (fresh_on n) cs).waiting → Standing (after_calls (fresh_on n) cs) r
each_stands-after n cs r m = each_stands (after_calls (fresh_on n) cs) (nothing_left_standing n cs) r m

-- ---- and no more

all_from {ℓ} : {A : Type ℓ} (q : A → Bool) (xs : List A) → ((x : A) → Memᴰ x xs → T (q x)) → T (all q xs)
unfolding all
all_from q [] h = tt
all_from q (x ∷ xs) h = and_both (q x) (all q xs) (h x (Memᴰ.head refl)) (all_from q xs (λ y m. h y (Memᴰ.tail m)))

stays_test : (l : Look) → ((m : ℕ) → l ≡ grants m → ⊥) → T (not (would_go l))
unfolding would_go
stays_test fails h = tt
stays_test (held m) h = tt
stays_test (grants m) h = absurd (h m refl)

waits_test : (b : Bool) (l : Look) → (l ≡ fails → b ≡ false) → T (not (b && would_fail l))
unfolding would_fail
waits_test false l h = tt
waits_test true fails h = absurd (true≢false (h refl))
waits_test true (held m) h = tt
waits_test true (grants m) h = tt

clear_test : (n : ℕ) (k : Lock) (l : Look) → ((m i : ℕ) → l ≡ held m → i < n → Names m i → Names k.map i → ⊥) → T (not (in_the_way n k l))
unfolding in_the_way
clear_test n k fails h = tt
clear_test n k (held m) h =
    by_test (meets n m k.map) (λ t. let w = (meets_iff n m k.map).0 t in absurd (h m w.0 refl w.1 w.2 w.3)) (λ t. t)
clear_test n k (grants m) h = tt

pub standing_each : (s : State) → ((r : Request) → Memᴰ r s.waiting → Standing s r) → NothingLeft s
unfolding none_goes none_fails none_in_the_way
standing_each s h =
    record {
      goes = all_from (λ r. not (would_go (finds s r))) s.waiting (λ r m. stays_test (finds s r) (h r m).stays);
      fails = all_from (λ r. not (r.impatient && would_fail (finds s r))) s.waiting
          (λ r m. waits_test r.impatient (finds s r) (h r m).waits);
      locked =
          all_from (λ r. all (λ k. not (in_the_way (length s.channels) k (finds s r))) s.locks) s.waiting
          (λ r m. all_from (λ k. not (in_the_way (length s.channels) k (finds s r))) s.locks
          (λ k p. clear_test (length s.channels) k (finds s r) (λ n i e j x y. (h r m).clear n k i e p j x y)));
    }
