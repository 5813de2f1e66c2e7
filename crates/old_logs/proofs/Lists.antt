-- Tests over the image of a list are tests over the list. Assumes nothing.
use mathlib.Core.Path.{◌≡◌, refl, ap}
use mathlib.Core.Bool.{Bool, true, false, not, ◌&&◌}
use mathlib.Core.List.{List, [], ◌∷◌, map}
use lib.Dec.{T}
use Rattle.std.specs.Prelude.{cond}
use Rattle.machine.specs.Lists.{all, keep}

pub if_out {ℓ κ} : {A : Type ℓ} {B : Type κ} (f : A → B) (b : Bool) (x y : A) → cond b (f x) (f y) ≡ f (cond b x y)
if_out f true x y = refl
if_out f false x y = refl

pub and_yes : (b : Bool) → b && true ≡ b
and_yes true = refl
and_yes false = refl

pub keep_map {ℓ κ} : {A : Type ℓ} {B : Type κ} (p : B → Bool) (f : A → B) (xs : List A) → keep p (map f xs) ≡ map f (keep (λ x. p (f x)) xs)
unfolding keep
keep_map p f [] = refl
keep_map {A} p f (x ∷ xs) =
    let q : A → Bool = λ y. p (f y) in
    rw (keep_map p f xs) (if_out (map f) (p (f x)) (x ∷ keep q xs) (keep q xs))

pub all_map {ℓ κ} : {A : Type ℓ} {B : Type κ} (p : B → Bool) (f : A → B) (xs : List A) → all p (map f xs) ≡ all (λ x. p (f x)) xs
unfolding all
all_map p f [] = refl
all_map p f (x ∷ xs) = ap (λ (b : Bool). p (f x) && b) (all_map p f xs)

-- two tests that agree everywhere are one
pub all_as {ℓ} : {A : Type ℓ} (p q : A → Bool) (xs : List A) → ((x : A) → p x ≡ q x) → all p xs ≡ all q xs
all_as {A} p q xs e = ap (λ (t : A → Bool). all t xs) (λ i x. e x i)

pub map_as {ℓ κ} : {A : Type ℓ} {B : Type κ} (f g : A → B) (xs : List A) → ((x : A) → f x ≡ g x) → map f xs ≡ map g xs
map_as {A} {B} f g xs e = ap (λ (h : A → B). map h xs) (λ i x. e x i)

-- two choices by one test agree where their cases do
pub if_as {ℓ κ} : {A : Type ℓ} {B : Type κ} (f : A → B) (d : Bool) {x y : B} {u v : A} → (T d → x ≡ f u) → (T (not d) → y ≡ f v) → cond d x y ≡ f (cond d u v)
if_as f true p q = p tt
if_as f false p q = q tt
