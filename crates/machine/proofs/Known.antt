-- Why a number is known exactly if it is listed: `kind` asks for each listed number in turn, so that a number which is none of
-- them passes every test and is UNKNOWN.
-- Assumes nothing.
use Prim.Native.Nat.{ℕ}
use mathlib.Core.Path.{◌≡◌, refl, sym, ◌∙◌}
use mathlib.Core.Bool.{Bool, true, false, not, ◌||◌}
use lib.Dec.{T, eqb, eqb→eq}
use Rattle.std.specs.Prelude.{if◌then◌else◌}
use Rattle.machine.specs.Lists.{any, among}
use Rattle.machine.specs.Kinds.{Kind, RESET, READ, WRITE, UPDATE, CLEAR, STOP, START, FLUSH, FREE, SETPREC, FINISH, PERVOL, LOCK, WAITCYCLE, ALLOCATE, UNKNOWN, kind, unknown, allocates, carries}
use Rattle.machine.specs.Bytes.{listed, number}

asked : (b others : Bool) (k rest : Kind) → unknown k ≡ false → unknown rest ≡ not others
    → unknown (if b then k else rest) ≡ not (b || others)
asked true others k rest e f = e
asked false others k rest e f = f

-- "-3 NOCMD: any command number not listed above", of every number
pub unknown_unless_listed : (n : ℕ) → unknown (kind n) ≡ not (among n listed)
unfolding kind unknown among any
unknown_unless_listed n =
    asked (eqb n 1) _ RESET _ refl
    (asked (eqb n 2) _ READ _ refl
    (asked (eqb n 3) _ WRITE _ refl
    (asked (eqb n 4) _ UPDATE _ refl
    (asked (eqb n 5) _ CLEAR _ refl
    (asked (eqb n 6) _ STOP _ refl
    (asked (eqb n 7) _ START _ refl
    (asked (eqb n 8) _ FLUSH _ refl
    (asked (eqb n 9) _ FREE _ refl
    (asked (eqb n 10) _ SETPREC _ refl
    (asked (eqb n 11) _ FINISH _ refl
    (asked (eqb n 12) _ PERVOL _ refl
    (asked (eqb n 13) _ LOCK _ refl
    (asked (eqb n 14) _ WAITCYCLE _ refl
    (asked (eqb n 32) _ ALLOCATE _ refl refl))))))))))))))

found : (b : Bool) (n : ℕ) (k rest : Kind) → (T b → n ≡ number k) → (T (not (unknown rest)) → number rest ≡ n)
    → T (not (unknown (if b then k else rest))) → number (if b then k else rest) ≡ n
found true n k rest e f t = sym (e tt)
found false n k rest e f t = f t

-- a known command is the one whose number was given: no other number is taken for it
pub known_by_number : (n : ℕ) → T (not (unknown (kind n))) → number (kind n) ≡ n
unfolding kind unknown number
known_by_number n =
    found (eqb n 1) n RESET _ (eqb→eq n 1)
    (found (eqb n 2) n READ _ (eqb→eq n 2)
    (found (eqb n 3) n WRITE _ (eqb→eq n 3)
    (found (eqb n 4) n UPDATE _ (eqb→eq n 4)
    (found (eqb n 5) n CLEAR _ (eqb→eq n 5)
    (found (eqb n 6) n STOP _ (eqb→eq n 6)
    (found (eqb n 7) n START _ (eqb→eq n 7)
    (found (eqb n 8) n FLUSH _ (eqb→eq n 8)
    (found (eqb n 9) n FREE _ (eqb→eq n 9)
    (found (eqb n 10) n SETPREC _ (eqb→eq n 10)
    (found (eqb n 11) n FINISH _ (eqb→eq n 11)
    (found (eqb n 12) n PERVOL _ (eqb→eq n 12)
    (found (eqb n 13) n LOCK _ (eqb→eq n 13)
    (found (eqb n 14) n WAITCYCLE _ (eqb→eq n 14)
    (found (eqb n 32) n ALLOCATE UNKNOWN (eqb→eq n 32) (λ t. absurd t)))))))))))))))

listing : (b : Bool) (n : ℕ) (k rest : Kind) → allocates k ≡ false → (T b → eqb n 32 ≡ false) → allocates rest ≡ eqb n 32
    → allocates (if b then k else rest) ≡ eqb n 32
listing true n k rest e f g = e ∙ sym (f tt)
listing false n k rest e f g = g

-- ALLOCATE is the one command that reads combinations
pub allocates-alone : (n : ℕ) → allocates (kind n) ≡ eqb n 32
unfolding kind allocates
allocates-alone n =
    listing (eqb n 1) n RESET _ refl (λ t. rw (eqb→eq n 1 t) refl)
    (listing (eqb n 2) n READ _ refl (λ t. rw (eqb→eq n 2 t) refl)
    (listing (eqb n 3) n WRITE _ refl (λ t. rw (eqb→eq n 3 t) refl)
    (listing (eqb n 4) n UPDATE _ refl (λ t. rw (eqb→eq n 4 t) refl)
    (listing (eqb n 5) n CLEAR _ refl (λ t. rw (eqb→eq n 5 t) refl)
    (listing (eqb n 6) n STOP _ refl (λ t. rw (eqb→eq n 6 t) refl)
    (listing (eqb n 7) n START _ refl (λ t. rw (eqb→eq n 7 t) refl)
    (listing (eqb n 8) n FLUSH _ refl (λ t. rw (eqb→eq n 8 t) refl)
    (listing (eqb n 9) n FREE _ refl (λ t. rw (eqb→eq n 9 t) refl)
    (listing (eqb n 10) n SETPREC _ refl (λ t. rw (eqb→eq n 10 t) refl)
    (listing (eqb n 11) n FINISH _ refl (λ t. rw (eqb→eq n 11 t) refl)
    (listing (eqb n 12) n PERVOL _ refl (λ t. rw (eqb→eq n 12 t) refl)
    (listing (eqb n 13) n LOCK _ refl (λ t. rw (eqb→eq n 13 t) refl)
    (listing (eqb n 14) n WAITCYCLE _ refl (λ t. rw (eqb→eq n 14 t) refl)
    (last (eqb n 32)))))))))))))))
  where
    last : (b : Bool) → allocates (if b then ALLOCATE else UNKNOWN) ≡ b
    last true = refl
    last false = refl

carried : (b : Bool) (n : ℕ) (k rest : Kind) → (T b → carries k ≡ (eqb n 3 || eqb n 12)) → carries rest ≡ (eqb n 3 || eqb n 12)
    → carries (if b then k else rest) ≡ (eqb n 3 || eqb n 12)
carried true n k rest f g = f tt
carried false n k rest f g = g

-- WRITE and PERVOL are the commands that carry a cycle count, a period and a volume
pub carries_two : (n : ℕ) → carries (kind n) ≡ (eqb n 3 || eqb n 12)
unfolding kind carries
carries_two n =
    carried (eqb n 1) n RESET _ (λ t. rw (eqb→eq n 1 t) refl)
    (carried (eqb n 2) n READ _ (λ t. rw (eqb→eq n 2 t) refl)
    (written (eqb n 3) (eqb n 12) _
    (carried' (eqb n 4) UPDATE _ (λ t. rw (eqb→eq n 4 t) refl) refl
    (carried' (eqb n 5) CLEAR _ (λ t. rw (eqb→eq n 5 t) refl) refl
    (carried' (eqb n 6) STOP _ (λ t. rw (eqb→eq n 6 t) refl) refl
    (carried' (eqb n 7) START _ (λ t. rw (eqb→eq n 7 t) refl) refl
    (carried' (eqb n 8) FLUSH _ (λ t. rw (eqb→eq n 8 t) refl) refl
    (carried' (eqb n 9) FREE _ (λ t. rw (eqb→eq n 9 t) refl) refl
    (carried' (eqb n 10) SETPREC _ (λ t. rw (eqb→eq n 10 t) refl) refl
    (carried' (eqb n 11) FINISH _ (λ t. rw (eqb→eq n 11 t) refl) refl
    (tuned (eqb n 12) _
    (if_neither (eqb n 13) LOCK _ refl
    (if_neither (eqb n 14) WAITCYCLE _ refl
    (if_neither (eqb n 32) ALLOCATE UNKNOWN refl refl))))))))))))))
  where
    written : (b d : Bool) (rest : Kind) → carries rest ≡ d → carries (if b then WRITE else rest) ≡ (b || d)
    written true d rest e = refl
    written false d rest e = e

    carried' : (b : Bool) (k rest : Kind) → (T b → false ≡ eqb n 12) → carries k ≡ false → carries rest ≡ eqb n 12
        → carries (if b then k else rest) ≡ eqb n 12
    carried' true k rest f e g = e ∙ f tt
    carried' false k rest f e g = g

    tuned : (b : Bool) (rest : Kind) → carries rest ≡ false → carries (if b then PERVOL else rest) ≡ b
    tuned true rest e = refl
    tuned false rest e = e

    if_neither : (b : Bool) (k rest : Kind) → carries k ≡ false → carries rest ≡ false → carries (if b then k else rest) ≡ false
    if_neither true k rest e f = e
    if_neither false k rest e f = f
