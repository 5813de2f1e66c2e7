-- The words of #110 as a reader would state them, without walks over lists: which request names a channel, how many do, where each number
-- and each record stands. The definitions are these, and nothing else is.
-- Assumes nothing.
use Prim.Native.Nat.{ℕ, zero, suc, ◌+◌, ◌*◌, ◌/◌, ◌%◌, ◌^◌, ◌≤◌, ◌<◌}
use mathlib.Core.Path.{◌≡◌, refl, ap, sym, ◌∙◌}
use mathlib.Core.Logic.{◌↔◌}
use mathlib.Core.Bool.{Bool, true, false}
use mathlib.Core.List.{List, [], ◌∷◌, ◌++◌, map, append_assoc}
use native.Mathlib.Omega.{arith}
use lib.Dec.{T, eqb, eqb→eq, eqb-suc-zero, not_T}
use lib.ListN.{length, get_or, take, drop, length-append, length-drop, length-map}
use Rattle.widening.specs.machine.Numbers.{CMD_WRITE}
use Rattle.std.specs.Prelude.{if◌then◌else◌}
use Rattle.widening.specs.machine.Lists.{any, keep, among, distinct}
use Rattle.widening.specs.machine.State.{Channel, Request, State, OPEN, COMMAND}
use Rattle.widening.specs.machine.Maps.{odd, half}
use Rattle.widening.specs.machine.Desks.{desk_of}
use Rattle.widening.specs.machine.Choosing.{Look, fails, held, grants, look}
use Rattle.widening.specs.machine.Rule.{Names, channel}
use Rattle.widening.specs.machine.Log.{line}
use Rattle.widening.specs.machine.Walks.{wait, asks}
use Rattle.widening.specs.machine.Machine.{machine}
use Rattle.widening.proofs.machine.Tests.{if_elim, by_test, test_true, test_false, or_left, or_right, eqb_false}
use Rattle.widening.proofs.machine_laws.Lists.{within-length, among_zero, among_suc, distinct_suc}
use Rattle.display.specs.Display.{NUMBERS, DISPLAY, names, writes_on, naming, number, numbers_from, numbers, holds, record_of, records, load_line, request_lines, Bytes}
use Rattle.display.specs.Runs.{Orderly}
use Rattle.display.specs.Standing.{gone, Agree}
use Rattle.display.specs.Pinned.{nobody, Counts}
use Rattle.display.proofs.Examples.{rows-shown}
use Rattle.display.proofs.Display.{take-length}

-- ---- names: some combination of the request has the channel's bit

any_in : (p : ℕ → Bool) (xs : List ℕ) → T (any p xs) → (j : ℕ) × (j < length xs) × T (p (get_or xs j 0))
unfolding any
any_in p [] t = absurd t
any_in p (x ∷ xs) t =
    by_test (p x) (λ u. (0, omega arith, u))
    (λ u. let i = any_in p xs (rw (test_false (p x) u) at t) in (suc i.0, (let l = i.1 in omega arith), i.2))

any_by : (p : ℕ → Bool) (xs : List ℕ) (j : ℕ) → j < length xs → T (p (get_or xs j 0)) → T (any p xs)
unfolding any
any_by p [] j h t = absurd (omega arith)
any_by p (x ∷ xs) zero h t = or_left (p x) (any p xs) t
any_by p (x ∷ xs) (suc j) h t = or_right (p x) (any p xs) (any_by p xs j (omega arith) t)

pub names_rule : (i : ℕ) (r : Request) → T (names i r) ↔ ((j : ℕ) × (j < length r.combos) × Names (get_or r.combos j 0) i)
unfolding names odd
names_rule i r = (
  λ t. let f = any_in (λ m. eqb (m / 2 ^ i % 2) 1) r.combos t in (f.0, f.1, eqb→eq (get_or r.combos f.0 0 / 2 ^ i % 2) 1 f.2),
  λ f. any_by (λ m. eqb (m / 2 ^ i % 2) 1) r.combos f.0 f.1 (rw f.2 tt),
)

-- ---- naming: how many requests name the channel

places_of : (Request → Bool) → List Request → List ℕ
places_of p [] = []
places_of p (r ∷ rs) = if p r then 0 ∷ map suc (places_of p rs) else map suc (places_of p rs)

among_next : (k : ℕ) (xs : List ℕ) (b : Bool) → among (suc k) (if b then 0 ∷ map suc xs else map suc xs) ≡ among k xs
unfolding among any
among_next k xs true = rw (eqb-suc-zero k) (among_suc k xs)
among_next k xs false = among_suc k xs

module _ (p : Request → Bool) where
  places-many : (rs : List Request) → length (places_of p rs) ≡ length (keep p rs)
  unfolding places_of keep
  places-many [] = refl
  places-many (r ∷ rs) =
      by_test (p r)
      (λ t. rw (test_true (p r) t) (ap suc (length-map (places_of p rs) suc ∙ places-many rs)))
      (λ t. rw (test_false (p r) t) (length-map (places_of p rs) suc ∙ places-many rs))

  places-once : (rs : List Request) → T (distinct (places_of p rs))
  unfolding places_of distinct
  places-once [] = tt
  places-once (r ∷ rs) =
      let d : T (distinct (map suc (places_of p rs))) = rw (distinct_suc (places_of p rs)) (places-once rs) in
      if_elim (λ (xs : List ℕ). T (distinct xs)) (p r) (λ _. rw (among_zero (places_of p rs)) d) (λ _. d)

  places_in : (rs : List Request) (k : ℕ) → T (among k (places_of p rs)) → (k < length rs) × T (p (get_or rs k nobody))
  unfolding places_of among any
  places_in [] k t = absurd t
  places_in (r ∷ rs) zero t = by_test (p r) (λ u. (omega arith, u)) (λ u. absurd (rw (test_false (p r) u, among_zero (places_of p rs)) at t))
  places_in (r ∷ rs) (suc k) t =
      let i = places_in rs k (rw (among_next k (places_of p rs) (p r)) at t) in ((let l = i.0 in omega arith), i.1)

  places_by : (rs : List Request) (k : ℕ) → k < length rs → T (p (get_or rs k nobody)) → T (among k (places_of p rs))
  unfolding places_of among any
  places_by [] k h t = absurd (omega arith)
  places_by (r ∷ rs) zero h t = rw (test_true (p r) t) tt
  places_by (r ∷ rs) (suc k) h t = rw (among_next k (places_of p rs) (p r)) (places_by rs k (omega arith) t)

  pub counts : (rs : List Request) → Counts p rs (length (keep p rs))
  counts rs =
      record {
        places = places_of p rs;
        all = λ k. (places_in rs k, λ h. places_by rs k h.0 h.1);
        once = places-once rs;
        many = places-many rs;
      }

  -- no other number is
  pub counts_only : (rs : List Request) (n m : ℕ) → Counts p rs n → Counts p rs m → n ≡ m
  counts_only rs n m a b =
      let l = within-length a.places b.places a.once (λ k t. (b.all k).1 ((a.all k).0 t)) in
      let g = within-length b.places a.places b.once (λ k t. (a.all k).1 ((b.all k).0 t)) in
      omega (arith, l, g, a.many, b.many)

-- "the number of waiting allocations naming it"
pub naming-counts : (i : ℕ) (s : State) → Counts (names i) s.waiting (naming i s)
unfolding naming
naming-counts i s = counts (names i) s.waiting

-- ---- numbers: where each stands

double_half : (i : ℕ) → half (2 * i) ≡ i
unfolding half
double_half i = omega arith

pub number_even : (i : ℕ) (s : State) → number (2 * i) s ≡ writes_on i s
unfolding number odd
number_even i s = rw (eqb_false (2 * i % 2) 1 (λ e. omega arith), double_half i) refl

pub number-odd : (i : ℕ) (s : State) → number (suc (2 * i)) s ≡ naming i s
unfolding number odd half
number-odd i s =
    let e : suc (2 * i) % 2 ≡ 1 = omega arith in
    let f : suc (2 * i) / 2 ≡ i = omega arith in
    rw (e, f) refl

numbers_from_at : (n j : ℕ) (s : State) (i : ℕ) → i < n → get_or (numbers_from n j s) i 0 ≡ number (j + i) s
unfolding numbers_from
numbers_from_at zero j s i h = absurd (omega arith)
numbers_from_at (suc n) j s zero h = ap (λ (x : ℕ). number x s) (let e : j ≡ j + 0 = omega arith in e)
numbers_from_at (suc n) j s (suc i) h = numbers_from_at n (suc j) s i (omega arith) ∙ ap (λ (x : ℕ). number x s) (let e : suc j + i ≡ j + suc i = omega arith in e)

pub numbers_at : (s : State) (j : ℕ) → j < NUMBERS → get_or (numbers s) j 0 ≡ number j s
numbers_at s j h = numbers_from_at NUMBERS 0 s j h ∙ ap (λ (x : ℕ). number x s) (let e : 0 + j ≡ j = omega arith in e)

numbers_from-length : (n j : ℕ) (s : State) → length (numbers_from n j s) ≡ n
unfolding numbers_from
numbers_from-length zero j s = refl
numbers_from-length (suc n) j s = ap suc (numbers_from-length n (suc j) s)

pub numbers-length : (s : State) → length (numbers s) ≡ NUMBERS
numbers-length s = numbers_from-length NUMBERS 0 s

-- ---- record_of, records

pub holds_rule : (l : Look) → T (holds l) ↔ ((m : ℕ) × (l ≡ held m))
unfolding holds
holds_rule fails = (λ t. absurd t, λ h. let e = h.1 in absurd (let z : ◌≡◌ {A = ℕ} 0 1 = cc in omega arith))
holds_rule (held m) = (λ t. (m, refl), λ h. tt)
holds_rule (grants m) = (λ t. absurd t, λ h. let e = h.1 in absurd (let z : ◌≡◌ {A = ℕ} 0 1 = cc in omega arith))

-- "(id, precedence, held or not, desk)": the four bytes of a record, the precedence in two's complement
pub record_id : (cs : List Channel) (r : Request) → get_or (record_of cs r) 0 0 ≡ r.id
unfolding record_of
record_id cs r = refl

pub record_above : (cs : List Channel) (r : Request) (p : ℕ) → p ≤ 127 → r.prec ≡ 128 + p → get_or (record_of cs r) 1 0 ≡ p
unfolding record_of
record_above cs r p h e = omega arith

pub record_below : (cs : List Channel) (r : Request) (p : ℕ) → 1 ≤ p → p ≤ 128 → r.prec + p ≡ 128 → get_or (record_of cs r) 1 0 + p ≡ 256
unfolding record_of
record_below cs r p h g e = omega arith

pub record_held : (cs : List Channel) (r : Request) (m : ℕ) → look r.prec r.combos cs ≡ held m → get_or (record_of cs r) 2 0 ≡ 1
unfolding record_of holds
record_held cs r m e = rw e refl

pub record_not_held : (cs : List Channel) (r : Request) → ((m : ℕ) → look r.prec r.combos cs ≡ held m → ⊥) → get_or (record_of cs r) 2 0 ≡ 0
unfolding record_of
record_not_held cs r n =
    let l = look r.prec r.combos cs in
    rw (test_false (holds l) (not_T (holds l) (λ t. let h = (holds_rule l).0 t in n h.0 h.1))) refl

pub record_desk : (cs : List Channel) (r : Request) → get_or (record_of cs r) 3 0 ≡ desk_of r.id
unfolding record_of
record_desk cs r = refl

pub record_length : (cs : List Channel) (r : Request) → length (record_of cs r) ≡ 4
unfolding record_of
record_length cs r = refl

pub records-length : (cs : List Channel) (rs : List Request) → length (records cs rs) ≡ length rs * 4
unfolding records record_of
records-length cs [] = refl
records-length cs (r ∷ rs) = let ih = records-length cs rs in omega arith

-- "to be filled in order": record k is the one of the request at place k
pub records_at : (cs : List Channel) (rs : List Request) (k : ℕ) → k < length rs → take 4 (drop (4 * k) (records cs rs)) ≡ record_of cs (get_or rs k nobody)
unfolding records record_of
records_at cs [] k h = absurd (omega arith)
records_at cs (r ∷ rs) zero h = refl
records_at cs (r ∷ rs) (suc k) h =
    ap (λ (n : ℕ). take 4 (drop n (record_of cs r ++ records cs rs))) (let e : 4 * suc k ≡ suc (suc (suc (suc (4 * k)))) = omega arith in e)
    ∙ records_at cs rs k (omega arith)

-- ---- writes_on: the whole queue

pub writes_rule : (i : ℕ) (s : State) → writes_on i s ≡ length (channel s.channels i).writes
unfolding writes_on
writes_rule i s = refl

-- ---- the lines of a log

line_length : (bs : List ℕ) → length (line bs) ≡ suc (2 * length bs)
unfolding line
line_length [] = refl
line_length (b ∷ bs) = let ih = line_length bs in omega arith

-- E0, two numbers for each channel of the board, the looks
pub load_length : (s : State) (d : List ℕ) → length d ≡ DISPLAY → length s.channels ≤ 8 → length (load_line s d) ≡ 7 + 4 * length s.channels
unfolding load_line
load_length s d e h =
    let n = length s.channels in
    let a : length (drop NUMBERS d) ≡ 2 = length-drop NUMBERS d ∙ (rw e refl) in
    line_length (0xE0 ∷ take (2 * n) d ++ drop NUMBERS d)
    ∙ (omega (arith, length-append (take (2 * n) d) (drop NUMBERS d), take-length (2 * n) d (omega arith), a))

-- E1 and its record for each request, in order
pub request-lines : (cs : List Channel) (rs qs : List Request) → request_lines cs (rs ++ qs) ≡ request_lines cs rs ++ request_lines cs qs
unfolding request_lines
request-lines cs [] qs = refl
request-lines cs (r ∷ rs) qs =
    ap (λ (bs : List ℕ). line (0xE1 ∷ record_of cs r) ++ bs) (request-lines cs rs qs)
    ∙ sym (append_assoc (line (0xE1 ∷ record_of cs r)) (request_lines cs rs) (request_lines cs qs))

-- ---- runs

-- a WRITE of as many cycles as there are, and an OPEN of the highest precedence and key; a precedence of two bytes
pub orderly_most : Orderly (asks (COMMAND CMD_WRITE) 2 0 1 128 1 (255 ∷ 255 ∷ 0 ∷ 0 ∷ 124 ∷ 64 ∷ []) 64
    ∷ asks OPEN 0 0 0 255 65535 [] 64 ∷ [])
unfolding machine
orderly_most = ((tt, λ _. omega arith), ((tt, λ e. absurd (let z : ◌≡◌ {A = ℕ} 0 1 = cc in omega arith)), tt))

pub second_unorderly : Orderly (asks OPEN 0 0 0 128 1 [] 64 ∷ asks OPEN 0 0 0 256 1 [] 64 ∷ []) → ⊥
unfolding machine
second_unorderly o = o.1.0.0

pub byte_most : Bytes (255 ∷ 256 ∷ []) → ⊥
byte_most h = let e : 256 < 256 = h 1 in absurd (omega arith)

-- ---- who waits before and after

pub gone_told : map (gone (wait 9 1 128 false [] ∷ [])) (wait 9 1 128 false [] ∷ wait 8 1 128 false [] ∷ []) ≡ false ∷ true ∷ []
unfolding machine
gone_told = refl

-- a request that stayed with another key
pub another_not_agrees : Agree (wait 9 1 128 false [] ∷ []) (wait 9 2 128 false [] ∷ []) → ⊥
unfolding machine
another_not_agrees a =
    let e : ◌≡◌ {A = ℕ} 2 1 = ap (λ (rs : List Request). get_or (map (λ r. r.key) rs) 0 0) (a 9 tt tt) in absurd (omega arith)
