-- Document 02, #105: what pins the table of open keys. Examples, by computation; then the laws: CLOSE takes the oldest entry with
-- its key and leaves the others in their order; key 0 has no entry in a sound state; thirty-three entries are not sound.
-- Assumes nothing.
--
--   opened ks last     a board of four free channels with these entries and this last key
--   asks op k ms       a call with a key and combinations
use Prim.Native.Nat.{ℕ, zero, suc, ◌≤◌}
use mathlib.Core.Path.{◌≡◌, refl, ap}
use mathlib.Core.Bool.{Bool, true, false, not, ◌&&◌, ◌||◌}
use mathlib.Core.List.{List, [], ◌∷◌, ◌++◌}
use lib.Dec.{T, eqb, eqb_refl, eqb-zero-suc, leb, leb→le}
use lib.ListN.{length, replicate}
use Rattle.machine.specs.Numbers.{ENTRIES, KEYS, OPENFAIL, BADLENGTH, BADADDRESS, NOTOPEN}
use Rattle.std.specs.Prelude.{if◌then◌else◌}
use Rattle.machine.specs.Lists.{among, any, all}
use Rattle.machine.specs.State.{Call, Op, OPEN, CLOSE, State, fresh, with_last, with_opens}
use Rattle.machine.specs.Commands.{closed}
use Rattle.machine.specs.Granting.{new_key}
use Rattle.machine.specs.Sound.{sound_opens}
use Rattle.machine.specs.Call.{call}
use Rattle.machine.specs.Machine.{machine}
use Rattle.machine.proofs.Tests.{and_left, and_right, test_true}

-- ---- examples

abbrev opened : List ℕ → ℕ → State
opened ks last = with_last last (with_opens ks fresh)

abbrev asks : Op → ℕ → List ℕ → Call
asks op k ms = record { op = op; desk = 0; id = 0; flags = 0; map = 0; prec = 128; key = k; combos = ms; room = 64 }

-- "A new key is unlike every key .. in the table", also after the count has wrapped
pub unlike_an_opener : new_key (opened (8 ∷ []) 7) ≡ 9
unfolding machine
unlike_an_opener = refl

pub wrapped-unlike_openers : new_key (opened (2 ∷ 1 ∷ []) 65535) ≡ 3
unfolding machine
wrapped-unlike_openers = refl

-- "65,535 being followed by 1"
pub wrapped_to_one : new_key (opened [] 65535) ≡ 1
unfolding machine
wrapped_to_one = refl

-- the entry is the key that OPEN answered, made before the entry stands
pub opener_entered : ((call (opened (8 ∷ []) 7) (asks OPEN 0 [])).next.opens ≡ 8 ∷ 9 ∷ []) × ((call (opened (8 ∷ []) 7) (asks OPEN 5 [])).next.opens ≡ 8 ∷ 5 ∷ [])
unfolding machine
opener_entered = (refl, refl)

-- "CLOSE removes the oldest entry with its key"
pub oldest_goes : (call (opened (6 ∷ 7 ∷ 6 ∷ []) 7) (asks CLOSE 6 [])).next.opens ≡ 7 ∷ 6 ∷ []
unfolding machine
oldest_goes = refl

-- "and gets 2 if there is none, so key 0 always gets 2"
pub without_entry : ((call (opened (6 ∷ []) 7) (asks CLOSE 7 [])).answer.error ≡ NOTOPEN) × ((call (opened (6 ∷ []) 7) (asks CLOSE 7 [])).next ≡ opened (6 ∷ []) 7)
unfolding machine
without_entry = (refl, refl)

pub key_0_closes-nothing : (call (opened (6 ∷ []) 7) (asks CLOSE 0 [])).answer.error ≡ NOTOPEN
unfolding machine
key_0_closes-nothing = refl

-- "OPEN at 32 entries gets -1", after -4 and -5; at 31 it is opened
pub thirty_third_refused : ((call (opened (replicate 32 6) 7) (asks OPEN 0 [])).answer.error ≡ OPENFAIL) × ((call (opened (replicate 31 6) 7) (asks OPEN 0 [])).answer.error ≡ 0)
unfolding machine
thirty_third_refused = (refl, refl)

pub full-after_address : (call (opened (replicate 32 6) 7) (asks OPEN 0 (16 ∷ []))).answer.error ≡ BADADDRESS
unfolding machine
full-after_address = refl

pub full-after-length : (call (opened (replicate 32 6) 7) (asks OPEN 0 (replicate 17 1))).answer.error ≡ BADLENGTH
unfolding machine
full-after-length = refl

-- "Sound now includes at most 32 entries, none 0"
pub sound-opens : (sound_opens (replicate 32 6) ≡ true) × (sound_opens (replicate 33 6) ≡ false) × (sound_opens (6 ∷ 0 ∷ []) ≡ false)
unfolding machine
sound-opens = (refl, refl, refl)

-- ---- laws

-- "CLOSE removes the oldest entry with its key": the first, since entries stand in order of opening
pub closed_oldest : (k : ℕ) (xs ys : List ℕ) → T (not (among k xs)) → closed k (xs ++ k ∷ ys) ≡ xs ++ ys
unfolding closed among any
closed_oldest k [] ys t = rw (test_true (eqb k k) (eqb_refl k))
closed_oldest k (x ∷ xs) ys t = go (eqb k x) (closed_oldest k xs ys) t
  where
    go : (b : Bool) → (T (not (any (eqb k) xs)) → closed k (xs ++ k ∷ ys) ≡ xs ++ ys) → T (not (b || any (eqb k) xs))
        → (if b then xs ++ k ∷ ys else x ∷ closed k (xs ++ k ∷ ys)) ≡ x ∷ xs ++ ys
    go true ih u = absurd u
    go false ih u = ap (λ (zs : List ℕ). x ∷ zs) (ih u)

-- without an entry nothing goes
pub closed_none : (k : ℕ) (xs : List ℕ) → T (not (among k xs)) → closed k xs ≡ xs
unfolding closed among any
closed_none k [] t = refl
closed_none k (x ∷ xs) t = go (eqb k x) (closed_none k xs) t
  where
    go : (b : Bool) → (T (not (any (eqb k) xs)) → closed k xs ≡ xs) → T (not (b || any (eqb k) xs))
        → (if b then xs else x ∷ closed k xs) ≡ x ∷ xs
    go true ih u = absurd u
    go false ih u = ap (λ (zs : List ℕ). x ∷ zs) (ih u)

none_zero : (ks : List ℕ) → T (all (λ k. leb 1 k && leb k KEYS) ks) → T (not (among 0 ks))
unfolding among any all
none_zero [] t = tt
none_zero (zero ∷ ks) t = absurd (and_left false (all (λ k. leb 1 k && leb k KEYS) ks) t)
none_zero (suc k ∷ ks) t = rw (eqb-zero-suc k) (none_zero ks (and_right (leb 1 (suc k) && leb (suc k) KEYS) (all (λ k. leb 1 k && leb k KEYS) ks) t))

-- "at most 32"
pub opens_most : (ks : List ℕ) → T (sound_opens ks) → length ks ≤ ENTRIES
unfolding sound_opens
opens_most ks t = leb→le (length ks) ENTRIES (and_left (leb (length ks) ENTRIES) (all (λ k. leb 1 k && leb k KEYS) ks) t)

-- "none 0": so CLOSE with key 0 always gets 2
pub opens_none_zero : (ks : List ℕ) → T (sound_opens ks) → T (not (among 0 ks))
unfolding sound_opens
opens_none_zero ks t = none_zero ks (and_right (leb (length ks) ENTRIES) (all (λ k. leb 1 k && leb k KEYS) ks) t)
