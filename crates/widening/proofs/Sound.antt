-- A sound state stays sound with free channels behind its own, up to eight; and the other way round. Assumes nothing.
use Prim.Native.Nat.{ℕ, zero, suc, ◌+◌, ◌*◌, ◌/◌, ◌%◌, ◌^◌, ◌≤◌, ◌<◌}
use mathlib.Core.Path.{◌≡◌, refl, ap, ap₂, subst, sym, ◌∙◌}
use mathlib.Core.Bool.{Bool, true, false, not, ◌&&◌, ◌||◌}
use mathlib.Core.List.{List, [], ◌∷◌, ◌++◌, map}
use native.Mathlib.Omega.{arith}
use native.Mathlib.Nat.{pow-suc, add-zero, zero-add, suc-add}
use lib.Dec.{T, T_not, eqb, leb, ltb, leb→le, le→leb, ltb→lt, lt→ltb}
use lib.ListN.{length}
use Rattle.std.specs.Prelude.{if◌then◌else◌}
use Rattle.machine_laws.specs.machine.Lists.{all, distinct}
use Rattle.machine_laws.specs.machine.State.{Channel, Lock, Request, State, free, frees}
use Rattle.machine_laws.specs.machine.Maps.{odd, half, lowest, named}
use Rattle.machine_laws.specs.machine.Sound.{sound_channel, sound_lock, sound_waiter, sound_request, writes_of, ids, sound}
use Rattle.machine_laws.proofs.machine.Tests.{and_left, and_right, and_both, test_true}
use Rattle.machine_laws.proofs.Lists.{all_append, all_mono}
use Rattle.machine_laws.specs.Sound.{Parts}
use Rattle.machine_laws.proofs.Keeping.{served}
use Rattle.machine_laws.proofs.Maps.{lowest_on}
use Rattle.widening.specs.Widening.{wider, widen}
use Rattle.widening.proofs.Maps.{length-wider, named-wide, lowest-wide, writes_wide, and_no}

-- ---- more channels, more maps

pow_more : (n k : ℕ) → 2 ^ n ≤ 2 ^ (n + k)
pow_more n zero = rw (add-zero n) (omega arith)
pow_more n (suc k) = let q : n + suc k ≡ suc (n + k) = omega arith in let h = pow_more n k in rw (q, pow-suc 2 (n + k)) (omega arith)

pub map_more : (k m : ℕ) (cs : List Channel) → T (ltb m (2 ^ length cs)) → T (ltb m (2 ^ length (wider k cs)))
map_more k m cs t =
    let h = ltb→lt m (2 ^ length cs) t in
    let g = pow_more (length cs) k in
    rw (length-wider k cs) (lt→ltb m (2 ^ (length cs + k)) (omega arith))

pub maps_more : (k : ℕ) (cs : List Channel) (ms : List ℕ) → T (all (λ m. ltb m (2 ^ length cs)) ms) → T (all (λ m. ltb m (2 ^ length (wider k cs))) ms)
unfolding all
maps_more k cs [] t = tt
maps_more k cs (m ∷ ms) t =
    and_both (ltb m (2 ^ length (wider k cs))) (all (λ m. ltb m (2 ^ length (wider k cs))) ms)
    (map_more k m cs (and_left (ltb m (2 ^ length cs)) (all (λ m. ltb m (2 ^ length cs)) ms) t))
    (maps_more k cs ms (and_right (ltb m (2 ^ length cs)) (all (λ m. ltb m (2 ^ length cs)) ms) t))

-- ---- each part

frees-sound : (k : ℕ) → T (all sound_channel (frees k))
unfolding frees all sound_channel
frees-sound zero = tt
frees-sound (suc k) = frees-sound k

lock-wide : (k : ℕ) (cs : List Channel) (l : Lock) → T (sound_lock cs l) → T (sound_lock (wider k cs) l)
unfolding sound_lock
lock-wide k cs l t =
    let a = not (eqb l.map 0) in
    let b = ltb l.map (2 ^ length cs) in
    let b' = ltb l.map (2 ^ length (wider k cs)) in
    let d = not (eqb l.key 0) in
    let p : Channel → Bool = λ c. c.locked && eqb c.key l.key in
    let e = named p l.map cs in
    let e' = named p l.map (wider k cs) in
    let t1 = and_left (a && b && d) e t in
    let t2 = and_left (a && b) d t1 in
    let low = and_right a b t2 in
    let same : e' ≡ e = named-wide p k l.map cs (ltb→lt l.map (2 ^ length cs) low) in
    and_both (a && b' && d) e'
    (and_both (a && b') d (and_both a b' (and_left a b t2) (map_more k l.map cs low)) (and_right (a && b) d t1))
    (subst T (sym same) (and_right (a && b && d) e t))

locks-wide : (k : ℕ) (cs : List Channel) (ls : List Lock) → T (all (sound_lock cs) ls) → T (all (sound_lock (wider k cs)) ls)
unfolding all
locks-wide k cs [] t = tt
locks-wide k cs (l ∷ ls) t =
    and_both (sound_lock (wider k cs) l) (all (sound_lock (wider k cs)) ls) (lock-wide k cs l (and_left (sound_lock cs l) (all (sound_lock cs) ls) t))
    (locks-wide k cs ls (and_right (sound_lock cs l) (all (sound_lock cs) ls) t))

-- a WAITCYCLE's bit is on the board: it is the lowest of as many bits as there are channels
waiter-wide : (k : ℕ) (cs : List Channel) (w : Lock) → T (sound_waiter cs w) → T (sound_waiter (wider k cs) w)
unfolding sound_waiter
waiter-wide k cs w t =
    let a = not (eqb w.map 0) in
    let b = eqb (lowest (length cs) w.map) w.map in
    let p = served w in
    let e = named p w.map cs in
    let t1 = and_left (a && b) e t in
    let low = ltb→lt w.map (2 ^ length cs) (lowest_on (length cs) w.map (and_right a b t1)) in
    rw (length-wider k cs, lowest-wide (length cs) k w.map low, named-wide p k w.map cs low) t

request-wide : (k : ℕ) (cs : List Channel) (r : Request) → T (sound_request cs r) → T (sound_request (wider k cs) r)
unfolding sound_request
request-wide k cs r t =
    let a = leb 1 (length r.combos) && leb (length r.combos) 16 in
    let b = all (λ m. ltb m (2 ^ length cs)) r.combos in
    let b' = all (λ m. ltb m (2 ^ length (wider k cs))) r.combos in
    let d = leb r.key 65535 in
    let e = leb r.prec 255 in
    let t1 = and_left (a && b && d) e t in
    let t2 = and_left (a && b) d t1 in
    and_both (a && b' && d) e
    (and_both (a && b') d (and_both a b' (and_left a b t2) (maps_more k cs r.combos (and_right a b t2))) (and_right (a && b) d t1))
    (and_right (a && b && d) e t)

requests_wide : (k : ℕ) (cs : List Channel) (rs : List Request) → T (all (sound_request cs) rs) → T (all (sound_request (wider k cs)) rs)
unfolding all
requests_wide k cs [] t = tt
requests_wide k cs (r ∷ rs) t =
    and_both (sound_request (wider k cs) r) (all (sound_request (wider k cs)) rs) (request-wide k cs r (and_left (sound_request cs r) (all (sound_request cs) rs) t))
    (requests_wide k cs rs (and_right (sound_request cs r) (all (sound_request cs) rs) t))

pub ids-wide : (k : ℕ) (s : State) → ids (widen k s) ≡ ids s
unfolding ids
ids-wide k s = ap (λ (x : List ℕ). x ++ map (λ l. l.id) s.locks ++ map (λ w. w.id) s.waiters ++ map (λ r. r.id) s.waiting) (writes_wide k s.channels)

pub sound-wide : (k : ℕ) (s : State) → Parts s → length s.channels + k ≤ 8 → Parts (widen k s)
sound-wide k s p h =
    let e = length-wider k s.channels in
    let some = leb→le 1 (length s.channels) p.some in
    record {
      some = le→leb 1 (length (wider k s.channels)) (omega arith);
      most = le→leb (length (wider k s.channels)) 8 (omega arith);
      channels_ok = all_append sound_channel s.channels (frees k) p.channels_ok (frees-sound k);
      locks_ok = locks-wide k s.channels s.locks p.locks_ok;
      waiters_ok = all_mono (sound_waiter s.channels) (sound_waiter (wider k s.channels)) (waiter-wide k s.channels) s.waiters p.waiters_ok;
      waiting_ok = requests_wide k s.channels s.waiting p.waiting_ok;
      order = p.order;
      small = subst (λ (l : List ℕ). T (all (λ i. ltb i 64) l)) (sym (ids-wide k s)) p.small;
      apart = subst (λ (l : List ℕ). T (distinct l)) (sym (ids-wide k s)) p.apart;
      opens_ok = p.opens_ok;
      last_ok = p.last_ok;
    }

-- ---- and the other way: what is sound with free channels behind is sound without them, where its waiting requests name none of them

named_none : (p : Channel → Bool) → p free ≡ false → (k m : ℕ) → m < 2 ^ k → T (named p m (frees k)) → m ≡ 0
unfolding named frees odd half
named_none p f zero m h t = omega arith
named_none p f (suc k) m h t =
    let e = pow-suc 2 k in
    let a = not (eqb (m % 2) 1) || p free in
    let d = named p (m / 2) (frees k) in
    let z = named_none p f k (m / 2) (omega arith) (and_right a d t) in
    let o : T (not (eqb (m % 2) 1)) = or_off (not (eqb (m % 2) 1)) (subst (λ (b : Bool). T (not (eqb (m % 2) 1) || b)) f (and_left a d t)) in
    let n : m % 2 ≡ 1 → ⊥ = λ q. T_not (eqb (m % 2) 1) o (rw q tt) in
    even_none m z n
  where
    or_off : (b : Bool) → T (b || false) → T b
    or_off true u = tt
    or_off false u = u

    even_none : (m : ℕ) → m / 2 ≡ 0 → (m % 2 ≡ 1 → ⊥) → m ≡ 0
    even_none zero a n = refl
    even_none (suc zero) a n = absurd (n refl)
    even_none (suc (suc m)) a n = omega arith

named_small : (p : Channel → Bool) → p free ≡ false → (k m : ℕ) (cs : List Channel) → m < 2 ^ (length cs + k) → T (named p m (wider k cs)) → m < 2 ^ length cs
unfolding named half
named_small p f k m [] h t = let z = named_none p f k m (rw (zero-add k) at h) t in omega arith
named_small p f k m (c ∷ cs) h t =
    let e = pow-suc 2 (length cs + k) in
    let g = pow-suc 2 (length cs) in
    let j : suc (length cs) + k ≡ suc (length cs + k) = suc-add (length cs) k in
    let i : m < 2 ^ suc (length cs + k) = rw j at h in
    let s = named_small p f k (m / 2) cs (omega arith) (and_right (not (odd m) || p c) (named p (half m) (wider k cs)) t) in
    omega arith

lock_narrow : (k : ℕ) (cs : List Channel) (l : Lock) → T (sound_lock (wider k cs) l) → T (sound_lock cs l)
unfolding sound_lock
lock_narrow k cs l t =
    let a = not (eqb l.map 0) in
    let b = ltb l.map (2 ^ length cs) in
    let b' = ltb l.map (2 ^ length (wider k cs)) in
    let d = not (eqb l.key 0) in
    let p : Channel → Bool = λ c. c.locked && eqb c.key l.key in
    let e = named p l.map cs in
    let e' = named p l.map (wider k cs) in
    let t1 = and_left (a && b' && d) e' t in
    let t2 = and_left (a && b') d t1 in
    let high : l.map < 2 ^ (length cs + k) = rw (length-wider k cs) at (ltb→lt l.map (2 ^ length (wider k cs)) (and_right a b' t2)) in
    let low = named_small p refl k l.map cs high (and_right (a && b' && d) e' t) in
    let same : e' ≡ e = named-wide p k l.map cs low in
    and_both (a && b && d) e
    (and_both (a && b) d (and_both a b (and_left a b' t2) (lt→ltb l.map (2 ^ length cs) low)) (and_right (a && b') d t1))
    (subst T same (and_right (a && b' && d) e' t))

locks_narrow : (k : ℕ) (cs : List Channel) (ls : List Lock) → T (all (sound_lock (wider k cs)) ls) → T (all (sound_lock cs) ls)
unfolding all
locks_narrow k cs [] t = tt
locks_narrow k cs (l ∷ ls) t =
    and_both (sound_lock cs l) (all (sound_lock cs) ls) (lock_narrow k cs l (and_left (sound_lock (wider k cs) l) (all (sound_lock (wider k cs)) ls) t))
    (locks_narrow k cs ls (and_right (sound_lock (wider k cs) l) (all (sound_lock (wider k cs)) ls) t))

waiter_narrow : (k : ℕ) (cs : List Channel) (w : Lock) → T (sound_waiter (wider k cs) w) → T (sound_waiter cs w)
unfolding sound_waiter
waiter_narrow k cs w t =
    let a = not (eqb w.map 0) in
    let b = eqb (lowest (length (wider k cs)) w.map) w.map in
    let p = served w in
    let e = named p w.map (wider k cs) in
    let high : w.map < 2 ^ (length cs + k) = rw (length-wider k cs) at (ltb→lt w.map (2 ^ length (wider k cs)) (lowest_on (length (wider k cs)) w.map (and_right a b (and_left (a && b) e t)))) in
    let low = named_small p (no_write w) k w.map cs high (and_right (a && b) e t) in
    rw (length-wider k cs, lowest-wide (length cs) k w.map low, named-wide p k w.map cs low) at t
  where
    no_write : (w : Lock) → served w free ≡ false
    no_write w = and_no (eqb 0 w.key)

all_front {ℓ} : {A : Type ℓ} (q : A → Bool) (xs ys : List A) → T (all q (xs ++ ys)) → T (all q xs)
unfolding all
all_front q [] ys t = tt
all_front q (x ∷ xs) ys t = and_both (q x) (all q xs) (and_left (q x) (all q (xs ++ ys)) t) (all_front q xs ys (and_right (q x) (all q (xs ++ ys)) t))

pub sound_narrow : (k : ℕ) (s : State) → 1 ≤ length s.channels → Parts (widen k s) → T (all (sound_request s.channels) s.waiting) → Parts s
sound_narrow k s h p w =
    let e = length-wider k s.channels in
    let most = leb→le (length (wider k s.channels)) 8 p.most in
    record {
      some = le→leb 1 (length s.channels) h;
      most = le→leb (length s.channels) 8 (omega arith);
      channels_ok = all_front sound_channel s.channels (frees k) p.channels_ok;
      locks_ok = locks_narrow k s.channels s.locks p.locks_ok;
      waiters_ok = all_mono (sound_waiter (wider k s.channels)) (sound_waiter s.channels) (waiter_narrow k s.channels) s.waiters p.waiters_ok;
      waiting_ok = w;
      order = p.order;
      small = subst (λ (l : List ℕ). T (all (λ i. ltb i 64) l)) (ids-wide k s) p.small;
      apart = subst (λ (l : List ℕ). T (distinct l)) (ids-wide k s) p.apart;
      opens_ok = p.opens_ok;
      last_ok = p.last_ok;
    }
