-- The numbers of a sound state fit the bytes of its frames: keys and cycles fit two bytes, precedences and maps one, and a channel's
-- writes remember nothing behind the front one. Assumes nothing.
use Prim.Native.Nat.{ℕ, suc, ◌/◌, ◌%◌, ◌^◌, ◌≤◌, ◌<◌}
use mathlib.Core.Path.{◌≡◌}
use mathlib.Core.Bool.{Bool, not, ◌&&◌, ◌||◌}
use mathlib.Core.List.{List, [], ◌∷◌}
use native.Mathlib.Nat.{pow-suc}
use native.Mathlib.Omega.{arith}
use lib.Dec.{T, T_not, eqb, leb, ltb, eqb→eq, leb→le, ltb→lt}
use lib.ListN.{length}
use lib.Pow.{pow_mono}
use Rattle.widening.specs.machine.Lists.{all}
use Rattle.widening.specs.machine.State.{Write, Channel, Lock, Request, is_free}
use Rattle.widening.specs.machine.Numbers.{KEYS}
use Rattle.widening.specs.machine.Maps.{odd, half, lowest, named}
use Rattle.widening.specs.machine.Sound.{sound_tone, sound_pervol, sound_write, forgets, sound_writes, sound_channel, sound_lock, sound_waiter, sound_request}
use Rattle.widening.proofs.machine.Tests.{by_test, test_true, test_false, and_left, and_right, or_named}
use Rattle.widening.proofs.machine_laws.Maps.{lowest_on}
use Rattle.board.specs.store.Store.{Each}
use Rattle.read_back.specs.ReadBack.{Bytes}

-- ---- each of a list

pub each_all {ℓ} : {A : Type ℓ} (P : A → Type 0) (p : A → Bool) → ((x : A) → T (p x) → P x) → (xs : List A) → T (all p xs) → Each P xs
unfolding all
each_all P p f [] t = tt
each_all P p f (x ∷ xs) t = (f x (and_left (p x) (all p xs) t), each_all P p f xs (and_right (p x) (all p xs) t))

-- ---- a channel

pub record ChannelFits (c : Channel) : Type 0 where
  pub key : c.key ≤ 65535
  pub prec : c.prec ≤ 255
  pub writes : T (sound_writes c.writes)

no_writes : (ws : List Write) → length ws ≡ 0 → T (sound_writes ws)
unfolding sound_writes
no_writes [] e = tt
no_writes (w ∷ ws) e = absurd (omega arith)

pub channel_fits : (c : Channel) → T (sound_channel c) → ChannelFits c
unfolding sound_channel
channel_fits c t =
    by_test (is_free c)
    (λ y. let u = rw (test_true (is_free c) y) at t in
    let k = eqb→eq c.key 0 y in
    let a = eqb c.prec 128 in
    let n = eqb→eq (length c.writes) 0 (and_right (a && not c.locked && not c.stopped) (eqb (length c.writes) 0) u) in
    let p = eqb→eq c.prec 128 (and_left a (not c.locked) (and_left (a && not c.locked) (not c.stopped) (and_left (a && not c.locked && not c.stopped) (eqb (length c.writes) 0) u))) in
    record { key = omega arith; prec = omega arith; writes = no_writes c.writes n })
    (λ y. let u = rw (test_false (is_free c) y) at t in
    let k = leb c.key KEYS in
    let b = leb c.prec 255 in
    let v = and_left (k && b) (sound_writes c.writes) u in
    record {
      key = leb→le c.key 65535 (and_left k b v);
      prec = leb→le c.prec 255 (and_right k b v);
      writes = and_right (k && b) (sound_writes c.writes) u;
    })

-- ---- a write

pub record ToneFits (p v : ℕ) : Type 0 where
  pub period : p ≤ 65536
  pub volume : v ≤ 64

pub tone_fits : (p v : ℕ) → T (sound_tone p v) → ToneFits p v
unfolding sound_tone
tone_fits p v t =
    let a = leb 124 p in
    let b = leb p 65536 in
    record { period = leb→le p 65536 (and_right a b (and_left (a && b) (leb v 64) t)); volume = leb→le v 64 (and_right (a && b) (leb v 64) t) }

pub record WriteFits (w : Write) : Type 0 where
  pub cycles : w.cycles ≤ 65535
  pub tone : ToneFits w.period w.volume
  pub pervol : T (sound_pervol w.pervol)

pub write_fits : (w : Write) → T (sound_write w) → WriteFits w
unfolding sound_write
write_fits w t =
    let a = leb w.cycles 65535 in
    let b = sound_tone w.period w.volume in
    let d = sound_pervol w.pervol in
    record {
      cycles = leb→le w.cycles 65535 (and_left a b (and_left (a && b) d t));
      tone = tone_fits w.period w.volume (and_right a b (and_left (a && b) d t));
      pervol = and_right (a && b) d t;
    }

pub each_write : (ws : List Write) → T (sound_writes ws) → Each WriteFits ws
unfolding sound_writes
each_write [] t = tt
each_write (w ∷ ws) t =
    let b : Write → Bool = λ v. sound_write v && forgets v in
    (write_fits w (and_left (sound_write w) (all b ws) t), each_all WriteFits b (λ v u. write_fits v (and_left (sound_write v) (forgets v) u)) ws (and_right (sound_write w) (all b ws) t))

-- ---- maps of at most eight channels

pub pow_small : (n : ℕ) → n ≤ 8 → 2 ^ n ≤ 256
pow_small n h = pow_mono h

-- a map that names a channel has the key of one
named-key : (q : Channel → Bool) (k : ℕ) → ((c : Channel) → T (q c) → c.key ≡ k) → (cs : List Channel) (m : ℕ) → T (all sound_channel cs) → T (named q m cs)
    → (m ≡ 0 → ⊥) → m < 2 ^ length cs → k ≤ 65535
unfolding named all odd half
named-key q k f [] m a t n h = absurd (n (omega arith))
named-key q k f (c ∷ cs) m a t n h =
    by_test (eqb (m % 2) 1)
    (λ y. let e = f c (or_named (odd m) (q c) (and_left (not (odd m) || q c) (named q (half m) cs) t) y) in
    let g = (channel_fits c (and_left (sound_channel c) (all sound_channel cs) a)).key in
    omega arith)
    (λ y. let d : m % 2 ≡ 1 → ⊥ = λ e. T_not (eqb (m % 2) 1) y (rw e tt) in
    let p = pow-suc 2 (length cs) in
    let b : m < 2 ^ suc (length cs) = h in
    named-key q k f cs (m / 2) (and_right (sound_channel c) (all sound_channel cs) a) (and_right (not (odd m) || q c) (named q (half m) cs) t) (λ e. n (omega arith)) (omega arith))

-- ---- a lock and a WAITCYCLE

pub record SpanFits (l : Lock) : Type 0 where
  pub key : l.key ≤ 65535
  pub map : l.map < 256

not_zero : (m : ℕ) → T (not (eqb m 0)) → m ≡ 0 → ⊥
not_zero m t e = T_not (eqb m 0) t (rw e tt)

module _ (cs : List Channel) (small : length cs ≤ 8) (a : T (all sound_channel cs)) (l : Lock) where
  pub lock_fits_lem : T (sound_lock cs l) → SpanFits l
  unfolding sound_lock
  lock_fits_lem t =
      let x = not (eqb l.map 0) in
      let y = ltb l.map (2 ^ length cs) in
      let z = not (eqb l.key 0) in
      let q : Channel → Bool = λ c. c.locked && eqb c.key l.key in
      let u = and_left (x && y && z) (named q l.map cs) t in
      let v = and_left (x && y) z u in
      let h = ltb→lt l.map (2 ^ length cs) (and_right x y v) in
      let w = pow_small (length cs) small in
      record {
        key = named-key q l.key (λ c o. eqb→eq c.key l.key (and_right c.locked (eqb c.key l.key) o)) cs l.map a (and_right (x && y && z) (named q l.map cs) t) (not_zero l.map (and_left x y v)) h;
        map = omega arith;
      }

  pub waiter_fits : T (sound_waiter cs l) → SpanFits l
  unfolding sound_waiter
  waiter_fits t =
      let x = not (eqb l.map 0) in
      let y = eqb (lowest (length cs) l.map) l.map in
      let q : Channel → Bool = λ c. eqb c.key l.key && not (eqb (length c.writes) 0) in
      let u = and_left (x && y) (named q l.map cs) t in
      let h = ltb→lt l.map (2 ^ length cs) (lowest_on (length cs) l.map (and_right x y u)) in
      let w = pow_small (length cs) small in
      record {
        key = named-key q l.key (λ c o. eqb→eq c.key l.key (and_left (eqb c.key l.key) (not (eqb (length c.writes) 0)) o)) cs l.map a (and_right (x && y) (named q l.map cs) t) (not_zero l.map (and_left x y u)) h;
        map = omega arith;
      }

-- ---- a waiting request

pub record RequestFits (r : Request) : Type 0 where
  pub key : r.key ≤ 65535
  pub prec : r.prec ≤ 255
  pub short : length r.combos ≤ 16
  pub combos : Bytes r.combos

pub request_fits : (cs : List Channel) → length cs ≤ 8 → (r : Request) → T (sound_request cs r) → RequestFits r
unfolding sound_request
request_fits cs small r t =
    let a = leb 1 (length r.combos) in
    let b = leb (length r.combos) 16 in
    let d = all (λ m. ltb m (2 ^ length cs)) r.combos in
    let e = leb r.key 65535 in
    let f = leb r.prec 255 in
    let u = and_left (a && b && d && e) f t in
    let v = and_left (a && b && d) e u in
    let w = pow_small (length cs) small in
    record {
      key = leb→le r.key 65535 (and_right (a && b && d) e u);
      prec = leb→le r.prec 255 (and_right (a && b && d && e) f t);
      short = leb→le (length r.combos) 16 (and_right a b (and_left (a && b) d v));
      combos = each_all (λ m. m < 256) (λ m. ltb m (2 ^ length cs)) (λ m o. let h = ltb→lt m (2 ^ length cs) o in omega arith) r.combos (and_right (a && b) d v);
    }
