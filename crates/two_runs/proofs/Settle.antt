-- Settling is nothing to the K party: every waiting allocation is at most P, so each look chooses channels without K. A grant
-- then goes to channels without K and to a key that is not K; a lock that is replied -12, or a WAITCYCLE that is cut, is over such
-- channels and so not K's; and a reply goes to a waiting allocation, which has none of the party's ids.
-- Assumes nothing.
use Prim.Native.Nat.{◌+◌, ◌<◌, ◌^◌, ◌≤◌, suc, zero, ℕ}
use mathlib.Core.Path.{◌∙◌, ◌≡◌, ap, refl, subst, sym}
use mathlib.Core.Bool.{Bool, ◌&&◌, false, not, true}
use mathlib.Core.List.{List, [], ◌++◌, ◌∷◌, map}
use native.Mathlib.Omega.{arith}
use lib.Dec.{T, eqb, eqb→eq, leb, leb→le, ltb}
use lib.ListN.{length, length-map}
use Rattle.machine_laws.specs.machine.Numbers.{ALLOCFAILED, CHANNELSTOLEN}
use Rattle.std.specs.Prelude.{if◌then◌else◌}
use Rattle.machine_laws.specs.machine.Lists.{all, any, keep, among}
use Rattle.machine_laws.specs.machine.State.{Channel, Lock, Reply, Request, State}
use Rattle.machine_laws.specs.machine.Maps.{at, change, lowest, meets, named}
use Rattle.machine_laws.specs.machine.Choosing.{Look, fails, grants, held, look}
use Rattle.machine_laws.specs.machine.Granting.{aborted_in, cut, cut_replies, dropped, given_up, granted, key_for, on_channels, taken}
use Rattle.machine_laws.specs.machine.Commands.{ended}
use Rattle.machine_laws.specs.machine.Settling.{Found, Settled, Walk, go_on, nobody, on_look, replied, rounds, saying, settle, somebody, staying, walk, walked}
use Rattle.machine_laws.specs.machine.Sound.{sound_lock, sound_waiter}
use Rattle.machine_laws.proofs.machine.Tests.{and_both, and_left, and_right, by_test, if_elim, test_false, test_true}
use Rattle.machine_laws.specs.Choosing.{Spares}
use Rattle.machine_laws.proofs.Choosing.{look_spares}
use Rattle.machine_laws.proofs.Lists.{all_keep}
use Rattle.machine_laws.proofs.Maps.{apart-meets, length-change, lowest_on, named_mono}
use Rattle.machine_laws.proofs.Keeping.{served}
use Rattle.machine_laws.proofs.Sound.{parts, in_use_few}
use Rattle.two_runs.specs.TwoRuns.{Party, holds, mask, own_replies}
use Rattle.two_runs.specs.Part.{fitting, lower}
use Rattle.two_runs.specs.Settle.{lock_fits, own_lock, FoundCalm, WalkCalm}
use Rattle.two_runs.proofs.Part.{Ready, fitting_lock, own_locks, project}
use Rattle.two_runs.proofs.Away.{aborted_in_quiet, any_view, change_fit, change-view, key_for_not, named-view, own_append, spared}

-- ---- what settling needs, and keeps

pub record Loop (p : Party) (s : State) : Type 0 where
  pub real : T (not (eqb p.key 0))
  pub entered : T (among p.key s.opens)
  pub fit : T (all (fitting p) s.channels)
  pub locks_ok : T (all (own_lock p s.channels) s.locks)
  pub waiters_ok : T (all (own_lock p s.channels) s.waiters)
  pub low : T (all (lower p) s.waiting)
  pub few : length s.channels + length s.waiting + length s.opens < 65535

-- one with K has an id of the party's
pub own_id : (p : Party) (cs : List Channel) (l : Lock) → T (own_lock p cs l) → T (eqb l.key p.key) → T (p.mine l.id)
unfolding own_lock
own_id p cs l o k = and_left (p.mine l.id) (lock_fits p cs l) (rw (test_true (eqb l.key p.key) k) at o)

-- another has none
pub other_id : (p : Party) (cs : List Channel) (l : Lock) → T (own_lock p cs l) → T (not (eqb l.key p.key)) → T (not (p.mine l.id))
unfolding own_lock
other_id p cs l o k = rw (test_false (eqb l.key p.key) k) at o

-- ---- locks and WAITCYCLEs over channels without K are not K's

module _ (p : Party) (m : ℕ) (cs : List Channel) (off : T (named (λ c. not (holds p c)) m cs)) where
  met-foreign : (l : Lock) → T (own_lock p cs l) → T (meets (length cs) m l.map) → T (not (eqb l.key p.key))
  unfolding own_lock lock_fits
  met-foreign l o t = go (eqb l.key p.key) o
    where
      go : (b : Bool) → T (if b then p.mine l.id && lock_fits p cs l else not (p.mine l.id)) → T (not b)
      go false u = tt
      go true u =
          rw (apart-meets (holds p) m l.map cs off
          (and_left (named (holds p) l.map cs) (ltb l.map (2 ^ length cs) && not (eqb l.map 0)) (and_right (p.mine l.id) (lock_fits p cs l) u)))
          at t

  pub met_quiet : (f : Lock → Reply) → ((l : Lock) → (f l).id ≡ l.id) → (ls : List Lock) → T (all (own_lock p cs) ls)
      → own_replies p (map f (keep (λ l. meets (length cs) m l.map) ls)) ≡ []
  unfolding all keep own_replies
  met_quiet f e [] t = refl
  met_quiet f e (l ∷ ls) t =
      let o = and_left (own_lock p cs l) (all (own_lock p cs) ls) t in
      let ih = met_quiet f e ls (and_right (own_lock p cs l) (all (own_lock p cs) ls) t) in
      by_test (meets (length cs) m l.map)
      (λ u. rw (test_true (meets (length cs) m l.map) u, e l, test_false (p.mine l.id) (other_id p cs l o (met-foreign l o u))) ih)
      (λ u. rw (test_false (meets (length cs) m l.map) u) ih)

  stolen_quiet : (ls : List Lock) → T (all (own_lock p cs) ls)
      → own_replies p (map (ended CHANNELSTOLEN) (keep (λ l. meets (length cs) m l.map) ls)) ≡ []
  stolen_quiet = met_quiet (ended CHANNELSTOLEN) (λ l. unfold ended in refl)

  stolen-locks : (ls : List Lock) → T (all (own_lock p cs) ls)
      → own_locks p (keep (λ l. not (meets (length cs) m l.map)) ls) ≡ own_locks p ls
  unfolding all keep own_locks
  stolen-locks [] t = refl
  stolen-locks (l ∷ ls) t =
      let o = and_left (own_lock p cs l) (all (own_lock p cs) ls) t in
      let ih = stolen-locks ls (and_right (own_lock p cs l) (all (own_lock p cs) ls) t) in
      by_test (meets (length cs) m l.map)
      (λ u. rw (test_true (meets (length cs) m l.map) u, test_false (eqb l.key p.key) (met-foreign l o u)) ih)
      (λ u. rw (test_false (meets (length cs) m l.map) u)
      (if_cong (eqb l.key p.key) (ap (λ ks. l ∷ ks) ih) ih))
    where
      if_cong : (b : Bool) {w x y z : List Lock} → w ≡ y → x ≡ z → (if b then w else x) ≡ (if b then y else z)
      if_cong true e h = e
      if_cong false e h = h

-- ---- a cut at channels without K

module _ (p : Party) (m : ℕ) (s : State) (off : T (named (λ c. not (holds p c)) m s.channels)) (ok : T (all (own_lock p s.channels) s.waiters)) where
  pub cut_quiet : own_replies p (cut_replies m s) ≡ []
  unfolding cut_replies on_channels given_up
  cut_quiet = met_quiet p m s.channels off given_up (λ l. refl) s.waiters ok

  pub cut_still : own_locks p (cut m s).waiters ≡ own_locks p s.waiters
  unfolding cut on_channels
  cut_still = stolen-locks p m s.channels off s.waiters ok

  pub cut_ok : T (all (own_lock p s.channels) (cut m s).waiters)
  unfolding cut
  cut_ok = all_keep (own_lock p s.channels) (λ w. not (on_channels (length s.channels) m w)) s.waiters ok

  pub dropped_quiet : T (all (fitting p) s.channels) → own_replies p (dropped m s) ≡ []
  unfolding dropped
  dropped_quiet fit = own_append p (aborted_in m s.channels) (cut_replies m s) (aborted_in_quiet p m s.channels off fit) cut_quiet

-- ---- a walk

lower-prec : (p : Party) (r : Request) → T (lower p r) → r.prec ≤ p.floor
unfolding lower
lower-prec p r t = leb→le r.prec p.floor (and_left (leb r.prec p.floor) (not (eqb r.key p.key)) (and_left (leb r.prec p.floor && not (eqb r.key p.key)) (not (p.mine r.id)) t))

lower-key : (p : Party) (r : Request) → T (lower p r) → T (not (eqb r.key p.key))
unfolding lower
lower-key p r t = and_right (leb r.prec p.floor) (not (eqb r.key p.key)) (and_left (leb r.prec p.floor && not (eqb r.key p.key)) (not (p.mine r.id)) t)

pub lower-id : (p : Party) (r : Request) → T (lower p r) → T (not (p.mine r.id))
unfolding lower
lower-id p r t = and_right (leb r.prec p.floor && not (eqb r.key p.key)) (not (p.mine r.id)) t

replied_quiet : (p : Party) (e m k : ℕ) (r : Request) (rs : List Reply) → T (lower p r) → own_replies p rs ≡ [] → own_replies p (replied e m k r ∷ rs) ≡ []
unfolding own_replies keep replied
replied_quiet p e m k r rs t h = rw (test_false (p.mine r.id) (lower-id p r t)) h

module _ (p : Party) (cs : List Channel) (real : T (not (eqb p.key 0))) (fit : T (all (fitting p) cs)) where
  stays : (n : ℕ) (r : Request) (ls : List Lock) (w : Walk) → T (lower p r) → WalkCalm p cs n ls w → WalkCalm p cs (suc n) ls (staying r w)
  unfolding staying all
  stays n r ls w t c =
      record {
        found = c.found;
        quiet = c.quiet;
        locks = c.locks;
        locks_ok = c.locks_ok;
        low = and_both (lower p r) (all (lower p) w.waiting) t c.low;
        fewer = omega (arith, c.fewer);
      }

  on_look-calm : (n : ℕ) (l : Look) (r : Request) (rs : List Request) (ls : List Lock) (rest : List Lock → Walk)
      → Spares p.floor cs l → T (lower p r) → T (all (lower p) rs) → length rs ≤ n → T (all (own_lock p cs) ls)
      → ((k : List Lock) → T (all (own_lock p cs) k) → WalkCalm p cs n k (rest k))
      → WalkCalm p cs (suc n) ls (on_look (length cs) l r rs ls rest)
  unfolding on_look saying
  on_look-calm n fails r rs ls rest sp t a le lo ih =
      let c = ih ls lo in
      if_elim (WalkCalm p cs (suc n) ls) r.impatient
      (λ _. says c)
      (λ _. stays n r ls (rest ls) t c)
    where
      says : WalkCalm p cs n ls (rest ls) → WalkCalm p cs (suc n) ls (saying (replied ALLOCFAILED 0 r.key r ∷ []) (rest ls))
      says c =
          record {
            found = c.found;
            quiet = replied_quiet p ALLOCFAILED 0 r.key r (rest ls).replies t c.quiet;
            locks = c.locks;
            locks_ok = c.locks_ok;
            low = c.low;
            fewer = omega (arith, c.fewer);
          }
  on_look-calm n (held m) r rs ls rest sp t a le lo ih =
      let off = spared p m cs real sp fit in
      let k = keep (λ l. not (meets (length cs) m l.map)) ls in
      let c = stays n r k (rest k) t (ih k (all_keep (own_lock p cs) (λ l. not (meets (length cs) m l.map)) ls lo)) in
      record {
        found = c.found;
        quiet = own_append p (map (ended CHANNELSTOLEN) (keep (λ l. meets (length cs) m l.map) ls)) (staying r (rest k)).replies (stolen_quiet p m cs off ls lo) c.quiet;
        locks = c.locks ∙ stolen-locks p m cs off ls lo;
        locks_ok = c.locks_ok;
        low = c.low;
        fewer = c.fewer;
      }
  on_look-calm n (grants m) r rs ls rest sp t a le lo ih =
      record {
        found = (spared p m cs real sp fit, t);
        quiet = unfold own_replies keep in refl;
        locks = refl;
        locks_ok = lo;
        low = a;
        fewer = omega arith;
      }

  walk-calm : (rs : List Request) → T (all (lower p) rs) → (ls : List Lock) → T (all (own_lock p cs) ls) → WalkCalm p cs (length rs) ls (walk cs rs ls)
  unfolding walk all
  walk-calm [] a ls lo =
      record { found = tt; quiet = unfold own_replies keep in refl; locks = refl; locks_ok = lo; low = tt; fewer = omega arith }
  walk-calm (r ∷ rs) a ls lo =
      let t = and_left (lower p r) (all (lower p) rs) a in
      let b = and_right (lower p r) (all (lower p) rs) a in
      on_look-calm (length rs) (look r.prec r.combos cs) r rs ls (walk cs rs)
      (look_spares p.floor r.prec r.combos cs (lower-prec p r t)) t b (omega arith) lo (walk-calm rs b)

-- ---- states with the same view

pub project_path : (p : Party) (s t : State) → map (mask p) s.channels ≡ map (mask p) t.channels → own_locks p s.locks ≡ own_locks p t.locks
    → own_locks p s.waiters ≡ own_locks p t.waiters → project p s ≡ project p t
unfolding project
project_path p s t e h g = rw (e, h, g)

pub same_length : (p : Party) (cs ds : List Channel) → map (mask p) ds ≡ map (mask p) cs → length ds ≡ length cs
same_length p cs ds e = sym (length-map ds (mask p)) ∙ ap length e ∙ length-map cs (mask p)

lock_fits-view : (p : Party) (cs ds : List Channel) → T (not (eqb p.key 0)) → map (mask p) ds ≡ map (mask p) cs → (l : Lock) → lock_fits p cs l ≡ lock_fits p ds l
unfolding lock_fits
lock_fits-view p cs ds k e l = rw (same_length p cs ds e, same) refl
  where
    same : named (holds p) l.map cs ≡ named (holds p) l.map ds
    same = sym (named-view p l.map cs k) ∙ ap (named (holds p) l.map) (sym e) ∙ named-view p l.map ds k

pub own_lock-view : (p : Party) (cs ds : List Channel) → T (not (eqb p.key 0)) → map (mask p) ds ≡ map (mask p) cs → (ls : List Lock)
    → T (all (own_lock p cs) ls) → T (all (own_lock p ds) ls)
unfolding all own_lock
own_lock-view p cs ds k e [] t = tt
own_lock-view p cs ds k e (l ∷ ls) t =
    and_both (own_lock p ds l) (all (own_lock p ds) ls)
    (subst (λ (b : Bool). T (if eqb l.key p.key then p.mine l.id && b else not (p.mine l.id))) (lock_fits-view p cs ds k e l)
    (and_left (own_lock p cs l) (all (own_lock p cs) ls) t))
    (own_lock-view p cs ds k e ls (and_right (own_lock p cs l) (all (own_lock p cs) ls) t))

pub any_same : (p : Party) (cs ds : List Channel) → T (not (eqb p.key 0)) → map (mask p) ds ≡ map (mask p) cs → any (holds p) cs ≡ any (holds p) ds
any_same p cs ds k e = sym (any_view p cs k) ∙ ap (any (holds p)) (sym e) ∙ any_view p ds k

-- ---- grants

pub record SettleCalm (p : Party) (s : State) (t : Settled) : Type 0 where
  pub quiet : own_replies p t.replies ≡ []
  pub still : project p t.state ≡ project p s
  pub loop : Loop p t.state

-- a grant to another key, over channels without K
module _ (p : Party) (s : State) (m k prec : ℕ) (lp : Loop p s) (off : T (named (λ c. not (holds p c)) m s.channels)) (other : T (not (eqb k p.key))) where
  pub new_key_not : T (not (eqb (key_for k s) p.key))
  new_key_not = key_for_not p s k lp.few lp.entered other

  grant-view : map (mask p) (change (taken (key_for k s) prec) m s.channels) ≡ map (mask p) s.channels
  unfolding taken
  grant-view = change-view p (taken (key_for k s) prec) (λ c _. new_key_not) m s.channels off

  pub grant_loop : Loop p (granted m k prec s)
  unfolding granted cut taken fitting all
  grant_loop =
      record {
        real = lp.real;
        entered = lp.entered;
        fit = change_fit p (taken (key_for k s) prec) (λ c _. new_key_not) (λ c _ _. rw (test_false (eqb (key_for k s) p.key) new_key_not) tt) m s.channels off lp.fit;
        locks_ok = own_lock-view p s.channels (change (taken (key_for k s) prec) m s.channels) lp.real grant-view s.locks lp.locks_ok;
        waiters_ok = own_lock-view p s.channels (change (taken (key_for k s) prec) m s.channels) lp.real grant-view (cut m s).waiters (cut_ok p m s off lp.waiters_ok);
        low = lp.low;
        few = rw (length-change (taken (key_for k s) prec) m s.channels) lp.few;
      }

  pub grant_still : project p (granted m k prec s) ≡ project p s
  unfolding granted
  grant_still = project_path p (granted m k prec s) s grant-view refl (cut_still p m s off lp.waiters_ok)

-- ---- rounds

walked_loop : (p : Party) (s : State) (w : Walk) → Loop p s → WalkCalm p s.channels (length s.waiting) s.locks w → Loop p (walked w s)
unfolding walked
walked_loop p s w lp c =
    record { real = lp.real; entered = lp.entered; fit = lp.fit; locks_ok = c.locks_ok; waiters_ok = lp.waiters_ok; low = c.low; few = omega (arith, c.fewer, lp.few) }

walked_still : (p : Party) (s : State) (w : Walk) → WalkCalm p s.channels (length s.waiting) s.locks w → project p (walked w s) ≡ project p s
unfolding walked
walked_still p s w c = project_path p (walked w s) s refl c.locks refl

go_on-calm : (p : Party) (f : Found) (w : Walk) (s : State) (again : State → Settled) → Loop p s → FoundCalm p s.channels f
    → WalkCalm p s.channels (length s.waiting) s.locks w
    → ((u : State) → Loop p u → SettleCalm p u (again u)) → SettleCalm p s (go_on f w s again)
unfolding go_on walked
go_on-calm p nobody w s again lp fc c ih = record { quiet = c.quiet; still = walked_still p s w c; loop = walked_loop p s w lp c }
go_on-calm p (somebody r m) w s again lp fc c ih =
    let lp' = walked_loop p s w lp c in
    let g = granted m r.key r.prec (walked w s) in
    let i = ih g (grant_loop p (walked w s) m r.key r.prec lp' fc.0 (lower-key p r fc.1)) in
    record {
      quiet =
          own_append p (w.replies ++ dropped m s) (replied 0 m (key_for r.key (walked w s)) r ∷ (again g).replies)
          (own_append p w.replies (dropped m s) c.quiet (dropped_quiet p m s fc.0 lp.waiters_ok lp.fit))
          (replied_quiet p 0 m (key_for r.key (walked w s)) r (again g).replies fc.1 i.quiet);
      still = i.still ∙ (grant_still p (walked w s) m r.key r.prec lp' fc.0 (lower-key p r fc.1)) ∙ walked_still p s w c;
      loop = i.loop;
    }

rounds-calm : (p : Party) (n : ℕ) (s : State) → Loop p s → SettleCalm p s (rounds n s)
unfolding rounds
rounds-calm p zero s lp = record { quiet = unfold own_replies keep in refl; still = refl; loop = lp }
rounds-calm p (suc n) s lp =
    let w = walk s.channels s.waiting s.locks in
    let c = walk-calm p s.channels lp.real lp.fit s.waiting lp.low s.locks lp.locks_ok in
    go_on-calm p w.found w s (rounds n) lp c.found c (rounds-calm p n)

pub settle-calm : (p : Party) (s : State) → Loop p s → SettleCalm p s (settle s)
unfolding settle
settle-calm p s lp = rounds-calm p (suc (length s.waiting)) s lp

-- ---- between two calls, settling has what it needs

ready-lock : (p : Party) (cs : List Channel) (l : Lock) → T (fitting_lock p l) → T (sound_lock cs l) → T (own_lock p cs l)
unfolding fitting_lock sound_lock own_lock lock_fits
ready-lock p cs l f t =
    by_test (eqb l.key p.key)
    (λ u. rw (test_true (eqb l.key p.key) u)
    (and_both (p.mine l.id) (named (holds p) l.map cs && (ltb l.map (2 ^ length cs) && not (eqb l.map 0)))
    (rw (test_true (eqb l.key p.key) u) at f)
    (and_both (named (holds p) l.map cs) (ltb l.map (2 ^ length cs) && not (eqb l.map 0))
    (named_mono own (holds p) l.map cs (λ c v. subst (λ (k : ℕ). T (eqb c.key k)) (eqb→eq l.key p.key u) (and_right c.locked (eqb c.key l.key) v)) t3)
    (and_both (ltb l.map (2 ^ length cs)) (not (eqb l.map 0)) t5 t4))))
    (λ u. rw (test_false (eqb l.key p.key) u) (rw (test_false (eqb l.key p.key) u) at f))
  where
    own : Channel → Bool
    own c = c.locked && eqb c.key l.key

    a : Bool
    a = not (eqb l.map 0)

    b : Bool
    b = ltb l.map (2 ^ length cs)

    d : Bool
    d = not (eqb l.key 0)

    t3 : T (named own l.map cs)
    t3 = and_right (a && b && d) (named own l.map cs) t

    t4 : T a
    t4 = and_left a b (and_left (a && b) d (and_left (a && b && d) (named own l.map cs) t))

    t5 : T b
    t5 = and_right a b (and_left (a && b) d (and_left (a && b && d) (named own l.map cs) t))

ready-waiter : (p : Party) (cs : List Channel) (w : Lock) → T (fitting_lock p w) → T (sound_waiter cs w) → T (own_lock p cs w)
unfolding fitting_lock sound_waiter own_lock lock_fits
ready-waiter p cs w f t =
    by_test (eqb w.key p.key)
    (λ u. rw (test_true (eqb w.key p.key) u)
    (and_both (p.mine w.id) (named (holds p) w.map cs && (ltb w.map (2 ^ length cs) && not (eqb w.map 0)))
    (rw (test_true (eqb w.key p.key) u) at f)
    (and_both (named (holds p) w.map cs) (ltb w.map (2 ^ length cs) && not (eqb w.map 0))
    (named_mono (served w) (holds p) w.map cs
    (λ c v. subst (λ (k : ℕ). T (eqb c.key k)) (eqb→eq w.key p.key u) (and_left (eqb c.key w.key) (not (eqb (length c.writes) 0)) v)) t1)
    (and_both (ltb w.map (2 ^ length cs)) (not (eqb w.map 0)) (lowest_on (length cs) w.map t3) t2))))
    (λ u. rw (test_false (eqb w.key p.key) u) (rw (test_false (eqb w.key p.key) u) at f))
  where
    a : Bool
    a = not (eqb w.map 0)

    b : Bool
    b = eqb (lowest (length cs) w.map) w.map

    t1 : T (named (served w) w.map cs)
    t1 = and_right (a && b) (named (served w) w.map cs) t

    t2 : T a
    t2 = and_left a b (and_left (a && b) (named (served w) w.map cs) t)

    t3 : T b
    t3 = and_right a b (and_left (a && b) (named (served w) w.map cs) t)

-- two tests that all of a list pass give a third
both_all : (q r u : Lock → Bool) → ((l : Lock) → T (q l) → T (r l) → T (u l)) → (ls : List Lock) → T (all q ls) → T (all r ls) → T (all u ls)
unfolding all
both_all q r u g [] f t = tt
both_all q r u g (l ∷ ls) f t =
    and_both (u l) (all u ls) (g l (and_left (q l) (all q ls) f) (and_left (r l) (all r ls) t)) (both_all q r u g ls (and_right (q l) (all q ls) f) (and_right (r l) (all r ls) t))

pub ready_loop : (p : Party) (s : State) → Ready p s → Loop p s
ready_loop p s r =
    let q = parts s r.sane in
    record {
      real = r.real;
      entered = r.entered;
      fit = r.fit;
      locks_ok = both_all (fitting_lock p) (sound_lock s.channels) (own_lock p s.channels) (ready-lock p s.channels) s.locks r.fit_locks q.locks_ok;
      waiters_ok = both_all (fitting_lock p) (sound_waiter s.channels) (own_lock p s.channels) (ready-waiter p s.channels) s.waiters r.fit_waiters q.waiters_ok;
      low = r.low;
      few = omega (arith, in_use_few s q);
    }
