-- FREE of the K party does to its part what it does to the state, and leaves what settling needs: a WAITCYCLE that stays waits for a
-- channel that is as it was.
-- Assumes nothing.
use Prim.Native.Nat.{◌^◌, ◌<◌, ℕ}
use mathlib.Core.Path.{◌∙◌, ◌≡◌, ap, ap₂, refl, subst, sym}
use mathlib.Core.Bool.{Bool, ◌&&◌, ◌||◌, false, not, true}
use mathlib.Core.List.{List, [], ◌++◌, ◌∷◌, map}
use lib.Dec.{T, T_not, eqb, lt→ltb, ltb}
use lib.ListN.{length, length-map}
use Rattle.std.specs.Prelude.{if◌then◌else◌}
use Rattle.machine_laws.specs.machine.Lists.{all, any, keep}
use Rattle.machine_laws.specs.machine.State.{Call, Channel, Lock, Reply, State, free}
use Rattle.machine_laws.specs.machine.Maps.{bit, change, half, meets, minus, named, odd}
use Rattle.machine_laws.specs.machine.Granting.{cut, dropped, on_channels}
use Rattle.machine_laws.specs.machine.Commands.{cleared, do_free, each, ended, finished, freed, freeing, freeing_replies, is_empty, matching}
use Rattle.machine_laws.proofs.machine.Tests.{and_both, and_left, and_right, by_test, if_elim, or_named, or_from, test_false, test_true}
use Rattle.machine_laws.proofs.Keeping.{named_away}
use Rattle.machine_laws.proofs.Lists.{all_kept, keep_swap}
use Rattle.machine_laws.proofs.Maps.{half-bit, length-change, minus_lt, odd-bit}
use Rattle.two_runs.specs.TwoRuns.{Party, holds, mask, own_replies}
use Rattle.two_runs.specs.Part.{fitting}
use Rattle.two_runs.proofs.Part.{own_locks, project, project_out}
use Rattle.two_runs.proofs.Away.{free_away}
use Rattle.two_runs.specs.Settle.{lock_fits, own_lock}
use Rattle.two_runs.proofs.Settle.{Loop}
use Rattle.two_runs.proofs.OursPart.{Tame, dropped_own, finished_own, mask_other, mask_own, matching-mask, matching_own, mismatch-mask, own_append_both, state_path}

module _ (p : Party) (real : T (not (eqb p.key 0))) where
  -- freed channels are free in the part too
  change-freed : (m : ℕ) (cs : List Channel) → change freed m (map (mask p) cs) ≡ map (mask p) (change freed m cs)
  unfolding change
  change-freed m [] = refl
  change-freed m (c ∷ cs) = ap₂ ◌∷◌ (go (odd m)) (change-freed (half m) cs)
    where
      go : (b : Bool) → (if b then free else mask p c) ≡ mask p (if b then free else c)
      go true = sym (mask_other p real free (free_away p real))
      go false = refl

  module _ (n f : ℕ) where
    locks_cut : (q : Lock → Bool) (ls : List Lock) → keep q (cleared n f (own_locks p ls)) ≡ own_locks p (keep q (cleared n f ls))
    unfolding cleared own_locks keep
    locks_cut q [] = refl
    locks_cut q (l ∷ ls) = go (eqb l.key p.key) (q (record { id = l.id; key = l.key; map = minus n l.map f })) refl (locks_cut q ls)
      where
        x : Lock
        x = record { id = l.id; key = l.key; map = minus n l.map f }

        rs : List Lock
        rs = keep q (cleared n f ls)

        go : (a b : Bool) → a ≡ eqb l.key p.key → keep q (cleared n f (own_locks p ls)) ≡ own_locks p (keep q (cleared n f ls))
            → keep q (cleared n f (if a then l ∷ own_locks p ls else own_locks p ls)) ≡ own_locks p (if q (record { id = l.id; key = l.key; map = minus n l.map f }) then record { id = l.id; key = l.key; map = minus n l.map f } ∷ keep q (cleared n f ls) else keep q (cleared n f ls))
        go true b e ih =
            by_test (q (record { id = l.id; key = l.key; map = minus n l.map f }))
            (λ t. rw (test_true (q (record { id = l.id; key = l.key; map = minus n l.map f })) t, sym e) (ap (λ (ks : List Lock). record { id = l.id; key = l.key; map = minus n l.map f } ∷ ks) ih))
            (λ t. rw (test_false (q (record { id = l.id; key = l.key; map = minus n l.map f })) t) ih)
        go false b e ih =
            by_test (q (record { id = l.id; key = l.key; map = minus n l.map f }))
            (λ t. rw (test_true (q (record { id = l.id; key = l.key; map = minus n l.map f })) t, sym e) ih)
            (λ t. rw (test_false (q (record { id = l.id; key = l.key; map = minus n l.map f })) t) ih)

    -- the replies to locks that are emptied: the party's are those with K
    ended_own : (cs : List Channel) (ls : List Lock) → T (all (own_lock p cs) ls)
        → map (ended 0) (keep is_empty (cleared n f (own_locks p ls))) ≡ own_replies p (map (ended 0) (keep is_empty (cleared n f ls)))
    unfolding cleared own_locks keep own_replies ended all own_lock
    ended_own cs [] t = refl
    ended_own cs (l ∷ ls) t =
        go (eqb l.key p.key) (and_left (own_lock p cs l) (all (own_lock p cs) ls) t) (ended_own cs ls (and_right (own_lock p cs l) (all (own_lock p cs) ls) t))
      where
        x : Lock
        x = record { id = l.id; key = l.key; map = minus n l.map f }

        go : (a : Bool) → T (if a then p.mine l.id && lock_fits p cs l else not (p.mine l.id))
            → map (ended 0) (keep is_empty (cleared n f (own_locks p ls))) ≡ own_replies p (map (ended 0) (keep is_empty (cleared n f ls)))
            → map (ended 0) (keep is_empty (cleared n f (if a then l ∷ own_locks p ls else own_locks p ls))) ≡ own_replies p (map (ended 0) (keep is_empty (cleared n f (l ∷ ls))))
        go true u ih =
            by_test (is_empty (record { id = l.id; key = l.key; map = minus n l.map f }))
            (λ v. rw (test_true (is_empty (record { id = l.id; key = l.key; map = minus n l.map f })) v, test_true (p.mine l.id) (and_left (p.mine l.id) (lock_fits p cs l) u))
            (ap (λ (rs : List Reply). ended 0 (record { id = l.id; key = l.key; map = minus n l.map f }) ∷ rs) ih))
            (λ v. rw (test_false (is_empty (record { id = l.id; key = l.key; map = minus n l.map f })) v) ih)
        go false u ih =
            by_test (is_empty (record { id = l.id; key = l.key; map = minus n l.map f }))
            (λ v. rw (test_true (is_empty (record { id = l.id; key = l.key; map = minus n l.map f })) v, test_false (p.mine l.id) u) ih)
            (λ v. rw (test_false (is_empty (record { id = l.id; key = l.key; map = minus n l.map f })) v) ih)

  -- what is left of a map after some channels are freed names channels that are as they were
  named-minus : (m f : ℕ) (cs : List Channel) → T (named (holds p) m cs) → T (named (holds p) (minus (length cs) m f) (change freed f cs))
  unfolding named minus change
  named-minus m f [] t = tt
  named-minus m f (c ∷ cs) t =
      rw (odd-bit (odd m && not (odd f)) (minus (length cs) (half m) (half f)), half-bit (odd m && not (odd f)) (minus (length cs) (half m) (half f)))
      (and_both (not (odd m && not (odd f)) || holds p (if odd f then free else c)) (named (holds p) (minus (length cs) (half m) (half f)) (change freed (half f) cs))
      (go (odd m) (odd f) (and_left (not (odd m) || holds p c) (named (holds p) (half m) cs) t))
      (named-minus (half m) (half f) cs (and_right (not (odd m) || holds p c) (named (holds p) (half m) cs) t)))
    where
      go : (a b : Bool) → T (not a || holds p c) → T (not (a && not b) || holds p (if b then free else c))
      go true true u = tt
      go true false u = u
      go false b u = tt

  locks_ok_lem : (f : ℕ) (cs : List Channel) (ls : List Lock) → T (all (own_lock p cs) ls)
      → T (all (own_lock p (change freed f cs)) (keep (λ l. not (is_empty l)) (cleared (length cs) f ls)))
  unfolding all keep cleared
  locks_ok_lem f cs [] t = tt
  locks_ok_lem f cs (l ∷ ls) t =
      let ih = locks_ok_lem f cs ls (and_right (own_lock p cs l) (all (own_lock p cs) ls) t) in
      if_elim (λ (ks : List Lock). T (all (own_lock p (change freed f cs)) ks)) (not (is_empty (record { id = l.id; key = l.key; map = minus (length cs) l.map f })))
      (λ e. and_both (own_lock p (change freed f cs) (record { id = l.id; key = l.key; map = minus (length cs) l.map f })) _ (one e (and_left (own_lock p cs l) (all (own_lock p cs) ls) t)) ih)
      (λ _. ih)
    where
      one : T (not (is_empty (record { id = l.id; key = l.key; map = minus (length cs) l.map f }))) → T (own_lock p cs l)
          → T (own_lock p (change freed f cs) (record { id = l.id; key = l.key; map = minus (length cs) l.map f }))
      one e u = unfold own_lock lock_fits is_empty in go (eqb l.key p.key) (unfold own_lock lock_fits in u)
        where
          go : (a : Bool) → T (if a then p.mine l.id && (named (holds p) l.map cs && (ltb l.map (2 ^ length cs) && not (eqb l.map 0))) else not (p.mine l.id))
              → T (if a then p.mine l.id && (named (holds p) (minus (length cs) l.map f) (change freed f cs) && (ltb (minus (length cs) l.map f) (2 ^ length (change freed f cs)) && not (eqb (minus (length cs) l.map f) 0))) else not (p.mine l.id))
          go true v =
              let r = ltb l.map (2 ^ length cs) && not (eqb l.map 0) in
              and_both (p.mine l.id) _ (and_left (p.mine l.id) (named (holds p) l.map cs && r) v)
              (and_both (named (holds p) (minus (length cs) l.map f) (change freed f cs)) _
              (named-minus l.map f cs (and_left (named (holds p) l.map cs) r (and_right (p.mine l.id) (named (holds p) l.map cs && r) v)))
              (and_both (ltb (minus (length cs) l.map f) (2 ^ length (change freed f cs))) (not (eqb (minus (length cs) l.map f) 0))
              (rw (length-change freed f cs) (lt→ltb (minus (length cs) l.map f) (2 ^ length cs) (minus_lt (length cs) l.map f))) (unfold is_empty in e)))
          go false v = v

  waiter_ok : (f : ℕ) (cs : List Channel) (l : Lock) → T (not (meets (length cs) f l.map)) → T (own_lock p cs l) → T (own_lock p (change freed f cs) l)
  unfolding own_lock lock_fits
  waiter_ok f cs l u t = go (eqb l.key p.key) t
    where
      r : Bool
      r = ltb l.map (2 ^ length cs) && not (eqb l.map 0)

      go : (b : Bool) → T (if b then p.mine l.id && (named (holds p) l.map cs && r) else not (p.mine l.id))
          → T (if b then p.mine l.id && (named (holds p) l.map (change freed f cs) && (ltb l.map (2 ^ length (change freed f cs)) && not (eqb l.map 0))) else not (p.mine l.id))
      go true v =
          let w = and_right (p.mine l.id) (named (holds p) l.map cs && r) v in
          rw (length-change freed f cs)
          (and_both (p.mine l.id) (named (holds p) l.map (change freed f cs) && r) (and_left (p.mine l.id) (named (holds p) l.map cs && r) v)
          (and_both (named (holds p) l.map (change freed f cs)) r (named_away freed (holds p) l.map f cs u (and_left (named (holds p) l.map cs) r w)) (and_right (named (holds p) l.map cs) r w)))
      go false v = v

  waiters_ok_lem : (f : ℕ) (s : State) → Loop p s → T (all (own_lock p (change freed f s.channels)) (cut f s).waiters)
  unfolding cut on_channels
  waiters_ok_lem f s lp =
      all_kept (λ w. not (on_channels (length s.channels) f w)) (own_lock p s.channels) (own_lock p (change freed f s.channels)) (waiter_ok f s.channels) s.waiters lp.waiters_ok

  fit_freed : (m : ℕ) (cs : List Channel) → T (all (fitting p) cs) → T (all (fitting p) (change freed m cs))
  unfolding all change
  fit_freed m [] t = tt
  fit_freed m (c ∷ cs) t =
      and_both (fitting p (if odd m then free else c)) (all (fitting p) (change freed (half m) cs))
      (if_elim (λ (d : Channel). T (fitting p d)) (odd m) (λ _. unfold fitting all in rw (test_false (holds p free) (free_away p real)) tt) (λ _. and_left (fitting p c) (all (fitting p) cs) t))
      (fit_freed (half m) cs (and_right (fitting p c) (all (fitting p) cs) t))

  pub free_own : (c : Call) (s : State) → c.key ≡ p.key → T (p.mine c.id) → Loop p s → do_free c (project p s) ≡ project_out p (do_free c s)
  unfolding do_free each project freeing freeing_replies cut
  free_own c s k m lp =
      rw (matching-mask p real c.key k c.map s.channels, mismatch-mask p real c.key k c.map s.channels, length-map s.channels (mask p))
      (finished_own p real 9 c _ _ _ _ _ m
      (own_append_both p real (dropped f s) _ _ _ (dropped_own p real f s (matching_own p real c.key k c.map s.channels) lp.fit lp.waiters_ok) (ended_own (length s.channels) f s.channels s.locks lp.locks_ok))
      (state_path p real (change-freed f s.channels) (locks_cut (length s.channels) f (λ l. not (is_empty l)) s.locks) waits))
    where
      f : ℕ
      f = matching c.key c.map s.channels

      waits : keep (λ w. not (on_channels (length s.channels) f w)) (own_locks p s.waiters) ≡ own_locks p (keep (λ w. not (on_channels (length s.channels) f w)) s.waiters)
      waits = unfold own_locks in keep_swap (λ w. not (on_channels (length s.channels) f w)) (λ (w : Lock). eqb w.key p.key) s.waiters

  pub free_loop : (c : Call) (s : State) → Loop p s → Loop p (do_free c s).next
  unfolding do_free each finished freeing cut
  free_loop c s lp =
      let f = matching c.key c.map s.channels in
      record {
        real = lp.real;
        entered = lp.entered;
        fit = fit_freed f s.channels lp.fit;
        locks_ok = locks_ok_lem f s.channels s.locks lp.locks_ok;
        waiters_ok = waiters_ok_lem f s lp;
        low = lp.low;
        few = rw (length-change freed f s.channels) lp.few;
      }
