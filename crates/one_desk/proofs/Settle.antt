-- Settling of desk d's part is settling of the state, as far as desk d sees. Assumes nothing.
use Prim.Native.Nat.{ℕ, zero, suc}
use mathlib.Core.Path.{◌≡◌, refl, ap, sym, subst}
use mathlib.Core.Bool.{Bool, true, false, not}
use mathlib.Core.List.{List, [], ◌∷◌, map}
use lib.Dec.{eqb}
use lib.ListN.{length}
use Rattle.machine_laws.specs.machine.Numbers.{ALLOCFAILED, CHANNELSTOLEN}
use Rattle.std.specs.Prelude.{if◌then◌else◌}
use Rattle.machine_laws.specs.machine.Lists.{keep}
use Rattle.machine_laws.specs.machine.State.{Channel, Lock, Request, State, Reply, Answer, Outcome}
use Rattle.machine_laws.specs.machine.Maps.{meets}
use Rattle.machine_laws.specs.machine.Choosing.{Look, fails, held, grants, look}
use Rattle.machine_laws.specs.machine.Granting.{key_for, granted}
use Rattle.machine_laws.specs.machine.Commands.{ended}
use Rattle.machine_laws.specs.machine.Settling.{Found, nobody, somebody, Walk, Settled, replied, staying, saying, on_look, walk, walked, go_on, rounds, settle}
use Rattle.machine_laws.specs.machine.Call.{settling, open_settling}
use Rattle.machine_laws.proofs.Lists.{keep_swap}
use Rattle.one_desk.specs.OneDesk.{of_desk, mask, own_locks, part}
use Rattle.one_desk.proofs.Part.{to, Sees, through, to_append, mask_twice, length_part, look_part, key_for_part, own_twice, to_own, dropped_part, granted_part, part_twice}

module _ (d : ℕ) where
  -- ---- a walk

  record SeesWalk (v w : Walk) : Type 0 where
    found : v.found ≡ w.found
    waiting : v.waiting ≡ w.waiting
    locks : own_locks d v.locks ≡ own_locks d w.locks
    replies : to d v.replies ≡ to d w.replies

  said : (xs ys : List Reply) (v w : Walk) → to d xs ≡ to d ys → SeesWalk v w → SeesWalk (saying xs v) (saying ys w)
  unfolding saying
  said xs ys v w e h =
      record { found = h.found; waiting = h.waiting; locks = h.locks; replies = to_append d _ _ _ _ e h.replies }

  stayed : (r : Request) (v w : Walk) → SeesWalk v w → SeesWalk (staying r v) (staying r w)
  unfolding staying
  stayed r v w h =
      record { found = h.found; waiting = ap (λ (l : List Request). r ∷ l) h.waiting; locks = h.locks; replies = h.replies }

  on_look_part : (n : ℕ) (l : Look) (r : Request) (rs : List Request) (ls : List Lock) (f g : List Lock → Walk) → ((ks : List Lock) → SeesWalk (f (own_locks d ks)) (g ks))
      → SeesWalk (on_look n l r rs (own_locks d ls) f) (on_look n l r rs ls g)
  unfolding on_look
  on_look_part n fails r rs ls f g h = go r.impatient
    where
      go : (b : Bool)
          → SeesWalk (if b then saying (replied ALLOCFAILED 0 r.key r ∷ []) (f (own_locks d ls)) else staying r (f (own_locks d ls)))
          (if b then saying (replied ALLOCFAILED 0 r.key r ∷ []) (g ls) else staying r (g ls))
      go true = said _ _ _ _ refl (h ls)
      go false = stayed r _ _ (h ls)
  on_look_part n (held m) r rs ls f g h =
      said _ _ _ _ (to_own d (ended CHANNELSTOLEN) (λ l. unfold ended in refl) (λ l. meets n m l.map) ls)
      (stayed r _ _ (rw (swapped (λ l. not (meets n m l.map)) ls) (h (keep (λ l. not (meets n m l.map)) ls))))
    where
      swapped : (p : Lock → Bool) (ks : List Lock) → keep p (own_locks d ks) ≡ own_locks d (keep p ks)
      swapped p ks = unfold own_locks in keep_swap p (λ l. of_desk d l.id) ks
  on_look_part n (grants m) r rs ls f g h = record { found = refl; waiting = refl; locks = own_twice d ls; replies = refl }

  walk_part : (cs : List Channel) (rs : List Request) (ls : List Lock) → SeesWalk (walk (map (mask d) cs) rs (own_locks d ls)) (walk cs rs ls)
  unfolding walk
  walk_part cs [] ls = record { found = refl; waiting = refl; locks = own_twice d ls; replies = refl }
  walk_part cs (r ∷ rs) ls =
      rw (length_part d cs, look_part d r.prec r.combos cs)
      (on_look_part (length cs) (look r.prec r.combos cs) r rs ls (walk (map (mask d) cs) rs) (walk cs rs) (walk_part cs rs))

  -- ---- walks until one makes no grant

  record SeesSettled (v w : Settled) : Type 0 where
    state : part d v.state ≡ part d w.state
    replies : to d v.replies ≡ to d w.replies

  walked_part : (v w : Walk) (s : State) → SeesWalk v w → part d (walked v (part d s)) ≡ part d (walked w s)
  unfolding walked
  walked_part v w s h = rw (mask_twice d s.channels, own_twice d s.waiters, h.locks, h.waiting)

  Parted : (State → Settled) → Type 0
  Parted f = (s t : State) → part d s ≡ part d t → SeesSettled (f s) (f t)

  go_on_part : (x : Found) (v w : Walk) (s : State) (f : State → Settled) → SeesWalk v w → Parted f → SeesSettled (go_on x v (part d s) f) (go_on x w s f)
  unfolding go_on Parted
  go_on_part nobody v w s f h g = record { state = walked_part v w s h; replies = h.replies }
  go_on_part (somebody r m) v w s f h g =
      let a = walked_part v w s h in
      let k = through d (key_for r.key) (key_for_part d r.key) (walked v (part d s)) (walked w s) a in
      let e = through d (λ u. part d (granted m r.key r.prec u)) (granted_part d m r.key r.prec) (walked v (part d s)) (walked w s) a in
      let z = g (granted m r.key r.prec (walked v (part d s))) (granted m r.key r.prec (walked w s)) e in
      record {
        state = z.state;
        replies =
            to_append d _ _ _ _ (to_append d _ _ _ _ h.replies (dropped_part d m s))
            (to_append d (replied 0 m (key_for r.key (walked v (part d s))) r ∷ []) (replied 0 m (key_for r.key (walked w s)) r ∷ []) _ _
            (ap (λ (i : ℕ). to d (replied 0 m i r ∷ [])) k) z.replies);
      }

  parted : (f : State → Settled) → ((s : State) → SeesSettled (f (part d s)) (f s)) → Parted f
  unfolding Parted
  parted f h s t e =
      record {
        state = through d (λ u. part d (f u).state) (λ u. (h u).state) s t e;
        replies = through d (λ u. to d (f u).replies) (λ u. (h u).replies) s t e;
      }

  rounds_part : (n : ℕ) (s : State) → SeesSettled (rounds n (part d s)) (rounds n s)
  unfolding rounds
  rounds_part zero s = record { state = part_twice d s; replies = refl }
  rounds_part (suc n) s =
      let v = walk (map (mask d) s.channels) s.waiting (own_locks d s.locks) in
      let w = walk s.channels s.waiting s.locks in
      let h = walk_part s.channels s.waiting s.locks in
      subst (λ (x : Found). SeesSettled (go_on x v (part d s) (rounds n)) (go_on w.found w s (rounds n))) (sym h.found)
      (go_on_part w.found v w s (rounds n) h (parted (rounds n) (rounds_part n)))

  settle_part : (s t : State) → part d s ≡ part d t → SeesSettled (settle s) (settle t)
  unfolding settle Parted
  settle_part s t e = parted settle (λ u. rounds_part (suc (length u.waiting)) u) s t e

  -- ---- an outcome followed by settling

  pub settling_sees : (o p : Outcome) → Sees d o p → Sees d (settling o) (settling p)
  unfolding settling
  settling_sees o p h =
      let z = settle_part o.next p.next h.next in
      record { answer = h.answer; replies = to_append d _ _ _ _ h.replies z.replies; next = z.state }

  pub open_settling_sees : (o p : Outcome) → Sees d o p → Sees d (open_settling o) (open_settling p)
  unfolding open_settling
  open_settling_sees o p h =
      subst (λ (a : Answer). Sees d (open_settling o) (if eqb a.error ALLOCFAILED then p else settling p)) h.answer (go (eqb o.answer.error ALLOCFAILED))
    where
      go : (b : Bool) → Sees d (if b then o else settling o) (if b then p else settling p)
      go true = h
      go false = settling_sees o p h
