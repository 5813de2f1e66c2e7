-- Each command, OPEN and CLOSE on desk d's part is the same on the state, as far as desk d sees. Assumes, where it is said, that the
-- call's key is on no channel with a write that is not desk d's (`clear`), and that no queue has writes of both desks (`pure`).
use Prim.Native.Nat.{ℕ}
use mathlib.Core.Path.{◌≡◌, refl, ap, sym, ◌∙◌}
use mathlib.Core.Bool.{Bool, true, false, not, ◌&&◌, ◌||◌}
use mathlib.Core.List.{List, [], ◌∷◌, ◌++◌, map, map-map, map-append}
use lib.Dec.{T, eqb}
use lib.ListN.{length, length-map, take}
use Rattle.machine_laws.specs.machine.Numbers.{synced, nowait, NONE, CMD_READ, CMD_WRITE, ADCMD_FREE, ADCMD_FINISH, ADCMD_PERVOL, ADCMD_LOCK, ADCMD_WAITCYCLE, ADCMD_ALLOCATE}
use Rattle.std.specs.Prelude.{if◌then◌else◌}
use Rattle.machine_laws.specs.machine.Lists.{any, all, keep}
use Rattle.machine_laws.specs.machine.State.{Write, Channel, Lock, State, Reply, Outcome, Call, with_channels, with_opens}
use Rattle.machine_laws.specs.machine.Desks.{front_for, replies_to}
use Rattle.machine_laws.specs.machine.Maps.{odd, half, bit, lowest, change, at}
use Rattle.machine_laws.specs.machine.Choosing.{Look, fails, held, grants, look}
use Rattle.machine_laws.specs.machine.Granting.{aborted, aborted_in, on_channels, cut, dropped}
use Rattle.machine_laws.specs.machine.Commands.{matches, matching, mismatch, done, freed, set_lock, set_writes, cleared, is_empty, ended, freeing, freeing_replies, each, each_change, do_free, do_lock, back, playing, do_read, period_in, volume_in, write_of, do_write, do_waitcycle, in_progress, front_only, front_gone, on_first, on_front, set_tone, remember_tone, remember_finish, do_finish, do_pervol, closed, owned, do_close}
use Rattle.machine_laws.specs.machine.Allocating.{waits, allocating, do_allocate, opening, do_open}
use Rattle.machine_laws.proofs.machine.Tests.{and_left, and_right, nor_left, nor_right, test_true, test_false}
use Rattle.machine_laws.proofs.Lists.{keep_append, keep_each, keep_none}
use Rattle.machine_laws.proofs.Maps.{odd-bit, half-bit}
use Rattle.one_desk.specs.OneDesk.{of_desk, bare, mine, mask, own_locks, part, under}
use Rattle.one_desk.proofs.Lists.{keep_map}
use Rattle.one_desk.proofs.Part.{to, Sees, to_append, mine_twice, mask_twice, length_part, matching_part, mismatch_part, owned_part, at_part, look_part, key_for_part, own_twice, own_keep, to_own, cut_replies_part, dropped_part, change_on, change_part, granted_part, finished_sees, silent_sees, part_twice}

-- ---- queues of one desk

abbrev pub whole : ℕ → List Write → Bool
whole d ws = all (λ w. of_desk d w.id) ws

-- all of it is desk d's, or nothing is
abbrev pub pure : ℕ → Channel → Bool
pure d c = whole d c.writes || all (λ w. not (of_desk d w.id)) c.writes

module _ (d : ℕ) where
  pub mine_whole : (ws : List Write) → T (whole d ws) → mine d ws ≡ map bare ws
  unfolding mine
  mine_whole ws t = ap (map bare) (keep_each (λ w. of_desk d w.id) ws t)

  pub mine_none : (ws : List Write) → T (all (λ w. not (of_desk d w.id)) ws) → mine d ws ≡ []
  unfolding mine
  mine_none ws t = ap (map bare) (keep_none (λ w. of_desk d w.id) ws t)

  pub pure_elim {ℓ} : {A : Type ℓ} (c : Channel) → T (pure d c) → (T (whole d c.writes) → A) → (T (all (λ w. not (of_desk d w.id)) c.writes) → A) → A
  pure_elim {A} c t f g = go (whole d c.writes) (all (λ w. not (of_desk d w.id)) c.writes) t f g
    where
      go : (a b : Bool) → T (a || b) → (T a → A) → (T b → A) → A
      go true b u f g = f tt
      go false b u f g = g u

  none_theirs : (ws : List Write) → T (not (any (λ w. not (of_desk d w.id)) ws)) → T (whole d ws)
  unfolding any all
  none_theirs [] t = tt
  none_theirs (w ∷ ws) t = go (of_desk d w.id) (none_theirs ws) t
    where
      go : (b : Bool) → (T (not (any (λ w. not (of_desk d w.id)) ws)) → T (whole d ws)) → T (not (not b || any (λ w. not (of_desk d w.id)) ws)) → T (b && whole d ws)
      go true ih u = ih u
      go false ih u = absurd u

  -- the channel in front, under a key that no other desk's write is under
  front_whole : (k : ℕ) (c : Channel) (cs : List Channel) → T (not (under (λ w. not (of_desk d w.id)) k (c ∷ cs))) → T (matches k c) → T (whole d c.writes)
  unfolding under any matches
  front_whole k c cs t m =
      let q : Write → Bool = λ w. not (of_desk d w.id) in
      none_theirs c.writes
      (rw (test_true (eqb c.key k) (and_right (not (eqb k 0)) (eqb c.key k) m)) at
      (nor_left (eqb c.key k && any q c.writes) (any (λ e. eqb e.key k && any q e.writes) cs) t))

  rest-clear : (k : ℕ) (c : Channel) (cs : List Channel) → T (not (under (λ w. not (of_desk d w.id)) k (c ∷ cs))) → T (not (under (λ w. not (of_desk d w.id)) k cs))
  unfolding under any
  rest-clear k c cs t =
      let q : Write → Bool = λ w. not (of_desk d w.id) in
      nor_right (eqb c.key k && any q c.writes) (any (λ e. eqb e.key k && any q e.writes) cs) t

  at_whole : (k m : ℕ) (cs : List Channel) → T (not (under (λ w. not (of_desk d w.id)) k cs)) → T (matches k (at m cs)) → T (whole d (at m cs).writes)
  unfolding at
  at_whole k m [] t u = unfold all in tt
  at_whole k m (c ∷ cs) t u = go (odd m) (front_whole k c cs t) (at_whole k (half m) cs (rest-clear k c cs t)) u
    where
      go : (b : Bool) → (T (matches k c) → T (whole d c.writes)) → (T (matches k (at (half m) cs)) → T (whole d (at (half m) cs).writes))
          → T (matches k (if b then c else at (half m) cs)) → T (whole d (if b then c else at (half m) cs).writes)
      go true x y v = x v
      go false x y v = y v

  playing_whole : (c : Channel) → T (whole d c.writes) → playing (mask d c) ≡ playing c
  unfolding playing
  playing_whole c t = rw (mine_whole c.writes t, length-map c.writes bare)

  sees_if : (b : Bool) (x y x' y' : Outcome) → (T b → Sees d x x') → (T (not b) → Sees d y y') → Sees d (if b then x else y) (if b then x' else y')
  sees_if true x y x' y' f g = f tt
  sees_if false x y x' y' f g = g tt

  -- ---- a command over the channels that match

  each_sees : (n : ℕ) (c : Call) (xs ys : List Reply) (u v s : State) → to d xs ≡ to d ys → part d u ≡ part d v → Sees d (each n c xs u (part d s)) (each n c ys v s)
  unfolding each
  each_sees n c xs ys u v s p q =
      rw (matching_part d c.key c.map s.channels, mismatch_part d c.key c.map s.channels)
      (finished_sees d n c _ _ xs ys u v refl p q)

  pub each_change_part : (n : ℕ) (f : Channel → Channel) → ((c : Channel) → mask d (f (mask d c)) ≡ mask d (f c)) → (b : Bool) (c : Call) (s : State)
      → Sees d (each_change n f b c (part d s)) (each_change n f b c s)
  unfolding each_change
  each_change_part n f e b c s =
      rw (matching_part d c.key c.map s.channels) (go b (matching c.key c.map s.channels))
    where
      go : (b : Bool) (m : ℕ)
          → Sees d (each n c (if b then dropped m (part d s) else []) (with_channels (change f m (map (mask d) s.channels)) (if b then cut m (part d s) else part d s)) (part d s))
          (each n c (if b then dropped m s else []) (with_channels (change f m s.channels) (if b then cut m s else s)) s)
      go true m =
          each_sees n c _ _ _ _ s (dropped_part d m s)
          (unfold cut in simp (change_part d f f e m s.channels, length_part d s.channels, own_twice d s.locks, own_keep d (λ w. not (on_channels (length s.channels) m w)) s.waiters))
      go false m =
          each_sees n c _ _ _ _ s refl (simp (change_part d f f e m s.channels, own_twice d s.locks, own_twice d s.waiters))

  -- ---- freeing

  own_cleared : (n f : ℕ) (ls : List Lock) → cleared n f (own_locks d ls) ≡ own_locks d (cleared n f ls)
  unfolding cleared own_locks
  own_cleared n f ls = sym (keep_map (λ l. of_desk d l.id) (λ l. of_desk d l.id) _ (λ _. refl) ls)

  freeing_part : (f : ℕ) (s : State) → part d (freeing f (part d s)) ≡ part d (freeing f s)
  unfolding freeing cut
  freeing_part f s =
      let n = length s.channels in
      simp (
        length_part d s.channels,
        own_cleared n f s.locks,
        own_keep d (λ l. not (is_empty l)) (cleared n f s.locks),
        own_keep d (λ w. not (on_channels n f w)) s.waiters,
        change_part d freed freed (λ _. refl) f s.channels,
      )

  freeing_replies_part : (f : ℕ) (s : State) → to d (freeing_replies f (part d s)) ≡ to d (freeing_replies f s)
  unfolding freeing_replies
  freeing_replies_part f s =
      let n = length s.channels in
      simp (length_part d s.channels, own_cleared n f s.locks)
      (to_append d _ _ _ _ (dropped_part d f s) (to_own d (ended 0) (λ l. unfold ended in refl) is_empty (cleared n f s.locks)))

  pub do_free_part : (c : Call) (s : State) → Sees d (do_free c (part d s)) (do_free c s)
  unfolding do_free
  do_free_part c s =
      let m = matching c.key c.map s.channels in
      rw (matching_part d c.key c.map s.channels) (each_sees ADCMD_FREE c _ _ _ _ s (freeing_replies_part m s) (freeing_part m s))

  pub do_close_part : (c : Call) (s : State) → Sees d (do_close c (part d s)) (do_close c s)
  unfolding do_close
  do_close_part c s =
      let m = owned c.key s.channels in
      rw (owned_part d c.key s.channels)
      (silent_sees d _ _ _ _ _ _ refl (freeing_replies_part m s) (ap (λ (u : State). with_opens (closed c.key s.opens) u) (freeing_part m s)))

  -- ---- LOCK, READ, WRITE, WAITCYCLE

  own_joined : (ls : List Lock) (l : Lock) → own_locks d (own_locks d ls ++ l ∷ []) ≡ own_locks d (ls ++ l ∷ [])
  unfolding own_locks
  own_joined ls l =
      let q : Lock → Bool = λ k. of_desk d k.id in
      keep_append q (keep q ls) (l ∷ []) ∙ ap (λ (xs : List Lock). xs ++ keep q (l ∷ [])) (unfold own_locks in own_twice d ls) ∙ sym (keep_append q ls (l ∷ []))

  pub do_lock_part : (c : Call) (s : State) → Sees d (do_lock c (part d s)) (do_lock c s)
  unfolding do_lock
  do_lock_part c s =
      let l : Lock = record { id = c.id; key = c.key; map = c.map } in
      rw (mismatch_part d c.key c.map s.channels)
      (sees_if (mismatch c.key c.map s.channels) _ _ _ _
      (λ _. finished_sees d ADCMD_LOCK c _ _ _ _ _ _ refl refl (part_twice d s))
      (λ _. sees_if (eqb c.map 0) _ _ _ _
      (λ _. finished_sees d ADCMD_LOCK c _ _ _ _ _ _ refl refl (part_twice d s))
      (λ _. silent_sees d _ _ _ _ _ _ refl refl
      (rw (change_part d set_lock set_lock (λ x. rw (mine_twice d x.writes)) c.map s.channels, own_joined s.locks l, own_twice d s.waiters)))))

  front_for-bare : (e : ℕ) (ws : List Write) → front_for e (map bare ws) ≡ front_for e ws
  unfolding front_for
  front_for-bare e [] = refl
  front_for-bare e (w ∷ ws) = refl

  pub do_read_part : (c : Call) (s : State) → T (not (under (λ w. not (of_desk d w.id)) c.key s.channels)) → Sees d (do_read c (part d s)) (do_read c s)
  unfolding do_read matches
  do_read_part c s t =
      let m = lowest (length s.channels) c.map in
      let h = at m s.channels in
      rw (length_part d s.channels, at_part d m s.channels)
      (sees_if (matches c.key h) _ _ _ _
      (λ u. finished_sees d CMD_READ c _ _ _ _ _ _
      (rw (mine_whole h.writes (at_whole c.key m s.channels t u), front_for-bare c.desk h.writes)) refl (part_twice d s))
      (λ _. finished_sees d CMD_READ c _ _ _ _ _ _ refl refl (part_twice d s)))

  mine-append : (xs ys : List Write) → mine d (xs ++ ys) ≡ mine d xs ++ mine d ys
  unfolding mine
  mine-append xs ys = let q : Write → Bool = λ w. of_desk d w.id in ap (map bare) (keep_append q xs ys) ∙ map-append bare (keep q xs) (keep q ys)

  mine-joined : (ws : List Write) (w : Write) → mine d (mine d ws ++ w ∷ []) ≡ mine d (ws ++ w ∷ [])
  mine-joined ws w = rw (mine-append (mine d ws) (w ∷ []), mine_twice d ws, mine-append ws (w ∷ []))

  pub do_write_part : (c : Call) (s : State) → Sees d (do_write c (part d s)) (do_write c s)
  unfolding do_write matches
  do_write_part c s =
      let m = lowest (length s.channels) c.map in
      let h = at m s.channels in
      rw (length_part d s.channels, at_part d m s.channels)
      (sees_if (matches c.key h) _ _ _ _
      (λ _. silent_sees d _ _ _ _ _ _ refl refl
      (rw (
        change_part d (set_writes (mine d h.writes ++ write_of c ∷ [])) (set_writes (h.writes ++ write_of c ∷ []))
            (λ x. simp (mine-joined h.writes (write_of c))) m s.channels,
        own_twice d s.locks,
        own_twice d s.waiters,
      )))
      (λ _. finished_sees d CMD_WRITE c _ _ _ _ _ _ refl refl (part_twice d s)))

  pub do_waitcycle_part : (c : Call) (s : State) → T (not (under (λ w. not (of_desk d w.id)) c.key s.channels)) → Sees d (do_waitcycle c (part d s)) (do_waitcycle c s)
  unfolding do_waitcycle matches
  do_waitcycle_part c s t =
      let m = lowest (length s.channels) c.map in
      let h = at m s.channels in
      rw (length_part d s.channels, at_part d m s.channels)
      (sees_if (not (matches c.key h)) _ _ _ _
      (λ _. finished_sees d ADCMD_WAITCYCLE c _ _ _ _ _ _ refl refl (part_twice d s))
      (λ u. rw (playing_whole h (at_whole c.key m s.channels t (not_not (matches c.key h) u)))
      (sees_if (playing h) _ _ _ _
      (λ _. silent_sees d _ _ _ _ _ _ refl refl
      (simp (mask_twice d s.channels, own_twice d s.locks, own_joined s.waiters (record { id = c.id; key = c.key; map = m }))))
      (λ _. finished_sees d ADCMD_WAITCYCLE c _ _ _ _ _ _ refl refl (part_twice d s)))))
    where
      not_not : (b : Bool) → T (not (not b)) → T b
      not_not true u = tt
      not_not false u = u

  -- ---- FINISH and PERVOL

  -- what changes of a write and leaves its id, desk d does not see
  mine_first : (f : Write → Write) → ((w : Write) → bare (f w) ≡ bare w) → (ws : List Write) → mine d (on_first f ws) ≡ mine d ws
  unfolding mine keep on_first
  mine_first f e [] = refl
  mine_first f e (w ∷ ws) =
      let xs = keep (λ (v : Write). of_desk d v.id) ws in
      ap (λ (j : ℕ). map bare (if of_desk d j then f w ∷ xs else xs)) (ap (λ (v : Write). v.id) (e w)) ∙ go (of_desk d w.id) xs
    where
      go : (b : Bool) (xs : List Write) → map bare (if b then f w ∷ xs else xs) ≡ map bare (if b then w ∷ xs else xs)
      go true xs = λ i. e w i ∷ map bare xs
      go false xs = refl

  front_unseen : (f : Write → Write) → ((w : Write) → bare (f w) ≡ bare w) → (c : Channel) → mask d (on_front f c) ≡ mask d c
  unfolding on_front
  front_unseen f e c = go (playing c)
    where
      go : (b : Bool) → mask d (if b then set_writes (on_first f c.writes) c else c) ≡ mask d c
      go true = rw (mine_first f e c.writes)
      go false = refl

  on_front_part : (f : Write → Write) → ((w : Write) → bare (f w) ≡ bare w) → (c : Channel) → mask d (on_front f (mask d c)) ≡ mask d (on_front f c)
  on_front_part f e c = front_unseen f e (mask d c) ∙ (rw (mine_twice d c.writes)) ∙ sym (front_unseen f e c)

  pub do_pervol_part : (c : Call) (s : State) → Sees d (do_pervol c (part d s)) (do_pervol c s)
  unfolding do_pervol
  do_pervol_part c s = each_change_part ADCMD_PERVOL _ (on_front_part (tone (synced c.flags)) (is (synced c.flags))) false c s
    where
      tone : Bool → Write → Write
      tone b = if b then remember_tone (period_in c.combos) (volume_in c.combos) else set_tone (period_in c.combos) (volume_in c.combos)

      is : (b : Bool) (w : Write) → bare (tone b w) ≡ bare w
      is true w = refl
      is false w = refl

  in_progress_part : (k m : ℕ) (cs : List Channel) → T (not (under (λ w. not (of_desk d w.id)) k cs))
      → in_progress (matching k m (map (mask d) cs)) (map (mask d) cs) ≡ in_progress (matching k m cs) cs
  unfolding in_progress matching matches
  in_progress_part k m [] t = refl
  in_progress_part k m (c ∷ cs) t =
      let b = odd m && matches k c in
      let x' = matching k (half m) (map (mask d) cs) in
      let x = matching k (half m) cs in
      rw (odd-bit b x', half-bit b x', odd-bit b x, half-bit b x)
      (λ i. bit (go (odd m) (matches k c) (λ u. playing_whole c (front_whole k c cs t u)) i) (in_progress_part k (half m) cs (rest-clear k c cs t) i))
    where
      go : (a b : Bool) → (T b → playing (mask d c) ≡ playing c) → (a && b) && playing (mask d c) ≡ (a && b) && playing c
      go true true e = e tt
      go true false e = refl
      go false b e = refl

  back_bare : (ws : List Write) → back (map bare ws) ≡ map bare (back ws)
  unfolding back
  back_bare [] = refl
  back_bare (w ∷ ws) = refl

  pub mine-bare : (ws : List Write) → mine d (map bare ws) ≡ mine d ws
  unfolding mine
  mine-bare ws =
      let q : Write → Bool = λ w. of_desk d w.id in
      ap (map bare) (keep_map q q bare (λ _. refl) ws) ∙ map-map bare bare (keep q ws)

  back_all : (q : Write → Bool) (ws : List Write) → T (all q ws) → T (all q (back ws))
  unfolding back all
  back_all q [] t = tt
  back_all q (w ∷ ws) t = and_right (q w) (all q ws) t

  mine_back : (c : Channel) → T (pure d c) → mine d (back (mine d c.writes)) ≡ mine d (back c.writes)
  mine_back c t =
      let ws = c.writes in
      pure_elim c t
      (λ u. rw (mine_whole ws u, back_bare ws) (mine-bare (back ws)))
      (λ u. rw (mine_none ws u, mine_none (back ws) (back_all (λ w. not (of_desk d w.id)) ws u)) (unfold mine back keep in refl))

  gone_part : (c : Channel) → T (pure d c) → mask d (front_gone (mask d c)) ≡ mask d (front_gone c)
  gone_part c t = ap (λ (ws : List Write). set_writes ws c) (mine_back c t)

  first_bare : (k : ℕ) (ws : List Write) → aborted k (take 1 (map bare ws)) ≡ aborted k (take 1 ws)
  unfolding aborted
  first_bare k [] = refl
  first_bare k (w ∷ ws) = refl

  first_none : (k : ℕ) (ws : List Write) → T (all (λ w. not (of_desk d w.id)) ws) → to d (aborted k (take 1 ws)) ≡ []
  unfolding aborted all replies_to keep
  first_none k [] t = refl
  first_none k (w ∷ ws) t = rw (test_false (of_desk d w.id) (and_left (not (of_desk d w.id)) (all (λ v. not (of_desk d v.id)) ws) t))

  first_part : (c : Channel) → T (pure d c) → to d (aborted c.key (take 1 (mine d c.writes))) ≡ to d (aborted c.key (take 1 c.writes))
  first_part c t =
      let ws = c.writes in
      pure_elim c t
      (λ u. rw (mine_whole ws u, first_bare c.key ws))
      (λ u. rw (mine_none ws u, first_none c.key ws u, first_none c.key [] (unfold all in tt)))

  firsts_part : (m : ℕ) (cs : List Channel) → T (all (pure d) cs) → to d (aborted_in m (map front_only (map (mask d) cs))) ≡ to d (aborted_in m (map front_only cs))
  unfolding aborted_in all
  firsts_part m [] t = refl
  firsts_part m (c ∷ cs) t =
      to_append d _ _ _ _ (go (odd m) (first_part c (and_left (pure d c) (all (pure d) cs) t)))
      (firsts_part (half m) cs (and_right (pure d c) (all (pure d) cs) t))
    where
      go : (b : Bool) → to d (aborted c.key (take 1 (mine d c.writes))) ≡ to d (aborted c.key (take 1 c.writes))
          → to d (if b then aborted c.key (take 1 (mine d c.writes)) else []) ≡ to d (if b then aborted c.key (take 1 c.writes) else [])
      go true e = e
      go false e = refl

  pub do_finish_part : (c : Call) (s : State) → T (not (under (λ w. not (of_desk d w.id)) c.key s.channels)) → T (all (pure d) s.channels) → Sees d (do_finish c (part d s)) (do_finish c s)
  unfolding do_finish
  do_finish_part c s t u =
      let m = in_progress (matching c.key c.map s.channels) s.channels in
      sees_if (synced c.flags) _ _ _ _
      (λ _. each_change_part ADCMD_FINISH (on_front remember_finish) (on_front_part remember_finish (λ w. refl)) false c s)
      (λ _. rw (in_progress_part c.key c.map s.channels t)
      (each_sees ADCMD_FINISH c _ _ _ _ s (to_append d _ _ _ _ (firsts_part m s.channels u) (cut_replies_part d m s))
      (unfold cut in simp (
        change_on d (pure d) front_gone front_gone gone_part m s.channels u,
        length_part d s.channels,
        own_twice d s.locks,
        own_keep d (λ w. not (on_channels (length s.channels) m w)) s.waiters,
      ))))

  -- ---- ALLOCATE and OPEN

  waits_part : (c : Call) (s : State) → Sees d (waits c (part d s)) (waits c s)
  unfolding waits
  waits_part c s = silent_sees d _ _ _ _ _ _ refl refl (simp (mask_twice d s.channels, own_twice d s.locks, own_twice d s.waiters))

  allocating_part : (l : Look) (c : Call) (s : State) → Sees d (allocating l c (part d s)) (allocating l c s)
  unfolding allocating
  allocating_part fails c s =
      sees_if (nowait c.flags) _ _ _ _
      (λ _. finished_sees d ADCMD_ALLOCATE c _ _ _ _ _ _ refl refl (part_twice d s)) (λ _. waits_part c s)
  allocating_part (held m) c s = waits_part c s
  allocating_part (grants m) c s =
      finished_sees d ADCMD_ALLOCATE c _ _ _ _ _ _ (ap (λ (k : ℕ). done 0 m k NONE) (key_for_part d c.key s)) (dropped_part d m s) (granted_part d m c.key c.prec s)

  pub do_allocate_part : (c : Call) (s : State) → Sees d (do_allocate c (part d s)) (do_allocate c s)
  unfolding do_allocate
  do_allocate_part c s = rw (look_part d c.prec c.combos s.channels) (allocating_part (look c.prec c.combos s.channels) c s)

  opening_part : (l : Look) (c : Call) (s : State) → Sees d (opening l c (part d s)) (opening l c s)
  unfolding opening
  opening_part fails c s = silent_sees d _ _ _ _ _ _ refl refl (part_twice d s)
  opening_part (held m) c s = silent_sees d _ _ _ _ _ _ refl refl (part_twice d s)
  opening_part (grants m) c s =
      silent_sees d _ _ _ _ _ _ (ap (λ (k : ℕ). done 0 m k NONE) (key_for_part d c.key s)) (dropped_part d m s)
      (λ i. with_opens (s.opens ++ key_for_part d c.key s i ∷ []) (granted_part d m c.key c.prec s i))

  pub do_open_part : (c : Call) (s : State) → Sees d (do_open c (part d s)) (do_open c s)
  unfolding do_open
  do_open_part c s = rw (look_part d c.prec c.combos s.channels) (opening_part (look c.prec c.combos s.channels) c s)
