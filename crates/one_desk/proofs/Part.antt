-- What desk d sees of a state, and how far the parts of the machine that read and change a state keep to it. Assumes nothing.
--
--   to               the replies in its half
--   Sees o p         two outcomes with one answer, the same replies in its half and next states that are alike
--   x-part           x of desk d's part is x of the state, as far as desk d sees
use Prim.Native.Nat.{ℕ, zero, suc}
use mathlib.Core.Path.{◌≡◌, refl, ap, sym, ◌∙◌}
use mathlib.Core.Bool.{Bool, true, false, not}
use mathlib.Core.List.{List, [], ◌∷◌, ◌++◌, map, map-map}
use lib.Dec.{T}
use lib.ListN.{length, length-map}
use Rattle.machine_laws.specs.machine.Numbers.{quick}
use Rattle.std.specs.Prelude.{if◌then◌else◌}
use Rattle.machine_laws.specs.machine.Lists.{all, keep}
use Rattle.machine_laws.specs.machine.State.{Write, Channel, Lock, Request, State, Reply, Answer, Outcome, Call, is_free}
use Rattle.machine_laws.specs.machine.Desks.{replies_to}
use Rattle.machine_laws.specs.machine.Maps.{odd, half, named, change, at}
use Rattle.machine_laws.specs.machine.Choosing.{Choice, none, chosen, takeable, eligible, all_free, first_free, highest, stolen, costs_less, cheaper, cheapest, choose, standing, look}
use Rattle.machine_laws.specs.machine.Granting.{after, in_use, first_unused, new_key, key_for, last_for, aborted, aborted_in, on_channels, given_up, cut, cut_replies, dropped, taken, granted}
use Rattle.machine_laws.specs.machine.Commands.{matches, matching, mismatch, finished, silent, owned}
use Rattle.machine_laws.proofs.machine.Tests.{and_left, and_right}
use Rattle.machine_laws.proofs.Lists.{all_any, keep_append, keep_twice, keep_swap}
use Rattle.one_desk.specs.OneDesk.{of_desk, bare, mine, mask, own_locks, part}
use Rattle.one_desk.proofs.Lists.{keep_map, kept_map, kept_keep}

module _ (d : ℕ) where
  abbrev pub to : List Reply → List Reply
  to rs = replies_to d rs

  pub record Sees (o p : Outcome) : Type 0 where
    pub answer : o.answer ≡ p.answer
    pub replies : to o.replies ≡ to p.replies
    pub next : part d o.next ≡ part d p.next

  -- what holds of each state and its part holds of any two that are alike
  pub through {ℓ} : {A : Type ℓ} (f : State → A) → ((s : State) → f (part d s) ≡ f s) → (s t : State) → part d s ≡ part d t → f s ≡ f t
  through f h s t e = sym (h s) ∙ ap f e ∙ h t

  -- ---- replies

  pub to_append : (xs xs' ys ys' : List Reply) → to xs ≡ to xs' → to ys ≡ to ys' → to (xs ++ ys) ≡ to (xs' ++ ys')
  unfolding replies_to
  to_append xs xs' ys ys' p q =
      let m : Reply → Bool = λ r. of_desk d r.id in
      keep_append m xs ys ∙ (λ i. p i ++ q i) ∙ sym (keep_append m xs' ys')

  -- replies to what desk d keeps
  pub to_kept {ℓ} : {A : Type ℓ} (f : A → Reply) (g : A → ℕ) → ((x : A) → (f x).id ≡ g x) → (xs : List A)
      → to (map f (keep (λ x. of_desk d (g x)) xs)) ≡ to (map f xs)
  unfolding replies_to
  to_kept {A} f g e xs = kept_map (λ x. of_desk d (g x)) (λ r. of_desk d r.id) f (λ x. ap (of_desk d) (e x)) xs

  -- ---- queues

  pub mine_twice : (ws : List Write) → mine d (mine d ws) ≡ mine d ws
  unfolding mine
  mine_twice ws =
      let q : Write → Bool = λ w. of_desk d w.id in
      ap (map bare) (kept_map q q bare (λ _. refl) ws ∙ keep_map q q bare (λ _. refl) ws) ∙ map-map bare bare (keep q ws)

  pub mask_twice : (cs : List Channel) → map (mask d) (map (mask d) cs) ≡ map (mask d) cs
  mask_twice [] = refl
  mask_twice (c ∷ cs) = simp (mine_twice c.writes, mask_twice cs)

  aborted_part : (k : ℕ) (ws : List Write) → to (aborted k (mine d ws)) ≡ to (aborted k ws)
  unfolding aborted mine
  aborted_part k ws =
      let q : Write → Bool = λ w. of_desk d w.id in
      ap to (map-map _ bare (keep q ws)) ∙ to_kept _ (λ w. w.id) (λ _. refl) ws

  pub aborted_in_part : (m : ℕ) (cs : List Channel) → to (aborted_in m (map (mask d) cs)) ≡ to (aborted_in m cs)
  unfolding aborted_in
  aborted_in_part m [] = refl
  aborted_in_part m (c ∷ cs) = to_append _ _ _ _ (go (odd m)) (aborted_in_part (half m) cs)
    where
      go : (b : Bool) → to (if b then aborted c.key (mine d c.writes) else []) ≡ to (if b then aborted c.key c.writes else [])
      go true = aborted_part c.key c.writes
      go false = refl

  -- ---- channels: what reads keys, precedences and marks alone

  pub length_part : (cs : List Channel) → length (map (mask d) cs) ≡ length cs
  length_part cs = length-map cs (mask d)

  pub named_part : (p : Channel → Bool) → ((c : Channel) → p (mask d c) ≡ p c) → (m : ℕ) (cs : List Channel) → named p m (map (mask d) cs) ≡ named p m cs
  unfolding named
  named_part p e m [] = refl
  named_part p e m (c ∷ cs) = rw (e c, named_part p e (half m) cs)

  pub matching_part : (k m : ℕ) (cs : List Channel) → matching k m (map (mask d) cs) ≡ matching k m cs
  unfolding matching matches
  matching_part k m [] = refl
  matching_part k m (c ∷ cs) = rw (matching_part k (half m) cs)

  pub mismatch_part : (k m : ℕ) (cs : List Channel) → mismatch k m (map (mask d) cs) ≡ mismatch k m cs
  unfolding mismatch matches
  mismatch_part k m cs = ap not (named_part (matches k) (λ _. refl) m cs)

  pub owned_part : (k : ℕ) (cs : List Channel) → owned k (map (mask d) cs) ≡ owned k cs
  unfolding owned matches
  owned_part k [] = refl
  owned_part k (c ∷ cs) = rw (owned_part k cs)

  pub at_part : (m : ℕ) (cs : List Channel) → at m (map (mask d) cs) ≡ mask d (at m cs)
  unfolding at mine keep
  at_part m [] = refl
  at_part m (c ∷ cs) = go (odd m) (at_part (half m) cs)
    where
      go : (b : Bool) → at (half m) (map (mask d) cs) ≡ mask d (at (half m) cs)
          → (if b then mask d c else at (half m) (map (mask d) cs)) ≡ mask d (if b then c else at (half m) cs)
      go true e = refl
      go false e = e

  -- ---- the choice

  eligible_part : (p m : ℕ) (cs : List Channel) → eligible p m (map (mask d) cs) ≡ eligible p m cs
  unfolding eligible takeable
  eligible_part p m cs = named_part (takeable p) (λ _. refl) m cs

  all_free_part : (m : ℕ) (cs : List Channel) → all_free m (map (mask d) cs) ≡ all_free m cs
  unfolding all_free
  all_free_part m cs = named_part is_free (λ _. refl) m cs

  highest_part : (m : ℕ) (cs : List Channel) → highest m (map (mask d) cs) ≡ highest m cs
  unfolding highest
  highest_part m [] = refl
  highest_part m (c ∷ cs) = rw (highest_part (half m) cs)

  stolen_part : (m : ℕ) (cs : List Channel) → stolen m (map (mask d) cs) ≡ stolen m cs
  unfolding stolen
  stolen_part m [] = refl
  stolen_part m (c ∷ cs) = rw (stolen_part (half m) cs)

  first_free_part : (p : ℕ) (ms : List ℕ) (cs : List Channel) → first_free p ms (map (mask d) cs) ≡ first_free p ms cs
  unfolding first_free
  first_free_part p [] cs = refl
  first_free_part p (m ∷ ms) cs = rw (eligible_part p m cs, all_free_part m cs, first_free_part p ms cs)

  cheaper_part : (m : ℕ) (o : Choice) (cs : List Channel) → cheaper m o (map (mask d) cs) ≡ cheaper m o cs
  unfolding cheaper costs_less
  cheaper_part m none cs = refl
  cheaper_part m (chosen o) cs = rw (highest_part m cs, highest_part o cs, stolen_part m cs, stolen_part o cs)

  cheapest_part : (p : ℕ) (ms : List ℕ) (cs : List Channel) → cheapest p ms (map (mask d) cs) ≡ cheapest p ms cs
  unfolding cheapest
  cheapest_part p [] cs = refl
  cheapest_part p (m ∷ ms) cs = rw (eligible_part p m cs, cheapest_part p ms cs, cheaper_part m (cheapest p ms cs) cs)

  choose_part : (p : ℕ) (ms : List ℕ) (cs : List Channel) → choose p ms (map (mask d) cs) ≡ choose p ms cs
  unfolding choose
  choose_part p [] cs = refl
  choose_part p (m ∷ ms) cs = rw (first_free_part p (m ∷ ms) cs, cheapest_part p (m ∷ ms) cs)

  standing_part : (o : Choice) (cs : List Channel) → standing o (map (mask d) cs) ≡ standing o cs
  unfolding standing
  standing_part none cs = refl
  standing_part (chosen m) cs = rw (named_part (λ c. not c.locked) (λ _. refl) m cs)

  pub look_part : (p : ℕ) (ms : List ℕ) (cs : List Channel) → look p ms (map (mask d) cs) ≡ look p ms cs
  unfolding look
  look_part p ms cs = rw (choose_part p ms cs) (standing_part (choose p ms cs) cs)

  -- ---- keys

  in_use_part : (s : State) → in_use (part d s) ≡ in_use s
  unfolding in_use
  in_use_part s = ap (λ (l : List ℕ). l ++ (map (λ (r : Request). r.key) s.waiting ++ s.opens)) (map-map (λ (c : Channel). c.key) (mask d) s.channels)

  new_key_part : (s : State) → new_key (part d s) ≡ new_key s
  unfolding new_key
  new_key_part s = ap (λ (u : List ℕ). first_unused (length u) (after s.last) u) (in_use_part s)

  pub key_for_part : (k : ℕ) (s : State) → key_for k (part d s) ≡ key_for k s
  unfolding key_for
  key_for_part zero s = new_key_part s
  key_for_part (suc k) s = refl

  last_for_part : (k : ℕ) (s : State) → last_for k (part d s) ≡ last_for k s
  unfolding last_for
  last_for_part zero s = new_key_part s
  last_for_part (suc k) s = refl

  -- ---- what is cut

  pub own_twice : (ls : List Lock) → own_locks d (own_locks d ls) ≡ own_locks d ls
  unfolding own_locks
  own_twice ls = keep_twice (λ l. of_desk d l.id) ls

  pub own_keep : (p : Lock → Bool) (ls : List Lock) → own_locks d (keep p (own_locks d ls)) ≡ own_locks d (keep p ls)
  unfolding own_locks
  own_keep p ls = kept_keep (λ l. of_desk d l.id) p ls

  pub to_own : (f : Lock → Reply) → ((l : Lock) → (f l).id ≡ l.id) → (p : Lock → Bool) (ls : List Lock) → to (map f (keep p (own_locks d ls))) ≡ to (map f (keep p ls))
  unfolding own_locks
  to_own f e p ls =
      let q : Lock → Bool = λ l. of_desk d l.id in
      ap (λ (l : List Lock). to (map f l)) (keep_swap p q ls) ∙ to_kept f (λ l. l.id) e (keep p ls)

  pub cut_replies_part : (m : ℕ) (s : State) → to (cut_replies m (part d s)) ≡ to (cut_replies m s)
  unfolding cut_replies
  cut_replies_part m s = rw (length_part s.channels) (to_own given_up (λ l. unfold given_up in refl) (on_channels (length s.channels) m) s.waiters)

  pub cut_part : (m : ℕ) (s : State) → part d (cut m (part d s)) ≡ part d (cut m s)
  unfolding cut
  cut_part m s =
      simp (length_part s.channels, mask_twice s.channels, own_twice s.locks, own_keep (λ w. not (on_channels (length s.channels) m w)) s.waiters)

  pub dropped_part : (m : ℕ) (s : State) → to (dropped m (part d s)) ≡ to (dropped m s)
  unfolding dropped
  dropped_part m s = to_append _ _ _ _ (aborted_in_part m s.channels) (cut_replies_part m s)

  -- ---- channels changed

  pub change_on : (q : Channel → Bool) (f g : Channel → Channel) → ((c : Channel) → T (q c) → mask d (f (mask d c)) ≡ mask d (g c)) → (m : ℕ) (cs : List Channel) → T (all q cs)
      → map (mask d) (change f m (map (mask d) cs)) ≡ map (mask d) (change g m cs)
  unfolding change all
  change_on q f g e m [] t = refl
  change_on q f g e m (c ∷ cs) t = λ i. go (odd m) i ∷ change_on q f g e (half m) cs (and_right (q c) (all q cs) t) i
    where
      go : (b : Bool) → mask d (if b then f (mask d c) else mask d c) ≡ mask d (if b then g c else c)
      go true = e c (and_left (q c) (all q cs) t)
      go false = rw (mine_twice c.writes)

  pub change_part : (f g : Channel → Channel) → ((c : Channel) → mask d (f (mask d c)) ≡ mask d (g c)) → (m : ℕ) (cs : List Channel)
      → map (mask d) (change f m (map (mask d) cs)) ≡ map (mask d) (change g m cs)
  change_part f g e m cs = change_on (λ _. true) f g (λ c _. e c) m cs (all_any (λ _. true) (λ _. tt) cs)

  pub granted_part : (m k p : ℕ) (s : State) → part d (granted m k p (part d s)) ≡ part d (granted m k p s)
  unfolding granted cut
  granted_part m k p s =
      simp (
        key_for_part k s,
        last_for_part k s,
        length_part s.channels,
        own_twice s.locks,
        own_keep (λ w. not (on_channels (length s.channels) m w)) s.waiters,
        change_part (taken (key_for k s) p) (taken (key_for k s) p) (λ c. unfold taken in refl) m s.channels,
      )

  -- ---- outcomes

  pub finished_sees : (n : ℕ) (c : Call) (a b : Answer) (xs ys : List Reply) (s t : State) → a ≡ b → to xs ≡ to ys → part d s ≡ part d t
      → Sees (finished n c a xs s) (finished n c b ys t)
  unfolding finished
  finished_sees n c a b xs ys s t e p q =
      record {
        answer = e;
        replies =
            to_append _ _ _ _ p
            (ap (λ (x : Answer). to (if quick c.flags then [] else record { id = c.id; command = n; error = x.error; map = x.map; key = x.key } ∷ [])) e);
        next = q;
      }

  pub silent_sees : (a b : Answer) (xs ys : List Reply) (s t : State) → a ≡ b → to xs ≡ to ys → part d s ≡ part d t → Sees (silent a xs s) (silent b ys t)
  unfolding silent
  silent_sees a b xs ys s t e p q = record { answer = e; replies = p; next = q }

  pub part_twice : (s : State) → part d (part d s) ≡ part d s
  part_twice s = simp (mask_twice s.channels, own_twice s.locks, own_twice s.waiters)
