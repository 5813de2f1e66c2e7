-- In a log of one half every request outstanding and every reply is of that half, so that A's replies before B's are the replies in
-- order and READ hides nothing. Assumes nothing.
use Prim.Native.Nat.{ℕ}
use mathlib.Core.Path.{◌≡◌, refl, ap, sym, subst, ◌∙◌}
use mathlib.Core.Bool.{Bool, true, false, not, ◌||◌}
use mathlib.Core.List.{List, [], ◌∷◌, ◌++◌, map, append-nil}
use native.Mathlib.Omega.{arith}
use lib.Dec.{T, T_not, eqb, eqb→eq, eqb_refl, leb, ltb}
use Rattle.machine.specs.Numbers.{UNSOUND, BADID, NOROOM, REQUESTS}
use Rattle.std.specs.Prelude.{if◌then◌else◌}
use Rattle.machine.specs.Lists.{all, keep}
use Rattle.machine.specs.State.{Write, Channel, State, Reply, Outcome, Call, Op, OPEN, CLOSE, ABORT, EVENT, COMMAND}
use Rattle.machine.specs.Desks.{HALF, desk_of, front_for, replies_to, halves}
use Rattle.machine.specs.Maps.{odd, half, at}
use Rattle.machine.specs.Commands.{front}
use Rattle.machine.specs.Sound.{sound, ids, writes_of}
use Rattle.machine.specs.Refusals.{Refusal, refused, first, refusal, refuse}
use Rattle.machine.specs.Call.{answering, call}
use Rattle.machine.proofs.Tests.{and_both, and_left, and_right, if_elim, by_test, test_true, test_false, eqb_false, eqb_flip}
use Rattle.machine_laws.proofs.Lists.{keep_none, keep_each, all_mono}
use Rattle.machine_laws.specs.Lists.{count}
use Rattle.machine_laws.proofs.Counting.{count_cons}
use Rattle.machine_laws.proofs.Refusals.{refuse_same, refuse-mute}
use Rattle.machine_laws.specs.Replies.{heard}
use Rattle.machine_laws.proofs.Replies.{own, call-counts}
use Rattle.old_logs.specs.OldLogs.{in_half, half_op}

-- ---- ids of a half

abbrev mine : ℕ → ℕ → Bool
mine d i = eqb (desk_of i) d

-- each id of the list is desk d's
abbrev pub Mine : ℕ → List ℕ → Type 0
Mine d is = T (all (mine d) is)

all_count : (p : ℕ → Bool) (i : ℕ) (xs : List ℕ) → T (all p xs) → T (not (p i)) → count i xs ≡ 0
unfolding count all
all_count p i [] t h = refl
all_count p i (x ∷ xs) t h =
    let ih = all_count p i xs (and_right (p x) (all p xs) t) h in
    rw (eqb_false i x (λ e. T_not (p i) h (rw e (and_left (p x) (all p xs) t)))) (omega arith)

count_all : (p : ℕ → Bool) (xs : List ℕ) → ((i : ℕ) → T (not (p i)) → count i xs ≡ 0) → T (all p xs)
unfolding all
count_all p [] h = tt
count_all p (x ∷ xs) h =
    and_both (p x) (all p xs)
    (by_test (p x) (λ t. t) (λ t. absurd (let z = h x t in let e = count_cons x x xs in let s = self in omega arith)))
    (count_all p xs (λ i l. let z = h i l in let e = count_cons i x xs in omega arith))
  where
    self : count x (x ∷ []) ≡ 1
    self = unfold count in rw (test_true (eqb x x) (eqb_refl x)) refl

pub low-mine : (d i : ℕ) → T (in_half d i) → T (not (ltb 63 i)) → T (mine d i)
unfolding in_half
low-mine d i t u = go (mine d i) (ltb 63 i) t u
  where
    go : (a b : Bool) → T (a || b) → T (not b) → T a
    go true b t u = tt
    go false true t u = absurd u
    go false false t u = t

-- ---- what a call leaves is of the half

-- the replies, and what is outstanding afterwards
abbrev pub Stays : ℕ → Outcome → Type 0
Stays d o = Mine d (heard o.replies) × Mine d (ids o.next)

mute-stays : (d : ℕ) (o : Op) (e : ℕ) (c : Call) (s : State) → T (leb e 8) → Mine d (ids s) → Stays d (refuse o e c s)
unfolding all
mute-stays d o e c s t m = (rw (refuse-mute o e c s t) tt, rw (refuse_same o e c s) m)

counted-stays : (d : ℕ) (s : State) (c : Call) → T (sound s) → Mine d (ids s) → Mine d (own c.op c) → Stays d (call s c)
counted-stays d s c t m n = (
  count_all (mine d) (heard (call s c).replies) (λ i h. let k = call-counts i s c t in let a = none_before i h in let b = none_brought i h in omega arith),
  count_all (mine d) (ids (call s c).next) (λ i h. let k = call-counts i s c t in let a = none_before i h in let b = none_brought i h in omega arith),
)
  where
    none_before : (i : ℕ) → T (not (mine d i)) → count i (ids s) ≡ 0
    none_before i h = all_count (mine d) i (ids s) m h

    none_brought : (i : ℕ) → T (not (mine d i)) → count i (own c.op c) ≡ 0
    none_brought i h = all_count (mine d) i (own c.op c) n h

-- an unsound state is left as it is, with no reply
unsound-refused : (o : Op) (c : Call) (s : State) → T (not (sound s)) → refusal o c s ≡ refused UNSOUND
unfolding refusal first
unsound-refused OPEN c s t = rw (test_false (sound s) t)
unsound-refused CLOSE c s t = rw (test_false (sound s) t)
unsound-refused ABORT c s t = rw (test_false (sound s) t)
unsound-refused (EVENT v) c s t = rw (test_false (sound s) t)
unsound-refused (COMMAND n) c s t = rw (test_false (sound s) t)

-- a command of an id above 63 too
above-refused : (n : ℕ) (c : Call) (s : State) → T (sound s) → T (ltb 63 c.id)
    → refusal (COMMAND n) c s ≡ (if ltb c.room REQUESTS then refused NOROOM else refused BADID)
unfolding refusal first
above-refused n c s t u = rw (test_true (sound s) t, test_true (ltb 63 c.id) u)

mute : (d : ℕ) (c : Call) (s : State) (r : Refusal) (e : ℕ) → r ≡ refused e → T (leb e 8) → Mine d (ids s) → Stays d (answering r c s)
unfolding answering
mute d c s r e q t m = rw q (mute-stays d c.op e c s t m)

above-mute : (d n : ℕ) (c : Call) (s : State) → c.op ≡ COMMAND n → T (sound s) → T (ltb 63 c.id) → Mine d (ids s) → Stays d (call s c)
unfolding call
above-mute d n c s e t u m =
    subst (λ (r : Refusal). Stays d (answering r c s)) (sym (ap (λ (o : Op). refusal o c s) e ∙ above-refused n c s t u))
    (if_elim (λ (r : Refusal). Stays d (answering r c s)) (ltb c.room REQUESTS)
    (λ _. mute d c s (refused NOROOM) NOROOM refl tt m) (λ _. mute d c s (refused BADID) BADID refl tt m))

pub call_stays : (d : ℕ) (s : State) (c : Call) → Mine d (ids s) → T (half_op d c.op c.id) → Stays d (call s c)
unfolding half_op in_half call all own
call_stays d s c m h =
    by_test (sound s) (λ t. go c.op refl t h) (λ t. unsound t)
  where
    unsound : T (not (sound s)) → Stays d (call s c)
    unsound t = mute d c s (refusal c.op c s) UNSOUND (unsound-refused c.op c s t) tt m

    none_mine : Mine d []
    none_mine = tt

    brings_none : (o : Op) → c.op ≡ o → own o c ≡ [] → T (sound s) → Stays d (call s c)
    brings_none o e q t = counted-stays d s c t m (subst (λ (o : Op). Mine d (own o c)) (sym e) (rw q none_mine))

    go : (o : Op) → c.op ≡ o → T (sound s) → T (half_op d o c.id) → Stays d (call s c)
    go OPEN e t g = brings_none OPEN e (unfold own in refl) t
    go CLOSE e t g = brings_none CLOSE e (unfold own in refl) t
    go ABORT e t g = brings_none ABORT e (unfold own in refl) t
    go (EVENT v) e t g = brings_none (EVENT v) e (unfold own in refl) t
    go (COMMAND n) e t g =
        by_test (ltb 63 c.id)
        (λ u. above-mute d n c s e t u m)
        (λ u. counted-stays d s c t m (subst (λ (o : Op). Mine d (own o c)) (sym e) (unfold own all in and_both (mine d c.id) true (low-mine d c.id g u) tt)))

-- ---- A's replies before B's are the replies in order

other_half : (a b : ℕ) → T (not (eqb a b)) → (i : ℕ) → T (eqb (desk_of i) a) → T (not (eqb (desk_of i) b))
other_half a b h i t = rw (eqb→eq (desk_of i) a t) h

heard_all : (d : ℕ) (rs : List Reply) → Mine d (heard rs) → T (all (λ (r : Reply). mine d r.id) rs)
unfolding all
heard_all d [] t = tt
heard_all d (r ∷ rs) t =
    and_both (mine d r.id) (all (λ (q : Reply). mine d q.id) rs) (and_left (mine d r.id) (all (mine d) (heard rs)) t)
    (heard_all d rs (and_right (mine d r.id) (all (mine d) (heard rs)) t))

one_of_two : (rs : List Reply) (d : ℕ) → (T (eqb d 0) → ⊥) → (T (eqb d 1) → ⊥) → Mine d (heard rs) → rs ≡ []
unfolding all desk_of
one_of_two [] d a b m = refl
one_of_two (r ∷ rs) d a b m = absurd (go (ltb r.id HALF) (and_left (mine d r.id) (all (mine d) (heard rs)) m))
  where
    go : (x : Bool) → T (eqb (if x then 0 else 1) d) → ⊥
    go true t = a (eqb_flip 0 d t)
    go false t = b (eqb_flip 1 d t)

pub halves_one : (d : ℕ) (rs : List Reply) → Mine d (heard rs) → halves rs ≡ rs
unfolding halves replies_to
halves_one d rs m =
    by_test (eqb d 0) (λ t. of_a_lem (rw (eqb→eq d 0 t) at m))
    (λ u. by_test (eqb d 1) (λ t. of_b_lem (rw (eqb→eq d 1 t) at m)) (λ v. rw (one_of_two rs d (T_not (eqb d 0) u) (T_not (eqb d 1) v) m) (unfold keep in refl)))
  where
    none_other : (a b : ℕ) → T (not (eqb a b)) → Mine a (heard rs) → keep (λ (r : Reply). mine b r.id) rs ≡ []
    none_other a b h n =
        keep_none (λ (r : Reply). mine b r.id) rs
        (all_mono (λ (r : Reply). mine a r.id) (λ (r : Reply). not (mine b r.id)) (λ r. other_half a b h r.id) rs (heard_all a rs n))

    of_a_lem : Mine 0 (heard rs) → halves rs ≡ rs
    of_a_lem n = rw (none_other 0 1 tt n, keep_each (λ (r : Reply). mine 0 r.id) rs (heard_all 0 rs n), append-nil)

    of_b_lem : Mine 1 (heard rs) → halves rs ≡ rs
    of_b_lem n = rw (none_other 1 0 tt n, keep_each (λ (r : Reply). mine 1 r.id) rs (heard_all 1 rs n))

-- ---- READ hides nothing

front_mine : (d : ℕ) (ws : List Write) → Mine d (map (λ w. w.id) ws) → front_for d ws ≡ front ws
unfolding front_for front all
front_mine d [] m = refl
front_mine d (w ∷ ws) m = rw (test_true (mine d w.id) (and_left (mine d w.id) (all (mine d) (map (λ (v : Write). v.id) ws)) m))

all_front : (p : ℕ → Bool) (xs ys : List ℕ) → T (all p (xs ++ ys)) → T (all p xs)
unfolding all
all_front p [] ys t = tt
all_front p (x ∷ xs) ys t = and_both (p x) (all p xs) (and_left (p x) (all p (xs ++ ys)) t) (all_front p xs ys (and_right (p x) (all p (xs ++ ys)) t))

all_rest : (p : ℕ → Bool) (xs ys : List ℕ) → T (all p (xs ++ ys)) → T (all p ys)
unfolding all
all_rest p [] ys t = t
all_rest p (x ∷ xs) ys t = all_rest p xs ys (and_right (p x) (all p (xs ++ ys)) t)

at_mine : (d m : ℕ) (cs : List Channel) → Mine d (writes_of cs) → Mine d (map (λ w. w.id) (at m cs).writes)
unfolding at writes_of
at_mine d m [] t = unfold all in tt
at_mine d m (c ∷ cs) t =
    let is = map (λ (w : Write). w.id) c.writes in
    if_elim (λ (x : Channel). Mine d (map (λ (w : Write). w.id) x.writes)) (odd m)
    (λ _. all_front (mine d) is (writes_of cs) t) (λ _. at_mine d (half m) cs (all_rest (mine d) is (writes_of cs) t))

pub reads-mine : (d m : ℕ) (s : State) → Mine d (ids s) → front_for d (at m s.channels).writes ≡ front (at m s.channels).writes
reads-mine d m s t =
    front_mine d (at m s.channels).writes
    (at_mine d m s.channels (unfold ids in all_front (mine d) (writes_of s.channels) _ (all_front (mine d) _ _ (all_front (mine d) _ _ t))))
