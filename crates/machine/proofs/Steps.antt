-- Why a call is refused by the steps that concern it and by no other: the number of a refusal is that of a test in the operation's
-- list, that of the first step there which the call does not pass, and a call is accepted exactly if it passes them all.
-- Assumes nothing.
use Prim.Native.Nat.{ℕ, zero, suc, ◌^◌, ◌≤◌, ◌<◌}
use mathlib.Core.Path.{◌≡◌, refl, ap, subst, sym, ◌∙◌}
use mathlib.Core.Logic.{◌⊎◌, inl, inr, ◌↔◌}
use mathlib.Core.Bool.{Bool, true, false, not, ◌&&◌, ◌||◌}
use mathlib.Core.List.{List, [], ◌∷◌, map}
use borrow.Author.Tests.{lt-ltb, le-ltb, le-leb, lt-leb}
use native.Mathlib.Omega.{arith}
use lib.Dec.{T, T_not, not_T, eqb, leb, ltb, eqb→eq, eqb_refl, eqb-suc-zero, nltb→le, nleb→lt, ltb→lt, leb→le}
use lib.ListN.{length}
use Rattle.machine.specs.Numbers.{OPENFAIL, NOCMD, BADLENGTH, BADADDRESS, UNSOUND, NOTOPEN, INUSE, BADID, NOROOM, REQUESTS, ENTRIES, COMBOS, CMD_WRITE, ADCMD_PERVOL, ADCMD_ALLOCATE}
use Rattle.std.specs.Prelude.{if◌then◌else◌}
use Rattle.machine.specs.Lists.{any, all, among}
use Rattle.machine.specs.State.{State, Call, Op, OPEN, CLOSE, ABORT, EVENT, COMMAND}
use Rattle.machine.specs.Desks.{desk_of, foreign}
use Rattle.machine.specs.Commands.{period_in, volume_in}
use Rattle.machine.specs.Sound.{sound, ids}
use Rattle.machine.specs.Kinds.{Kind, kind, unknown, allocates, carries}
use Rattle.machine.specs.Refusals.{Refusal, accepted, refused, first, bad_list, bad_maps, bad_map, bad_numbers, refusal}
use Rattle.machine.specs.Steps.{Placed, Mapped, Reads, Carried, Carries, Passes, steps, order, FailsFirst, NoneOf}
use Rattle.machine.specs.Bytes.{listed}
use Rattle.machine.proofs.Known.{unknown_unless_listed, allocates-alone, carries_two}
use Rattle.machine.proofs.Tests.{and_left, and_right, and_both}

-- ---- first

-- the numbers of a list of tests
abbrev pub numbers : List (Bool × ℕ) → List ℕ
numbers [] = []
numbers (t ∷ ts) = t.1 ∷ numbers ts

or_one : (a b : Bool) → T a → T (a || b)
or_one true b t = tt
or_one false b t = absurd t

or_other : (a b : Bool) → T b → T (a || b)
or_other true b t = tt
or_other false b t = t

pub first_among : (ts : List (Bool × ℕ)) (e : ℕ) → first ts ≡ refused e → T (among e (numbers ts))
unfolding first among any
first_among [] e q = absurd (let z : ◌≡◌ {A = ℕ} 0 1 = cc in omega arith)
first_among (t ∷ ts) e q = go t.0 (first_among ts e) q
  where
    go : (b : Bool) → (first ts ≡ refused e → T (among e (numbers ts))) → (if b then refused t.1 else first ts) ≡ refused e
        → T (eqb e t.1 || among e (numbers ts))
    go true ih f =
        let same : t.1 ≡ e = cc in
        or_one (eqb e t.1) (among e (numbers ts)) (subst (λ (x : ℕ). T (eqb e x)) (sym same) (eqb_refl e))
    go false ih f = or_other (eqb e t.1) (among e (numbers ts)) (ih f)

pub first_none : (ts : List (Bool × ℕ)) → first ts ≡ accepted → NoneOf ts
unfolding first
first_none [] e = tt
first_none (t ∷ ts) e = go t.0 (first_none ts) e
  where
    go : (b : Bool) → (first ts ≡ accepted → NoneOf ts) → (if b then refused t.1 else first ts) ≡ accepted
        → T (not b) × NoneOf ts
    go true ih q = absurd (let z : ◌≡◌ {A = ℕ} 0 1 = cc in omega arith)
    go false ih q = (tt, ih q)

pub none_first : (ts : List (Bool × ℕ)) → NoneOf ts → first ts ≡ accepted
unfolding first
none_first [] n = refl
none_first (t ∷ ts) n = go t.0 n.0 (none_first ts n.1)
  where
    go : (b : Bool) → T (not b) → first ts ≡ accepted → (if b then refused t.1 else first ts) ≡ accepted
    go true u ih = absurd u
    go false u ih = ih

-- ---- refusal

-- a call is refused with the number of a step that concerns it
pub refused_by_its_steps : (o : Op) (c : Call) (s : State) (e : ℕ) → refusal o c s ≡ refused e → T (among e (steps o))
unfolding refusal steps
refused_by_its_steps OPEN c s e q = first_among _ e q
refused_by_its_steps CLOSE c s e q = first_among _ e q
refused_by_its_steps ABORT c s e q = first_among _ e q
refused_by_its_steps (EVENT v) c s e q = first_among _ e q
refused_by_its_steps (COMMAND n) c s e q = first_among _ e q

-- ---- what each test says

not_not : (b : Bool) → T (not (not b)) ↔ T b
not_not true = (λ t. t, λ t. t)
not_not false = (λ t. t, λ t. t)

-- a number that is not too small, and one that is not too large
enough : (m n : ℕ) → T (not (ltb m n)) ↔ (n ≤ m)
enough m n = (nltb→le m n, λ h. rw (le-ltb m n h) tt)

under : (m n : ℕ) → T (not (not (ltb m n))) ↔ (m < n)
under m n = (λ t. ltb→lt m n ((not_not (ltb m n)).0 t), λ h. rw (lt-ltb m n h) tt)

short : (m n : ℕ) → T (not (leb n m)) ↔ (m < n)
short m n = (nleb→lt n m, λ h. rw (lt-leb n m h) tt)

some : (n : ℕ) → T (not (eqb n 0)) ↔ (0 < n)
some zero = (λ t. absurd t, λ h. absurd (omega arith))
some (suc n) = (λ t. omega arith, λ h. rw (eqb-suc-zero n) tt)

-- no combination off the board: each is on it
none_off : (p : ℕ → Bool) (xs : List ℕ) → T (not (any (λ x. not (p x)) xs)) ↔ T (all p xs)
unfolding any all
none_off p [] = (λ t. tt, λ t. tt)
none_off p (x ∷ xs) = go (p x) (none_off p xs)
  where
    go : (b : Bool) → (T (not (any (λ y. not (p y)) xs)) ↔ T (all p xs))
        → T (not (not b || any (λ y. not (p y)) xs)) ↔ T (b && all p xs)
    go true ih = ih
    go false ih = (λ t. t, λ t. t)

mapped : (c : Call) (s : State) → T (not (bad_map c s)) ↔ Mapped c s
unfolding bad_map
mapped c s = under c.map (2 ^ length s.channels)

counted : (c : Call) → T (not (bad_list c)) ↔ (length c.combos ≤ COMBOS)
unfolding bad_list
counted c = enough COMBOS (length c.combos)

placed : (c : Call) (s : State) → T (not (bad_maps c s)) ↔ Placed c s
unfolding bad_maps
placed c s = none_off (λ m. ltb m (2 ^ length s.channels)) c.combos

known : (n : ℕ) → T (not (unknown (kind n))) ↔ T (among n listed)
known n = rw (unknown_unless_listed n) (not_not (among n listed))

other_one : (n : ℕ) → false ≡ eqb n ADCMD_ALLOCATE → n ≡ ADCMD_ALLOCATE → ⊥
other_one n e q = subst (λ (b : Bool). T b) (sym (e ∙ ap (λ (m : ℕ). eqb m ADCMD_ALLOCATE) q)) tt

-- ALLOCATE reads its combinations, any other command its map
counts : (b : Bool) (n : ℕ) (c : Call) → b ≡ eqb n ADCMD_ALLOCATE
    → T (not (b && bad_list c)) ↔ (n ≡ ADCMD_ALLOCATE → length c.combos ≤ COMBOS)
counts true n c e = (λ t. λ _. (counted c).0 t, λ h. (counted c).1 (h (eqb→eq n ADCMD_ALLOCATE (subst (λ (b : Bool). T b) e tt))))
counts false n c e = (λ t. λ q. absurd (other_one n e q), λ h. tt)

places : (b : Bool) (n : ℕ) (c : Call) (s : State) → b ≡ eqb n ADCMD_ALLOCATE
    → T (not (if b then bad_maps c s else bad_map c s))
    ↔ ((n ≡ ADCMD_ALLOCATE → Placed c s) × ((n ≡ ADCMD_ALLOCATE → ⊥) → Mapped c s))
places true n c s e =
    let allocate : n ≡ ADCMD_ALLOCATE = eqb→eq n ADCMD_ALLOCATE (subst (λ (b : Bool). T b) e tt) in
    (λ t. (λ _. (placed c s).0 t, λ other. absurd (other allocate)), λ h. (placed c s).1 (h.0 allocate))
places false n c s e = (λ t. (λ q. absurd (other_one n e q), λ _. (mapped c s).0 t), λ h. (mapped c s).1 (h.1 (other_one n e)))

reads : (b : Bool) (n : ℕ) (c : Call) (s : State) → b ≡ eqb n ADCMD_ALLOCATE
    → (T (not (b && bad_list c)) × T (not (if b then bad_maps c s else bad_map c s))) ↔ Reads n c s
reads b n c s e =
    let k = counts b n c e in
    let p = places b n c s e in (
      λ h. (λ q. (k.0 h.0 q, (p.0 h.1).0 q), (p.0 h.1).1),
      λ r. (k.1 (λ q. (r.0 q).0), p.1 (λ q. (r.0 q).1, r.1)),
    )

-- a number that a test finds
is : (m n : ℕ) → T (eqb m n) ↔ (m ≡ n)
is m n = (eqb→eq m n, λ e. rw e (eqb_refl n))

either : (a b : Bool) → T (a || b) ↔ (T a ⊎ T b)
either true b = (λ t. inl tt, λ t. tt)
either false b = (λ t. inr t, λ t. or_of t)
  where
    or_of : ⊥ ⊎ T b → T b
    or_of (inl u) = absurd u
    or_of (inr u) = u

up_to : (m n : ℕ) → T (leb m n) ↔ (m ≤ n)
up_to m n = (leb→le m n, λ h. rw (le-leb m n h) tt)

-- neither test is met: the length and the range are as they should be
sized : (c : Call) → T (not (bad_numbers c)) ↔ Carried c
unfolding bad_numbers
sized c = (
  λ t. let n = neither (not l) (not r) t in
      let ranges = (not_not r).0 n.1 in
      let p = and_left (leb 124 p0 && leb p0 65536) (leb v0 64) ranges in (
        lengths.0 ((not_not l).0 n.0),
        (up_to 124 p0).0 (and_left (leb 124 p0) (leb p0 65536) p),
        (up_to p0 65536).0 (and_right (leb 124 p0) (leb p0 65536) p),
        (up_to v0 64).0 (and_right (leb 124 p0 && leb p0 65536) (leb v0 64) ranges),
      ),
  λ h. both (not l) (not r) ((not_not l).1 (lengths.1 h.0))
      ((not_not r).1
      (and_both (leb 124 p0 && leb p0 65536) (leb v0 64) (and_both (leb 124 p0) (leb p0 65536) ((up_to 124 p0).1 h.1) ((up_to p0 65536).1 h.2))
      ((up_to v0 64).1 h.3))),
)
  where
    p0 : ℕ
    p0 = period_in c.combos

    v0 : ℕ
    v0 = volume_in c.combos

    l : Bool
    l = eqb (length c.combos) 0 || eqb (length c.combos) 6

    r : Bool
    r = leb 124 p0 && leb p0 65536 && leb v0 64

    neither : (a b : Bool) → T (not (a || b)) → T (not a) × T (not b)
    neither true b t = absurd t
    neither false b t = (tt, t)

    both : (a b : Bool) → T (not a) → T (not b) → T (not (a || b))
    both true b t u = t
    both false b t u = u

    lengths : T l ↔ ((length c.combos ≡ 0) ⊎ (length c.combos ≡ 6))
    lengths = (
      λ t. to ((either (eqb (length c.combos) 0) (eqb (length c.combos) 6)).0 t),
      λ h. (either (eqb (length c.combos) 0) (eqb (length c.combos) 6)).1 (fro h),
    )
      where
        to : T (eqb (length c.combos) 0) ⊎ T (eqb (length c.combos) 6) → (length c.combos ≡ 0) ⊎ (length c.combos ≡ 6)
        to (inl t) = inl ((is _ 0).0 t)
        to (inr t) = inr ((is _ 6).0 t)

        fro : (length c.combos ≡ 0) ⊎ (length c.combos ≡ 6) → T (eqb (length c.combos) 0) ⊎ T (eqb (length c.combos) 6)
        fro (inl e) = inl ((is _ 0).1 e)
        fro (inr e) = inr ((is _ 6).1 e)

-- WRITE and PERVOL read their numbers, no other command does
carried : (b : Bool) (n : ℕ) (c : Call) → b ≡ (eqb n CMD_WRITE || eqb n ADCMD_PERVOL) → T (not (b && bad_numbers c)) ↔ Carries n c
carried true n c e = (λ t. λ _. (sized c).0 t, λ h. (sized c).1 (h (one ((either (eqb n 3) (eqb n 12)).0 (subst (λ (b : Bool). T b) e tt)))))
  where
    one : T (eqb n 3) ⊎ T (eqb n 12) → (n ≡ CMD_WRITE) ⊎ (n ≡ ADCMD_PERVOL)
    one (inl t) = inl (eqb→eq n 3 t)
    one (inr t) = inr (eqb→eq n 12 t)
carried false n c e = (λ t. λ h. absurd (other h), λ h. tt)
  where
    other : (n ≡ CMD_WRITE) ⊎ (n ≡ ADCMD_PERVOL) → ⊥
    other (inl q) = subst (λ (b : Bool). T b) (sym (e ∙ ap (λ (m : ℕ). eqb m 3 || eqb m 12) q)) tt
    other (inr q) = subst (λ (b : Bool). T b) (sym (e ∙ ap (λ (m : ℕ). eqb m 3 || eqb m 12) q)) tt

-- #109: an id of its own half
of_its_desk : (c : Call) → T (not (foreign c)) ↔ (desk_of c.id ≡ c.desk)
unfolding foreign
of_its_desk c = (
  λ t. eqb→eq (desk_of c.id) c.desk ((not_not (eqb (desk_of c.id) c.desk)).0 t),
  λ e. (not_not (eqb (desk_of c.id) c.desk)).1 (rw e (eqb_refl c.desk)),
)

-- ---- accepted

-- a call is accepted exactly if it passes the steps that concern it
pub accepted_exactly : (o : Op) (c : Call) (s : State) → (refusal o c s ≡ accepted) ↔ Passes o c s
unfolding refusal Passes
accepted_exactly OPEN c s = (
  λ e. let n = first_none _ e in (
    (not_not (sound s)).0 n.0,
    (enough c.room REQUESTS).0 n.1.0,
    ((counted c).0 n.1.1.0, (placed c s).0 n.1.1.1.0),
    (short (length s.opens) ENTRIES).0 n.1.1.1.1.0,
  ),
  λ p. none_first _
      ((not_not (sound s)).1 p.0, ((enough c.room REQUESTS).1 p.1, ((counted c).1 p.2.0, ((placed c s).1 p.2.1, ((short (length s.opens) ENTRIES).1 p.3, tt))))),
)
accepted_exactly CLOSE c s = (
  λ e. let n = first_none _ e in
      ((not_not (sound s)).0 n.0, (enough c.room REQUESTS).0 n.1.0, (not_not (among c.key s.opens)).0 n.1.1.0),
  λ p. none_first _ ((not_not (sound s)).1 p.0, ((enough c.room REQUESTS).1 p.1, ((not_not (among c.key s.opens)).1 p.2, tt))),
)
accepted_exactly ABORT c s = (
  λ e. let n = first_none _ e in
      ((not_not (sound s)).0 n.0, (enough c.room REQUESTS).0 n.1.0, (enough 63 c.id).0 n.1.1.0, (of_its_desk c).0 n.1.1.1.0),
  λ p. none_first _
      ((not_not (sound s)).1 p.0, ((enough c.room REQUESTS).1 p.1, ((enough 63 c.id).1 p.2, ((of_its_desk c).1 p.3, tt)))),
)
accepted_exactly (EVENT v) c s = (
  λ e. let n = first_none _ e in
      ((not_not (sound s)).0 n.0, (enough c.room REQUESTS).0 n.1.0, (mapped c s).0 n.1.1.0),
  λ p. none_first _ ((not_not (sound s)).1 p.0, ((enough c.room REQUESTS).1 p.1, ((mapped c s).1 p.2, tt))),
)
accepted_exactly (COMMAND n) c s = (
  λ e. let f = first_none _ e in (
    (not_not (sound s)).0 f.0,
    (enough c.room REQUESTS).0 f.1.0,
    (enough 63 c.id).0 f.1.1.0,
    (of_its_desk c).0 f.1.1.1.0,
    f.1.1.1.1.0,
    (some (length s.opens)).0 f.1.1.1.1.1.0,
    (known n).0 f.1.1.1.1.1.1.0,
    (reads (allocates (kind n)) n c s (allocates-alone n)).0 (f.1.1.1.1.1.1.1.0, f.1.1.1.1.1.1.1.1.0),
    (carried (carries (kind n)) n c (carries_two n)).0 f.1.1.1.1.1.1.1.1.1.0,
  ),
  λ p. let r = (reads (allocates (kind n)) n c s (allocates-alone n)).1 p.7 in
      none_first _
      ((not_not (sound s)).1 p.0, ((enough c.room REQUESTS).1 p.1, ((enough 63 c.id).1 p.2, ((of_its_desk c).1 p.3, (p.4, ((some (length s.opens)).1 p.5, ((known n).1 p.6, (r.0, (r.1, ((carried (carries (kind n)) n c (carries_two n)).1 p.8, tt)))))))))),
)

-- ---- refused

-- tests that say of each step, in its place, whether it is met
Says : List (Bool × ℕ) → List (Type 0 × ℕ) → Type 0
Says [] [] = Unit {0}
Says [] (u ∷ us) = ⊥
Says (t ∷ ts) [] = ⊥
Says (t ∷ ts) (u ∷ us) = (T (not t.0) ↔ u.0) × (t.1 ≡ u.1) × Says ts us

first_fails : (ts : List (Bool × ℕ)) (us : List (Type 0 × ℕ)) (e : ℕ) → Says ts us → (first ts ≡ refused e) ↔ FailsFirst us e
unfolding first FailsFirst Says
first_fails [] [] e h = (λ q. absurd (let z : ◌≡◌ {A = ℕ} 0 1 = cc in omega arith), λ f. absurd f)
first_fails [] (u ∷ us) e h = absurd h
first_fails (t ∷ ts) [] e h = absurd h
first_fails (t ∷ ts) (u ∷ us) e h = go t.0 h.0 (first_fails ts us e h.2)
  where
    go : (b : Bool) → (T (not b) ↔ u.0) → (first ts ≡ refused e) ↔ FailsFirst us e
        → ((if b then refused t.1 else first ts) ≡ refused e) ↔ (((u.1 ≡ e) × (u.0 → ⊥)) ⊎ (u.0 × FailsFirst us e))
    go true i ih = (λ q. inl (sym h.1 ∙ number q, i.1), from)
      where
        number : refused t.1 ≡ refused e → t.1 ≡ e
        number q = cc

        from : ((u.1 ≡ e) × (u.0 → ⊥)) ⊎ (u.0 × FailsFirst us e) → refused t.1 ≡ refused e
        from (inl f) = ap refused (h.1 ∙ f.0)
        from (inr f) = absurd (i.1 f.0)
    go false i ih = (λ q. inr (i.0 tt, ih.0 q), from)
      where
        from : ((u.1 ≡ e) × (u.0 → ⊥)) ⊎ (u.0 × FailsFirst us e) → first ts ≡ refused e
        from (inl f) = absurd (f.1 (i.0 tt))
        from (inr f) = ih.1 f.1

-- a call is refused with e exactly if it passes every step of its operation before one with that number, and not that one
pub refused_exactly : (o : Op) (c : Call) (s : State) (e : ℕ) → (refusal o c s ≡ refused e) ↔ FailsFirst (order o c s) e
unfolding refusal order Says
refused_exactly OPEN c s e =
    first_fails _ _ e (
      not_not (sound s),
      refl,
      (
        enough c.room REQUESTS,
        refl,
        (
          counted c,
          refl,
          (
            placed c s,
            refl,
            (
              short (length s.opens) ENTRIES,
              refl,
              tt,
            ),
          ),
        ),
      ),
    )
refused_exactly CLOSE c s e =
    first_fails _ _ e (
      not_not (sound s),
      refl,
      (
        enough c.room REQUESTS,
        refl,
        (
          not_not (among c.key s.opens),
          refl,
          tt,
        ),
      ),
    )
refused_exactly ABORT c s e =
    first_fails _ _ e (
      not_not (sound s),
      refl,
      (
        enough c.room REQUESTS,
        refl,
        (
          enough 63 c.id,
          refl,
          (
            of_its_desk c,
            refl,
            tt,
          ),
        ),
      ),
    )
refused_exactly (EVENT v) c s e =
    first_fails _ _ e (
      not_not (sound s),
      refl,
      (
        enough c.room REQUESTS,
        refl,
        (
          mapped c s,
          refl,
          tt,
        ),
      ),
    )
refused_exactly (COMMAND n) c s e =
    first_fails _ _ e (
      not_not (sound s),
      refl,
      (
        enough c.room REQUESTS,
        refl,
        (
          enough 63 c.id,
          refl,
          (
            of_its_desk c,
            refl,
            (
              (λ t. t, λ t. t),
              refl,
              (
                some (length s.opens),
                refl,
                (
                  known n,
                  refl,
                  (
                    counts (allocates (kind n)) n c (allocates-alone n),
                    refl,
                    (
                      places (allocates (kind n)) n c s (allocates-alone n),
                      refl,
                      (
                        carried (carries (kind n)) n c (carries_two n),
                        refl,
                        tt,
                      ),
                    ),
                  ),
                ),
              ),
            ),
          ),
        ),
      ),
    )

-- the numbers of the order are the steps
pub order-steps : (o : Op) (c : Call) (s : State) → map (λ t. t.1) (order o c s) ≡ steps o
unfolding order steps
order-steps OPEN c s = refl
order-steps CLOSE c s = refl
order-steps ABORT c s = refl
order-steps (EVENT v) c s = refl
order-steps (COMMAND n) c s = refl
