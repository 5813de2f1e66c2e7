-- Document 02, #109: two sound states, neither with writes of both desks under one key, that are alike for a desk give its next call,
-- under no key of the other's writes, the same answer and the same replies in its half; and they are alike again afterwards.
-- Assumes nothing else.
use Prim.Native.Nat.{ℕ}
use mathlib.Core.Path.{◌≡◌, refl, ap, sym, subst, ◌∙◌}
use mathlib.Core.Bool.{Bool, true, false, not, ◌||◌, cond}
use mathlib.Core.List.{List, [], ◌∷◌, ◌++◌, map, map-map}
use lib.Dec.{T, eqb, eqb→eq, leb}
use lib.ListN.{length}
use Rattle.machine_laws.specs.machine.Numbers.{OTHERDESK, NONE, CMD_RESET, CMD_UPDATE, CMD_CLEAR, CMD_STOP, CMD_START, CMD_FLUSH, ADCMD_SETPREC}
use Rattle.std.specs.Prelude.{if◌then◌else◌}
use Rattle.machine_laws.specs.machine.Lists.{any, all, among, keep}
use Rattle.machine_laws.specs.machine.State.{Write, Channel, Lock, State, Outcome, Call, Op, OPEN, CLOSE, ABORT, EVENT, COMMAND}
use Rattle.machine_laws.specs.machine.Desks.{desk_of, foreign}
use Rattle.machine_laws.specs.machine.Commands.{done, finished, silent, reset, same, set_stop, flushed, set_prec}
use Rattle.machine_laws.specs.machine.Sound.{sound, ids, writes_of}
use Rattle.machine_laws.specs.machine.Kinds.{Kind, RESET, READ, WRITE, UPDATE, CLEAR, STOP, START, FLUSH, FREE, SETPREC, FINISH, PERVOL, LOCK, WAITCYCLE, ALLOCATE, UNKNOWN, kind}
use Rattle.machine_laws.specs.machine.Refusals.{Refusal, accepted, refused, first, bad_maps, bad_map, refusal, refuse}
use Rattle.machine_laws.specs.machine.Call.{perform, accept, answering, call}
use Rattle.machine_laws.proofs.machine.Tests.{by_test, test_true, eqb_false}
use Rattle.machine_laws.proofs.machine.Steps.{first_none}
use Rattle.machine_laws.proofs.Lists.{among-append}
use Rattle.one_desk.specs.OneDesk.{of_desk, bare, mine, mask, own_locks, part, Alike, one_key, clear, calls, Premises, OneDesk}
use Rattle.one_desk.proofs.Part.{to, Sees, through, mine_twice, length_part, silent_sees, finished_sees, part_twice}
use Rattle.one_desk.proofs.Settle.{settling_sees, open_settling_sees}
use Rattle.one_desk.proofs.Commands.{pure, each_change_part, do_free_part, do_close_part, do_lock_part, do_read_part, do_write_part, do_waitcycle_part, do_finish_part, do_pervol_part, do_allocate_part, do_open_part}
use Rattle.one_desk.proofs.Abort.{do_abort_part}
use Rattle.one_desk.proofs.Keys.{keys-pure}

-- ---- which ids are outstanding

module _ (d i : ℕ) (its : T (of_desk d i)) where
  among_kept {ℓ} : {A : Type ℓ} (g : A → ℕ) (xs : List A) → among i (map g (keep (λ x. of_desk d (g x)) xs)) ≡ among i (map g xs)
  unfolding among any keep
  among_kept g [] = refl
  among_kept {A} g (x ∷ xs) = go (of_desk d (g x)) refl (among_kept g xs)
    where
      go : (b : Bool) → of_desk d (g x) ≡ b → among i (map g (keep (λ x. of_desk d (g x)) xs)) ≡ among i (map g xs)
          → among i (map g (cond b (x ∷ keep (λ x. of_desk d (g x)) xs) (keep (λ x. of_desk d (g x)) xs))) ≡ among i (map g (x ∷ xs))
      go true e ih = ap (λ (b : Bool). eqb i (g x) || b) ih
      go false e ih = rw (eqb_false i (g x) (λ q. other (subst (λ (j : ℕ). T (of_desk d j)) q its))) ih
        where
          other : T (of_desk d (g x)) → ⊥
          other u = subst (λ (b : Bool). T b) e u

  among_both : (xs xs' ys ys' : List ℕ) → among i xs ≡ among i xs' → among i ys ≡ among i ys' → among i (xs ++ ys) ≡ among i (xs' ++ ys')
  among_both xs xs' ys ys' p q = among-append i xs ys ∙ (λ j. p j || q j) ∙ sym (among-append i xs' ys')

  among-queue : (ws : List Write) → among i (map (λ w. w.id) (mine d ws)) ≡ among i (map (λ w. w.id) ws)
  unfolding mine
  among-queue ws =
      ap (among i) (map-map (λ (w : Write). w.id) bare (keep (λ (w : Write). of_desk d w.id) ws)) ∙ among_kept (λ (w : Write). w.id) ws

  among_writes : (cs : List Channel) → among i (writes_of (map (mask d) cs)) ≡ among i (writes_of cs)
  unfolding writes_of
  among_writes [] = refl
  among_writes (c ∷ cs) = among_both _ _ _ _ (among-queue c.writes) (among_writes cs)

  among-locks : (ls : List Lock) → among i (map (λ l. l.id) (own_locks d ls)) ≡ among i (map (λ l. l.id) ls)
  unfolding own_locks
  among-locks ls = among_kept (λ (l : Lock). l.id) ls

  among_part : (s : State) → among i (ids (part d s)) ≡ among i (ids s)
  unfolding ids
  among_part s =
      among_both _ _ _ _
      (among_both _ _ _ _ (among_both _ _ _ _ (among_writes s.channels) (among-locks s.locks)) (among-locks s.waiters)) refl

-- ---- refusals: both states are sound, and the rest reads what is alike

pub own_id : (d : ℕ) (c : Call) → T (eqb c.desk d) → T (not (foreign c)) → T (of_desk d c.id)
unfolding foreign
own_id d c t u = subst (λ (x : ℕ). T (eqb (desk_of c.id) x)) (eqb→eq c.desk d t) (go (eqb (desk_of c.id) c.desk) u)
  where
    go : (b : Bool) → T (not (not b)) → T b
    go true v = tt
    go false v = v

command-alike : (d n : ℕ) (c : Call) (s t : State) → T (sound s) → T (sound t) → part d s ≡ part d t → T (eqb c.desk d) → refusal (COMMAND n) c s ≡ refusal (COMMAND n) c t
unfolding refusal first bad_maps bad_map
command-alike d n c s t a b e k =
    let l : length s.channels ≡ length t.channels = through d (λ u. length u.channels) (λ u. length_part d u.channels) s t e in
    let o : s.opens ≡ t.opens = ap (λ (u : State). u.opens) e in
    by_test (foreign c)
    (λ f. rw (test_true (sound s) a, test_true (sound t) b, test_true (foreign c) f))
    (λ f. let i : among c.id (ids s) ≡ among c.id (ids t) = through d (λ u. among c.id (ids u)) (among_part d c.id (own_id d c k f)) s t e in
    rw (test_true (sound s) a, test_true (sound t) b, i, l, o))

refusal-alike : (d : ℕ) (o : Op) (c : Call) (s t : State) → T (sound s) → T (sound t) → part d s ≡ part d t → T (calls d o c) → refusal o c s ≡ refusal o c t
unfolding refusal bad_maps bad_map calls
refusal-alike d OPEN c s t a b e k =
    let l : length s.channels ≡ length t.channels = through d (λ u. length u.channels) (λ u. length_part d u.channels) s t e in
    let o : s.opens ≡ t.opens = ap (λ (u : State). u.opens) e in
    rw (test_true (sound s) a, test_true (sound t) b, l, o)
refusal-alike d CLOSE c s t a b e k =
    let o : s.opens ≡ t.opens = ap (λ (u : State). u.opens) e in rw (test_true (sound s) a, test_true (sound t) b, o)
refusal-alike d ABORT c s t a b e k = rw (test_true (sound s) a, test_true (sound t) b)
refusal-alike d (EVENT v) c s t a b e k = absurd k
refusal-alike d (COMMAND n) c s t a b e k = command-alike d n c s t a b e k

refuse_sees : (d : ℕ) (o : Op) (e : ℕ) (c : Call) (s t : State) → part d s ≡ part d t → Sees d (refuse o e c s) (refuse o e c t)
unfolding refuse
refuse_sees d OPEN e c s t q = silent_sees d _ _ [] [] s t refl refl q
refuse_sees d CLOSE e c s t q = silent_sees d _ _ [] [] s t refl refl q
refuse_sees d ABORT e c s t q = silent_sees d _ _ [] [] s t refl refl q
refuse_sees d (EVENT v) e c s t q = silent_sees d _ _ [] [] s t refl refl q
refuse_sees d (COMMAND n) e c s t q = go (leb e OTHERDESK)
  where
    go : (b : Bool)
        → Sees d (if b then silent (done e 0 c.key NONE) [] s else finished n c (done e 0 c.key NONE) [] s)
        (if b then silent (done e 0 c.key NONE) [] t else finished n c (done e 0 c.key NONE) [] t)
    go true = silent_sees d _ _ [] [] s t refl refl q
    go false = finished_sees d n c _ _ [] [] s t refl refl q

-- ---- accepted calls

-- the premises about one state, no queue with writes of both desks standing for no key with them
pub record Fit (d : ℕ) (c : Call) (s : State) : Type 0 where
  pub pure : T (all (pure d) s.channels)
  pub clear : T (clear d c.key s)

perform_part : (d : ℕ) (k : Kind) (c : Call) (s : State) → Fit d c s → Sees d (perform k c (part d s)) (perform k c s)
unfolding perform
perform_part d RESET c s h = each_change_part d CMD_RESET reset (λ x. unfold mine keep in refl) true c s
perform_part d READ c s h = do_read_part d c s (unfold clear in h.clear)
perform_part d WRITE c s h = do_write_part d c s
perform_part d UPDATE c s h = each_change_part d CMD_UPDATE same (λ x. rw (mine_twice d x.writes)) false c s
perform_part d CLEAR c s h = each_change_part d CMD_CLEAR same (λ x. rw (mine_twice d x.writes)) false c s
perform_part d STOP c s h = each_change_part d CMD_STOP (set_stop true) (λ x. rw (mine_twice d x.writes)) false c s
perform_part d START c s h = each_change_part d CMD_START (set_stop false) (λ x. rw (mine_twice d x.writes)) false c s
perform_part d FLUSH c s h = each_change_part d CMD_FLUSH flushed (λ x. refl) true c s
perform_part d FREE c s h = do_free_part d c s
perform_part d SETPREC c s h = each_change_part d ADCMD_SETPREC (set_prec c.prec) (λ x. rw (mine_twice d x.writes)) false c s
perform_part d FINISH c s h = do_finish_part d c s (unfold clear in h.clear) h.pure
perform_part d PERVOL c s h = do_pervol_part d c s
perform_part d LOCK c s h = do_lock_part d c s
perform_part d WAITCYCLE c s h = do_waitcycle_part d c s (unfold clear in h.clear)
perform_part d ALLOCATE c s h = do_allocate_part d c s
perform_part d UNKNOWN c s h = silent_sees d _ _ [] [] (part d s) s refl refl (part_twice d s)

abort_own : (d : ℕ) (c : Call) (s : State) → T (eqb c.desk d) → refusal ABORT c s ≡ accepted → T (of_desk d c.id)
unfolding refusal
abort_own d c s k e = own_id d c k (first_none _ e).1.1.1.0

accept_part : (d : ℕ) (o : Op) (c : Call) (s : State) → Fit d c s → T (calls d o c) → refusal o c s ≡ accepted → Sees d (accept o c (part d s)) (accept o c s)
unfolding accept calls
accept_part d OPEN c s h k e = open_settling_sees d _ _ (do_open_part d c s)
accept_part d CLOSE c s h k e = settling_sees d _ _ (do_close_part d c s)
accept_part d ABORT c s h k e = settling_sees d _ _ (do_abort_part d c s (abort_own d c s k e) h.pure)
accept_part d (EVENT v) c s h k e = absurd k
accept_part d (COMMAND n) c s h k e = settling_sees d _ _ (perform_part d (kind n) c s h)

-- ---- any call

sees_both : (d : ℕ) (f : State → Outcome) (s t : State) → part d s ≡ part d t → Sees d (f (part d s)) (f s) → Sees d (f (part d t)) (f t) → Sees d (f s) (f t)
sees_both d f s t e p q =
    record {
      answer = sym p.answer ∙ ap (λ u. (f u).answer) e ∙ q.answer;
      replies = sym p.replies ∙ ap (λ u. to d (f u).replies) e ∙ q.replies;
      next = sym p.next ∙ ap (λ u. part d (f u).next) e ∙ q.next;
    }

-- the theorem in its strongest form: no queue has writes of both desks, and the next states are alike again
pub call_sees : (d : ℕ) (c : Call) (s t : State) → T (sound s) → T (sound t) → Fit d c s → Fit d c t → Alike d s t → T (calls d c.op c)
    → Sees d (call s c) (call t c)
unfolding call answering
call_sees d c s t a b h g e k =
    let q = refusal-alike d c.op c s t a b e k in
    subst (λ (r : Refusal). Sees d (answering r c s) (answering (refusal c.op c t) c t)) (sym q) (go (refusal c.op c t) q refl)
  where
    go : (r : Refusal) → refusal c.op c s ≡ r → refusal c.op c t ≡ r → Sees d (answering r c s) (answering r c t)
    go accepted x y = sees_both d (accept c.op c) s t e (accept_part d c.op c s h k x) (accept_part d c.op c t g k y)
    go (refused n) x y = refuse_sees d c.op n c s t e

-- no key with writes of both desks: then no queue has
fit : (d : ℕ) (c : Call) (s : State) → T (one_key s) → T (clear d c.key s) → Fit d c s
fit d c s t u = record { pure = keys-pure d s t; clear = u }

seen : (d : ℕ) (c : Call) (s t : State) → Premises d c s t → Sees d (call s c) (call t c)
seen d c s t p =
    call_sees d c s t p.sane.0 p.sane.1 (fit d c s p.one_desk.0 p.not_theirs.0) (fit d c t p.one_desk.1 p.not_theirs.1) p.alike p.its_call

-- "two sound states, neither with writes of both desks under one key, alike in .. give that desk's next call, under no key of the
-- other's writes, the same answer and replies in its half"
pub one_desk_lem : OneDesk
one_desk_lem d c s t p = let x = seen d c s t p in record { answer = x.answer; replies = x.replies }

-- and leave the states alike
pub alike-after : (d : ℕ) (c : Call) (s t : State) → Premises d c s t → Alike d (call s c).next (call t c).next
alike-after d c s t p = (seen d c s t p).next
