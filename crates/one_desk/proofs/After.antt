-- After a desk's call no key has writes of both desks either: what stands in a queue stood there before under the same key, but for the
-- write that the call makes, and that one is the desk's, under the call's key. Document 02, #109.
-- Assumes nothing.
--
--   has p k c          the channel has the key k, and a write whose id passes p
--   Fewer f            what f makes of a channel has under a key no write that the channel had not
--   Less cs ds         the board ds has under a key no write that cs had not
--   Grown d c cs ds    but for that of the call c, where its id is desk d's
use Prim.Native.Nat.{ℕ, zero, suc}
use mathlib.Core.Path.{◌≡◌, refl, sym, subst, ◌∙◌}
use mathlib.Core.Bool.{Bool, true, false, not, ◌&&◌, ◌||◌}
use mathlib.Core.List.{List, [], ◌∷◌, ◌++◌, map}
use lib.Dec.{T, T_not, not_T, eqb, eqb→eq, eqb_refl}
use lib.ListN.{length}
use Rattle.machine_laws.specs.machine.Numbers.{nowait, synced, ALLOCFAILED, CMD_RESET, CMD_UPDATE, CMD_CLEAR, CMD_STOP, CMD_START, CMD_FLUSH, ADCMD_FINISH, ADCMD_PERVOL, ADCMD_SETPREC}
use Rattle.std.specs.Prelude.{if◌then◌else◌}
use Rattle.machine_laws.specs.machine.Lists.{any, all, keep}
use Rattle.machine_laws.specs.machine.State.{Write, Channel, State, Outcome, Call, Op, OPEN, CLOSE, ABORT, EVENT, COMMAND}
use Rattle.machine_laws.specs.machine.Desks.{DESK_A, DESK_B, desk_of}
use Rattle.machine_laws.specs.machine.Maps.{odd, half, bit, lowest, change, at}
use Rattle.machine_laws.specs.machine.Choosing.{Look, fails, held, grants, look}
use Rattle.machine_laws.specs.machine.Granting.{key_for, taken, cut, granted}
use Rattle.machine_laws.specs.machine.Commands.{matches, matching, mismatch, finished, silent, reset, freed, set_prec, flushed, set_stop, set_lock, same, set_writes, each, each_change, freeing, playing, write_of, in_progress, back, front_gone, on_first, on_front, remember_finish, remember_tone, set_tone, period_in, volume_in, owned, without, leaving, do_free, do_finish, do_pervol, do_lock, do_read, do_write, do_waitcycle, do_close, do_abort}
use Rattle.machine_laws.specs.machine.Allocating.{waits, allocating, do_allocate, opening, do_open}
use Rattle.machine_laws.specs.machine.Settling.{Found, nobody, somebody, Walk, Settled, walk, walked, go_on, rounds, settle}
use Rattle.machine_laws.specs.machine.Kinds.{Kind, RESET, READ, WRITE, UPDATE, CLEAR, STOP, START, FLUSH, FREE, SETPREC, FINISH, PERVOL, LOCK, WAITCYCLE, ALLOCATE, UNKNOWN, kind}
use Rattle.machine_laws.specs.machine.Refusals.{Refusal, accepted, refused, refusal}
use Rattle.machine_laws.specs.machine.Call.{perform, settling, open_settling, accept, answering, call}
use Rattle.machine_laws.proofs.machine.Tests.{if_elim, by_test, and_left, and_right, and_both, or_left, or_right, or_map}
use Rattle.machine_laws.proofs.machine.Steps.{first_none}
use Rattle.machine_laws.proofs.Maps.{odd-bit, half-bit}
use Rattle.machine_laws.proofs.KeepingCalls.{change_zero}
use Rattle.machine_laws.proofs.Refusals.{refuse_same}
use Rattle.one_desk.specs.OneDesk.{of_desk, under, one_key, clear, calls, Premises}
use Rattle.one_desk.proofs.OneDesk.{own_id}

abbrev wrote : (ℕ → Bool) → List Write → Bool
wrote p ws = any (λ w. p w.id) ws

abbrev has : (ℕ → Bool) → ℕ → Channel → Bool
has p k c = eqb c.key k && wrote p c.writes

abbrev Fewer : (Channel → Channel) → Type 0
Fewer f = (p : ℕ → Bool) (k : ℕ) (c : Channel) → T (has p k (f c)) → T (has p k c)

abbrev Less : List Channel → List Channel → Type 0
Less cs ds = (p : ℕ → Bool) (k : ℕ) → T (any (has p k) ds) → T (any (has p k) cs)

or_rest : (a b : Bool) → T (a || b) → T (not a) → T b
or_rest true b t u = absurd u
or_rest false b t u = t

-- ---- one channel

-- no write is left
emptied : (f : Channel → Channel) → ((c : Channel) → (f c).writes ≡ []) → Fewer f
unfolding any
emptied f e p k c t = absurd (subst (λ (ws : List Write). T (wrote p ws)) (e c) (and_right (eqb (f c).key k) (wrote p (f c).writes) t))

-- the queue changes under its key
queued : (g : List Write → List Write) → ((p : ℕ → Bool) (ws : List Write) → T (wrote p (g ws)) → T (wrote p ws)) → Fewer (λ c. set_writes (g c.writes) c)
queued g h p k c t =
    let a = eqb c.key k in
    let b = wrote p (g c.writes) in
    and_both a (wrote p c.writes) (and_left a b t) (h p c.writes (and_right a b t))

back_wrote : (p : ℕ → Bool) (ws : List Write) → T (wrote p (back ws)) → T (wrote p ws)
unfolding back any
back_wrote p [] t = t
back_wrote p (w ∷ ws) t = or_right (p w.id) (wrote p ws) t

first_wrote : (g : Write → Write) → ((w : Write) → (g w).id ≡ w.id) → (p : ℕ → Bool) (ws : List Write) → T (wrote p (on_first g ws)) → T (wrote p ws)
unfolding on_first any
first_wrote g e p [] t = t
first_wrote g e p (w ∷ ws) t = subst (λ (i : ℕ). T (p i || wrote p ws)) (e w) t

front_fewer : (g : Write → Write) → ((w : Write) → (g w).id ≡ w.id) → Fewer (on_front g)
unfolding on_front
front_fewer g e p k c t =
    if_elim (λ (d : Channel). T (has p k d) → T (has p k c)) (playing c) (λ _. queued (on_first g) (first_wrote g e) p k c) (λ _ u. u) t

keep_wrote : (q : Write → Bool) (p : ℕ → Bool) (ws : List Write) → T (wrote p (keep q ws)) → T (wrote p ws)
unfolding keep any
keep_wrote q p [] t = t
keep_wrote q p (w ∷ ws) t =
    if_elim (λ (vs : List Write). T (wrote p vs) → T (p w.id || wrote p ws)) (q w)
    (λ _. or_map (p w.id) (p w.id) (wrote p (keep q ws)) (wrote p ws) (λ v. v) (keep_wrote q p ws))
    (λ _ u. or_right (p w.id) (wrote p ws) (keep_wrote q p ws u)) t

without_fewer : (i : ℕ) → Fewer (without i)
unfolding without
without_fewer i = queued (keep (λ w. not (eqb i w.id))) (keep_wrote (λ w. not (eqb i w.id)))

-- ---- the channels

change_less : (f : Channel → Channel) → Fewer f → (m : ℕ) (cs : List Channel) → Less cs (change f m cs)
unfolding change any
change_less f g m [] p k t = t
change_less f g m (c ∷ cs) p k t =
    or_map (has p k (if odd m then f c else c)) (has p k c) (any (has p k) (change f (half m) cs)) (any (has p k) cs)
    (if_elim (λ (d : Channel). T (has p k d) → T (has p k c)) (odd m) (λ _. g p k c) (λ _ u. u)) (change_less f g (half m) cs p k) t

map_less : (f : Channel → Channel) → Fewer f → (cs : List Channel) → Less cs (map f cs)
unfolding any
map_less f g [] p k t = t
map_less f g (c ∷ cs) p k t = or_map (has p k (f c)) (has p k c) (any (has p k) (map f cs)) (any (has p k) cs) (g p k c) (map_less f g cs p k) t

freeing_less : (m : ℕ) (s : State) → Less s.channels (freeing m s).channels
unfolding freeing cut
freeing_less m s = change_less freed (emptied freed (λ c. refl)) m s.channels

granted_less : (m key prec : ℕ) (s : State) → Less s.channels (granted m key prec s).channels
unfolding granted
granted_less m key prec s =
    change_less (taken (key_for key s) prec) (emptied (taken (key_for key s) prec) (λ c. unfold taken in refl)) m s.channels

-- ---- settling

go_on_less : (f : Found) (w : Walk) (s : State) (again : State → Settled) → ((u : State) → Less u.channels (again u).state.channels)
    → Less s.channels (go_on f w s again).state.channels
unfolding go_on walked
go_on_less nobody w s again ih p k t = t
go_on_less (somebody r m) w s again ih p k t =
    granted_less m r.key r.prec (walked w s) p k (ih (granted m r.key r.prec (walked w s)) p k t)

rounds_less : (n : ℕ) (s : State) → Less s.channels (rounds n s).state.channels
unfolding rounds
rounds_less zero s = λ p k t. t
rounds_less (suc n) s = let w = walk s.channels s.waiting s.locks in go_on_less w.found w s (rounds n) (rounds_less n)

-- ---- one call

abbrev Grown : ℕ → Call → List Channel → List Channel → Type 0
Grown d c cs ds = (p : ℕ → Bool) (k : ℕ) → T (any (has p k) ds) → T (any (has p k) cs || eqb c.key k && (of_desk d c.id && p c.id))

module _ (d : ℕ) (c : Call) where
  abbrev After : State → Outcome → Type 0
  After s o = Grown d c s.channels o.next.channels

  shrunk : (cs ds : List Channel) → Less cs ds → Grown d c cs ds
  shrunk cs ds l p k t = or_left (any (has p k) cs) (eqb c.key k && (of_desk d c.id && p c.id)) (l p k t)

  unmoved : (s : State) → Grown d c s.channels s.channels
  unmoved s = shrunk s.channels s.channels (λ p k t. t)

  each_after : (n : ℕ) (f : Channel → Channel) → Fewer f → (b : Bool) (s : State) → After s (each_change n f b c s)
  unfolding each_change each finished
  each_after n f g b s =
      let m = matching c.key c.map s.channels in
      shrunk s.channels (change f m s.channels) (change_less f g m s.channels)

  finish-after : (s : State) → After s (do_finish c s)
  unfolding do_finish each finished cut
  finish-after s =
      let m = in_progress (matching c.key c.map s.channels) s.channels in
      if_elim (After s) (synced c.flags) (λ _. each_after ADCMD_FINISH (on_front remember_finish) (front_fewer remember_finish (λ w. refl)) false s)
      (λ _. shrunk s.channels (change front_gone m s.channels) (change_less front_gone (queued back back_wrote) m s.channels))

  pervol-after : (s : State) → After s (do_pervol c s)
  unfolding do_pervol
  pervol-after s =
      let x = period_in c.combos in
      let y = volume_in c.combos in
      if_elim (λ (g : Write → Write). After s (each_change ADCMD_PERVOL (on_front g) false c s)) (synced c.flags)
      (λ _. each_after ADCMD_PERVOL (on_front (remember_tone x y)) (front_fewer (remember_tone x y) (λ w. refl)) false s)
      (λ _. each_after ADCMD_PERVOL (on_front (set_tone x y)) (front_fewer (set_tone x y) (λ w. refl)) false s)

  lock-after : (s : State) → After s (do_lock c s)
  unfolding do_lock silent finished
  lock-after s =
      if_elim (After s) (mismatch c.key c.map s.channels) (λ _. unmoved s)
      (λ _. if_elim (After s) (eqb c.map 0) (λ _. unmoved s)
      (λ _. shrunk s.channels (change set_lock c.map s.channels) (change_less set_lock (λ p k e t. t) c.map s.channels)))

  waitcycle_after : (s : State) → After s (do_waitcycle c s)
  unfolding do_waitcycle silent finished
  waitcycle_after s =
      let h = at (lowest (length s.channels) c.map) s.channels in
      if_elim (After s) (not (matches c.key h)) (λ _. unmoved s)
      (λ _. if_elim (After s) (playing h) (λ _. unmoved s) (λ _. unmoved s))

  read_after : (s : State) → After s (do_read c s)
  unfolding do_read finished
  read_after s =
      if_elim (After s) (matches c.key (at (lowest (length s.channels) c.map) s.channels)) (λ _. unmoved s) (λ _. unmoved s)

  allocating-after : (l : Look) (s : State) → After s (allocating l c s)
  unfolding allocating waits silent finished
  allocating-after fails s = if_elim (After s) (nowait c.flags) (λ _. unmoved s) (λ _. unmoved s)
  allocating-after (held m) s = unmoved s
  allocating-after (grants m) s =
      shrunk s.channels (granted m c.key c.prec s).channels (granted_less m c.key c.prec s)

  opening-after : (l : Look) (s : State) → After s (opening l c s)
  unfolding opening silent
  opening-after fails s = unmoved s
  opening-after (held m) s = unmoved s
  opening-after (grants m) s = shrunk s.channels (granted m c.key c.prec s).channels (granted_less m c.key c.prec s)

  close_after : (s : State) → After s (do_close c s)
  unfolding do_close silent
  close_after s =
      let m = owned c.key s.channels in shrunk s.channels (freeing m s).channels (freeing_less m s)

  abort_after : (s : State) → After s (do_abort c s)
  unfolding do_abort leaving cut silent
  abort_after s =
      shrunk s.channels (map (without c.id) s.channels) (map_less (without c.id) (without_fewer c.id) s.channels)

  -- one write more, on the channel of the lowest bit
  behind : (p : ℕ → Bool) (ws : List Write) → T (wrote p (ws ++ write_of c ∷ [])) → T (wrote p ws || p c.id)
  unfolding any
  behind p [] t = go (p c.id) t
    where
      go : (b : Bool) → T (b || false) → T b
      go true u = tt
      go false u = u
  behind p (w ∷ ws) t = go (p w.id) (behind p ws) t
    where
      go : (b : Bool) → (T (wrote p (ws ++ write_of c ∷ [])) → T (wrote p ws || p c.id)) → T (b || wrote p (ws ++ write_of c ∷ []))
          → T ((b || wrote p ws) || p c.id)
      go true f u = tt
      go false f u = f u

  module _ (own : T (of_desk d c.id)) where
    abbrev New : (ℕ → Bool) → ℕ → Bool
    New p k = eqb c.key k && (of_desk d c.id && p c.id)

    longer : (e : Channel) → T (matches c.key e) → (p : ℕ → Bool) (k : ℕ) → T (has p k (set_writes (e.writes ++ write_of c ∷ []) e)) → T (has p k e || New p k)
    unfolding matches
    longer e h p k t =
        let a = eqb e.key k in
        let b = wrote p (e.writes ++ write_of c ∷ []) in
        let x = and_left a b t in
        by_test (wrote p e.writes)
        (λ u. or_left (has p k e) (New p k) (and_both a (wrote p e.writes) x u))
        (λ u. or_right (has p k e) (New p k)
        (and_both (eqb c.key k) (of_desk d c.id && p c.id)
        (subst (λ (i : ℕ). T (eqb i k)) (eqb→eq e.key c.key (and_right (not (eqb c.key 0)) (eqb e.key c.key) h)) x)
        (and_both (of_desk d c.id) (p c.id) own (or_rest (wrote p e.writes) (p c.id) (behind p e.writes (and_right a b t)) u))))

    at_other : (x : ℕ) (e : Channel) (cs : List Channel) → at (bit false x) (e ∷ cs) ≡ at x cs
    unfolding at
    at_other x e cs = rw (odd-bit false x, half-bit false x) refl

    joined : (m : ℕ) (cs : List Channel) → T (matches c.key (at (lowest (length cs) m) cs))
        → Grown d c cs (change (set_writes ((at (lowest (length cs) m) cs).writes ++ write_of c ∷ [])) (lowest (length cs) m) cs)
    unfolding lowest change any
    joined m [] h p k t = absurd t
    joined m (e ∷ cs) h p k t = go (odd m) h (joined (half m) cs) t
      where
        x : ℕ
        x = lowest (length cs) (half m)

        with_tail : (a a' r r' n : Bool) → (T a → T (a' || n)) → (T r → T (r' || n)) → T (a || r) → T ((a' || r') || n)
        with_tail true true r r' n f g u = tt
        with_tail true false r true n f g u = tt
        with_tail true false r false n f g u = f u
        with_tail false true r r' n f g u = tt
        with_tail false false r r' n f g u = g u

        go : (b : Bool) → T (matches c.key (at (if b then 1 else bit false x) (e ∷ cs)))
            → (T (matches c.key (at x cs)) → Grown d c cs (change (set_writes ((at x cs).writes ++ write_of c ∷ [])) x cs))
            → T (any (has p k) (change (set_writes ((at (if b then 1 else bit false x) (e ∷ cs)).writes ++ write_of c ∷ [])) (if b then 1 else bit false x) (e ∷ cs)))
            → T ((has p k e || any (has p k) cs) || New p k)
        go true v ih u =
            unfold at odd half in
            with_tail (has p k (set_writes (e.writes ++ write_of c ∷ []) e)) (has p k e) (any (has p k) cs) (any (has p k) cs) (New p k)
            (longer e v p k) (or_left (any (has p k) cs) (New p k))
            (rw (change_zero (set_writes (e.writes ++ write_of c ∷ [])) cs) at u)
        go false v ih u =
            let o : at (if false then 1 else bit false x) (e ∷ cs) ≡ at x cs = at_other x e cs in
            let w = subst (λ (d : Channel). T (any (has p k) (change (set_writes (d.writes ++ write_of c ∷ [])) (bit false x) (e ∷ cs)))) o u in
            with_tail (has p k e) (has p k e) (any (has p k) (change (set_writes ((at x cs).writes ++ write_of c ∷ [])) x cs)) (any (has p k) cs) (New p k)
            (or_left (has p k e) (New p k)) (ih (rw o at v) p k)
            (rw (odd-bit false x, half-bit false x) at w)

    write_after : (s : State) → After s (do_write c s)
    unfolding do_write silent finished
    write_after s =
        if_elim (After s) (matches c.key (at (lowest (length s.channels) c.map) s.channels))
        (λ t. joined c.map s.channels t) (λ _. unmoved s)

    perform-after : (k : Kind) (s : State) → After s (perform k c s)
    unfolding perform do_free do_allocate each finished silent
    perform-after RESET s = each_after CMD_RESET reset (emptied reset (λ e. refl)) true s
    perform-after READ s = read_after s
    perform-after WRITE s = write_after s
    perform-after UPDATE s = each_after CMD_UPDATE same (λ p k e t. t) false s
    perform-after CLEAR s = each_after CMD_CLEAR same (λ p k e t. t) false s
    perform-after STOP s = each_after CMD_STOP (set_stop true) (λ p k e t. t) false s
    perform-after START s = each_after CMD_START (set_stop false) (λ p k e t. t) false s
    perform-after FLUSH s = each_after CMD_FLUSH flushed (emptied flushed (λ e. refl)) true s
    perform-after FREE s =
        let m = matching c.key c.map s.channels in shrunk s.channels (freeing m s).channels (freeing_less m s)
    perform-after SETPREC s = each_after ADCMD_SETPREC (set_prec c.prec) (λ p k e t. t) false s
    perform-after FINISH s = finish-after s
    perform-after PERVOL s = pervol-after s
    perform-after LOCK s = lock-after s
    perform-after WAITCYCLE s = waitcycle_after s
    perform-after ALLOCATE s = allocating-after (look c.prec c.combos s.channels) s
    perform-after UNKNOWN s = unmoved s

  settling-after : (s : State) (o : Outcome) → After s o → After s (settling o)
  unfolding settling settle
  settling-after s o g p k t = g p k (rounds_less (suc (length o.next.waiting)) o.next p k t)

  command_own : (n : ℕ) (s : State) → T (eqb c.desk d) → refusal (COMMAND n) c s ≡ accepted → T (of_desk d c.id)
  unfolding refusal
  command_own n s k e = own_id d c k (first_none _ e).1.1.1.0

  accept-after : (o : Op) (s : State) → T (calls d o c) → refusal o c s ≡ accepted → After s (accept o c s)
  unfolding accept open_settling do_open calls
  accept-after OPEN s t e =
      let l = look c.prec c.combos s.channels in
      if_elim (After s) (eqb (opening l c s).answer.error ALLOCFAILED) (λ _. opening-after l s)
      (λ _. settling-after s (opening l c s) (opening-after l s))
  accept-after CLOSE s t e = settling-after s (do_close c s) (close_after s)
  accept-after ABORT s t e = settling-after s (do_abort c s) (abort_after s)
  accept-after (EVENT v) s t e = absurd t
  accept-after (COMMAND n) s t e = settling-after s (perform (kind n) c s) (perform-after (command_own n s t e) (kind n) s)

  call-after : (s : State) → T (calls d c.op c) → After s (call s c)
  unfolding call answering
  call-after s t = go (refusal c.op c s) refl
    where
      go : (f : Refusal) → refusal c.op c s ≡ f → After s (answering f c s)
      go accepted e = accept-after c.op s t e
      go (refused n) e = rw (refuse_same c.op n c s) (unmoved s)

-- ---- no key with writes of both desks

-- a test of keys that every channel passes is passed by the key of a write
key_of : (r p : ℕ → Bool) (k : ℕ) (cs : List Channel) → T (all (λ c. r c.key) cs) → T (any (has p k) cs) → T (r k)
unfolding all any
key_of r p k [] t u = absurd u
key_of r p k (c ∷ cs) t u =
    by_test (has p k c)
    (λ v. subst (λ (i : ℕ). T (r i)) (eqb→eq c.key k (and_left (eqb c.key k) (wrote p c.writes) v)) (and_left (r c.key) (all (λ e. r e.key) cs) t))
    (λ v. key_of r p k cs (and_right (r c.key) (all (λ e. r e.key) cs) t) (or_rest (has p k c) (any (has p k) cs) u v))

all_keys : (r : ℕ → Bool) → ((k : ℕ) → T (r k)) → (cs : List Channel) → T (all (λ c. r c.key) cs)
unfolding all
all_keys r f [] = tt
all_keys r f (c ∷ cs) = and_both (r c.key) (all (λ e. r e.key) cs) (f c.key) (all_keys r f cs)

-- what one desk wrote, the other did not
has_mono : (p q : ℕ → Bool) → ((i : ℕ) → T (p i) → T (q i)) → (k : ℕ) (cs : List Channel) → T (any (has p k) cs) → T (any (has q k) cs)
unfolding any
has_mono p q f k [] t = t
has_mono p q f k (c ∷ cs) t =
    or_map (has p k c) (has q k c) (any (has p k) cs) (any (has q k) cs)
    (λ u. and_both (eqb c.key k) (wrote q c.writes) (and_left (eqb c.key k) (wrote p c.writes) u)
    (more c.writes (and_right (eqb c.key k) (wrote p c.writes) u))) (has_mono p q f k cs) t
  where
    more : (ws : List Write) → T (wrote p ws) → T (wrote q ws)
    more [] u = u
    more (w ∷ ws) u = or_map (p w.id) (q w.id) (wrote p ws) (wrote q ws) (f w.id) (more ws) u

-- the key of the other desk's writes is not the call's
apart : (a d k : ℕ) (c : Call) (s : State) → (a ≡ d → ⊥) → T (clear d c.key s) → T (eqb c.key k) → T (any (has (of_desk a) k) s.channels) → ⊥
unfolding clear under
apart a d k c s n t e u =
    T_not (any (has (λ i. not (of_desk d i)) c.key) s.channels) t
    (has_mono (of_desk a) (λ i. not (of_desk d i)) (λ i v. not_T (of_desk d i) (λ x. n (sym (eqb→eq (desk_of i) a v) ∙ eqb→eq (desk_of i) d x))) c.key s.channels
    (subst (λ (i : ℕ). T (any (has (of_desk a) i) s.channels)) (sym (eqb→eq c.key k e)) u))

module _ (d : ℕ) (c : Call) (s : State) (one : T (one_key s)) (not-theirs : T (clear d c.key s)) where
  abbrev Mixed : ℕ → List Channel → Bool
  Mixed k cs = any (has (of_desk DESK_A) k) cs && any (has (of_desk DESK_B) k) cs

  -- either stood there before, or is the call's
  unmixed : (ds : List Channel) → Grown d c s.channels ds → (k : ℕ) → T (any (has (of_desk DESK_A) k) ds) → T (any (has (of_desk DESK_B) k) ds) → ⊥
  unfolding one_key under
  unmixed ds g k a b =
      let cs = s.channels in
      let oldA = any (has (of_desk DESK_A) k) cs in
      let oldB = any (has (of_desk DESK_B) k) cs in
      by_test oldA
      (λ u. by_test oldB
      (λ v. T_not (Mixed k cs) (key_of (λ i. not (Mixed i cs)) (of_desk DESK_A) k cs one u) (and_both oldA oldB u v))
      (λ v. let n = new DESK_B oldB (g (of_desk DESK_B) k b) v in
      apart DESK_A d k c s (λ e. zero_one (e ∙ n.1)) not-theirs n.0 u))
      (λ u. let n = new DESK_A oldA (g (of_desk DESK_A) k a) u in
      by_test oldB
      (λ v. apart DESK_B d k c s (λ e. zero_one (sym (e ∙ n.1))) not-theirs n.0 v)
      (λ v. zero_one (sym n.1 ∙ (new DESK_B oldB (g (of_desk DESK_B) k b) v).1)))
    where
      zero_one : DESK_A ≡ DESK_B → ⊥
      zero_one e = subst (λ (i : ℕ). T (eqb DESK_A i)) e (eqb_refl DESK_A)

      new : (a : ℕ) (b : Bool) → T (b || eqb c.key k && (of_desk d c.id && of_desk a c.id)) → T (not b) → T (eqb c.key k) × (d ≡ a)
      new a true t u = absurd u
      new a false t u =
          let x = of_desk d c.id && of_desk a c.id in
          let y = and_right (eqb c.key k) x t in
          (and_left (eqb c.key k) x t, sym (eqb→eq (desk_of c.id) d (and_left (of_desk d c.id) (of_desk a c.id) y)) ∙ eqb→eq (desk_of c.id) a (and_right (of_desk d c.id) (of_desk a c.id) y))

  -- so it holds again after the desk's call
  one_key-after : T (calls d c.op c) → T (one_key (call s c).next)
  unfolding one_key under
  one_key-after t =
      let ds = (call s c).next.channels in
      all_keys (λ k. not (Mixed k ds))
      (λ k. not_T (Mixed k ds)
      (λ m. let a = any (has (of_desk DESK_A) k) ds in
      let b = any (has (of_desk DESK_B) k) ds in
      unmixed ds (call-after d c s t) k (and_left a b m) (and_right a b m)))
      ds

-- "neither with writes of both desks under one key" holds again of both states
pub kept_apart : (d : ℕ) (c : Call) (s t : State) → Premises d c s t → T (one_key (call s c).next) × T (one_key (call t c).next)
kept_apart d c s t p =
    (one_key-after d c s p.one_desk.0 p.not_theirs.0 p.its_call, one_key-after d c t p.one_desk.1 p.not_theirs.1 p.its_call)
