-- The promise of a turn, from what its step did. Assumes nothing.
use Prim.Native.Nat.{ℕ, suc, ◌+◌, ◌-◌, ◌≤◌, ◌<◌}
use mathlib.Core.Path.{◌≡◌, refl, ap, ap₂, sym, subst, ◌∙◌}
use mathlib.Core.Bool.{true, false, not, ◌&&◌}
use mathlib.Core.List.{List, [], ◌∷◌, ◌++◌}
use native.Mathlib.Omega.{arith}
use lib.Dec.{T, ltb, ltb→lt}
use lib.ListN.{length, take, drop, length-append, length-map}
use Rattle.machine.specs.Lists.{all}
use Rattle.machine.specs.State.{Channel as ChannelM, Request, State as StateM}
use Rattle.machine.specs.Choosing.{Choice, none, chosen, eligible, all_free, costs_less, first_free, cheaper, cheapest, or_else, choose, Look, fails, held, grants, standing, look}
use Rattle.machine.specs.Maps.{named}
use Rattle.machine.specs.Granting.{key_for, dropped, granted, taken}
use Rattle.display.proofs.machine_laws.Maps.{length-change}
use Rattle.machine.specs.Settling.{replied, settle}
use Rattle.machine.proofs.Tests.{if_elim, and_left, and_right}
use Rattle.display.proofs.machine_laws.Looking.{behind, resume_drops, resume_held, resume-grants}
use Rattle.display.specs.Looks.{looks}
use Rattle.display.proofs.Looking.{further_drops, further_held, further-grants}
use Rattle.one_request.specs.store.declared.State.{State}
use Rattle.one_request.specs.store.Store.{struct_of, state_in}
use Rattle.one_request.specs.store.Work.{Ready, Did}
use Rattle.one_request.proofs.store.Store.{held_parts, held_eight, held_next}
use Rattle.lanes.specs.Lanes.{word_of, weights}
use Rattle.lanes.proofs.Laws.{weights_out}
use Rattle.one_request.specs.waiting.Waiting.{nobody, waiter}
use Rattle.one_request.specs.OneRequest.{out_at, dropped_replies, stolen, without_locks}
use Rattle.choosing.specs.declared.Look.{Look as LookC}
use Rattle.choosing.specs.declared.Look.TheVariants.{Fails}
use Rattle.choosing.specs.Choosing.{look_in}
use Rattle.choosing.proofs.Laws.{look_in_of}
use Rattle.visiting.specs.Visiting.{onward, after_look, replies_to, next_place, is_grant, Looked, Visits, Turned, to_look, SameTurn}
use Rattle.visiting.specs.declared.Turn.{Turn}
use Rattle.one_request.proofs.waiting.Waiting.{waiter_in}
use Rattle.one_request.proofs.Without.{out_sound}
use Rattle.one_request.proofs.waiting.Finding.{comes-impatient}
use Rattle.visiting.proofs.Turns.{same_behind, fits_behind, onward_at, onward_next, onward_out, out_length, waiter-sound, request_ranges, locks-sound, granted-sound, to_look_at, to_look_next, to_look_out}

-- ---- the chosen map is on the board

abbrev Below : ℕ → Choice → Type 0
Below b none = Unit {0}
Below b (chosen m) = m < b

abbrev BelowL : ℕ → Look → Type 0
BelowL b fails = Unit {0}
BelowL b (held m) = m < b
BelowL b (grants m) = m < b

first_below : (b p : ℕ) (ms : List ℕ) (cs : List ChannelM) → T (all (λ m. ltb m b) ms) → Below b (first_free p ms cs)
unfolding first_free all
first_below b p [] cs t = tt
first_below b p (m ∷ ms) cs t =
    if_elim (Below b) (eligible p m cs && all_free m cs) (λ _. ltb→lt m b (and_left (ltb m b) (all (λ x. ltb x b) ms) t)) (λ _. first_below b p ms cs (and_right (ltb m b) (all (λ x. ltb x b) ms) t))

cheaper-below : (b m : ℕ) (o : Choice) (cs : List ChannelM) → m < b → Below b o → Below b (cheaper m o cs)
unfolding cheaper
cheaper-below b m none cs h k = h
cheaper-below b m (chosen o) cs h k = if_elim (Below b) (costs_less o m cs) (λ _. k) (λ _. h)

cheapest-below : (b p : ℕ) (ms : List ℕ) (cs : List ChannelM) → T (all (λ m. ltb m b) ms) → Below b (cheapest p ms cs)
unfolding cheapest all
cheapest-below b p [] cs t = tt
cheapest-below b p (m ∷ ms) cs t =
    let r = cheapest-below b p ms cs (and_right (ltb m b) (all (λ x. ltb x b) ms) t) in
    if_elim (Below b) (eligible p m cs) (λ _. cheaper-below b m (cheapest p ms cs) cs (ltb→lt m b (and_left (ltb m b) (all (λ x. ltb x b) ms) t)) r) (λ _. r)

choose-below : (b p : ℕ) (ms : List ℕ) (cs : List ChannelM) → 0 < b → T (all (λ m. ltb m b) ms) → Below b (choose p ms cs)
unfolding choose
choose-below b p [] cs h t = h
choose-below b p (m ∷ ms) cs h t = go (first_free p (m ∷ ms) cs) (first_below b p (m ∷ ms) cs t)
  where
    go : (o : Choice) → Below b o → Below b (or_else o (cheapest p (m ∷ ms) cs))
    go none x = unfold or_else in cheapest-below b p (m ∷ ms) cs t
    go (chosen k) x = unfold or_else in x

look_below : (b p : ℕ) (ms : List ℕ) (cs : List ChannelM) → 0 < b → T (all (λ m. ltb m b) ms) → BelowL b (look p ms cs)
unfolding look
look_below b p ms cs h t = go (choose p ms cs) (choose-below b p ms cs h t)
  where
    go : (o : Choice) → Below b o → BelowL b (standing o cs)
    go none x = unfold standing in tt
    go (chosen m) x = unfold standing in if_elim (BelowL b) (named (λ c. not c.locked) m cs) (λ _. x) (λ _. x)

-- ---- what a look gives

module _ {st : State} {tb l : List ℕ} {n i : ℕ} {k : Look} (q : Looked st tb l n i k) where
  pub place_in : i < length (state_in st tb).waiting
  place_in = waiter_in q.ready.held i q.inside

  pub map_below : BelowL 256 k
  map_below =
      let s = state_in st tb in
      let r = request_ranges s.channels (waiter i s) (waiter-sound s (held_parts q.ready.held) i place_in) in
      subst (BelowL 256) q.seen (look_below 256 (waiter i s).prec (waiter i s).combos s.channels (omega arith) (rw (held_eight q.ready.held) at r.2))

count_of : {st : State} (s : StateM) → st ≡ struct_of s → st.waiting.n ≡ length s.waiting
count_of {st} s e = ap (λ (x : State). x.waiting.n) e ∙ length-map s.waiting (λ (r : Request). r.id)

-- ---- held

module _ {st : State} {tb l : List ℕ} {n i m : ℕ} (q : Looked st tb l n i (held m)) where
  held_is : onward i (state_in st tb) ≡ behind (stolen m (state_in st tb)) (onward (i + 1) (without_locks m (state_in st tb)))
  held_is =
      let s = state_in st tb in
      onward_at s i (place_in q) ∙ (resume_held (take i s.waiting) (waiter i s) (drop (suc i) s.waiting) s m q.seen
      ∙ ap (behind (stolen m s)) (sym (onward_next s i (place_in q) (without_locks m s) refl)))

  pub held_fits : n + length (stolen m (state_in st tb)) ≤ 64
  held_fits = fits_behind (stolen m (state_in st tb)) (onward i (state_in st tb)) (onward (i + 1) (without_locks m (state_in st tb))) n 64 held_is q.ready.fits

  pub held_ready : Ready st tb l n (length (stolen m (state_in st tb)))
  held_ready = record { held = q.ready.held; room = q.ready.room; fits = held_fits }

  pub held_turned : {t : State} {tb' l' : List ℕ} {n' : ℕ} → Did (without_locks m (state_in st tb)) (stolen m (state_in st tb)) l n t tb' l' n'
      → Turned st tb l n i (record { state = t; n = n'; next = i + 1; granted = false; left = 0 }) tb' l'
  held_turned {t} {tb'} {l'} {n'} d =
      let s = state_in st tb in
      let h = q.ready.held in
      let p = locks-sound s (held_parts h) m in
      let w = held_next (without_locks m s) t tb' p (held_eight h) d.struct d.table in
      let a = count_of s h.struct in
      let b = count_of (without_locks m s) d.struct in
      let ins = q.inside in
      let f = held_fits in
      let r = q.ready.room in
      record {
        did = subst (λ (k : Look). Did (after_look k i s) (replies_to k i s) l n t tb' l' n') (sym q.seen) d;
        next = sym (ap (λ (k : Look). next_place k i) q.seen);
        grant = sym (ap is_grant q.seen);
        held = w.0;
        same = same_behind (onward i s) (onward (i + 1) (state_in t tb')) (held_is ∙ ap (λ (u : StateM). behind (stolen m s) (onward (i + 1) u)) (sym w.1)) d (omega arith);
        less = (omega arith, omega arith, omega arith);
        still = λ _. ap (λ (u : StateM). u.channels) w.1;
        left = let e = ap (λ (u : StateM). weights u.waiting) w.1 in omega (arith, e);
        look =
            to_look_at s i (place_in q)
            ∙ (further_held (take i s.waiting) (waiter i s) (drop (suc i) s.waiting) s m q.seen
            ∙ ap suc (sym (to_look_next s i (place_in q) (without_locks m s) refl) ∙ ap (to_look (i + 1)) (sym w.1)));
      }

-- ---- granted

module _ {st : State} {tb l : List ℕ} {n i m : ℕ} (q : Looked st tb l n i (grants m)) where
  grant_is : onward i (state_in st tb) ≡ behind (dropped m (state_in st tb) ++ replied 0 m (key_for (waiter i (state_in st tb)).key (out_at i (state_in st tb))) (waiter i (state_in st tb)) ∷ []) (settle (granted m (waiter i (state_in st tb)).key (waiter i (state_in st tb)).prec (out_at i (state_in st tb))))
  grant_is =
      let s = state_in st tb in
      onward_at s i (place_in q) ∙ resume-grants (take i s.waiting) (waiter i s) (drop (suc i) s.waiting) s m q.seen

  pub grant_fits : n + (length (dropped m (state_in st tb)) + 1) ≤ 64
  grant_fits =
      let s = state_in st tb in
      let x = replied 0 m (key_for (waiter i s).key (out_at i s)) (waiter i s) in
      let f = fits_behind (dropped m s ++ x ∷ []) (onward i s) (settle (granted m (waiter i s).key (waiter i s).prec (out_at i s))) n 64 grant_is q.ready.fits in
      let e = length-append (dropped m s) (x ∷ []) in
      omega arith

  pub grant-ready : Ready st tb l n (length (dropped m (state_in st tb)) + 1)
  grant-ready = record { held = q.ready.held; room = q.ready.room; fits = grant_fits }

  pub grant_turned : {t : State} {tb' l' : List ℕ} {n' x : ℕ} → x ≡ word_of (waiter i (state_in st tb)).combos
      → Did (granted m (waiter i (state_in st tb)).key (waiter i (state_in st tb)).prec (out_at i (state_in st tb))) (dropped m (state_in st tb) ++ replied 0 m (key_for (waiter i (state_in st tb)).key (out_at i (state_in st tb))) (waiter i (state_in st tb)) ∷ []) l n t tb' l' n'
      → Turned st tb l n i (record { state = t; n = n'; next = 0; granted = true; left = x }) tb' l'
  grant_turned {t} {tb'} {l'} {n'} {x} v d =
      let s = state_in st tb in
      let h = q.ready.held in
      let g = granted m (waiter i s).key (waiter i s).prec (out_at i s) in
      let rs = dropped m s ++ replied 0 m (key_for (waiter i s).key (out_at i s)) (waiter i s) ∷ [] in
      let p = granted-sound s (held_parts h) i m (place_in q) q.seen in
      let w = held_next g t tb' p (granted-eight m (waiter i s).key (waiter i s).prec (out_at i s) (held_eight h)) d.struct d.table in
      let a = count_of s h.struct in
      let b : t.waiting.n ≡ length (out_at i s).waiting = count_of g d.struct ∙ waiting_same m (waiter i s).key (waiter i s).prec (out_at i s) in
      let o = out_length s i (place_in q) in
      let f = fits_behind rs (onward i s) (settle g) n 64 grant_is q.ready.fits in
      let r = q.ready.room in
      record {
        did = subst (λ (k : Look). Did (after_look k i s) (replies_to k i s) l n t tb' l' n') (sym q.seen) d;
        next = sym (ap (λ (k : Look). next_place k i) q.seen);
        grant = sym (ap is_grant q.seen);
        held = w.0;
        same = same_behind (onward i s) (settle (state_in t tb')) (grant_is ∙ ap (λ (u : StateM). behind rs (settle u)) (sym w.1)) d (omega arith);
        less = omega arith;
        still = λ e. absurd (let z : ◌≡◌ {A = ℕ} 0 1 = cc in omega arith);
        left = let e = ap (λ (u : StateM). weights u.waiting) w.1 in omega (arith, e, v, waiting-weights m (waiter i s).key (waiter i s).prec (out_at i s), weights_out nobody s.waiting i (place_in q));
        look =
            to_look_at s i (place_in q)
            ∙ (further-grants (take i s.waiting) (waiter i s) (drop (suc i) s.waiting) s m q.seen ∙ ap (λ (u : StateM). suc (looks u)) (sym w.1));
      }
    where
      granted-eight : (x k pr : ℕ) (u : StateM) → length u.channels ≡ 8 → length (granted x k pr u).channels ≡ 8
      granted-eight x k pr u e = unfold granted in length-change (taken (key_for k u) pr) x u.channels ∙ e

      waiting-weights : (x k pr : ℕ) (u : StateM) → weights (granted x k pr u).waiting ≡ weights u.waiting
      waiting-weights x k pr u = unfold granted in refl

      waiting_same : (x k pr : ℕ) (u : StateM) → length (granted x k pr u).waiting ≡ length u.waiting
      waiting_same x k pr u = unfold granted in refl

-- ---- failed, with NOWAIT

module _ {st : State} {tb l : List ℕ} {n i : ℕ} (q : Looked st tb l n i fails) (b : (waiter i (state_in st tb)).impatient ≡ true) where
  drops_is : onward i (state_in st tb) ≡ behind (dropped_replies i (state_in st tb)) (onward i (out_at i (state_in st tb)))
  drops_is =
      let s = state_in st tb in
      onward_at s i (place_in q) ∙ (resume_drops (take i s.waiting) (waiter i s) (drop (suc i) s.waiting) s q.seen b ∙ ap (behind (dropped_replies i s)) (sym (onward_out s i (place_in q))))

  drops_fits : n + 1 ≤ 64
  drops_fits = let s = state_in st tb in fits_behind (dropped_replies i s) (onward i s) (onward i (out_at i s)) n 64 drops_is q.ready.fits

  pub drops_ready : Ready st tb l n 1
  drops_ready = record { held = q.ready.held; room = q.ready.room; fits = drops_fits }

  pub drops_turned : {t : State} {tb' l' : List ℕ} {n' x : ℕ} → x ≡ word_of (waiter i (state_in st tb)).combos → Did (out_at i (state_in st tb)) (dropped_replies i (state_in st tb)) l n t tb' l' n'
      → Turned st tb l n i (record { state = t; n = n'; next = i; granted = false; left = x }) tb' l'
  drops_turned {t} {tb'} {l'} {n'} {x} v d =
      let s = state_in st tb in
      let h = q.ready.held in
      let w = held_next (out_at i s) t tb' (out_sound i s (held_parts h)) (held_eight h) d.struct d.table in
      let a = count_of s h.struct in
      let c = count_of (out_at i s) d.struct in
      let o = out_length s i (place_in q) in
      let ins = q.inside in
      let f = drops_fits in
      let r = q.ready.room in
      record {
        did = subst (λ (k : Look). Did (after_look k i s) (replies_to k i s) l n t tb' l' n') (sym q.seen) d;
        next = sym (ap (λ (k : Look). next_place k i) q.seen);
        grant = sym (ap is_grant q.seen);
        held = w.0;
        same = same_behind (onward i s) (onward i (state_in t tb')) (drops_is ∙ ap (λ (u : StateM). behind (dropped_replies i s) (onward i u)) (sym w.1)) d (omega arith);
        less = (omega arith, omega arith, omega arith);
        still = λ _. ap (λ (u : StateM). u.channels) w.1;
        left = let e = ap (λ (u : StateM). weights u.waiting) w.1 in omega (arith, e, v, weights_out nobody s.waiting i (place_in q));
        look =
            to_look_at s i (place_in q)
            ∙ (further_drops (take i s.waiting) (waiter i s) (drop (suc i) s.waiting) s q.seen b
            ∙ ap suc (sym (to_look_out s i (place_in q)) ∙ ap (to_look i) (sym w.1)));
      }

-- ---- no second turn fits

pub one_turn : {st : State} {tb l : List ℕ} {n i : ℕ} {r r₂ : Turn} {tb₁ tb₂ l₁ l₂ : List ℕ} → Turned st tb l n i r tb₁ l₁ → Turned st tb l n i r₂ tb₂ l₂
    → SameTurn r r₂ tb₁ tb₂ l₁ l₂
one_turn {r = r} {r₂ = r₂} {tb₁ = tb₁} {tb₂ = tb₂} x y =
    let s = x.did.struct ∙ sym y.did.struct in
    let b = x.did.table ∙ sym y.did.table in
    let c = x.did.count ∙ sym y.did.count in
    let p = x.next ∙ sym y.next in
    let g = x.grant ∙ sym y.grant in
    let w = ap₂ (λ (u : State) (t : List ℕ). weights (state_in u t).waiting) s b in
    let e : r.left ≡ r₂.left = omega (arith, x.left, y.left, w) in
    record {
      turn = λ i. record { state = s i; n = c i; next = p i; granted = g i; left = e i };
      table = b;
      list = x.did.list ∙ sym y.did.list;
    }

-- ---- a look at which the walk stopped

module _ {st : State} {tb l : List ℕ} {n i : ℕ} {k : LookC} (v : Visits st tb l n i k) where
  pub visits_looked : {x : LookC} → k ≡ x → Looked st tb l n i (look_in x)
  visits_looked e = record { ready = v.ready; inside = v.inside; seen = sym (look_in_of _) ∙ ap look_in (sym v.seen ∙ e) }

  pub visits_impatient : k ≡ Fails → (waiter i (state_in st tb)).impatient ≡ true
  visits_impatient e = comes-impatient _ (rw (visits_looked e).seen at v.stops)
