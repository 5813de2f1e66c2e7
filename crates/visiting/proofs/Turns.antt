-- A turn of settling: each kind of look does its part, and what is to come stays the same. Assumes nothing.
use Prim.Native.Nat.{ℕ, zero, suc, ◌+◌, ◌*◌, ◌^◌, ◌≤◌, ◌<◌}
use mathlib.Core.Path.{◌≡◌, refl, ap, ap₂, sym, subst, ◌∙◌}
use mathlib.Core.Bool.{Bool, not, ◌&&◌}
use mathlib.Core.List.{List, [], ◌∷◌, ◌++◌, map}
use native.Mathlib.Omega.{arith}
use native.Mathlib.Numerals.{add-one}
use lib.Dec.{T, leb, ltb, leb→le}
use lib.ListN.{length, take, drop, get_or, length-append, length-take, length-drop}
use lib.Seq.{drop-cons, take-suc, take_at, drop_at, length-take-le}
use Rattle.one_request.specs.reply.Replies.{sent}
use Rattle.one_request.proofs.reply.Laws.{sent-append, length-sent}
use Rattle.machine.specs.Lists.{all}
use Rattle.machine.specs.State.{Channel as ChannelM, Lock, Request, Reply, State as StateM}
use Rattle.machine.specs.Maps.{named, meets}
use Rattle.machine.specs.Choosing.{grants, look}
use Rattle.machine.specs.Granting.{granted}
use Rattle.machine.specs.Sound.{sound_request, sound_lock, ids, writes_of}
use Rattle.machine.specs.Settling.{Settled}
use Rattle.machine.proofs.Tests.{and_left, and_right}
use Rattle.display.proofs.machine_laws.Lists.{sub_refl, sub_append, sub_map, sub_keep, sub_all}
use Rattle.display.proofs.machine_laws.Keeping.{ids_sub, parts_sub, grant-sound}
use Rattle.display.proofs.machine_laws.KeepingSettle.{Unlocked, look_unlocked}
use Rattle.display.specs.machine_laws.Looking.{resume}
use Rattle.display.proofs.machine_laws.Looking.{behind, resume-waiting}
use Rattle.display.specs.Looks.{further}
use Rattle.display.proofs.Looking.{further-waiting}
use Rattle.display.specs.machine_laws.Sound.{Parts}
use Rattle.one_request.specs.store.declared.State.{State}
use Rattle.one_request.specs.store.Work.{Did}
use Rattle.one_request.specs.waiting.Waiting.{nobody, waiter}
use Rattle.one_request.specs.OneRequest.{out_at, without_locks}
use Rattle.visiting.specs.Visiting.{onward, to_look, Same}
use Rattle.one_request.proofs.Without.{out_sound}

-- ---- Same

pub same_behind : {s' : StateM} {rs : List Reply} {l tb' l' : List ℕ} {n n' : ℕ} {st' : State} (x y : Settled) → x ≡ behind rs y → Did s' rs l n st' tb' l' n'
    → n * 6 + length rs * 6 ≤ length l → Same x l n y l' n'
same_behind {rs = rs} {l = l} {n = n} x y e d f =
    let li = d.list in
    let c = d.count in
    record {
      state = sym (ap (λ (t : Settled). t.state) e);
      list = ap₂ (λ (a : List ℕ) (k : ℕ). sent a k y.replies) li c ∙ (sent-append l n rs y.replies f ∙ ap (λ (t : Settled). sent l n t.replies) (sym e));
      count = let q = ap (λ (t : Settled). length t.replies) e ∙ length-append rs y.replies in omega arith;
      long = ap length li ∙ length-sent l n rs f;
    }

pub same_trans : {x y z : Settled} {l l' l'' : List ℕ} {n n' n'' : ℕ} → Same x l n y l' n' → Same y l' n' z l'' n'' → Same x l n z l'' n''
same_trans a b = record { state = b.state ∙ a.state; list = b.list ∙ a.list; count = b.count ∙ a.count; long = b.long ∙ a.long }

pub fits_behind : (rs : List Reply) (x y : Settled) (n k : ℕ) → x ≡ behind rs y → n + length x.replies ≤ k → n + length rs ≤ k
fits_behind rs x y n k e h = let q = ap (λ (t : Settled). length t.replies) e ∙ length-append rs y.replies in omega arith

-- ---- places

module _ (s : StateM) (i : ℕ) (h : i < length s.waiting) where
  rest_at : drop i s.waiting ≡ waiter i s ∷ drop (suc i) s.waiting
  rest_at = drop-cons s.waiting i nobody h

  front_at : take (i + 1) s.waiting ≡ take i s.waiting ++ waiter i s ∷ []
  front_at = rw (add-one i) (take-suc s.waiting i nobody h)

  pub onward_at : onward i s ≡ resume (take i s.waiting) (waiter i s ∷ drop (suc i) s.waiting) s
  unfolding onward
  onward_at = ap (λ (r : List Request). resume (take i s.waiting) r s) rest_at

  pub onward_next : (u : StateM) → u.waiting ≡ s.waiting → onward (i + 1) u ≡ resume (take i s.waiting ++ waiter i s ∷ []) (drop (suc i) s.waiting) u
  unfolding onward
  onward_next u e = ap (λ (w : List Request). resume (take (i + 1) w) (drop (i + 1) w) u) e ∙ ap₂ (λ (a b : List Request). resume a b u) front_at (ap (λ (k : ℕ). drop k s.waiting) (add-one i))

  pub onward_out : onward i (out_at i s) ≡ resume (take i s.waiting) (drop (suc i) s.waiting) s
  unfolding onward
  onward_out =
      let F = take i s.waiting in
      let B = drop (suc i) s.waiting in
      let f : length F ≡ i = length-take-le i s.waiting (omega arith) in
      ap₂ (λ (a b : List Request). resume a b (out_at i s)) (take_at F B i f) (drop_at F B i f) ∙ resume-waiting F B (F ++ B) s

  -- the same of the looks

  pub to_look_at : to_look i s ≡ further (take i s.waiting) (waiter i s ∷ drop (suc i) s.waiting) s
  unfolding to_look
  to_look_at = ap (λ (r : List Request). further (take i s.waiting) r s) rest_at

  pub to_look_next : (u : StateM) → u.waiting ≡ s.waiting → to_look (i + 1) u ≡ further (take i s.waiting ++ waiter i s ∷ []) (drop (suc i) s.waiting) u
  unfolding to_look
  to_look_next u e = ap (λ (w : List Request). further (take (i + 1) w) (drop (i + 1) w) u) e ∙ ap₂ (λ (a b : List Request). further a b u) front_at (ap (λ (k : ℕ). drop k s.waiting) (add-one i))

  pub to_look_out : to_look i (out_at i s) ≡ further (take i s.waiting) (drop (suc i) s.waiting) s
  unfolding to_look
  to_look_out =
      let F = take i s.waiting in
      let B = drop (suc i) s.waiting in
      let f : length F ≡ i = length-take-le i s.waiting (omega arith) in
      ap₂ (λ (a b : List Request). further a b (out_at i s)) (take_at F B i f) (drop_at F B i f) ∙ further-waiting F B (F ++ B) s

  pub out_length : suc (length (out_at i s).waiting) ≡ length s.waiting
  out_length = simp (length-append, length-take, length-drop) (omega arith)

-- ---- soundness

pub request_ranges : (cs : List ChannelM) (r : Request) → T (sound_request cs r) → (r.key ≤ 65535) × (r.prec ≤ 255) × T (all (λ m. ltb m (2 ^ length cs)) r.combos)
unfolding sound_request
request_ranges cs r t =
    let a = leb 1 (length r.combos) in
    let b = leb (length r.combos) 16 in
    let d = all (λ m. ltb m (2 ^ length cs)) r.combos in
    let e = leb r.key 65535 in
    let f = leb r.prec 255 in (
      leb→le r.key 65535 (and_right (a && b && d) e (and_left (a && b && d && e) f t)),
      leb→le r.prec 255 (and_right (a && b && d && e) f t),
      and_right (a && b) d (and_left (a && b && d) e (and_left (a && b && d && e) f t)),
    )

all_at : (p : Request → Bool) (rs : List Request) (i : ℕ) → T (all p rs) → i < length rs → T (p (get_or rs i nobody))
unfolding all
all_at p [] i t h = absurd (omega arith)
all_at p (r ∷ rs) zero t h = and_left (p r) (all p rs) t
all_at p (r ∷ rs) (suc i) t h = all_at p rs i (and_right (p r) (all p rs) t) (omega arith)

module _ (s : StateM) (p : Parts s) where
  pub waiter-sound : (i : ℕ) → i < length s.waiting → T (sound_request s.channels (waiter i s))
  waiter-sound i h = all_at (sound_request s.channels) s.waiting i p.waiting_ok h

  pub locks-sound : (m : ℕ) → Parts (without_locks m s)
  locks-sound m =
      let k = sub_keep (λ (l : Lock). not (meets (length s.channels) m l.map)) s.locks in
      parts_sub s (without_locks m s) p refl p.channels_ok (sub_all (sound_lock s.channels) k p.locks_ok) p.waiters_ok (sub_refl s.waiting)
      (ids_sub s (without_locks m s) (sub_refl (writes_of s.channels)) (sub_map (λ (l : Lock). l.id) k) (sub_refl (map (λ (w : Lock). w.id) s.waiters))
      (sub_refl (map (λ (r : Request). r.id) s.waiting)))
      p.opens_ok p.last_ok

  pub granted-sound : (i m : ℕ) → i < length s.waiting → look (waiter i s).prec (waiter i s).combos s.channels ≡ grants m
      → Parts (granted m (waiter i s).key (waiter i s).prec (out_at i s))
  granted-sound i m h e =
      let r = request_ranges s.channels (waiter i s) (waiter-sound i h) in
      let u : T (named (λ c. not c.locked) m s.channels) = subst (Unlocked s.channels) e (look_unlocked (waiter i s).prec (waiter i s).combos s.channels) in
      grant-sound m (waiter i s).key (waiter i s).prec (out_at i s) r.0 r.1 u (out_sound i s p)
