-- A grant is the same: its key, its replies and the state after it. Assumes nothing.
use Prim.Native.Nat.{ℕ, zero, suc}
use mathlib.Core.Path.{◌≡◌, refl, ap, ap₂, sym, ◌∙◌}
use mathlib.Core.List.{List, [], ◌∷◌, ◌++◌, map, map-map, map-append, append-nil}
use lib.ListN.{length}
use Rattle.std.specs.Prelude.{if◌then◌else◌}
use Rattle.machine.specs.Lists.{keep}
use Rattle.machine.specs.State.{Channel, Request, Reply}
use Rattle.machine.specs.Maps.{odd, half}
use Rattle.machine.specs.Granting.{after, in_use, first_unused, new_key, key_for, last_for, aborted, aborted_in, cut, cut_replies, dropped, taken, granted}
use Rattle.old_logs.specs.Old
use Rattle.old_logs.specs.Now.{now_write, now_channel, now_request, now_reply, now}
use Rattle.old_logs.proofs.Lists.{if_out}
use Rattle.old_logs.proofs.Maps.{change-now}

-- ---- keys

in_use-now : (s : Old.State) → in_use (now s) ≡ Old.in_use s
unfolding in_use Old.in_use
in_use-now s =
    ap₂ (λ (a b : List ℕ). a ++ (b ++ s.opens))
    (map-map (λ (c : Channel). c.key) now_channel s.channels)
    (map-map (λ (r : Request). r.key) now_request s.waiting)

new_key-now : (s : Old.State) → new_key (now s) ≡ Old.new_key s
unfolding new_key first_unused after Old.new_key Old.first_unused Old.after
new_key-now s = ap (λ (u : List ℕ). first_unused (length u) (after s.last) u) (in_use-now s)

pub key_for-now : (k : ℕ) (s : Old.State) → key_for k (now s) ≡ Old.key_for k s
unfolding key_for Old.key_for
key_for-now zero s = new_key-now s
key_for-now (suc k) s = refl

last_for-now : (k : ℕ) (s : Old.State) → last_for k (now s) ≡ Old.last_for k s
unfolding last_for Old.last_for
last_for-now zero s = new_key-now s
last_for-now (suc k) s = refl

-- ---- replies

pub aborted-now : (k : ℕ) (is : List ℕ) → aborted k (map now_write is) ≡ map now_reply (Old.aborted k is)
unfolding aborted Old.aborted
aborted-now k is = map-map _ now_write is ∙ sym (map-map now_reply _ is)

pub aborted_in-now : (m : ℕ) (cs : List Old.Channel) → aborted_in m (map now_channel cs) ≡ map now_reply (Old.aborted_in m cs)
unfolding aborted_in odd half Old.aborted_in Old.odd Old.half
aborted_in-now m [] = refl
aborted_in-now m (c ∷ cs) =
    let a = Old.aborted c.key c.writes in
    ap₂ (λ (x y : List Reply). x ++ y)
    (ap (λ (x : List Reply). if odd m then x else []) (aborted-now c.key c.writes) ∙ if_out (map now_reply) (odd m) a [])
    (aborted_in-now (half m) cs)
    ∙ sym (map-append now_reply (if odd m then a else []) (Old.aborted_in (half m) cs))

-- nobody waits for a cycle
pub cut_now : (m : ℕ) (s : Old.State) → cut m (now s) ≡ now s
unfolding cut keep
cut_now m s = refl

pub cut_replies-now : (m : ℕ) (s : Old.State) → cut_replies m (now s) ≡ []
unfolding cut_replies keep
cut_replies-now m s = refl

pub dropped-now : (m : ℕ) (s : Old.State) → dropped m (now s) ≡ map now_reply (Old.aborted_in m s.channels)
unfolding dropped
dropped-now m s = rw (cut_replies-now m s, append-nil) (aborted_in-now m s.channels)

-- ---- the grant

pub granted-now : (m k p : ℕ) (s : Old.State) → granted m k p (now s) ≡ now (Old.granted m k p s)
unfolding granted cut keep Old.granted
granted-now m k p s =
    rw (key_for-now k s, last_for-now k s)
    (ap (λ (cs : List Channel). record { channels = cs; locks = (now s).locks; waiters = []; waiting = (now s).waiting; opens = s.opens; last = Old.last_for k s })
    (change-now (taken (Old.key_for k s) p) (Old.taken (Old.key_for k s) p) (unfold taken Old.taken in (λ c. refl)) m s.channels))
