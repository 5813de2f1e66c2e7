-- Settling is the same: every look, every grant and every reply. Assumes nothing.
use Prim.Native.Nat.{ℕ, zero, suc}
use mathlib.Core.Path.{◌≡◌, refl}
use mathlib.Core.Bool.{not}
use mathlib.Core.List.{List, [], ◌∷◌, ◌++◌, map, map-append}
use lib.ListN.{length, length-map}
use Rattle.machine.specs.Numbers.{ALLOCFAILED, CHANNELSTOLEN}
use Rattle.machine.specs.Lists.{keep}
use Rattle.machine.specs.State.{Lock, State}
use Rattle.machine.specs.Maps.{odd, half, meets}
use Rattle.machine.specs.Settling.{Found, nobody, somebody, Walk, Settled, replied, staying, saying, on_look, walk, walked, go_on, rounds, settle}
use Rattle.old_logs.specs.Old
use Rattle.old_logs.specs.Now.{now_channel, now_lock, now_request, now, now_reply}
use Rattle.old_logs.proofs.Lists.{if_as, keep_map}
use Rattle.old_logs.proofs.Maps.{length-now}
use Rattle.old_logs.proofs.Choosing.{now_look, look_now}
use Rattle.old_logs.proofs.Granting.{key_for-now, dropped-now, granted-now}
use Rattle.old_logs.proofs.Commands.{ended-now}

abbrev now_found : Old.Found → Found
now_found Old.nobody = nobody
now_found (Old.somebody r m) = somebody (now_request r) m

abbrev now_walk : Old.Walk → Walk
now_walk w =
    record {
      found = now_found w.found;
      waiting = map now_request w.waiting;
      locks = map now_lock w.locks;
      replies = map now_reply w.replies;
    }

abbrev pub now_settled : Old.Settled → Settled
now_settled t = record { state = now t.state; replies = map now_reply t.replies }

saying-now : (rs : List Old.Reply) (w : Old.Walk) → saying (map now_reply rs) (now_walk w) ≡ now_walk (Old.saying rs w)
unfolding saying Old.saying
saying-now rs w = rw (map-append now_reply rs w.replies)

on_look-now : (n : ℕ) (l : Old.Look) (r : Old.Request) (rs : List Old.Request) (ls : List Old.Lock) (f : List Lock → Walk) (g : List Old.Lock → Old.Walk)
    → ((x : List Old.Lock) → f (map now_lock x) ≡ now_walk (g x))
    → on_look n (now_look l) (now_request r) (map now_request rs) (map now_lock ls) f ≡ now_walk (Old.on_look n l r rs ls g)
unfolding on_look staying replied meets odd half Old.on_look Old.staying Old.replied Old.meets Old.odd Old.half
on_look-now n Old.fails r rs ls f g e =
    rw (e ls)
    (if_as now_walk r.impatient
    (λ _. saying-now (Old.replied ALLOCFAILED 0 r.key r ∷ []) (g ls))
    (λ _. refl))
on_look-now n (Old.held m) r rs ls f g e =
    let on = keep (λ l. Old.meets n m l.map) ls in
    let off = keep (λ l. not (Old.meets n m l.map)) ls in
    rw (keep_map (λ l. meets n m l.map) now_lock ls, keep_map (λ l. not (meets n m l.map)) now_lock ls, ended-now CHANNELSTOLEN on, e off)
    (saying-now (map (Old.ended CHANNELSTOLEN) on) (Old.staying r (g off)))
on_look-now n (Old.grants m) r rs ls f g e = refl

walk-now : (cs : List Old.Channel) (rs : List Old.Request) (ls : List Old.Lock) → walk (map now_channel cs) (map now_request rs) (map now_lock ls) ≡ now_walk (Old.walk cs rs ls)
unfolding walk Old.walk
walk-now cs [] ls = refl
walk-now cs (r ∷ rs) ls =
    rw (length-now cs, look_now r.prec r.combos cs)
    (on_look-now (length cs) (Old.look r.prec r.combos cs) r rs ls (walk (map now_channel cs) (map now_request rs)) (Old.walk cs rs) (walk-now cs rs))

go_on-now : (f : Old.Found) (w : Old.Walk) (s : Old.State) (again : State → Settled) (before : Old.State → Old.Settled)
    → ((u : Old.State) → again (now u) ≡ now_settled (before u))
    → go_on (now_found f) (now_walk w) (now s) again ≡ now_settled (Old.go_on f w s before)
unfolding go_on walked Old.go_on Old.walked
go_on-now Old.nobody w s again before e = refl
go_on-now (Old.somebody r m) w s again before e =
    let u = Old.walked w s in
    let g = Old.granted m r.key r.prec u in
    let rest = before g in
    let a = Old.aborted_in m s.channels in
    let z = Old.replied 0 m (Old.key_for r.key u) r ∷ rest.replies in
    rw (key_for-now r.key u, granted-now m r.key r.prec u, e g, dropped-now m s, map-append now_reply (w.replies ++ a) z, map-append now_reply w.replies a)
    (unfold replied Old.replied in refl)

rounds-now : (n : ℕ) (s : Old.State) → rounds n (now s) ≡ now_settled (Old.rounds n s)
unfolding rounds Old.rounds
rounds-now zero s = refl
rounds-now (suc n) s =
    let w = Old.walk s.channels s.waiting s.locks in
    rw (walk-now s.channels s.waiting s.locks)
    (go_on-now w.found w s (rounds n) (Old.rounds n) (rounds-now n))

pub settle-now : (s : Old.State) → settle (now s) ≡ now_settled (Old.settle s)
unfolding settle Old.settle
settle-now s = rw (length-map s.waiting now_request) (rounds-now (suc (length s.waiting)) s)
