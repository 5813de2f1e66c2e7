-- Settling with free channels behind the board: every look, every key and every reply is the same. Assumes nothing.
use Prim.Native.Nat.{ℕ, zero, suc, ◌+◌, ◌^◌, ◌≤◌, ◌<◌}
use mathlib.Core.Path.{◌≡◌, refl, ap, ap₂, subst, sym, ◌∙◌}
use mathlib.Core.Bool.{Bool, true, false, not, ◌&&◌}
use mathlib.Core.List.{List, [], ◌∷◌, ◌++◌, map}
use native.Mathlib.Omega.{arith}
use lib.ListN.{length}
use Rattle.machine_laws.specs.machine.Numbers.{ALLOCFAILED, CHANNELSTOLEN}
use Rattle.std.specs.Prelude.{if◌then◌else◌}
use Rattle.machine_laws.specs.machine.Lists.{all, keep}
use Rattle.machine_laws.specs.machine.State.{Channel, Lock, Request, State, Reply}
use Rattle.machine_laws.specs.machine.Maps.{meets}
use Rattle.machine_laws.specs.machine.Choosing.{Look, fails, held, grants, look}
use Rattle.machine_laws.specs.machine.Granting.{key_for, dropped, granted, taken}
use Rattle.machine_laws.specs.machine.Commands.{ended}
use Rattle.machine_laws.specs.machine.Settling.{Found, nobody, somebody, Walk, Settled, replied, staying, saying, on_look, walk, walked, go_on, rounds, settle}
use Rattle.machine_laws.proofs.machine.Tests.{if_elim, and_left, and_right, and_both}
use Rattle.machine_laws.proofs.Maps.{length-change}
use Rattle.widening.specs.Widening.{wider, widen, widen_s, small_list, Few, Waits}
use Rattle.widening.proofs.Maps.{length-wider, meets-wide}
use Rattle.widening.proofs.Choosing.{BelowL, look_below, look_wide}
use Rattle.widening.proofs.Keys.{key_for-wide, dropped-wide, granted-wide}

-- ---- a walk

on_look-wide : (n k : ℕ) (l : Look) (r : Request) (rs : List Request) (ls : List Lock) (f g : List Lock → Walk) → BelowL (2 ^ n) l
    → ((x : List Lock) → f x ≡ g x) → on_look (n + k) l r rs ls f ≡ on_look n l r rs ls g
unfolding on_look
on_look-wide n k fails r rs ls f g b e = rw (e ls)
on_look-wide n k (held m) r rs ls f g b e =
    let a : Lock → Bool = λ l. meets (n + k) m l.map in
    let z : Lock → Bool = λ l. meets n m l.map in
    let q : a ≡ z = λ i l. meets-wide n k m l.map b i in
    ap (λ (t : Lock → Bool). saying (map (ended CHANNELSTOLEN) (keep t ls)) (staying r (f (keep (λ l. not (t l)) ls)))) q
    ∙ ap (λ (w : Walk). saying (map (ended CHANNELSTOLEN) (keep (λ l. meets n m l.map) ls)) (staying r w)) (e (keep (λ l. not (meets n m l.map)) ls))
on_look-wide n k (grants m) r rs ls f g b e = refl

pub walk-wide : (k : ℕ) (cs : List Channel) (rs : List Request) → Waits (length cs) rs → (ls : List Lock) → walk (wider k cs) rs ls ≡ walk cs rs ls
unfolding walk all
walk-wide k cs [] t ls = refl
walk-wide k cs (r ∷ rs) t ls =
    let a = and_left (small_list (length cs) r.combos) (all (λ r. small_list (length cs) r.combos) rs) t in
    let b = and_right (small_list (length cs) r.combos) (all (λ r. small_list (length cs) r.combos) rs) t in
    rw (length-wider k cs, look_wide r.prec k cs r.combos a)
    (on_look-wide (length cs) k (look r.prec r.combos cs) r rs ls (walk (wider k cs) rs) (walk cs rs) (look_below (length cs) r.prec r.combos cs a) (walk-wide k cs rs b))

-- ---- what a walk leaves fits the board

abbrev pub FoundFits : ℕ → Found → Type 0
FoundFits n nobody = Unit {0}
FoundFits n (somebody r m) = m < 2 ^ n

pub record Fits (n : ℕ) (rs : List Request) (w : Walk) : Type 0 where
  pub found : FoundFits n w.found
  pub waits : Waits n w.waiting
  pub few : length w.waiting ≤ length rs

on_look_fits : (n i : ℕ) (l : Look) (r : Request) (rs : List Request) (ls : List Lock) (rest : List Lock → Walk) → BelowL (2 ^ n) l → Waits n (r ∷ rs)
    → ((x : List Lock) → Fits n rs (rest x)) → Fits n (r ∷ rs) (on_look i l r rs ls rest)
unfolding on_look saying staying all
on_look_fits n i fails r rs ls rest b t ih =
    let w = ih ls in
    let a = and_left (small_list n r.combos) (all (λ r. small_list n r.combos) rs) t in
    if_elim (Fits n (r ∷ rs)) r.impatient
    (λ _. record { found = w.found; waits = w.waits; few = let x = w.few in omega arith })
    (λ _. record { found = w.found; waits = and_both (small_list n r.combos) (all (λ r. small_list n r.combos) (rest ls).waiting) a w.waits; few = let x = w.few in omega arith })
on_look_fits n i (held m) r rs ls rest b t ih =
    let x = keep (λ l. not (meets i m l.map)) ls in
    let w = ih x in
    let a = and_left (small_list n r.combos) (all (λ r. small_list n r.combos) rs) t in
    record { found = w.found; waits = and_both (small_list n r.combos) (all (λ r. small_list n r.combos) (rest x).waiting) a w.waits; few = let y = w.few in omega arith }
on_look_fits n i (grants m) r rs ls rest b t ih =
    record { found = b; waits = and_right (small_list n r.combos) (all (λ r. small_list n r.combos) rs) t; few = omega arith }

pub walk_fits : (n : ℕ) (cs : List Channel) (rs : List Request) → Waits n rs → (ls : List Lock) → Fits n rs (walk cs rs ls)
unfolding walk all
walk_fits n cs [] t ls = record { found = tt; waits = tt; few = omega arith }
walk_fits n cs (r ∷ rs) t ls =
    let a = and_left (small_list n r.combos) (all (λ r. small_list n r.combos) rs) t in
    let b = and_right (small_list n r.combos) (all (λ r. small_list n r.combos) rs) t in
    on_look_fits n (length cs) (look r.prec r.combos cs) r rs ls (walk cs rs) (look_below n r.prec r.combos cs a) (unfold all in t) (walk_fits n cs rs b)

-- ---- the rounds

granted-long : (m key prec : ℕ) (u : State) → length (granted m key prec u).channels ≡ length u.channels
unfolding granted
granted-long m key prec u = length-change (taken (key_for key u) prec) m u.channels

granted-waiting : (m key prec : ℕ) (u : State) → (granted m key prec u).waiting ≡ u.waiting
unfolding granted
granted-waiting m key prec u = refl

granted_few : (m key prec : ℕ) (u : State) → Few u → Few (granted m key prec u)
unfolding granted
granted_few m key prec u q = rw (granted-long m key prec u) q

granted-waits : (m key prec : ℕ) (u : State) → Waits (length u.channels) u.waiting → Waits (length (granted m key prec u).channels) (granted m key prec u).waiting
granted-waits m key prec u t = rw (granted-long m key prec u, granted-waiting m key prec u) t

go_on-wide : (k : ℕ) (f : Found) (w : Walk) (s : State) (again : State → Settled) → Few (walked w s) → FoundFits (length s.channels) f → Waits (length s.channels) w.waiting
    → ((u : State) → length u.channels ≡ length s.channels → Few u → Waits (length u.channels) u.waiting → again (widen k u) ≡ widen_s k (again u))
    → go_on f w (widen k s) again ≡ widen_s k (go_on f w s again)
unfolding go_on walked
go_on-wide k nobody w s again q f t ih = refl
go_on-wide k (somebody r m) w s again q f t ih =
    let u = walked w s in
    let g = granted m r.key r.prec u in
    let e = key_for-wide r.key k u q in
    let a = granted-wide m r.key r.prec k u f q in
    let i : again (widen k g) ≡ widen_s k (again g) = ih g (granted-long m r.key r.prec u) (granted_few m r.key r.prec u q) (granted-waits m r.key r.prec u t) in
    ap₂ (λ (t : Settled) (x : ℕ). record { state = t.state; replies = w.replies ++ dropped m (widen k s) ++ replied 0 m x r ∷ t.replies }) (ap again a ∙ i) e
    ∙ ap (λ (l : List Reply). record { state = widen k (again g).state; replies = w.replies ++ l ++ replied 0 m (key_for r.key u) r ∷ (again g).replies }) (dropped-wide k m s f)

walked_few : (w : Walk) (s : State) → length w.waiting ≤ length s.waiting → Few s → Few (walked w s)
unfolding walked
walked_few w s h q = omega (arith, h, q)

rounds-wide : (n k : ℕ) (s : State) → Few s → Waits (length s.channels) s.waiting → rounds n (widen k s) ≡ widen_s k (rounds n s)
unfolding rounds
rounds-wide zero k s q t = refl
rounds-wide (suc n) k s q t =
    let w = walk s.channels s.waiting s.locks in
    let e = walk-wide k s.channels s.waiting t s.locks in
    let f = walk_fits (length s.channels) s.channels s.waiting t s.locks in
    ap (λ (x : Walk). go_on x.found x (widen k s) (rounds n)) e
    ∙ go_on-wide k w.found w s (rounds n) (walked_few w s f.few q) f.found f.waits (λ u l b d. rounds-wide n k u b d)

pub settle-wide : (k : ℕ) (s : State) → Few s → Waits (length s.channels) s.waiting → settle (widen k s) ≡ widen_s k (settle s)
unfolding settle
settle-wide k s q t = rounds-wide (suc (length s.waiting)) k s q t
