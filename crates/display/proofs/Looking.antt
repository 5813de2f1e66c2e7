-- The looks of settling, one look at a time: with the requests in `front` looked at and staying, and those in `rest` still to look at,
-- each look counts once and leaves the same to count. This is what two nested loops do; machine_laws/proofs/Looking.antt has the same of
-- the state and the replies.
-- Assumes nothing.
use Prim.Native.Nat.{ℕ, zero, suc, ◌+◌, ◌≤◌, ◌<◌}
use mathlib.Core.Path.{◌≡◌, refl, ap, sym, ◌∙◌}
use mathlib.Core.Bool.{Bool, true, false, not}
use mathlib.Core.List.{List, [], ◌∷◌, ◌++◌, map, append_assoc}
use native.Mathlib.Omega.{arith}
use lib.ListN.{length}
use Rattle.widening.specs.machine.Numbers.{ALLOCFAILED, CHANNELSTOLEN}
use Rattle.std.specs.Prelude.{if◌then◌else◌}
use Rattle.widening.specs.machine.Lists.{keep}
use Rattle.widening.specs.machine.State.{Lock, Request, State, Reply, with_waiting, with_locks}
use Rattle.widening.specs.machine.Maps.{meets}
use Rattle.widening.specs.machine.Choosing.{Look, fails, held, grants, look}
use Rattle.widening.specs.machine.Granting.{granted}
use Rattle.widening.specs.machine.Commands.{ended}
use Rattle.widening.specs.machine.Settling.{Found, nobody, somebody, Walk, replied, staying, saying, on_look, walk, walked}
use Rattle.widening.proofs.machine_laws.Settling.{walk_shorter}
use Rattle.widening.specs.machine_laws.Looking.{fronted}
use Rattle.display.specs.Looks.{beyond, reached, look_on, looks_in, looks, further}
use Rattle.display.proofs.Looks.{look_on_enough, looks_enough}

-- ---- look_on

pub looks-further : (s : State) → looks s ≡ further [] s.waiting s
unfolding looks looks_in further
looks-further s =
    let w = walk s.channels s.waiting s.locks in
    ap (λ (x : ℕ). reached s.channels s.waiting + x)
    (look_on_enough w.found w s (looks_in (length s.waiting)) looks (walk_shorter s.channels s.waiting s.locks)
    (λ u h. looks_enough (length s.waiting) u h))

look_on-saying : (f : Found) (rs : List Reply) (front : List Request) (w : Walk) (s : State)
    → look_on f (fronted front (saying rs w)) s looks ≡ look_on f (fronted front w) s looks
unfolding look_on walked saying
look_on-saying nobody rs front w s = refl
look_on-saying (somebody r m) rs front w s = refl

look_on-staying : (f : Found) (r : Request) (front : List Request) (w : Walk) (s : State)
    → look_on f (fronted front (staying r w)) s looks ≡ look_on f (fronted (front ++ r ∷ []) w) s looks
unfolding staying
look_on-staying f r front w s =
    ap (λ (l : List Request). look_on f (record { found = w.found; waiting = l; locks = w.locks; replies = w.replies }) s looks)
    (sym (append_assoc front (r ∷ []) w.waiting))

-- ---- further

pub further_end : (front : List Request) (s : State) → further front [] s ≡ 0
unfolding further walk look_on reached
further_end front s = refl

module _ (front : List Request) (r : Request) (rest : List Request) (s : State) where
  pub further-stays : look r.prec r.combos s.channels ≡ fails → r.impatient ≡ false
      → further front (r ∷ rest) s ≡ suc (further (front ++ r ∷ []) rest s)
  unfolding further walk on_look staying reached beyond
  further-stays e i =
      let w = walk s.channels rest s.locks in
      let q : walk s.channels (r ∷ rest) s.locks ≡ staying r w = rw e (ap (λ (b : Bool). if b then saying (replied ALLOCFAILED 0 r.key r ∷ []) w else staying r w) i) in
      let a : reached s.channels (r ∷ rest) ≡ suc (reached s.channels rest) = ap (λ (l : Look). suc (beyond l (reached s.channels rest))) e in
      let b = ap (λ (x : Walk). look_on x.found (fronted front x) s looks) q ∙ look_on-staying w.found r front w s in
      omega (arith, a, b)

  pub further_drops : look r.prec r.combos s.channels ≡ fails → r.impatient ≡ true
      → further front (r ∷ rest) s ≡ suc (further front rest s)
  unfolding further walk on_look saying reached beyond
  further_drops e i =
      let w = walk s.channels rest s.locks in
      let rs = replied ALLOCFAILED 0 r.key r ∷ [] in
      let q : walk s.channels (r ∷ rest) s.locks ≡ saying rs w = rw e (ap (λ (b : Bool). if b then saying rs w else staying r w) i) in
      let a : reached s.channels (r ∷ rest) ≡ suc (reached s.channels rest) = ap (λ (l : Look). suc (beyond l (reached s.channels rest))) e in
      let b = ap (λ (x : Walk). look_on x.found (fronted front x) s looks) q ∙ look_on-saying w.found rs front w s in
      omega (arith, a, b)

  pub further_held : (m : ℕ) → look r.prec r.combos s.channels ≡ held m
      → further front (r ∷ rest) s
      ≡ suc (further (front ++ r ∷ []) rest (with_locks (keep (λ l. not (meets (length s.channels) m l.map)) s.locks) s))
  unfolding further walk on_look saying staying reached beyond
  further_held m e =
      let n = length s.channels in
      let ls = keep (λ l. not (meets n m l.map)) s.locks in
      let w = walk s.channels rest ls in
      let rs = map (ended CHANNELSTOLEN) (keep (λ l. meets n m l.map) s.locks) in
      let q : walk s.channels (r ∷ rest) s.locks ≡ saying rs (staying r w) = rw e refl in
      let a : reached s.channels (r ∷ rest) ≡ suc (reached s.channels rest) = ap (λ (l : Look). suc (beyond l (reached s.channels rest))) e in
      let b =
      ap (λ (x : Walk). look_on x.found (fronted front x) s looks) q
      ∙ (look_on-saying w.found rs front (staying r w) s
      ∙ (look_on-staying w.found r front w s ∙ look_on-locks w.found (fronted (front ++ r ∷ []) w) ls)) in
      omega (arith, a, b)
    where
      look_on-locks : (f : Found) (w : Walk) (ls : List Lock) → look_on f w s looks ≡ look_on f w (with_locks ls s) looks
      look_on-locks nobody w ls = unfold look_on walked in refl
      look_on-locks (somebody q m) w ls = unfold look_on walked in refl

  pub further-grants : (m : ℕ) → look r.prec r.combos s.channels ≡ grants m
      → further front (r ∷ rest) s ≡ suc (looks (granted m r.key r.prec (with_waiting (front ++ rest) s)))
  unfolding further walk on_look look_on walked reached beyond
  further-grants m e =
      let a : reached s.channels (r ∷ rest) ≡ 1 = ap (λ (l : Look). suc (beyond l (reached s.channels rest))) e in
      let b = ap (λ (l : Look). let x = on_look (length s.channels) l r rest s.locks (walk s.channels rest) in look_on x.found (fronted front x) s looks) e in
      omega (arith, a, b)

-- the waiting requests themselves are not read
pub further-waiting : (front rest ws : List Request) (s : State) → further front rest (with_waiting ws s) ≡ further front rest s
unfolding further
further-waiting front rest ws s = ap (λ (x : ℕ). reached s.channels rest + x) (go (walk s.channels rest s.locks).found)
  where
    go : (f : Found)
        → look_on f (fronted front (walk s.channels rest s.locks)) (with_waiting ws s) looks
        ≡ look_on f (fronted front (walk s.channels rest s.locks)) s looks
    go nobody = unfold look_on walked in refl
    go (somebody q m) = unfold look_on walked in refl
