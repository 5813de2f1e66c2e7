-- The search for a request of which something comes: nothing comes of those passed. Assumes nothing.
use Prim.Native.Nat.{ℕ, ◌+◌, ◌≤◌, ◌<◌, max}
use mathlib.Core.Path.{◌≡◌, refl, ap, sym, subst, ◌∙◌}
use mathlib.Core.Bool.{Bool, true, false}
use mathlib.Core.List.{List}
use native.Mathlib.Omega.{arith}
use lib.Dec.{ltb, ltb→lt, nltb→le}
use Rattle.store.specs.machine.State.{Channel, Request}
use Rattle.store.specs.machine.Choosing.{Look as LookM, fails, held, grants, look}
use Rattle.store.proofs.machine.Tests.{by_test}
use Rattle.queue.specs.declared.Queue.{Queue}
use Rattle.choosing.specs.standing.declared.Standing.{Standing}
use Rattle.choosing.specs.standing.Standing.{Stood}
use Rattle.choosing.specs.declared.Look.{Look}
use Rattle.choosing.specs.declared.Look.TheVariants.{Fails}
use Rattle.choosing.specs.Choosing.{look_of, look_in}
use Rattle.choosing.proofs.Laws.{look_in_of}
use Rattle.store.specs.declared.State.{State}
use Rattle.store.specs.Store.{state_in, Held}
use Rattle.store.proofs.Store.{held_length, waiting-count}
use Rattle.waiting.specs.declared.Found.{Found}
use Rattle.waiting.specs.Waiting.{comes, asked, looked, Readable, Finds, waiter, look_at}
use Rattle.waiting.proofs.Waiting.{id-small, waiter_is, entry-count}

-- a failure of one that can wait, and nothing else, is passed
pub comes_not : (l : LookM) (b : Bool) → comes l b ≡ false → (l ≡ fails) × (b ≡ false)
unfolding comes
comes_not fails b e = (refl, e)
comes_not (held m) b e = absurd (let z : ◌≡◌ {A = ℕ} 0 1 = cc in omega arith)
comes_not (grants m) b e = absurd (let z : ◌≡◌ {A = ℕ} 0 1 = cc in omega arith)

pub comes-impatient : (b : Bool) → comes fails b ≡ true → b ≡ true
unfolding comes
comes-impatient b e = e

-- ---- the loop

pub record Passing (t : Standing) (q : Queue) (tb : List ℕ) (from i : ℕ) : Type 0 where
  pub after : from ≤ i
  pub within : i ≤ max from q.n
  pub passed : (cs : List Channel) → Stood cs t → (j : ℕ) → from ≤ j → j < i → comes (looked cs q tb j) (asked q tb j).impatient ≡ false

pub passing_start : (t : Standing) (q : Queue) (tb : List ℕ) (from : ℕ) → Passing t q tb from from
passing_start t q tb from = record { after = omega arith; within = omega arith; passed = λ cs s j g h. absurd (omega arith) }

module _ {t : Standing} {q : Queue} {tb : List ℕ} {from i : ℕ} (p : Passing t q tb from i) where
  pub passing_more : i < q.n → ((cs : List Channel) → Stood cs t → comes (looked cs q tb i) (asked q tb i).impatient ≡ false)
      → Passing t q tb from (i + 1)
  passing_more h f =
      record {
        after = omega (arith, p.after);
        within = omega arith;
        passed = λ cs s j g l.
            by_test (ltb j i)
            (λ u. p.passed cs s j g (ltb→lt j i u))
            (λ u. let e : i ≡ j = let k = nltb→le j i u in omega arith in
            subst (λ (x : ℕ). comes (looked cs q tb x) (asked q tb x).impatient ≡ false) e (f cs s));
      }

  module _ (cs : List Channel) (s : Stood cs t) where
    pub finds_here : {l : Look} → i < q.n → l ≡ look_of (looked cs q tb i) → comes (looked cs q tb i) (asked q tb i).impatient ≡ true
        → Finds cs q tb from (record { at = i; look = l })
    finds_here h e f =
        record { after = p.after; within = p.within; passed = p.passed cs s; seen = λ _. e; stops = λ _. f; ended = λ g. absurd (omega arith) }

    pub finds_end : q.n ≤ i → Finds cs q tb from (record { at = i; look = Fails })
    finds_end h =
        record {
          after = p.after;
          within = p.within;
          passed = p.passed cs s;
          seen = λ g. absurd (omega arith);
          stops = λ g. absurd (omega arith);
          ended = λ _. refl;
        }

-- no second place fits
one_place : {cs : List Channel} {q : Queue} {tb : List ℕ} {from : ℕ} (a b : Found) → Finds cs q tb from a → Finds cs q tb from b → a.at < b.at → ⊥
one_place a b x y h =
    let u = x.after in
    let v = y.within in
    let e = x.stops (omega arith) in
    let f = y.passed a.at u h in
    let z : true ≡ false = sym e ∙ f in
    let o : ◌≡◌ {A = ℕ} 0 1 = cc in
    omega arith

pub one_found : {cs : List Channel} {q : Queue} {tb : List ℕ} {from : ℕ} (a b : Found) → Finds cs q tb from a → Finds cs q tb from b → a ≡ b
one_found {cs} {q} {tb} a b x y =
    let i : a.at < b.at → ⊥ = one_place a b x y in
    let j : b.at < a.at → ⊥ = one_place b a y x in
    let e : a.at ≡ b.at = omega arith in
    let f : a.look ≡ b.look =
    by_test (ltb a.at q.n)
    (λ u. let h = ltb→lt a.at q.n u in x.seen h ∙ (ap (λ (k : ℕ). look_of (looked cs q tb k)) e ∙ sym (y.seen (omega arith))))
    (λ u. let h = nltb→le a.at q.n u in x.ended h ∙ sym (y.ended (omega arith))) in
    λ k. record { at = e k; look = f k }

-- what the code's test says of the look that it made
pub comes_is : (l : LookM) (b : Bool) {c : Look} {d r v : Bool} → c ≡ look_of l → d ≡ b → r ≡ comes (look_in c) d → r ≡ v → comes l b ≡ v
comes_is l b {c} {d} {r} {v} e f g h =
    let x : look_in c ≡ l = ap look_in e ∙ look_in_of l in
    let y : comes (look_in c) d ≡ v = sym g ∙ h in
    rw (x, f) at y

-- ---- a state that is held

module _ {st : State} {tb : List ℕ} (h : Held st tb) where
  pub readable : Readable st.waiting tb
  readable = record {
    few = let w = (waiting-count h).1 in omega arith;
    long = held_length h;
    small = λ j w. id-small h j w;
    lists = λ j w. entry-count h j w;
  }

  pub asked_is : (j : ℕ) → j < st.waiting.n → waiter j (state_in st tb) ≡ asked st.waiting tb j
  asked_is j w = waiter_is h j w

  pub looked_is : (j : ℕ) → j < st.waiting.n → look_at j (state_in st tb) ≡ looked (state_in st tb).channels st.waiting tb j
  looked_is j w = ap (λ (r : Request). look r.prec r.combos (state_in st tb).channels) (asked_is j w)
