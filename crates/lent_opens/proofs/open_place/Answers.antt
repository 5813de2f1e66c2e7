-- `open_place` meets its contract: the first i keys are others. Assumes nothing.
use Prim.Native.Nat.{ℕ, ◌+◌, ◌≤◌, ◌<◌}
use mathlib.Core.Path.{◌≡◌, ap, sym, ◌∙◌}
use mathlib.Core.Bool.{Bool, cond}
use native.Mathlib.Omega.{arith}
use mathlib.Core.List.{[]}
use native.Mathlib.Numerals.{add-one}
use lib.Dec.{ltb}
use lib.ListN.{length, drop, drop_of_length-le}
use borrow.Author.Tests.{lt-ltb, le-ltb}
use Rattle.std.specs.declared.option.Option.TheVariants.{Some, None}
use Rattle.open_keys.specs.OpenKeys.{keys_in, index_of}
use Rattle.open_keys.proofs.Laws.{index_here, index_turn, place_is}
use Rattle.image.specs.Image.{open_at}
use Rattle.lent_opens.proofs.Opens.{open_long, open_key}
use Rattle.lent_opens.proofs.open_place.Goals as goal

pub loop-i-init : goal.loop-i-init
loop-i-init c = (c.from-n.ensures, omega arith)

pub key_at-k-requires : goal.key_at-k-requires
key_at-k-requires c = let e = c.loop-i.invariant.0 in omega arith

pub returns-then-k-key : goal.returns-then-k-key
returns-then-k-key c =
    let l = c.loop-i in
    let a = c.args in
    let ks = keys_in (open_at a.state.now 755) in
    let n = open_long a.state.now c.requires.1 in
    let e = l.invariant.0 in
    let here =
    index_here a.key ks l.i (omega arith)
    (open_key a.state.now l.i (omega arith) (omega arith) ∙ (sym c.key_at-k.ensures ∙ c.if-k-key.true)) in
    let i : index_of a.key ks ≡ l.i = omega (arith, here, l.invariant.1) in
    let h : l.i < length ks = omega arith in
    sym (place_is a.key ks
    ∙ ap (λ (j : ℕ). cond (ltb j (length ks)) (Some j) None) i
    ∙ ap (λ (b : Bool). cond b (Some l.i) None) (lt-ltb l.i (length ks) h))

pub loop-i-preserved : goal.loop-i-preserved
loop-i-preserved c =
    let l = c.loop-i in
    let a = c.args in
    let ks = keys_in (open_at a.state.now 755) in
    let n = open_long a.state.now c.requires.1 in
    let e = l.invariant.0 in (
      e,
      rw add-one (omega (
        arith,
        index_turn a.key ks l.i (omega arith)
            (λ x. c.if-k-key.false (c.key_at-k.ensures ∙ (sym (open_key a.state.now l.i (omega arith) (omega arith)) ∙ x))),
      )),
    )

pub returns : goal.returns
returns c =
    let l = c.loop-i in
    let a = c.args in
    let ks = keys_in (open_at a.state.now 755) in
    let n = open_long a.state.now c.requires.1 in
    let f = l.invariant.0 in
    let h : length ks ≤ l.i = omega arith in
    let e : drop l.i ks ≡ [] = drop_of_length-le ks h in
    let none : index_of a.key ks ≡ l.i + 0 = sym (rw e at l.invariant.1) in
    let beyond : length ks ≤ index_of a.key ks = omega (arith, none, h) in
    sym (place_is a.key ks ∙ ap (λ (b : Bool). cond b (Some (index_of a.key ks)) None) (le-ltb (index_of a.key ks) (length ks) beyond))
