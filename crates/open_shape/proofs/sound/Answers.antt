-- `sound` meets its contract: each key is tested, and the places behind them, or a key that fails is found. Assumes nothing.
use Rattle.std.proofs.Common.{rules, ◌≡◌, ℕ, ◌-◌, ◌<◌, true, false, length, take, drop, get_or}
use Rattle.std.proofs.iter.runs.Made.{chains}
use mathlib.Core.Path.{ap, sym, ◌∙◌}
use lib.ListN.{length-drop}
use lib.Seq.{take-length}
use borrow.Author.Tests.{le-leb, lt-leb, eq-eqb}
use Rattle.open_keys.specs.machine.Lists.{all}
use Rattle.open_shape.specs.OpenShape.{is_key, is_none, sound_keys}
use Rattle.open_shape.proofs.Turns.{all_tested}
use Rattle.open_shape.proofs.sound.Goals as goal

pub returns-then-q : goal.returns-then-q
unfolding sound_keys
returns-then-q c =
    let h : 32 < c.args.q.n = search rules in
    rw (lt-leb _ _ h)

pub returns-then-all : goal.returns-then-all
unfolding sound_keys
returns-then-all c =
    let q = c.args.q in
    let ks = take q.n q.keys in
    let z : length q.keys ≡ 32 = search rules in
    let ns = take (32 - q.n) (drop q.n q.keys) in
    let l : ns ≡ drop q.n q.keys = ap (λ (m : ℕ). take m (drop q.n q.keys)) (sym (rw z at (length-drop q.n q.keys))) ∙ take-length (drop q.n q.keys) in
    let yes : (i : ℕ) → i < length ks → is_key (get_or ks i 0) ≡ true = search (rules, chains) in
    let a = all_tested is_key 0 ks true (λ e. yes) (λ e. absurd (cc)) in
    rw (le-leb _ _ c.if-q.false, eq-eqb _ _ z, ← a) (c.zeros.ensures ∙ ap (all is_none) l)

pub returns-else-all : goal.returns-else-all
unfolding sound_keys
returns-else-all c =
    let q = c.args.q in
    let ks = take q.n q.keys in
    let z : length q.keys ≡ 32 = search rules in
    let no : (i : ℕ) × (i < length ks) × (is_key (get_or ks i 0) ≡ false) = search (rules, chains) in
    let a = all_tested is_key 0 ks false (λ e. absurd (cc)) (λ e. no) in
    rw (le-leb _ _ c.if-q.false, eq-eqb _ _ z, ← a) c.if-all.false
