-- `numbers` meets its contract: six bytes of the frame, then those remembered where no write stands before it, else zeros. Assumes nothing.
use Prim.Native.Nat.{ℕ}
use mathlib.Core.Path.{◌≡◌, ap, ◌∙◌}
use mathlib.Core.List.{List}
use native.Mathlib.Omega.{arith}
use lib.ListN.{length, drop, replicate}
use Rattle.table.specs.memory.Splice.{splice}
use Rattle.sheet.proofs.Taking.{rest_is_drop, numbers_behind, numbers_front}
use Rattle.write_frames.proofs.numbers.Goals as goal

pub returns-then-q-eq0 : goal.returns-then-q-eq0
returns-then-q-eq0 c =
    let a = c.args in
    let e : c.copy.new.list ≡ splice (replicate 12 0) 0 (drop 3 a.f.now) = c.copy.ensures ∙ ap (splice (replicate 12 0) 0) (rest_is_drop 3 a.f.now) in
    c.copy-then-q-eq0.ensures ∙ ap (λ (l : List ℕ). splice l 6 a.kept.now) e
    ∙ numbers_front a.f.now a.q a.kept.now (let z : length a.f.now ≡ 9 = omega arith in z) (let z : a.q.n ≡ 0 = omega arith in z) (let z : length a.kept.now ≡ 6 = omega arith in z)

pub returns-else-q-eq0 : goal.returns-else-q-eq0
returns-else-q-eq0 c =
    let a = c.args in
    c.copy.ensures ∙ ap (splice (replicate 12 0) 0) (rest_is_drop 3 a.f.now)
    ∙ numbers_behind a.f.now a.q a.kept.now (let z : length a.f.now ≡ 9 = omega arith in z) (λ e. omega arith)
