-- What the test comes to: the table lies as `keys_of` says of its keys, and these are sound; and the other way.
-- Assumes nothing.
use Prim.Native.Nat.{ℕ, zero, suc, ◌-◌, ◌≤◌}
use mathlib.Core.Path.{◌≡◌, refl, ap, ap₂, sym, subst, ◌∙◌}
use mathlib.Core.Bool.{Bool, true, false, not, ◌&&◌}
use mathlib.Core.List.{List, [], ◌∷◌, ◌++◌}
use native.Mathlib.Omega.{arith}
use borrow.Author.Tests.{le-leb, ne_eqb}
use lib.Dec.{T, eqb, eqb→eq, eqb_refl, leb, leb→le, le→leb}
use lib.ListN.{length, take, drop, replicate, length-take, length-drop, take-append-drop}
use lib.Seq.{length-take-le, drop-append_seam}
use Rattle.open_keys.specs.machine.Numbers.{ENTRIES, KEYS}
use Rattle.open_keys.specs.machine.Lists.{all}
use Rattle.open_keys.specs.machine.Sound.{sound_opens}
use Rattle.open_keys.proofs.machine.Tests.{and_left, and_right, and_both}
use Rattle.open_keys.specs.declared.Keys.{Keys}
use Rattle.open_keys.specs.OpenKeys.{pad, keys_of, keys_in, Tidy}
use Rattle.open_keys.proofs.Laws.{length-pad}
use Rattle.open_shape.specs.OpenShape.{is_key, is_none, sound_keys}

pub key_is : (k : ℕ) → k ≤ KEYS → not (eqb k 0) ≡ is_key k
unfolding is_key
key_is zero h = refl
key_is (suc k) h = let a : 1 ≤ suc k = omega arith in rw (ne_eqb (suc k) 0 (λ e. omega arith), le-leb 1 (suc k) a, le-leb (suc k) KEYS h)

nones_are : (l : List ℕ) → T (all is_none l) → l ≡ replicate (length l) 0
unfolding all is_none
nones_are [] t = refl
nones_are (x ∷ l) t =
    ap₂ ◌∷◌ (eqb→eq x 0 (and_left (eqb x 0) (all is_none l) t)) (nones_are l (and_right (eqb x 0) (all is_none l) t))

nones_none : (n : ℕ) → T (all is_none (replicate n 0))
unfolding all is_none
nones_none zero = tt
nones_none (suc n) = nones_none n

pub tested : (q : Keys) → T (sound_keys q) → Tidy q × T (sound_opens (keys_in q))
unfolding sound_keys sound_opens is_key
tested q t =
    let a = leb q.n ENTRIES in
    let b = eqb (length q.keys) ENTRIES in
    let d = all is_key (take q.n q.keys) in
    let e = all is_none (drop q.n q.keys) in
    let few : q.n ≤ ENTRIES = leb→le q.n ENTRIES (and_left a (b && (d && e)) t) in
    let u = and_right a (b && (d && e)) t in
    let long : length q.keys ≡ ENTRIES = eqb→eq (length q.keys) ENTRIES (and_left b (d && e) u) in
    let v = and_right b (d && e) u in
    let n : length (keys_in q) ≡ q.n = length-take-le q.n q.keys (omega (arith, few, long)) in
    let z : drop q.n q.keys ≡ replicate (ENTRIES - length (keys_in q)) 0 =
    nones_are (drop q.n q.keys) (and_right d e v) ∙ ap (λ (k : ℕ). replicate k 0) (let y : length (drop q.n q.keys) ≡ ENTRIES - length (keys_in q) = omega (arith, length-drop q.n q.keys, n, long) in y) in
    let k : q.keys ≡ pad (keys_in q) = sym (take-append-drop q.n q.keys) ∙ ap (λ (l : List ℕ). keys_in q ++ l) z in (
      ap₂ (λ (m : ℕ) (ks : List ℕ). record { n = m; keys = ks }) (sym n) k,
      and_both (leb (length (keys_in q)) ENTRIES) (all (λ x. leb 1 x && leb x KEYS) (keys_in q)) (le→leb (length (keys_in q)) ENTRIES (omega (arith, n, few))) (and_left d e v),
    )

pub untested : (q : Keys) → Tidy q → T (sound_opens (keys_in q)) → T (sound_keys q)
unfolding sound_keys sound_opens is_key
untested q w t =
    let a = leb q.n ENTRIES in
    let b = eqb (length q.keys) ENTRIES in
    let d = all is_key (take q.n q.keys) in
    let e = all is_none (drop q.n q.keys) in
    let n : q.n ≡ length (keys_in q) = ap (λ (x : Keys). x.n) w in
    let k : q.keys ≡ pad (keys_in q) = ap (λ (x : Keys). x.keys) w in
    let f : length (keys_in q) ≤ ENTRIES = leb→le (length (keys_in q)) ENTRIES (and_left (leb (length (keys_in q)) ENTRIES) (all (λ x. leb 1 x && leb x KEYS) (keys_in q)) t) in
    let z : drop q.n q.keys ≡ replicate (ENTRIES - length (keys_in q)) 0 = ap₂ drop n k ∙ drop-append_seam (keys_in q) (replicate (ENTRIES - length (keys_in q)) 0) in
    and_both a (b && (d && e)) (le→leb q.n ENTRIES (omega (arith, n, f)))
    (and_both b (d && e) (subst (λ (m : ℕ). T (eqb m ENTRIES)) (sym (ap length k ∙ length-pad (keys_in q) f)) (eqb_refl ENTRIES))
    (and_both d e (and_right (leb (length (keys_in q)) ENTRIES) (all (λ x. leb 1 x && leb x KEYS) (keys_in q)) t)
    (subst (λ (l : List ℕ). T (all is_none l)) (sym z) (nones_none (ENTRIES - length (keys_in q))))))
