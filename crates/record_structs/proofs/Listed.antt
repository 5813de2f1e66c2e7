-- How the list of structs meets its promise, from the bytes of its records; no second list fits; at most 64 are listed. Assumes nothing.
use Prim.Native.Nat.{ℕ, ◌+◌, ◌≤◌}
use mathlib.Core.Path.{◌≡◌, ap, sym, ◌∙◌}
use mathlib.Core.List.{List, ◌++◌, append_assoc}
use native.Mathlib.Omega.{arith}
use lib.Dec.{leb, leb→le, nleb→lt}
use lib.ListN.{length, take, drop}
use lib.Seq.{length-take-le}
use Rattle.machine.proofs.Tests.{by_test}
use Rattle.display.specs.Display.{records}
use Rattle.memory.specs.Splice.{splice}
use Rattle.image.specs.board.Board.{state_in}
use Rattle.image.specs.Image.{state_of}
use Rattle.waiting_list.specs.records.Records.{Lists}
use Rattle.waiting_list.specs.WaitingList.{Tells as TellsBytes}
use Rattle.waiting_list.proofs.Laws.{sound_or_not, few_listed as few_bytes}
use Rattle.record_structs.specs.declared.Waiter.{Waiter}
use Rattle.record_structs.specs.RecordStructs.{written, waiters_from, waiters_in, Unlisted, Full, Tells, Takes, Filled}
use Rattle.record_structs.proofs.Laws.{all_written}

-- ---- the bytes lent for the records

pub part_lent : {k b : ℕ} → Takes k b → b ≤ 256
part_lent {k} t =
    by_test (leb 64 k) (λ g. let a = t.all (leb→le 64 k g) in omega arith) (λ g. let a = t.none (nleb→lt 64 k g) in omega arith)

-- ---- the structs of the records

none_written : (bs : List ℕ) {n : ℕ} (ws : List Waiter) → n ≡ 0 → written bs n ws ≡ ws
unfolding written waiters_from
none_written bs ws e = ap (λ k. written bs k ws) e

-- whatever stands behind the records
listed-written : (st : List ℕ) {tb l l' : List ℕ} {n : ℕ} (rest : List ℕ) (ws : List Waiter) → Lists (state_of st) tb l n l'
    → written (l' ++ rest) n ws ≡ waiters_in (state_in (state_of st) tb) ++ drop n ws
unfolding splice
listed-written st {tb} {l} {l'} {n} rest ws q =
    let s = state_in (state_of st) tb in
    let rs = records s.channels s.waiting in
    let a : l' ++ rest ≡ rs ++ (drop (0 + length rs) l ++ rest) =
    ap (λ x. x ++ rest) q.filled ∙ append_assoc rs (drop (0 + length rs) l) rest in
    ap (λ x. written x n ws) a
    ∙ ap (λ k. written (rs ++ (drop (0 + length rs) l ++ rest)) k ws) q.count
    ∙ all_written s.channels s.waiting (drop (0 + length rs) l ++ rest) ws
    ∙ ap (λ k. waiters_in s ++ drop k ws) (sym q.count)

module _ {st tb l' : List ℕ} {k room e n : ℕ} (p : Takes room k) (zs : List ℕ) (z : length zs ≡ 256)
    (t : TellsBytes st tb (take k zs) e n l') where
  long : length (take k zs) ≡ k
  long = let h = part_lent p in length-take-le k zs (omega arith)

  within : n ≤ room
  within =
      by_test (leb 64 room) (λ g. let h = leb→le 64 room g in let f = few_bytes t in omega arith)
      (λ g. let a = p.none (nleb→lt 64 room g) in
      sound_or_not st tb (λ s. let c = (t.short s (omega (arith, long))).count in omega arith)
      (λ u. let c = (t.unsound u).count in omega arith))

  pub filled : Filled st tb room e n (l' ++ drop k zs)
  filled =
      record {
        few = few_bytes t;
        within = within;
        tells = λ ws r. record {
          unsound = λ u. let a = t.unsound u in record { error = a.error; count = a.count; list = none_written _ ws a.count };
          short = λ s h.
              let c = p.none (omega arith) in
              let a = t.short s (omega (arith, long)) in
              record { error = a.error; count = a.count; list = none_written _ ws a.count };
          full = λ s h.
              let c = p.all (omega arith) in
              let a = t.full s (omega (arith, long)) in
              record { error = a.error; count = a.lists.count; list = listed-written st (drop k zs) ws a.lists };
        };
      }

-- ---- no second list fits

module _ {ws : List Waiter} {e e₂ n n₂ : ℕ} {ws₁ ws₂ : List Waiter} where
  unlisted_same : {c : ℕ} → Unlisted c ws e n ws₁ → Unlisted c ws e₂ n₂ ws₂ → (e ≡ e₂) × (n ≡ n₂) × (ws₁ ≡ ws₂)
  unlisted_same a b = (a.error ∙ sym b.error, a.count ∙ sym b.count, a.list ∙ sym b.list)

  full_same : {st tb : List ℕ} → Full st tb ws e n ws₁ → Full st tb ws e₂ n₂ ws₂ → (e ≡ e₂) × (n ≡ n₂) × (ws₁ ≡ ws₂)
  full_same {st} {tb} a b =
      let c = a.count ∙ sym b.count in
      (a.error ∙ sym b.error, c, a.list ∙ (ap (λ k. waiters_in (state_in (state_of st) tb) ++ drop k ws) c ∙ sym b.list))

  pub one_list : {st tb : List ℕ} → Tells st tb ws e n ws₁ → Tells st tb ws e₂ n₂ ws₂ → (e ≡ e₂) × (n ≡ n₂) × (ws₁ ≡ ws₂)
  one_list {st} {tb} a b =
      sound_or_not st tb
      (λ s. by_test (leb 64 (length ws))
      (λ t. let h = leb→le 64 (length ws) t in full_same (a.full s h) (b.full s h))
      (λ t. let h = nleb→lt 64 (length ws) t in unlisted_same (a.short s h) (b.short s h)))
      (λ s. unlisted_same (a.unsound s) (b.unsound s))
