-- Records one behind the other: one more stands four bytes on, and free channels behind a board's own change none. Assumes nothing.
use Prim.Native.Nat.{ℕ, zero, suc, ◌+◌, ◌-◌, ◌*◌, ◌^◌, ◌≤◌, ◌<◌}
use mathlib.Core.Path.{◌≡◌, refl, ap, ap₂, sym, subst, ◌∙◌}
use mathlib.Core.Bool.{true, false, ◌&&◌}
use mathlib.Core.List.{List, [], ◌∷◌, ◌++◌, map}
use native.Mathlib.Omega.{arith}
use native.Mathlib.Numerals.{add-one}
use lib.Dec.{T, leb, ltb}
use lib.ListN.{length, take, get_or, length-append, length-map}
use lib.Seq.{take-suc, length-take-le}
use Rattle.std.specs.Prelude.{if◌then◌else◌}
use Rattle.widening.specs.machine.Lists.{all}
use Rattle.widening.specs.machine.State.{Channel, Request, State as StateM}
use Rattle.widening.specs.machine.Sound.{sound_request}
use Rattle.widening.specs.machine.Choosing.{Look as LookM, look}
use Rattle.widening.proofs.machine.Tests.{and_left, and_right}
use Rattle.widening.specs.Widening.{wider, small_list}
use Rattle.widening.proofs.Choosing.{look_wide}
use Rattle.display.specs.Display.{holds, record_of, records}
use Rattle.display.proofs.Pinned.{records-length}
use Rattle.table.specs.memory.Splice.{splice}
use Rattle.table.proofs.memory.Splice.{splice_then, splice_none, length-splice}
use Rattle.queue.specs.declared.Queue.{Queue}
use Rattle.queue.specs.Queue.{list_of}
use Rattle.choosing.specs.standing.declared.Standing.{Standing}
use Rattle.choosing.specs.standing.Standing.{Stood}
use Rattle.choosing.specs.declared.Look.{Look}
use Rattle.choosing.specs.Choosing.{look_of, look_in}
use Rattle.choosing.proofs.Laws.{look_in_of}
use Rattle.board.specs.channel.Channel.{channel_in}
use Rattle.board.specs.store.Store.{request_in, write_in}
use Rattle.board.proofs.store.Store.{waiting-count}
use Rattle.board.specs.declared.Board.{Board}
use Rattle.board.specs.Board.{state_in, Held}
use Rattle.board.proofs.Laws.{held_wide, held_parts}
use Rattle.waiting.specs.Waiting.{asked}
use Rattle.records.specs.Records.{four_bytes, first_records, Lists}

-- ---- the list

records-append : (cs : List Channel) (rs qs : List Request) → records cs (rs ++ qs) ≡ records cs rs ++ records cs qs
unfolding records record_of
records-append cs [] qs = refl
records-append cs (r ∷ rs) qs = rw (records-append cs rs qs)

map_last : (tb is : List ℕ) (i : ℕ) → map (request_in tb) (is ++ i ∷ []) ≡ map (request_in tb) is ++ request_in tb i ∷ []
map_last tb [] i = refl
map_last tb (j ∷ is) i = ap (λ (l : List Request). request_in tb j ∷ l) (map_last tb is i)

module _ (cs : List Channel) (q : Queue) (tb : List ℕ) where
  first_length : (i : ℕ) → i ≤ length q.ids → length (first_records cs q tb i) ≡ i * 4
  first_length i h =
      records-length cs (map (request_in tb) (take i q.ids)) ∙ ap (λ (n : ℕ). n * 4) (length-map (take i q.ids) (request_in tb) ∙ length-take-le i q.ids h)

  first_more : (i : ℕ) → i < length q.ids → first_records cs q tb i ++ record_of cs (asked q tb i) ≡ first_records cs q tb (i + 1)
  unfolding records record_of
  first_more i h =
      sym (ap (λ (l : List ℕ). records cs (map (request_in tb) l)) (ap (λ (n : ℕ). take n q.ids) (add-one i) ∙ take-suc q.ids i 0 h)
      ∙ (ap (records cs) (map_last tb (take i q.ids) (get_or q.ids i 0)) ∙ records-append cs (map (request_in tb) (take i q.ids)) (asked q tb i ∷ [])))

  pub first_none : (l : List ℕ) → l ≡ splice l 0 (first_records cs q tb 0)
  unfolding records
  first_none l = sym (splice_none l 0)

  pub first_turn : (l : List ℕ) (i : ℕ) → i < length q.ids → i * 4 + 4 ≤ length l
      → splice (splice l 0 (first_records cs q tb i)) (i * 4) (record_of cs (asked q tb i)) ≡ splice l 0 (first_records cs q tb (i + 1))
  first_turn l i h g =
      let e = first_length i (omega arith) in
      splice_then l 0 (first_records cs q tb i) (record_of cs (asked q tb i)) (i * 4) (omega arith) (omega arith) ∙ ap (splice l 0) (first_more i h)

-- ---- the code's record is the document's

pub four_is : (cs : List Channel) (q : Queue) (tb : List ℕ) (i : ℕ) {l : Look} {p h : ℕ} (ms : List ℕ) → p ≡ (asked q tb i).prec → ms ≡ (asked q tb i).combos
    → l ≡ look_of (look p ms cs) → h ≡ (if holds (look_in l) then 1 else 0) → four_bytes (get_or q.ids i 0) p h ≡ record_of cs (asked q tb i)
unfolding record_of
four_is cs q tb i {l} {p} ms a b e f =
    let g = asked q tb i in
    let k : look_in l ≡ look g.prec g.combos cs = ap look_in e ∙ (look_in_of (look p ms cs) ∙ ap₂ (λ p ms. look p ms cs) a b) in
    rw (f, k, a)

-- ---- the loop

pub record Filling (t : Standing) (q : Queue) (tb l : List ℕ) (i : ℕ) (l' : List ℕ) : Type 0 where
  pub whole : length q.ids ≡ 64
  pub within : i ≤ q.n
  pub long : length l' ≡ length l
  pub filled : (cs : List Channel) → Stood cs t → l' ≡ splice l 0 (first_records cs q tb i)

pub filling_start : (t : Standing) (q : Queue) (tb l : List ℕ) → length q.ids ≡ 64 → Filling t q tb l 0 l
filling_start t q tb l h = record { whole = h; within = omega arith; long = refl; filled = λ cs s. first_none cs q tb l }

module _ {t : Standing} {q : Queue} {tb l : List ℕ} {i : ℕ} {l' : List ℕ} (f : Filling t q tb l i l') where
  pub filling_more : (p h : ℕ) (l'' : List ℕ) → i < q.n → q.n ≤ 64 → 256 ≤ length l
      → ((cs : List Channel) → Stood cs t → four_bytes (get_or q.ids i 0) p h ≡ record_of cs (asked q tb i))
      → l'' ≡ splice l' (i * 4) (four_bytes (get_or q.ids i 0) p h) → Filling t q tb l (i + 1) l''
  filling_more p h l'' u v z g e =
      let m = f.long in
      let w = f.whole in
      record {
        whole = w;
        within = omega arith;
        long = ap length e ∙ (length-splice l' (i * 4) (four_bytes (get_or q.ids i 0) p h) (omega arith) ∙ m);
        filled = λ cs s.
            e ∙ (ap₂ (λ (a b : List ℕ). splice a (i * 4) b) (f.filled cs s) (g cs s) ∙ first_turn cs q tb l i (omega arith) (omega arith));
      }

-- ---- a board's own channels

request-small : (cs : List Channel) (r : Request) → T (sound_request cs r) → T (small_list (length cs) r.combos)
unfolding sound_request small_list
request-small cs r t =
    let a = leb 1 (length r.combos) && leb (length r.combos) 16 in
    let b = all (λ m. ltb m (2 ^ length cs)) r.combos in
    let d = leb r.key 65535 in
    let e = leb r.prec 255 in
    and_right a b (and_left (a && b) d (and_left (a && b && d) e t))

pub records-wide : (k : ℕ) (cs : List Channel) (rs : List Request) → T (all (sound_request cs) rs) → records (wider k cs) rs ≡ records cs rs
unfolding records record_of all
records-wide k cs [] t = refl
records-wide k cs (r ∷ rs) t =
    let a = and_left (sound_request cs r) (all (sound_request cs) rs) t in
    let b = and_right (sound_request cs r) (all (sound_request cs) rs) t in
    rw (look_wide r.prec k cs r.combos (request-small cs r a), records-wide k cs rs b)

pub lists_of : {b : Board} {tb l l' : List ℕ} → Held b tb
    → l' ≡ splice l 0 (first_records (map (channel_in (write_in tb)) b.state.channels) b.state.waiting tb b.state.waiting.n)
    → Lists b tb l b.state.waiting.n l'
lists_of {b} {tb} {l} h e =
    let u = state_in b tb in
    let w = held_wide h in
    let c = ap (λ (x : StateM). x.channels) w.1 in
    record {
      count = (waiting-count w.0).0 ∙ sym (length-map (list_of b.state.waiting) (request_in tb));
      filled = e ∙ ap (splice l 0) (ap (λ (cs : List Channel). records cs u.waiting) c ∙ records-wide (8 - length u.channels) u.channels u.waiting (held_parts h).waiting_ok);
    }

-- at most 64 wait
pub listed_few : {b : Board} {tb : List ℕ} → Held b tb → length (state_in b tb).waiting ≤ 64
listed_few {b} {tb} h =
    let c = waiting-count (held_wide h).0 in
    let e = length-map (list_of b.state.waiting) (request_in tb) in
    omega arith
