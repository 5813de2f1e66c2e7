-- A line's output put on the page is what `answered` says. Assumes nothing.
use Prim.Native.Nat.{ℕ, ◌+◌, ◌≤◌, ◌<◌}
use mathlib.Core.Path.{◌≡◌, refl, ap, ap₂, sym, subst, ◌∙◌}
use mathlib.Core.Bool.{Bool, true, false}
use mathlib.Core.List.{List, [], ◌++◌}
use native.Mathlib.Nat.{zero-add, add-zero}
use native.Mathlib.Omega.{arith}
use borrow.Author.Tests.{eq-eqb, ne_eqb}
use lib.Dec.{T, leb→le}
use lib.ListN.{length, take, drop, length-append, length-map}
use lib.Seq.{take_at, length-take-le}
use Rattle.std.specs.Prelude.{if◌then◌else◌}
use Rattle.machine.specs.State.{State as StateM}
use Rattle.machine.specs.Sound.{sound}
use Rattle.machine.specs.Log.{Fed as FedM, feed, outcome_of, unhex, frame}
use Rattle.memory.specs.Splice.{splice}
use Rattle.memory.proofs.Splice.{splice_none, splice_then, length-splice}
use Rattle.image.specs.board.declared.Board.{Board}
use Rattle.image.specs.store.Store.{table_of}
use Rattle.image.specs.board.Board.{struct_of, state_in, Held}
use Rattle.image.proofs.board.Laws.{held_parts, held_width, held_eight}
use Rattle.taking.specs.channel_lines.ChannelLines.{board_lines, Shows}
use Rattle.taking.proofs.channel_lines.ChannelLines.{board_few}
use Rattle.display.proofs.machine_laws.Sound.{ids_few}
use Rattle.display.specs.Display.{display_lines}
use Rattle.image.specs.Image.{state_of}
use Rattle.display_lines.specs.waiting_list.WaitingList.{Sound as SoundBytes}
use Rattle.display_lines.specs.record_structs.declared.Waiter.{Waiter}
use Rattle.display_lines.specs.record_structs.RecordStructs.{waiter_of, waiters_in, Full, Tells}
use Rattle.display_lines.specs.DisplayLines.{display_of, Shows as ShowsDisplay}
use Rattle.display_lines.proofs.DisplayLines.{display-lines}
use Rattle.taking.proofs.lines.Laws.{length-told}
use Rattle.gathering.specs.Lumps.{used}
use Rattle.taking.proofs.serving.Laws.{feed_few}
use Rattle.taking.specs.declared.Show.{Show}
use Rattle.taking.specs.Desk.{Taken, hidden, shown_of, fed, answered, needed, Leaves}
use Rattle.taking.proofs.Kept.{Fine, fed_next, answered_fine, leaves-state}
use Rattle.taking.proofs.Laws.{fed-hidden}
use Rattle.putting.specs.Putting.{Adds, text_of, Puts}

-- ---- a line's output

-- every line has an answer
feed_some : (s : StateM) (l : List ℕ) → 0 < length (feed s l).output
unfolding feed
feed_some s l = let e = length-told (outcome_of s (frame (unhex l))) in omega arith

-- ---- bytes added

add_none : (page : List ℕ) (at : ℕ) → Adds page at [] at page
add_none page at = record { count = sym (add-zero at); bytes = sym (splice_none page at) }

-- the front of a lent memory, copied
add_front : {page page' : List ℕ} (lent : List ℕ) {b xs : List ℕ} {at j : ℕ} → j ≡ length xs → b ≡ splice lent 0 xs → page' ≡ splice page at (take j b) → Adds page at xs (at + j) page'
unfolding splice
add_front {page} {page'} lent {b} {xs} {at} {j} e p q =
    let f : take j b ≡ xs = rw (p, e) (take_at xs _ (length xs) refl) in record { count = ap (λ n. at + n) e; bytes = q ∙ ap (splice page at) f }

pub add_then : {page page₁ page₂ xs ys : List ℕ} {at n r : ℕ} → Adds page at xs n page₁ → Adds page₁ n ys r page₂ → at + length xs ≤ length page → Adds page at (xs ++ ys) r page₂
add_then {page} {page₁} {page₂} {xs} {ys} {at} {n} a b h =
    let c = a.count in
    let d = b.count in
    record {
      count = rw length-append (omega arith);
      bytes = b.bytes ∙ ap (λ (l : List ℕ). splice l n ys) a.bytes ∙ splice_then page at xs ys n c h;
    }

-- ---- what is shown of a board

pub shown_room : {show : Bool} (n at : ℕ) {len : ℕ} → show ≡ true → at + (if show then n else 0) ≤ len → at + n ≤ len
shown_room n at {len} e h = subst (λ (b : Bool). at + (if b then n else 0) ≤ len) e h

-- of its channels: what stands in front of the memory lent is not more than the memory
pub shown_few : {s : Board} {lent b : List ℕ} {j : ℕ} → length s.state.channels ≡ 8 → Shows s lent j b → j ≤ 120
shown_few {s} h q = let f = board_few s h in let c = q.count in omega arith

pub shown-long : {s : Board} {lent b : List ℕ} {j : ℕ} → length s.state.channels ≡ 8 → length lent ≡ 120 → Shows s lent j b → length b ≡ 120
shown-long {s} {lent} h e q = let f = board_few s h in ap length q.bytes ∙ (length-splice lent 0 (board_lines s) (omega arith) ∙ e)

pub few_within : {j n k : ℕ} → j ≤ k → n ≡ k → j ≤ n
few_within h e = omega arith

pub channels_few : (show : Bool) (s : Board) → length s.state.channels ≡ 8 → length (if show then board_lines s else []) ≤ (if show then 120 else 0)
channels_few true s h = board_few s h
channels_few false s h = omega arith

pub channels-hidden : {show : Bool} (s : Board) (page : List ℕ) (at : ℕ) → show ≡ false → Adds page at (if show then board_lines s else []) at page
channels-hidden s page at e = rw e (add_none page at)

pub channels-shown : {show : Bool} {s : Board} {page page' lent b : List ℕ} {at j : ℕ} → show ≡ true → Shows s lent j b → page' ≡ splice page at (take j b)
    → Adds page at (if show then board_lines s else []) (at + j) page'
channels-shown {lent = lent} e q p = rw e (add_front lent q.count q.bytes p)

-- of its display
module _ {s : Board} {tb : List ℕ} (h : Held s tb) where
  pub wide-eight : s.width ≤ 8
  wide-eight = let a = held_width h in let b = leb→le (length (state_in s tb).channels) 8 (held_parts h).most in omega arith

  few_waiting : length (state_in s tb).waiting ≤ 64
  few_waiting = let a = ids_few (state_in s tb) (held_parts h) in omega arith

pub spelt-long : {w : ℕ} {dp : List ℕ} {ws : List Waiter} {lent b : List ℕ} {j : ℕ} → ShowsDisplay w dp ws lent j b → length lent ≡ 743
    → length b ≡ 743
spelt-long {w} {dp} {ws} {lent} q f =
    let a = q.few in let c = q.count in ap length q.bytes ∙ (length-splice lent 0 (display_of w dp ws) (omega arith) ∙ f)

-- a sound state's list of structs, in an array of 64
module _ {st tb : List ℕ} (sound : SoundBytes st tb) {ws : List Waiter} (room : 64 ≤ length ws) {e n : ℕ} {ws' : List Waiter}
    (q : Tells st tb ws e n ws') where
  all : Full st tb ws e n ws'
  all = q.full sound room

  pub listed_few : n ≤ 64
  listed_few = let a = few_waiting sound.1 in let b = all.count in omega arith

  -- its front is who waits
  front : take n ws' ≡ waiters_in (state_in (state_of st) tb)
  front =
      let c = length-map (state_in (state_of st) tb).waiting (waiter_of (state_in (state_of st) tb).channels) in
      ap (take n) all.list ∙ take_at (waiters_in (state_in (state_of st) tb)) (drop n ws) n (c ∙ sym all.count)

  module _ {dp lent b : List ℕ} {j : ℕ} (w : ShowsDisplay (state_of st).width dp (take n ws') lent j b) where
    spelt-lines : display_of (state_of st).width dp (take n ws') ≡ display_lines (state_in (state_of st) tb) dp
    spelt-lines =
        let σ = state_in (state_of st) tb in
        ap₂ (λ (k : ℕ) (x : List Waiter). display_of k dp x) (held_width sound.1) front ∙ display-lines σ dp

    pub display-shown : {show : Bool} {page page' : List ℕ} {at : ℕ} → show ≡ true → page' ≡ splice page at (take j b)
        → Adds page at (if show then display_lines (state_in (state_of st) tb) dp else []) (at + j) page'
    display-shown e p = rw e (add_front lent (w.count ∙ ap length spelt-lines) (w.bytes ∙ ap (splice lent 0) spelt-lines) p)

pub display-hidden : {show : Bool} (s : StateM) (dp page : List ℕ) (at : ℕ) → show ≡ false → Adds page at (if show then display_lines s dp else []) at page
display-hidden s dp page at e = rw e (add_none page at)

-- ---- what is put on the page

module _ (show : Show) (t : Taken) (tb dp out : List ℕ) where
  pub text_none : t.at ≡ 0 → text_of show t tb dp out ≡ []
  unfolding text_of
  text_none e = rw (eq-eqb t.at 0 e)

  pub text_some : (t.at ≡ 0 → ⊥) → text_of show t tb dp out ≡ take t.at out ++ shown_of show (state_in t.state tb) dp
  unfolding text_of
  text_some h = rw (ne_eqb t.at 0 h)

-- the code's ways to put it
module _ {show : Show} {t : Taken} {tb dp out page : List ℕ} {at : ℕ} where
  pub put_none : t.at ≡ 0 → Puts show t tb dp out page at (record { state = t.state; line = t.line; used = t.used; at = at }) page
  put_none e =
      let x = text_none show t tb dp out e in
      record {
        answer = λ i. record { state = t.state; line = t.line; used = t.used; at = (sym (add-zero at) ∙ ap (λ (y : List ℕ). at + length y) (sym x)) i };
        bytes = sym (splice_none page at) ∙ ap (splice page at) (sym x);
      }

  pub put_some : {page₁ page₂ page₃ : List ℕ} {k e : ℕ} → (t.at ≡ 0 → ⊥) → t.at ≤ length out → Held t.state tb → at + needed show ≤ length page → t.at ≤ 973
      → page₁ ≡ splice page at (take t.at out) → Adds page₁ (at + t.at) (if show.channels then board_lines t.state else []) k page₂
      → Adds page₂ k (if show.display then display_lines (state_in t.state tb) dp else []) e page₃
      → Puts show t tb dp out page at (record { state = t.state; line = t.line; used = t.used; at = e }) page₃
  unfolding shown_of
  put_some {page₁} {page₂} {page₃} {k} {e} h m held r f p a b =
      let cs : List ℕ = if show.channels then board_lines t.state else [] in
      let ds : List ℕ = if show.display then display_lines (state_in t.state tb) dp else [] in
      let n = length-take-le t.at out m in
      let l : length page₁ ≡ length page = ap length p ∙ length-splice page at (take t.at out) (omega arith) in
      let front : Adds page at (take t.at out) (at + t.at) page₁ = record { count = ap (λ (x : ℕ). at + x) (sym n); bytes = p } in
      let g = channels_few show.channels t.state (held_eight held) in
      let behind = add_then a b (omega arith) in
      let all = add_then front behind (omega arith) in
      let x : text_of show t tb dp out ≡ take t.at out ++ (cs ++ ds) = text_some show t tb dp out h ∙ ap (λ (y : Board). take t.at out ++ ((if show.channels then board_lines y else []) ++ ds)) (sym held.struct) in
      record {
        answer = λ i. record { state = t.state; line = t.line; used = t.used; at = (all.count ∙ ap (λ (y : List ℕ). at + length y) (sym x)) i };
        bytes = all.bytes ∙ ap (splice page at) (sym x);
      }

-- no line was answered: the desk is the same on any page
module _ {t : Taken} {l' tb' dp' out' : List ℕ} (σ : StateM) (dp l out : List ℕ) (n u : ℕ)
    (w : Leaves t l' tb' dp' out' (record { state = σ; display = dp; line = l; n = n; page = out; at = 0; used = u })) where
  pub nothing_put : {show : Show} {page page' : List ℕ} {at : ℕ} {r : Taken} → Puts show t tb' dp' out' page at r page'
      → Leaves r l' tb' dp' page' (record { state = σ; display = dp; line = l; n = n; page = page; at = at; used = u })
  nothing_put {show} {page} {page'} {at} p =
      let e = text_none show t tb' dp' out' w.at in
      record {
        struct = ap (λ (x : Taken). x.state) p.answer ∙ w.struct;
        table = w.table;
        display = w.display;
        line = w.line;
        started = ap (λ (x : Taken). x.line) p.answer ∙ w.started;
        page = p.bytes ∙ ap (splice page at) e ∙ splice_none page at;
        at = ap (λ (x : Taken). x.at) p.answer ∙ ap (λ (x : List ℕ). at + length x) e ∙ add-zero at;
        used = ap (λ (x : Taken). x.used) p.answer ∙ w.used;
      }

-- a line was answered on an empty page
module _ {t : Taken} {l' tb' dp' out' : List ℕ} (σ : StateM) (dp l out : List ℕ) (n u : ℕ)
    (w : Leaves t l' tb' dp' out' (answered hidden (record { state = σ; display = dp; line = l; n = n; page = out; at = 0; used = u }))) where
  unshown : (feed σ (take n l)).output ≡ (fed hidden σ dp (take n l)).output
  unshown = ap (λ (f : FedM). f.output) (sym (fed-hidden σ dp (take n l)))

  count : t.at ≡ length (feed σ (take n l)).output
  count = w.at ∙ zero-add _ ∙ ap length (sym unshown)

  pub answered_few : T (sound σ) → t.at ≤ 973
  answered_few h = rw count (feed_few σ (take n l) h)

  pub answered-size : T (sound σ) → 973 ≡ length out → 973 ≡ length out'
  answered-size h e =
      let o = (fed hidden σ dp (take n l)).output in
      let k = feed_few σ (take n l) h in
      let m = ap length unshown in
      e ∙ sym (ap length w.page ∙ length-splice out 0 o (omega arith))

  module _ (h : Fine σ) where
    next : state_in t.state tb' ≡ (feed σ (take n l)).next
    next =
        let f = answered_fine hidden (record { state = σ; display = dp; line = l; n = n; page = out; at = 0; used = u }) h in
        leaves-state f w ∙ fed_next hidden σ dp (take n l)

    text : (show : Show) → text_of show t tb' dp' out' ≡ (fed show σ dp (take n l)).output
    unfolding splice fed
    text show =
        let o = (feed σ (take n l)).output in
        let some : t.at ≡ 0 → ⊥ = λ e. (let k = feed_some σ (take n l) in let c = count in omega arith) in
        let a : out' ≡ splice out 0 o = w.page ∙ ap (splice out 0) (sym unshown) in
        let b : take t.at out' ≡ o = rw (a, count) (take_at o _ (length o) refl) in
        text_some show t tb' dp' out' some ∙ ap₂ ◌++◌ b (ap₂ (shown_of show) next w.display)

    -- put on the page, with what is shown, it is the line answered there
    pub answer-put : {show : Show} {page page' : List ℕ} {at : ℕ} {r : Taken} → Puts show t tb' dp' out' page at r page'
        → Leaves r l' tb' dp' page' (answered show (record { state = σ; display = dp; line = l; n = n; page = page; at = at; used = u }))
    answer-put {show} {page} {page'} {at} {r} p =
        let same : (fed hidden σ dp (take n l)).next ≡ (fed show σ dp (take n l)).next = fed_next hidden σ dp (take n l) ∙ sym (fed_next show σ dp (take n l)) in
        record {
          struct = ap (λ (x : Taken). x.state) p.answer ∙ w.struct ∙ ap struct_of same;
          table = w.table ∙ ap table_of same;
          display = w.display;
          line = w.line;
          started = ap (λ (x : Taken). x.line) p.answer ∙ w.started;
          page = p.bytes ∙ ap (splice page at) (text show);
          at = ap (λ (x : Taken). x.at) p.answer ∙ ap (λ (x : List ℕ). at + length x) (text show);
          used = ap (λ (x : Taken). x.used) p.answer ∙ w.used;
        }
