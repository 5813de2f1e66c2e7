-- From a sound state a log taken in one is the machine's `run`, since a sound state is followed by a sound one; so a log over a slow
-- line is the machine's log. A line of more than 526 characters is malformed however it was cut. Assumes nothing.
use Prim.Native.Nat.{ℕ, ◌<◌}
use mathlib.Core.Path.{◌≡◌, refl, ap, ap₂, sym, subst, ◌∙◌}
use mathlib.Core.List.{List, [], ◌∷◌, ◌++◌}
use mathlib.Core.Option.{Option, none}
use lib.ListN.{length, take}
use Rattle.digits.specs.machine.State.{Call, State as StateM, frees, fresh_on}
use Rattle.digits.specs.machine.Log.{Fed as FedM, lines, unhex, frame, feed, run, log}
use Rattle.display.proofs.machine_laws.Sound.{parts}
use Rattle.display.specs.Display.{blank, displayed_by}
use Rattle.image.specs.store.Store.{table_of}
use Rattle.image.specs.board.Board.{struct_of}
use Rattle.image.proofs.board.Laws.{held_next}
use Rattle.image.specs.Image.{image_of, state_of}
use Rattle.image.proofs.Round.{image_of_state_of, state_of_image_of}
use Rattle.digits.proofs.Laws.{long_line_malformed}
use Rattle.gathering.specs.Lumps.{Stands}
use Rattle.fragments.specs.unheard.Unheard.{dull, unheard}
use Rattle.whole_log.proofs.serving.Laws.{feed_malformed}
use Rattle.whole_log.specs.taking.Desk.{hidden, log_shown}
use Rattle.whole_log.proofs.taking.Kept.{held_fine, feed_fine}
use Rattle.whole_log.specs.Whole.{joined}
use Rattle.whole_log.proofs.Whole.{log-hidden}
use Rattle.boundary.specs.starting.Starting.{Fits, Started}
use Rattle.boundary.proofs.Crossing.{fresh-after}
use Rattle.fragments.specs.port.Port.{started_in}
use Rattle.fragments.specs.hearing.Hearing.{Kept, held_in, Served, Hears}
use Rattle.fragments.proofs.hearing.Laws.{kept_or_not}
use Rattle.slow_line.specs.Slow.{Heard, none as no_line, more, Ran, shown_after, Came, Begun}
use Rattle.slow_line.proofs.Whole.{begun_none, hears_whole, ran-heard}

-- ---- a sound state is followed by a sound state

-- bytes that hold a state are its bytes
pub kept_bytes : {st tb : List ℕ} → Kept st tb → (st ≡ image_of (struct_of (held_in st tb))) × (tb ≡ table_of (held_in st tb))
kept_bytes {st} k = (sym (image_of_state_of st k.whole) ∙ ap image_of k.held.struct, k.held.table)

pub kept_next : {l st tb dp text st' tb' dp' : List ℕ} → Kept st tb → Served l st tb dp text st' tb' dp' → Kept st' tb' × (held_in st' tb' ≡ (feed (held_in st tb) l).next)
kept_next {l} {st} {tb} {st' = st'} {tb' = tb'} k v =
    let s = (feed (held_in st tb) l).next in
    let f = feed_fine (held_in st tb) l (held_fine k.held) in
    let e : state_of st' ≡ struct_of s = ap state_of v.state.bytes ∙ state_of_image_of (struct_of s) v.state.sized in
    let a = held_next s (state_of st') tb' (parts s f.sane) f.size e v.table in
    (record { whole = v.state.whole; held = a.0 }, a.1)

-- ---- the machine's run

came_none : {st tb dp : List ℕ} → Kept st tb → Came (held_in st tb) dp [] [] st tb dp
unfolding run shown_after
came_none k = let b = kept_bytes k in record { output = refl; kept = k; held = refl; state = b.0; table = b.1; display = refl }

came_more : {s : StateM} {dp dp' l : List ℕ} {ls : List (List ℕ)} {text out st₂ tb₂ dp₂ : List ℕ} → text ≡ (feed s l).output → dp' ≡ displayed_by s (frame (unhex l)) dp
    → Came (feed s l).next dp' ls out st₂ tb₂ dp₂ → Came s dp (l ∷ ls) (text ++ out) st₂ tb₂ dp₂
unfolding run shown_after
came_more {s} {l = l} {ls = ls} e d r =
    record {
      output = ap₂ ◌++◌ e r.output;
      kept = r.kept;
      held = r.held;
      state = r.state;
      table = r.table;
      display = r.display ∙ ap (λ (x : List ℕ). shown_after (feed s l).next x ls) d;
    }

pub heard_run : {st tb dp : List ℕ} {ls : List (List ℕ)} {out st₂ tb₂ dp₂ : List ℕ} → Kept st tb → Heard st tb dp ls out st₂ tb₂ dp₂ → Came (held_in st tb) dp ls out st₂ tb₂ dp₂
heard_run k no_line = came_none k
heard_run k (more {ls = ls} {dp' = dp'} {out = out} {st₂ = st₂} {tb₂ = tb₂} {dp₂ = dp₂} a h) =
    let v = a.sound k in
    let n = kept_next k v in
    came_more v.output v.display (subst (λ (s : StateM). Came s dp' ls out st₂ tb₂ dp₂) n.1 (heard_run n.0 h))

-- from any sound state, with any of a line standing in the port
pub slow_run : {p st tb dp : List ℕ} {bss : List (List ℕ)} {out p₂ st₂ tb₂ dp₂ : List ℕ} (q : List ℕ) → Begun p q → Kept st tb → Ran p st tb dp bss out p₂ st₂ tb₂ dp₂
    → Came (held_in st tb) dp (lines (q ++ joined bss)) out st₂ tb₂ dp₂
slow_run q b k r = heard_run k (ran-heard q b r)

-- ---- from the fresh device, and a port on which nothing stands

module _ (w : ℕ) {st₀ tb₀ dp₀ : List ℕ} {e : ℕ} {st tb dp : List ℕ} (f : Started w st₀ tb₀ dp₀ e st tb dp) (h : Fits w st₀ tb₀ dp₀) where
  -- the output, the state at the end and the display are the machine's, for four and for eight channels
  pub slow_line : {p : List ℕ} {bss : List (List ℕ)} {out p₂ st₂ tb₂ dp₂ : List ℕ} → started_in p ≡ 0 → Ran p st tb dp bss out p₂ st₂ tb₂ dp₂
      → Came (fresh_on w) blank (lines (joined bss)) out st₂ tb₂ dp₂
  slow_line {p} {bss} {out} {p₂} {st₂} {tb₂} {dp₂} z r =
      let a = fresh-after w f h in
      subst (λ (x : List ℕ). Came (fresh_on w) x (lines (joined bss)) out st₂ tb₂ dp₂) (f.begun h).display
      (subst (λ (s : StateM). Came s dp (lines (joined bss)) out st₂ tb₂ dp₂) a.2 (slow_run [] (begun_none p z) (record { whole = a.0; held = a.1 }) r))

  pub slow_log : {p : List ℕ} {bss : List (List ℕ)} {out p₂ st₂ tb₂ dp₂ : List ℕ} → started_in p ≡ 0 → Ran p st tb dp bss out p₂ st₂ tb₂ dp₂ → out ≡ log_shown hidden w (joined bss)
  slow_log {bss = bss} z r = (slow_line z r).output ∙ sym (log-hidden w (joined bss))

four-log : (bs : List ℕ) → (run (fresh_on 4) (lines bs)).output ≡ log bs
unfolding log frees
four-log bs = refl

-- on four channels that is document 01's log
pub slow_log_on_four : {st₀ tb₀ dp₀ : List ℕ} {e : ℕ} {st tb dp : List ℕ} → Started 4 st₀ tb₀ dp₀ e st tb dp → Fits 4 st₀ tb₀ dp₀
    → {p : List ℕ} {bss : List (List ℕ)} {out p₂ st₂ tb₂ dp₂ : List ℕ} → started_in p ≡ 0 → Ran p st tb dp bss out p₂ st₂ tb₂ dp₂ → out ≡ log (joined bss)
slow_log_on_four f h {bss = bss} z r = (slow_line 4 f h z r).output ∙ four-log (joined bss)

-- ---- "An overlong line (more than 526 characters) is malformed however it was cut"

pub overlong : (s : StateM) (q : List ℕ) → 526 < length q → feed s q ≡ record { output = dull; next = s }
overlong s q h = feed_malformed s q (long_line_malformed q h)

none_shown : (s : StateM) (dp : List ℕ) → displayed_by s none dp ≡ dp
unfolding displayed_by
none_shown s dp = refl

-- on the bytes: what stands of such a line is answered 7, and nothing moves, sound or not
pub overlong_heard : {l : List ℕ} {n : ℕ} {q st tb dp text st' tb' dp' : List ℕ} → Stands l n q → 526 < length q → Hears (take n l) st tb dp text st' tb' dp'
    → (text ≡ dull) × (st' ≡ st) × (tb' ≡ tb) × (dp' ≡ dp)
overlong_heard {q = q} {st} {tb} {dp} t h a =
    kept_or_not st tb
    (λ k. let v = (hears_whole t a).sound k in
    let o = overlong (held_in st tb) q h in
    let b = kept_bytes k in (
      v.output ∙ ap (λ (x : FedM). x.output) o,
      v.state.bytes ∙ ap (λ (x : FedM). image_of (struct_of x.next)) o ∙ sym b.0,
      v.table ∙ ap (λ (x : FedM). table_of x.next) o ∙ sym b.1,
      v.display ∙ ap (λ (o : Option Call). displayed_by (held_in st tb) o dp) (long_line_malformed q h) ∙ none_shown (held_in st tb) dp,
    ))
    (λ n. let v = (hears_whole t a).unsound n in (v.output ∙ ap unheard (long_line_malformed q h), v.state, v.table, v.display))
