-- For every log, and every cut of it into fragments, there is a run, and it ends: each call with a room for one line's output uses some of
-- the fragment. Assumes nothing.
use Prim.Native.Nat.{ℕ, zero, suc, ◌+◌, ◌-◌, ◌≤◌, ◌<◌}
use mathlib.Core.Path.{◌≡◌, refl, ap, sym, ◌∙◌}
use mathlib.Core.List.{List, [], ◌∷◌, ◌++◌}
use mathlib.Core.Option.{Option, none, some}
use native.Mathlib.Omega.{arith}
use lib.Dec.{T, eqb}
use lib.ListN.{length, take, drop, replicate, length-drop, length-replicate}
use Rattle.std.specs.Prelude.{if◌then◌else◌}
use Rattle.digits.specs.machine.Lists.{all}
use Rattle.digits.specs.machine.Log.{unhex, frame, feed}
use Rattle.digits.proofs.machine.Tests.{if_elim, and_left, and_right, and_both}
use Rattle.display.proofs.machine_laws.Lists.{all_append}
use Rattle.display.proofs.machine_laws.Sound.{parts}
use Rattle.digits.specs.machine.State.{Call, State as StateM}
use Rattle.digits.specs.machine.InBytes.{two_bytes}
use Rattle.display.specs.Display.{DISPLAY, displayed_by}
use Rattle.display.proofs.Display.{displayed-length}
use Rattle.memory.specs.Splice.{splice}
use Rattle.image.specs.store.Store.{table_of}
use Rattle.image.specs.board.Board.{struct_of}
use Rattle.image.specs.Image.{image_of, is_byte}
use Rattle.gathering.specs.Lumps.{LINE, front, ended, used, kept, gathered_of, Gathers}
use Rattle.fragments.specs.unheard.Unheard.{unheard}
use Rattle.whole_log.proofs.taking.Kept.{held_fine, feed_fine}
use Rattle.whole_log.proofs.taking.Laws.{kept_few, used_some}
use Rattle.whole_log.specs.Whole.{joined}
use Rattle.boundary.specs.sizes.Sizes.{PORT, ROOM}
use Rattle.fragments.specs.port.Port.{started_in, line_in, port_of}
use Rattle.fragments.proofs.port.Laws.{started_back}
use Rattle.fragments.specs.admitting.Admitting.{Proper}
use Rattle.fragments.proofs.admitting.Laws.{no_refusal}
use Rattle.fragments.specs.hearing.Hearing.{Kept, held_in, Hears}
use Rattle.fragments.proofs.hearing.Laws.{kept_or_not}
use Rattle.fragments.specs.telling.Telling.{Answers}
use Rattle.fragments.proofs.telling.Laws.{is_served}
use Rattle.fragments.specs.Fragments.{grown, line_with, line_fed, port_fed, Feeds}
use Rattle.fragments.proofs.Laws.{gathered-length}
use Rattle.last_line.specs.LastLine.{line_last, port_last, Ends}
use Rattle.slow_line.specs.Slow.{feeds, used_up, ends, over, Runs}
use Rattle.images.proofs.Images.{Bytes, key-bytes, zero_bytes, saved_of}

-- ---- a line is heard, sound or not

record Answered (o : Option (List ℕ)) (st tb dp room : List ℕ) : Type 0 where
  pub n : ℕ
  pub st' : List ℕ
  pub tb' : List ℕ
  pub dp' : List ℕ
  pub room' : List ℕ
  pub long : length dp' ≡ DISPLAY
  pub answers : Answers o st tb dp room n st' tb' dp' room'

answered : {l st tb dp : List ℕ} (room text st' tb' dp' : List ℕ) → length dp' ≡ DISPLAY → Hears l st tb dp text st' tb' dp' → Answered (some l) st tb dp room
answered room text st' tb' dp' d h =
    record {
      n = length text;
      st' = st';
      tb' = tb';
      dp' = dp';
      room' = splice room 0 text;
      long = d;
      answers = record { text = text; heard = h; count = refl; bytes = refl };
    }

shown-long : (s : StateM) (o : Option Call) (dp : List ℕ) → length dp ≡ DISPLAY → length (displayed_by s o dp) ≡ DISPLAY
unfolding displayed_by
shown-long s none dp d = d
shown-long s (some c) dp d = displayed-length s c dp d

module _ (l st tb dp room : List ℕ) (d : length dp ≡ DISPLAY) where
  -- by the state that the machine's `feed` leaves: it is sound, so it has its bytes
  served_made : Kept st tb → Answered (some l) st tb dp room
  served_made k =
      let f = feed (held_in st tb) l in
      let s = f.next in
      let p = parts s (feed_fine (held_in st tb) l (held_fine k.held)).sane in
      answered room f.output (image_of (struct_of s)) (table_of s) (displayed_by (held_in st tb) (frame (unhex l)) dp) (shown-long (held_in st tb) (frame (unhex l)) dp d)
      (record { sound = λ _. record { output = refl; state = saved_of s p; table = refl; display = refl }; unsound = λ n. absurd (n k) })

  unserved_made : (Kept st tb → ⊥) → Answered (some l) st tb dp room
  unserved_made n =
      answered room (unheard (frame (unhex l))) st tb dp d
      (record { sound = λ k. absurd (n k); unsound = λ _. record { output = refl; state = refl; table = refl; display = refl } })

answer_made : (o : Option (List ℕ)) (st tb dp room : List ℕ) → length dp ≡ DISPLAY → Answered o st tb dp room
answer_made none st tb dp room d =
    record { n = 0; st' = st; tb' = tb; dp' = dp; room' = room; long = d; answers = record { count = refl; state = refl; table = refl; display = refl; bytes = refl } }
answer_made (some l) st tb dp room d = kept_or_not st tb (served_made l st tb dp room d) (unserved_made l st tb dp room d)

-- ---- a port stays a port

bytes_take : (n : ℕ) (l : List ℕ) → Bytes l → Bytes (take n l)
unfolding all
bytes_take zero l t = tt
bytes_take (suc n) [] t = tt
bytes_take (suc n) (x ∷ l) t = and_both (is_byte x) (all is_byte (take n l)) (and_left (is_byte x) (all is_byte l) t) (bytes_take n l (and_right (is_byte x) (all is_byte l) t))

bytes_drop : (n : ℕ) (l : List ℕ) → Bytes l → Bytes (drop n l)
unfolding all
bytes_drop zero l t = t
bytes_drop (suc n) [] t = tt
bytes_drop (suc n) (x ∷ l) t = bytes_drop n l (and_right (is_byte x) (all is_byte l) t)

bytes_left : (xs ys : List ℕ) → Bytes (xs ++ ys) → Bytes xs
unfolding all
bytes_left [] ys t = tt
bytes_left (x ∷ xs) ys t =
    and_both (is_byte x) (all is_byte xs) (and_left (is_byte x) (all is_byte (xs ++ ys)) t) (bytes_left xs ys (and_right (is_byte x) (all is_byte (xs ++ ys)) t))

bytes-right : (xs ys : List ℕ) → Bytes (xs ++ ys) → Bytes ys
unfolding all
bytes-right [] ys t = t
bytes-right (x ∷ xs) ys t = bytes-right xs ys (and_right (is_byte x) (all is_byte (xs ++ ys)) t)

bytes_front : (l : List ℕ) → Bytes l → Bytes (front l)
unfolding all front
bytes_front [] t = tt
bytes_front (x ∷ l) t =
    if_elim Bytes (eqb x 10) (λ _. tt) (λ _. and_both (is_byte x) (all is_byte (front l)) (and_left (is_byte x) (all is_byte l) t) (bytes_front l (and_right (is_byte x) (all is_byte l) t)))

bytes-splice : (l : List ℕ) (at : ℕ) (vs : List ℕ) → Bytes l → Bytes vs → Bytes (splice l at vs)
unfolding splice
bytes-splice l at vs t u =
    all_append is_byte (take at l) (vs ++ drop (at + length vs) l) (bytes_take at l t) (all_append is_byte vs (drop (at + length vs) l) u (bytes_drop (at + length vs) l t))

port_made : (n : ℕ) (l : List ℕ) → n ≤ LINE → length l ≡ LINE → Bytes l → Proper (port_of n l)
port_made n l h e t =
    record { long = omega arith; few = rw (started_back n l) h; bytes = all_append is_byte (two_bytes n) l (key-bytes n (omega arith)) t }

module _ (p : List ℕ) (h : Proper p) where
  line_bytes : Bytes (line_in p)
  line_bytes = bytes_drop 2 p h.bytes

  line_long : length (line_in p) ≡ LINE
  line_long = let e = h.long in length-drop 2 p ∙ omega arith

  pub port-fed : (bs : List ℕ) → Bytes bs → Proper (port_fed p bs)
  unfolding port_fed
  port-fed bs t =
      let w : Gathers (line_in p) (started_in p) bs (gathered_of (started_in p) bs) (line_with p bs) = record { answer = refl; filled = refl } in
      let k : (if ended bs then 0 else grown p bs) ≤ LINE = if_elim (λ (n : ℕ). n ≤ LINE) (ended bs) (λ _. omega arith) (λ _. kept_few (started_in p) bs h.few) in
      port_made (if ended bs then 0 else grown p bs) (line_with p bs) k (gathered-length p bs refl refl w h)
      (bytes-splice (line_in p) (started_in p) (kept (started_in p) bs) line_bytes (bytes_take (LINE - started_in p) (front bs) (bytes_front bs t)))

-- a fresh port: all 0
pub fresh-port : Proper (replicate PORT 0) × (started_in (replicate PORT 0) ≡ 0)
fresh-port = (record { long = length-replicate {A = ℕ} PORT 0; few = omega arith; bytes = zero_bytes PORT }, refl)

-- ---- calls

abbrev room₀ : List ℕ
room₀ = replicate ROOM 0

room_long : ROOM ≤ length room₀
room_long = let e = length-replicate {A = ℕ} ROOM 0 in omega arith

module _ (p st tb dp : List ℕ) (h : Proper p) (d : length dp ≡ DISPLAY) where
  feed_made : (bs : List ℕ) (a : Answered (line_fed p bs) st tb dp room₀) → Feeds bs p st tb dp room₀ 0 (used bs) a.n (port_fed p bs) a.st' a.tb' a.dp' a.room'
  feed_made bs a = is_served (sym (no_refusal p (length dp) (length room₀) h d room_long)) refl (record { used = refl; port = refl; answers = a.answers })

  end_made : (a : Answered (line_last p) st tb dp room₀) → Ends p st tb dp room₀ 0 a.n (port_last p) a.st' a.tb' a.dp' a.room'
  end_made a = is_served (sym (no_refusal p (length dp) (length room₀) h d room_long)) refl (record { used = refl; port = refl; answers = a.answers })

-- a call that is not refused uses some of a fragment that has any bytes
pub progress : (bs p : List ℕ) {st tb dp room : List ℕ} {u n : ℕ} {p' st' tb' dp' room' : List ℕ} → Feeds bs p st tb dp room 0 u n p' st' tb' dp' room' → 0 < length bs → 0 < u
progress bs p c h = let e = (c.served (sym c.error)).used in let k = used_some bs h in omega arith

-- ---- runs

-- whatever stands, the fragments come to some output
abbrev Come : List (List ℕ) → Type 0
Come bss = (p st tb dp : List ℕ) → Proper p → length dp ≡ DISPLAY → Runs p st tb dp bss

end : Come []
end p st tb dp h d =
    let a = answer_made (line_last p) st tb dp room₀ d in
    record {
      out = take a.n a.room' ++ [];
      port = port_last p;
      state = a.st';
      table = a.tb';
      display = a.dp';
      ran = ends (end_made p st tb dp h d a) (over (started_back 0 (line_in p)));
    }

empty : (bss : List (List ℕ)) → Come bss → Come ([] ∷ bss)
empty bss next p st tb dp h d =
    let r = next p st tb dp h d in
    record { out = r.out; port = r.port; state = r.state; table = r.table; display = r.display; ran = used_up r.ran }

fragment : (bss : List (List ℕ)) → Come bss → (m : ℕ) (bs : List ℕ) → length bs ≤ m → Bytes bs → Come (bs ∷ bss)
fragment bss next zero [] e t p st tb dp h d = empty bss next p st tb dp h d
fragment bss next (suc m) [] e t p st tb dp h d = empty bss next p st tb dp h d
fragment bss next zero (b ∷ bs) e t p st tb dp h d = absurd (omega arith)
fragment bss next (suc m) (b ∷ bs) e t p st tb dp h d =
    let cs = b ∷ bs in
    let a = answer_made (line_fed p cs) st tb dp room₀ d in
    let u = used_some cs (omega arith) in
    let k = length-drop (used cs) cs in
    let r = fragment bss next m (drop (used cs) cs) (omega arith) (bytes_drop (used cs) cs t) (port_fed p cs) a.st' a.tb' a.dp' (port-fed p h cs t) a.long in
    record {
      out = take a.n a.room' ++ r.out;
      port = r.port;
      state = r.state;
      table = r.table;
      display = r.display;
      ran = feeds (feed_made p st tb dp h d cs a) r.ran;
    }

-- of bytes, from any port and display, and any bytes as state and table
pub run_exists : (bss : List (List ℕ)) → T (all is_byte (joined bss)) → (p st tb dp : List ℕ) → Proper p → length dp ≡ DISPLAY → Runs p st tb dp bss
run_exists [] t p st tb dp h d = end p st tb dp h d
run_exists (bs ∷ bss) t p st tb dp h d =
    fragment bss (λ p st tb dp h d. run_exists bss (bytes-right bs (joined bss) t) p st tb dp h d) (length bs) bs (omega arith) (bytes_left bs (joined bss) t) p st tb dp h d
