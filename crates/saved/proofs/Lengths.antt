-- How long a saved text is: a sound state has at most 64 outstanding requests and 32 open keys, and the longest line is that of a waiting
-- request with sixteen combinations. Assumes nothing.
use Prim.Native.Nat.{ℕ, suc, ◌+◌, ◌*◌, ◌/◌, ◌%◌, ◌^◌, ◌≤◌}
use mathlib.Core.Path.{◌≡◌, refl, ap, ◌∙◌}
use mathlib.Core.Bool.{◌&&◌}
use mathlib.Core.List.{List, [], ◌∷◌, ◌++◌, map}
use mathlib.Core.Option.{Option, none, some}
use native.Mathlib.Omega.{arith}
use lib.Dec.{T, leb, ltb, leb→le}
use lib.ListN.{length, length-append, length-map}
use Rattle.machine_laws.specs.machine.Numbers.{ENTRIES}
use Rattle.machine_laws.specs.machine.Lists.{all}
use Rattle.machine_laws.specs.machine.State.{Write, Channel, Lock, Request, State}
use Rattle.machine_laws.specs.machine.Sound.{sound, sound_request, writes_of}
use Rattle.machine_laws.specs.machine.Log.{line}
use Rattle.machine_laws.proofs.machine.Tests.{and_left, and_right}
use Rattle.machine_laws.specs.machine.InBytes.{mark_of}
use Rattle.machine_laws.specs.Sound.{Parts}
use Rattle.machine_laws.proofs.Sound.{parts, ids_few, opens_few}
use Rattle.table.specs.Entry.{tone_bytes, pervol_bytes}
use Rattle.saved.specs.Saved.{kept, channel_frame, request_frame, LOCK, WAITCYCLE, span_frame, write_frame, write_frames, OPEN, LAST, key_frame, frames, spelt, FIRST, text}

-- ---- lines

length_line : (bs : List ℕ) → length (line bs) ≡ 2 * length bs + 1
unfolding line
length_line [] = refl
length_line (b ∷ bs) = let e = length_line bs in omega arith

length-spelt : (fs gs : List (List ℕ)) → length (spelt (fs ++ gs)) ≡ length (spelt fs) + length (spelt gs)
unfolding spelt
length-spelt [] gs = omega arith
length-spelt (f ∷ fs) gs =
    let e = length-spelt fs gs in
    let a = length-append (line f) (spelt (fs ++ gs)) in
    let b = length-append (line f) (spelt fs) in
    omega arith

-- lines of at most so many bytes each
lines_most {ℓ} : {A : Type ℓ} (f : A → List ℕ) (k : ℕ) (xs : List A) → ((x : A) → length (f x) ≤ k) → length (spelt (map f xs)) ≤ (2 * k + 1) * length xs
unfolding spelt
lines_most f k [] h = omega arith
lines_most f k (x ∷ xs) h =
    let e = lines_most f k xs h in
    let a = length-append (line (f x)) (spelt (map f xs)) in
    let b = length_line (f x) in
    let c = h x in
    let d : (2 * k + 1) * suc (length xs) ≡ (2 * k + 1) * length xs + (2 * k + 1) = omega arith in
    omega arith

-- ---- the frames

kept_six : (ws : List Write) → length (kept ws) ≡ 6
unfolding kept
kept_six [] = refl
kept_six (w ∷ ws) = go w.pervol
  where
    go : (o : Option (ℕ × ℕ)) → length (mark_of w.finish ∷ pervol_bytes o) ≡ 6
    go none = refl
    go (some q) = refl

pub channel_twelve : (c : Channel) → length (channel_frame c) ≡ 12
unfolding channel_frame
channel_twelve c = let e = kept_six c.writes in omega arith

channels-long : (cs : List Channel) → length (spelt (map channel_frame cs)) ≡ 25 * length cs
unfolding spelt
channels-long [] = omega arith
channels-long (c ∷ cs) =
    let e = channels-long cs in
    let a = length-append (line (channel_frame c)) (spelt (map channel_frame cs)) in
    let b = length_line (channel_frame c) in
    let d = channel_twelve c in
    omega arith

few_combos : (cs : List Channel) (r : Request) → T (sound_request cs r) → length r.combos ≤ 16
unfolding sound_request
few_combos cs r t =
    let a = leb 1 (length r.combos) in
    let b = leb (length r.combos) 16 in
    let d = all (λ m. ltb m (2 ^ length cs)) r.combos in
    let e = leb r.key 65535 in
    let f = leb r.prec 255 in
    leb→le (length r.combos) 16 (and_right a b (and_left (a && b) d (and_left (a && b && d) e (and_left (a && b && d && e) f t))))

requests_most : (cs : List Channel) (rs : List Request) → T (all (sound_request cs) rs) → length (spelt (map request_frame rs)) ≤ 47 * length rs
unfolding spelt all request_frame
requests_most cs [] t = omega arith
requests_most cs (r ∷ rs) t =
    let e = requests_most cs rs (and_right (sound_request cs r) (all (sound_request cs) rs) t) in
    let a = length-append (line (request_frame r)) (spelt (map request_frame rs)) in
    let b = length_line (request_frame r) in
    let d = few_combos cs r (and_left (sound_request cs r) (all (sound_request cs) rs) t) in
    omega arith

spans_most : (first : ℕ) (ls : List Lock) → length (spelt (map (span_frame first) ls)) ≤ 11 * length ls
unfolding span_frame
spans_most first ls = lines_most (span_frame first) 5 ls (λ l. omega arith)

keys_most : (ks : List ℕ) → length (spelt (map (key_frame OPEN) ks)) ≤ 7 * length ks
unfolding key_frame
keys_most ks = lines_most (key_frame OPEN) 3 ks (λ k. omega arith)

writes_most : (i : ℕ) (cs : List Channel) → length (spelt (write_frames i cs)) ≤ 19 * length (writes_of cs)
unfolding write_frames writes_of spelt write_frame
writes_most i [] = omega arith
writes_most i (c ∷ cs) =
    let e = writes_most (suc i) cs in
    let a = length-spelt (map (write_frame i) c.writes) (write_frames (suc i) cs) in
    let b = lines_most (write_frame i) 9 c.writes (λ w. omega arith) in
    let d = length-append (map (λ (w : Write). w.id) c.writes) (writes_of cs) in
    let f = length-map c.writes (λ (w : Write). w.id) in
    omega arith

-- ---- a text

-- all lines behind the first
pub frames_most : (s : State) → T (sound s) → length (spelt (frames s)) ≤ 25 * length s.channels + 3239
unfolding frames spelt key_frame
frames_most s t =
    let p = parts s t in
    let A = map channel_frame s.channels in
    let B = map request_frame s.waiting in
    let C = map (span_frame LOCK) s.locks in
    let D = map (span_frame WAITCYCLE) s.waiters in
    let E = write_frames 0 s.channels in
    let F = map (key_frame OPEN) s.opens in
    let G = key_frame LAST s.last ∷ [] in
    let a = length-spelt A (B ++ (C ++ (D ++ (E ++ (F ++ G))))) in
    let b = length-spelt B (C ++ (D ++ (E ++ (F ++ G)))) in
    let c = length-spelt C (D ++ (E ++ (F ++ G))) in
    let d = length-spelt D (E ++ (F ++ G)) in
    let e = length-spelt E (F ++ G) in
    let f = length-spelt F G in
    let g = length-append (line (key_frame LAST s.last)) [] in
    let h = length_line (key_frame LAST s.last) in
    let ka = channels-long s.channels in
    let kb = requests_most s.channels s.waiting p.waiting_ok in
    let kc = spans_most LOCK s.locks in
    let kd = spans_most WAITCYCLE s.waiters in
    let ke = writes_most 0 s.channels in
    let kf = keys_most s.opens in
    let few = ids_few s p in
    let keys : length s.opens ≤ 32 = opens_few s p in
    omega arith

-- "A text that doesn't fit the lent room": 3,344 bytes are always enough for four channels
pub text_most : (s : State) → T (sound s) → length s.channels ≡ 4 → length (text s) ≤ 3344
unfolding text spelt
text_most s t w =
    let e = frames_most s t in
    let a = length-append (line FIRST) (spelt (frames s)) in
    let b = length_line FIRST in
    omega arith
