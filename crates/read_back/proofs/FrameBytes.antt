-- Every frame of a sound state has 1 to 23 bytes, so a line can carry it. Assumes nothing.
use Prim.Native.Nat.{ℕ, suc, ◌+◌, ◌≤◌, ◌<◌}
use mathlib.Core.Path.{◌≡◌, refl, ap}
use mathlib.Core.Bool.{Bool, true, false, ◌&&◌}
use mathlib.Core.List.{List, [], ◌∷◌, ◌++◌, map}
use mathlib.Core.Option.{Option, none, some}
use native.Mathlib.Omega.{arith}
use lib.Dec.{T, leb, leb→le}
use lib.ListN.{length}
use Rattle.widening.specs.machine.Lists.{all}
use Rattle.widening.specs.machine.State.{Write, Channel, Lock, Request, State}
use Rattle.widening.specs.machine.Numbers.{ENTRIES, KEYS}
use Rattle.widening.specs.machine.Sound.{sound, sound_channel, sound_lock, sound_waiter, sound_request, sound_pervol, sound_opens, writes_of}
use Rattle.widening.proofs.machine.Tests.{and_right}
use Rattle.widening.specs.machine.InBytes.{mark_of}
use Rattle.widening.proofs.machine_laws.Sound.{parts}
use Rattle.table.specs.Entry.{tone_bytes, pervol_bytes}
use Rattle.board.specs.store.Store.{Each, Small}
use Rattle.board.proofs.store.Store.{lock-ids, waiter-ids, wait-ids, write_ids}
use Rattle.saved.specs.Saved.{kept, channel_frame, request_frame, span_frame, write_frame, write_frames, key_frame, frames, LOCK, WAITCYCLE, OPEN, LAST}
use Rattle.read_back.specs.ReadBack.{Bytes}
use Rattle.read_back.proofs.Fits.{each_all, ToneFits, tone_fits, WriteFits, each_write, ChannelFits, channel_fits, SpanFits, lock_fits_lem, waiter_fits, RequestFits, request_fits}
use Rattle.read_back.proofs.Spelt.{Frame}

-- ---- parts of a frame

mark_byte : (b : Bool) → mark_of b < 256
mark_byte true = omega arith
mark_byte false = omega arith

each_append {ℓ} : {A : Type ℓ} (P : A → Type 0) (xs ys : List A) → Each P xs → Each P ys → Each P (xs ++ ys)
each_append P [] ys s t = t
each_append P (x ∷ xs) ys s t = (s.0, each_append P xs ys s.1 t)

each_map {ℓ κ} : {A : Type ℓ} {B : Type κ} (P : B → Type 0) (Q : A → Type 0) (f : A → B) → ((x : A) → Q x → P (f x)) → (xs : List A) → Each Q xs → Each P (map f xs)
each_map P Q f g [] t = tt
each_map P Q f g (x ∷ xs) t = (g x t.0, each_map P Q f g xs t.1)

-- a range and an id for each
each_two {ℓ} : {A : Type ℓ} (Q : A → Type 0) (id : A → ℕ) (xs : List A) → Each Q xs → Small (map id xs) → Each (λ x. Q x × (id x < 64)) xs
each_two Q id [] s t = tt
each_two Q id (x ∷ xs) s t = ((s.0, t.0), each_two Q id xs s.1 t.1)

tone-bytes : (p v : ℕ) → ToneFits p v → Bytes (tone_bytes p v)
tone-bytes p v f = let a = f.period in let b = f.volume in (omega arith, (omega arith, (omega arith, (omega arith, tt))))

pervol-bytes : (q : Option (ℕ × ℕ)) → T (sound_pervol q) → Bytes (pervol_bytes q) × (length (pervol_bytes q) ≡ 5)
unfolding sound_pervol
pervol-bytes none t = ((omega arith, (omega arith, (omega arith, (omega arith, (omega arith, tt))))), refl)
pervol-bytes (some q) t = ((omega arith, tone-bytes q.0 q.1 (tone_fits q.0 q.1 t)), refl)

kept_bytes : (ws : List Write) → Each WriteFits ws → Bytes (kept ws) × (length (kept ws) ≡ 6)
unfolding kept
kept_bytes [] t = ((omega arith, (pervol-bytes none (unfold sound_pervol in tt)).0), refl)
kept_bytes (w ∷ ws) t = let p = pervol-bytes w.pervol t.0.pervol in ((mark_byte w.finish, p.0), ap suc p.1)

-- ---- frames

channel_whole : (c : Channel) → ChannelFits c → Frame (channel_frame c)
unfolding channel_frame
channel_whole c f =
    let k = f.key in
    let q = kept_bytes c.writes (each_write c.writes f.writes) in
    let n = q.1 in
    record {
      bytes = (omega arith, (omega arith, (omega arith, (omega arith, (mark_byte c.locked, (mark_byte c.stopped, q.0))))));
      some = omega arith;
      most = omega arith;
    }

request_whole : (r : Request) → RequestFits r × (r.id < 64) → Frame (request_frame r)
unfolding request_frame
request_whole r f =
    let k = f.0.key in
    let i : r.id < 64 = f.1 in
    let n = f.0.short in
    record {
      bytes = (omega arith, (omega arith, (omega arith, (omega arith, (omega arith, (mark_byte r.impatient, (omega arith, f.0.combos)))))));
      some = omega arith;
      most = omega arith;
    }

span_whole : (first : ℕ) → first < 256 → (l : Lock) → SpanFits l × (l.id < 64) → Frame (span_frame first l)
unfolding span_frame
span_whole first h l f =
    let k = f.0.key in
    let i : l.id < 64 = f.1 in
    record { bytes = (h, (omega arith, (omega arith, (omega arith, (f.0.map, tt))))); some = omega arith; most = omega arith }

write_whole : (i : ℕ) → i < 8 → (w : Write) → WriteFits w × (w.id < 64) → Frame (write_frame i w)
unfolding write_frame
write_whole i h w f =
    let k = f.0.cycles in
    let j : w.id < 64 = f.1 in
    record {
      bytes = (omega arith, (omega arith, (omega arith, (omega arith, (omega arith, tone-bytes w.period w.volume f.0.tone)))));
      some = omega arith;
      most = omega arith;
    }

small_parts : (xs ys : List ℕ) → Small (xs ++ ys) → Small xs × Small ys
small_parts [] ys t = (tt, t)
small_parts (x ∷ xs) ys t = let r = small_parts xs ys t.1 in ((t.0, r.0), r.1)

writes_whole : (i : ℕ) (cs : List Channel) → i + length cs ≤ 8 → Each ChannelFits cs → Small (writes_of cs) → Each Frame (write_frames i cs)
unfolding write_frames writes_of
writes_whole i [] h f s = tt
writes_whole i (c ∷ cs) h f s =
    let q = small_parts (map (λ w. w.id) c.writes) (writes_of cs) s in
    let t = each_two WriteFits (λ w. w.id) c.writes (each_write c.writes f.0.writes) q.0 in
    each_append Frame (map (write_frame i) c.writes) (write_frames (suc i) cs)
    (each_map Frame (λ w. WriteFits w × (w.id < 64)) (write_frame i) (write_whole i (omega arith)) c.writes t)
    (writes_whole (suc i) cs (omega arith) f.1 q.1)

key_whole : (first : ℕ) → first < 256 → (k : ℕ) → k ≤ 65535 → Frame (key_frame first k)
unfolding key_frame
key_whole first h k f = record { bytes = (h, (omega arith, (omega arith, tt))); some = omega arith; most = omega arith }

open_fits : (ks : List ℕ) → T (sound_opens ks) → Each (λ k. k ≤ 65535) ks
unfolding sound_opens
open_fits ks t =
    each_all (λ k. k ≤ 65535) (λ k. leb 1 k && leb k KEYS) (λ k u. leb→le k 65535 (and_right (leb 1 k) (leb k KEYS) u)) ks
    (and_right (leb (length ks) ENTRIES) (all (λ k. leb 1 k && leb k KEYS) ks) t)

-- ---- the whole

pub frames-bytes : (s : State) → T (sound s) → Each Frame (frames s)
unfolding frames
frames-bytes s sane =
    let p = parts s sane in
    let m = leb→le (length s.channels) 8 p.most in
    let f = each_all ChannelFits sound_channel channel_fits s.channels p.channels_ok in
    let rs = each_two RequestFits (λ r. r.id) s.waiting (each_all RequestFits (sound_request s.channels) (request_fits s.channels m) s.waiting p.waiting_ok) (wait-ids s p) in
    let ls = each_two SpanFits (λ l. l.id) s.locks (each_all SpanFits (sound_lock s.channels) (lock_fits_lem s.channels m p.channels_ok) s.locks p.locks_ok) (lock-ids s p) in
    let vs = each_two SpanFits (λ l. l.id) s.waiters (each_all SpanFits (sound_waiter s.channels) (waiter_fits s.channels m p.channels_ok) s.waiters p.waiters_ok) (waiter-ids s p) in
    each_append Frame (map channel_frame s.channels) _ (each_map Frame ChannelFits channel_frame channel_whole s.channels f)
    (each_append Frame (map request_frame s.waiting) _ (each_map Frame (λ r. RequestFits r × (r.id < 64)) request_frame request_whole s.waiting rs)
    (each_append Frame (map (span_frame LOCK) s.locks) _ (each_map Frame (λ l. SpanFits l × (l.id < 64)) (span_frame LOCK) (span_whole LOCK (omega arith)) s.locks ls)
    (each_append Frame (map (span_frame WAITCYCLE) s.waiters) _ (each_map Frame (λ l. SpanFits l × (l.id < 64)) (span_frame WAITCYCLE) (span_whole WAITCYCLE (omega arith)) s.waiters vs)
    (each_append Frame (write_frames 0 s.channels) _ (writes_whole 0 s.channels (omega arith) f (write_ids s p))
    (each_append Frame (map (key_frame OPEN) s.opens) _ (each_map Frame (λ k. k ≤ 65535) (key_frame OPEN) (key_whole OPEN (omega arith)) s.opens (open_fits s.opens p.opens_ok))
    (key_whole LAST (omega arith) s.last (leb→le s.last 65535 p.last_ok), tt))))))
