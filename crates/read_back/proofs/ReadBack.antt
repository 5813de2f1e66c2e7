-- The frames of a sound state, read in their order into a fresh sheet, make the struct and the table of that state: first its channels
-- without writes, then the waiting requests, the locks and the WAITCYCLEs, then the writes of each channel, then its keys.
-- Assumes nothing.
use Prim.Native.Nat.{ℕ, suc, ◌+◌, ◌-◌, ◌*◌, ◌≤◌, ◌<◌}
use mathlib.Core.Path.{◌≡◌, refl, ap, ap₂, sym, subst, ◌∙◌}
use mathlib.Core.Bool.{Bool, true, false, not, ◌&&◌}
use mathlib.Core.List.{List, [], ◌∷◌, ◌++◌, append_assoc, append-nil, map, map-append}
use mathlib.Core.Option.{Option, none, some}
use native.Mathlib.Omega.{arith}
use native.Mathlib.Numerals.{add-one}
use borrow.Author.Tests.{ne_eqb}
use lib.Dec.{T, leb→le}
use lib.ListN.{length, take, drop, set, replicate, length-append, length-map}
use lib.Seq.{set-append_seam, get_or_at, take_at, drop_at}
use Rattle.table.specs.memory.Splice.{splice}
use Rattle.widening.specs.machine.Lists.{all}
use Rattle.widening.specs.machine.State.{Write, Channel as ChannelM, Lock, Request, State as StateM, free, frees, fresh_on}
use Rattle.widening.specs.machine.Sound.{sound, sound_channel, sound_writes, sound_write, sound_request, forgets, no_pervol, writes_of}
use Rattle.widening.proofs.machine.Tests.{and_left, and_right}
use Rattle.widening.specs.machine.InBytes.{mark_of}
use Rattle.widening.specs.machine_laws.Lists.{take as both}
use Rattle.widening.proofs.machine_laws.Lists.{sub_refl, sub_append, sub_right}
use Rattle.widening.specs.machine_laws.Sound.{Parts}
use Rattle.widening.proofs.machine_laws.Sound.{parts, ids_few, opens_few}
use Rattle.open_keys.specs.queue.declared.Queue.{Queue}
use Rattle.open_keys.specs.queue.Queue.{queue_of, pushed}
use Rattle.open_keys.proofs.queue.Laws.{pushed_of}
use Rattle.open_keys.specs.declared.Keys.{Keys}
use Rattle.open_keys.specs.OpenKeys.{keys_of}
use Rattle.open_keys.proofs.Laws.{added_of}
use Rattle.board.specs.channel.declared.Channel.{Channel}
use Rattle.board.specs.channel.Channel.{channel_of, with_writes}
use Rattle.table.specs.Entry.{pervol_bytes}
use Rattle.board.specs.store.declared.State.{State}
use Rattle.board.specs.store.Store.{struct_of, lookup, Item, write_item, lock_item, waiter_item, wait_item, write_items, items, entries, table_of, Each, Good}
use Rattle.board.proofs.store.Entries.{ins_at, entry_added, good_sub, ins_small}
use Rattle.board.proofs.store.Store.{good_of}
use Rattle.saved.specs.Saved.{channel_frame, request_frame, span_frame, write_frame, write_frames, key_frame, frames, kept, LOCK, WAITCYCLE, OPEN, LAST}
use Rattle.reading.specs.sheet.Sheet.{sheet, taken, taken_all, blank, added_key, with_channels, with_locks, with_waiters, with_waiting, with_opens}
use Rattle.read_back.specs.ReadBack.{kept_all, sheet_of}
use Rattle.read_back.proofs.Fits.{each_all, ChannelFits, channel_fits, RequestFits, request_fits}
use Rattle.read_back.proofs.OneFrame.{bare, kept_six, channel-frame, request-frame, lock-frame, waiter-frame, remembered_at, remembered, write_frame_lem, open_frame, last_frame}

-- ---- D1

pub length-kept_all : (cs : List ChannelM) → length (kept_all cs) ≡ length cs * 6
unfolding kept_all
length-kept_all [] = refl
length-kept_all (c ∷ cs) =
    let a = length-append (kept c.writes) (kept_all cs) in
    let b = kept_six c.writes in
    let d = length-kept_all cs in
    omega arith

abbrev pub PrecFits : ChannelM → Type 0
PrecFits c = c.prec ≤ 255

splice_seam : (a b d vs : List ℕ) (n : ℕ) → length a ≡ n → length b ≡ length vs → splice (a ++ (b ++ d)) n vs ≡ a ++ (vs ++ d)
unfolding splice
splice_seam a b d vs n e f =
    let x : a ++ (b ++ d) ≡ (a ++ b) ++ d = sym (append_assoc a b d) in
    let l : length (a ++ b) ≡ n + length vs = length-append a b ∙ (let z : length a + length b ≡ n + length vs = omega arith in z) in
    ap₂ (λ (p q : List ℕ). p ++ (vs ++ q)) (take_at a (b ++ d) n e) (ap (drop (n + length vs)) x ∙ drop_at (a ++ b) d (n + length vs) l)

zeros-six : (m : ℕ) → ◌≡◌ {A = List ℕ} (replicate (suc m * 6) 0) (replicate 6 0 ++ replicate (m * 6) 0)
zeros-six m = let e : suc m * 6 ≡ suc (suc (suc (suc (suc (suc (m * 6)))))) = omega arith in rw e

module _ (st : State) (tb : List ℕ) (gs : List (List ℕ)) where
  pub channels_read : (cs : List ChannelM) (ds : List Channel) (ka : List ℕ) (m : ℕ) → Each PrecFits cs → length ka ≡ length ds * 6 → length ds + length cs ≤ 8
      → taken_all (map channel_frame cs ++ gs) (sheet (with_channels (ds ++ map channel_of (frees (length cs + m))) st) (length ds) tb (ka ++ replicate ((length cs + m) * 6) 0))
      ≡ taken_all gs (sheet (with_channels (ds ++ (map bare cs ++ map channel_of (frees m))) st) (length ds + length cs) tb (ka ++ (kept_all cs ++ replicate (m * 6) 0)))
  unfolding taken_all kept_all frees
  channels_read [] ds ka m t e h =
      let z : 0 + m ≡ m = omega arith in
      let y : length ds + 0 ≡ length ds = omega arith in
      rw (z, y)
  channels_read (c ∷ cs) ds ka m t e h =
      let z : suc (length cs) + m ≡ suc (length cs + m) = omega arith in
      let k : length (kept c.writes) ≡ 6 = kept_six c.writes in
      let fs = map channel_of (frees (length cs + m)) in
      let zs : List ℕ = replicate ((length cs + m) * 6) 0 in
      let a : set (ds ++ channel_of free ∷ fs) (length ds) (bare c) ≡ (ds ++ bare c ∷ []) ++ fs = set-append_seam ds (channel_of free) fs (bare c) ∙ sym (append_assoc ds (bare c ∷ []) fs) in
      let b : splice (ka ++ replicate (suc (length cs + m) * 6) 0) (length ds * 6) (kept c.writes) ≡ (ka ++ kept c.writes) ++ zs =
      ap (λ (x : List ℕ). splice (ka ++ x) (length ds * 6) (kept c.writes)) (zeros-six (length cs + m))
      ∙ (splice_seam ka (replicate 6 0) zs (kept c.writes) (length ds * 6) e (sym k) ∙ sym (append_assoc ka (kept c.writes) zs)) in
      let l : length (ds ++ bare c ∷ []) ≡ length ds + 1 = length-append ds (bare c ∷ []) in
      let u : length (ka ++ kept c.writes) ≡ length (ds ++ bare c ∷ []) * 6 = length-append ka (kept c.writes) ∙ (let y : length ka + length (kept c.writes) ≡ length (ds ++ bare c ∷ []) * 6 = omega arith in y) in
      let v : length (ds ++ bare c ∷ []) + length cs ≡ length ds + suc (length cs) = omega arith in
      let s = channel-frame c t.0 (with_channels (ds ++ channel_of free ∷ fs) st) (length ds) tb (ka ++ replicate (suc (length cs + m) * 6) 0) (omega arith) in
      let f : taken (channel_frame c) (sheet (with_channels (ds ++ channel_of free ∷ fs) st) (length ds) tb (ka ++ replicate (suc (length cs + m) * 6) 0))
      ≡ sheet (with_channels ((ds ++ bare c ∷ []) ++ fs) st) (length (ds ++ bare c ∷ [])) tb ((ka ++ kept c.writes) ++ zs) =
      s ∙ (λ j. sheet (with_channels (a j) st) (sym l j) tb (b j)) in
      rw z
      (ap (taken_all (map channel_frame cs ++ gs)) f
      ∙ (channels_read cs (ds ++ bare c ∷ []) (ka ++ kept c.writes) m t.1 u (omega arith)
      ∙ (λ j. taken_all gs (sheet (with_channels (append_assoc ds (bare c ∷ []) (map bare cs ++ map channel_of (frees m)) j) st) (v j) tb
      ((append_assoc ka (kept c.writes) (kept_all cs ++ replicate (m * 6) 0) ∙ ap (λ (x : List ℕ). ka ++ x) (sym (append_assoc (kept c.writes) (kept_all cs) (replicate (m * 6) 0)))) j)))))

-- ---- the queues

-- each of a list, by how many stand before it
abbrev pub EachFrom : {A : Type 0} → (ℕ → A → Type 0) → ℕ → List A → Type 0
EachFrom P k [] = Unit {0}
EachFrom P k (x ∷ xs) = P k x × EachFrom P (suc k) xs

-- one item more between others: the items that go in later are not there yet
good_here : (pre : List Item) (x : Item) (xs post : List Item) → Good (pre ++ (x ∷ xs ++ post)) → Good (pre ++ x ∷ post)
good_here pre x xs post g = good_sub (sub_append (sub_refl pre) (both (sub_right xs (sub_refl post)))) g

-- a kind of frame whose ids go to the back of one queue: its place in the struct, what it asks of the k-th
module _ {A : Type 0} (frame_of : A → List ℕ) (item_of : A → Item) (place : Queue → State) (ok : ℕ → A → Type 0) (n : ℕ) (ks : List ℕ)
    (step : (a : A) (l : List ℕ) (tb : List ℕ) → ok (length l) a → (item_of a).id < 64 → length l < 64
    → taken (frame_of a) (sheet (place (queue_of l)) n tb ks) ≡ sheet (place (pushed (queue_of l) (item_of a).id)) n (splice tb ((item_of a).id * 23) (item_of a).entry) ks)
    (gs : List (List ℕ)) where
  pub queue_read : (xs : List A) (l : List ℕ) (pre post : List Item) → EachFrom ok (length l) xs → length l + length xs ≤ 64 → Good (pre ++ (map item_of xs ++ post))
      → taken_all (map frame_of xs ++ gs) (sheet (place (queue_of l)) n (entries 64 0 (pre ++ post)) ks)
      ≡ taken_all gs (sheet (place (queue_of (l ++ map (λ a. (item_of a).id) xs))) n (entries 64 0 (pre ++ (map item_of xs ++ post))) ks)
  unfolding taken_all
  queue_read [] l pre post t h g = rw (append-nil l)
  queue_read (x ∷ xs) l pre post t h g =
      let i = item_of x in
      let here : Good (pre ++ i ∷ post) = good_here pre i (map item_of xs) post g in
      let ins = ins_at i pre post in
      let a = step x l (entries 64 0 (pre ++ post)) t.0 (ins_small ins here.small) (omega arith) in
      let b = pushed_of l i.id (omega arith) in
      let d : splice (entries 64 0 (pre ++ post)) (i.id * 23) i.entry ≡ entries 64 0 ((pre ++ i ∷ []) ++ post) = entry_added ins here ∙ ap (entries 64 0) (sym (append_assoc pre (i ∷ []) post)) in
      let m : length (l ++ i.id ∷ []) ≡ suc (length l) = length-append l (i.id ∷ []) ∙ add-one (length l) in
      let e = append_assoc pre (i ∷ []) (map item_of xs ++ post) in
      ap (taken_all (map frame_of xs ++ gs)) (a ∙ ap₂ (λ (q : Queue) (tb : List ℕ). sheet (place q) n tb ks) b d)
      ∙ (queue_read xs (l ++ i.id ∷ []) (pre ++ i ∷ []) post (rw m t.1) (omega arith) (rw e g)
      ∙ ap₂ (λ (is : List ℕ) (xs : List Item). taken_all gs (sheet (place (queue_of is)) n (entries 64 0 xs) ks)) (append_assoc l (i.id ∷ []) (map (λ y. (item_of y).id) xs)) e)

-- ---- D2, D3, D4

abbrev pub Any : {A : Type 0} → ℕ → A → Type 0
Any k x = Unit {0}

pub any_each : {A : Type 0} (k : ℕ) (xs : List A) → EachFrom Any k xs
any_each k [] = tt
any_each k (x ∷ xs) = (tt, any_each (suc k) xs)

pub each_from : {A : Type 0} (P : A → Type 0) (k : ℕ) (xs : List A) → Each P xs → EachFrom (λ _. P) k xs
each_from P k [] t = tt
each_from P k (x ∷ xs) t = (t.0, each_from P (suc k) xs t.1)

module _ (st : State) (n : ℕ) (ks : List ℕ) (gs : List (List ℕ)) where
  pub requests_read : (rs : List Request) (pre post : List Item) → Each RequestFits rs → length rs ≤ 64 → Good (pre ++ (map wait_item rs ++ post))
      → taken_all (map request_frame rs ++ gs) (sheet (with_waiting (queue_of []) st) n (entries 64 0 (pre ++ post)) ks)
      ≡ taken_all gs (sheet (with_waiting (queue_of (map (λ r. r.id) rs)) st) n (entries 64 0 (pre ++ (map wait_item rs ++ post))) ks)
  requests_read rs pre post t h g =
      queue_read request_frame wait_item (λ q. with_waiting q st) (λ _. RequestFits) n ks
      (λ r l tb f small few. request-frame r f.prec f.short small (with_waiting (queue_of l) st) n tb ks few)
      gs rs [] pre post (each_from RequestFits 0 rs t) (omega arith) g

  pub locks_read : (ls : List Lock) (pre post : List Item) → length ls ≤ 64 → Good (pre ++ (map lock_item ls ++ post))
      → taken_all (map (span_frame LOCK) ls ++ gs) (sheet (with_locks (queue_of []) st) n (entries 64 0 (pre ++ post)) ks)
      ≡ taken_all gs (sheet (with_locks (queue_of (map (λ l. l.id) ls)) st) n (entries 64 0 (pre ++ (map lock_item ls ++ post))) ks)
  locks_read ls pre post h g =
      queue_read (span_frame LOCK) lock_item (λ q. with_locks q st) Any n ks
      (λ l is tb f small few. lock-frame l small (with_locks (queue_of is) st) n tb ks few)
      gs ls [] pre post (any_each 0 ls) (omega arith) g

  pub waiters_read : (vs : List Lock) (pre post : List Item) → length vs ≤ 64 → Good (pre ++ (map waiter_item vs ++ post))
      → taken_all (map (span_frame WAITCYCLE) vs ++ gs) (sheet (with_waiters (queue_of []) st) n (entries 64 0 (pre ++ post)) ks)
      ≡ taken_all gs (sheet (with_waiters (queue_of (map (λ v. v.id) vs)) st) n (entries 64 0 (pre ++ (map waiter_item vs ++ post))) ks)
  waiters_read vs pre post h g =
      queue_read (span_frame WAITCYCLE) waiter_item (λ q. with_waiters q st) Any n ks
      (λ v is tb f small few. waiter-frame v small (with_waiters (queue_of is) st) n tb ks few)
      gs vs [] pre post (any_each 0 vs) (omega arith) g

-- ---- D5

-- nothing is remembered behind the front write
forgets-six : (w : Write) → T (forgets w) → remembered w ≡ replicate 6 0
unfolding forgets
forgets-six w t = go w.finish w.pervol t
  where
    go : (b : Bool) (q : Option (ℕ × ℕ)) → T (not b && no_pervol q) → ◌≡◌ {A = List ℕ} (mark_of b ∷ pervol_bytes q) (replicate 6 0)
    go true q u = absurd u
    go false none u = refl
    go false (some q) u = absurd (unfold no_pervol in u)

abbrev pub Remembers : List ℕ → ℕ → Write → Type 0
Remembers six k w = remembered_at k six ≡ remembered w

behind_remember : (six : List ℕ) (k : ℕ) (ws : List Write) → T (all (λ v. sound_write v && forgets v) ws) → EachFrom (Remembers six) (suc k) ws
unfolding all
behind_remember six k [] t = tt
behind_remember six k (w ∷ ws) t =
    let b : Write → Bool = λ v. sound_write v && forgets v in
    (rw (ne_eqb (suc k) 0 (λ e. omega arith)) (sym (forgets-six w (and_right (sound_write w) (forgets w) (and_left (b w) (all b ws) t)))), behind_remember six (suc k) ws (and_right (b w) (all b ws) t))

pub writes_remember : (ws : List Write) → T (sound_writes ws) → EachFrom (Remembers (kept ws)) 0 ws
unfolding sound_writes kept
writes_remember [] t = tt
writes_remember (w ∷ ws) t = (refl, behind_remember (remembered w) 0 ws (and_right (sound_write w) (all (λ v. sound_write v && forgets v) ws) t))

module _ (st : State) (n : ℕ) (ks : List ℕ) (ds es : List Channel) (b : Channel) (low : length ds < 8) (six : List ℕ) (at : take 6 (drop (length ds * 6) ks) ≡ six) where
  -- the channel with such writes
  abbrev playing : Queue → State
  playing q = with_channels (ds ++ with_writes q b ∷ es) st

  write_step : (w : Write) (l : List ℕ) (tb : List ℕ) → Remembers six (length l) w → w.id < 64 → length l < 64
      → taken (write_frame (length ds) w) (sheet (playing (queue_of l)) n tb ks)
      ≡ sheet (playing (pushed (queue_of l) w.id)) n (splice tb (w.id * 23) (write_item b.key w).entry) ks
  write_step w l tb r small few =
      write_frame_lem (length ds) w small low (playing (queue_of l)) n tb ks (with_writes (queue_of l) b) (get_or_at ds (with_writes (queue_of l) b) es (channel_of free) (length ds) refl)
      (ap (remembered_at (length l)) at ∙ r) few
      ∙ ap (λ (cs : List Channel). sheet (with_channels cs st) n (splice tb (w.id * 23) (write_item b.key w).entry) ks) (set-append_seam ds (with_writes (queue_of l) b) es (with_writes (pushed (queue_of l) w.id) b))

  pub writes_read : (gs : List (List ℕ)) (ws : List Write) (pre post : List Item) → EachFrom (Remembers six) 0 ws → length ws ≤ 64 → Good (pre ++ (map (write_item b.key) ws ++ post))
      → taken_all (map (write_frame (length ds)) ws ++ gs) (sheet (playing (queue_of [])) n (entries 64 0 (pre ++ post)) ks)
      ≡ taken_all gs (sheet (playing (queue_of (map (λ w. w.id) ws))) n (entries 64 0 (pre ++ (map (write_item b.key) ws ++ post))) ks)
  writes_read gs ws pre post t h g =
      queue_read (write_frame (length ds)) (write_item b.key) playing (Remembers six) n ks write_step gs ws [] pre post t (omega arith) g

-- where the six bytes of a channel stand
six_at : (ka six kz : List ℕ) (n : ℕ) → length ka ≡ n → length six ≡ 6 → take 6 (drop n (ka ++ (six ++ kz))) ≡ six
six_at ka six kz n e f = ap (take 6) (drop_at ka (six ++ kz) n e) ∙ take_at six kz 6 f

few_of : (c : ChannelM) (cs : List ChannelM) → length (writes_of (c ∷ cs)) ≡ length c.writes + length (writes_of cs)
unfolding writes_of
few_of c cs = length-append (map (λ w. w.id) c.writes) (writes_of cs) ∙ ap (λ (k : ℕ). k + length (writes_of cs)) (length-map c.writes (λ w. w.id))

module _ (st : State) (n : ℕ) (fs : List Channel) (kz : List ℕ) (gs : List (List ℕ)) where
  pub all_writes_read : (cs : List ChannelM) (ds : List Channel) (ka : List ℕ) (i : ℕ) (pre post : List Item) → Each ChannelFits cs → length (writes_of cs) ≤ 64
      → length ka ≡ length ds * 6 → i ≡ length ds → length ds + length cs ≤ 8 → Good (pre ++ (write_items cs ++ post))
      → taken_all (write_frames i cs ++ gs) (sheet (with_channels (ds ++ (map bare cs ++ fs)) st) n (entries 64 0 (pre ++ post)) (ka ++ (kept_all cs ++ kz)))
      ≡ taken_all gs (sheet (with_channels (ds ++ (map channel_of cs ++ fs)) st) n (entries 64 0 (pre ++ (write_items cs ++ post))) (ka ++ (kept_all cs ++ kz)))
  unfolding write_frames write_items kept_all
  all_writes_read [] ds ka i pre post t few e at h g = refl
  all_writes_read (c ∷ cs) ds ka i pre post t few e at h g =
      let m = map (write_item c.key) c.writes in
      let w = write_items cs in
      let ws = map (write_frame (length ds)) c.writes in
      let rest = write_frames (suc i) cs ++ gs in
      let k = kept_six c.writes in
      let n₁ = few_of c cs in
      let ks = ka ++ ((kept c.writes ++ kept_all cs) ++ kz) in
      let x : ka ++ ((kept c.writes ++ kept_all cs) ++ kz) ≡ ka ++ (kept c.writes ++ (kept_all cs ++ kz)) = ap (λ (l : List ℕ). ka ++ l) (append_assoc (kept c.writes) (kept_all cs) kz) in
      let y : ka ++ (kept c.writes ++ (kept_all cs ++ kz)) ≡ (ka ++ kept c.writes) ++ (kept_all cs ++ kz) = sym (append_assoc ka (kept c.writes) (kept_all cs ++ kz)) in
      let six : take 6 (drop (length ds * 6) ks) ≡ kept c.writes = ap (λ (l : List ℕ). take 6 (drop (length ds * 6) l)) x ∙ six_at ka (kept c.writes) (kept_all cs ++ kz) (length ds * 6) e k in
      let z : m ++ w ++ post ≡ m ++ (w ++ post) = append_assoc m w post in
      let g₁ : Good (pre ++ (m ++ (w ++ post))) = subst (λ (l : List Item). Good (pre ++ l)) z g in
      let g₂ : Good (pre ++ (m ++ post)) = good_sub (sub_append (sub_refl pre) (sub_append (sub_refl m) (sub_right w (sub_refl post)))) g₁ in
      let g₃ : Good ((pre ++ m) ++ (w ++ post)) = subst Good (sym (append_assoc pre m (w ++ post))) g₁ in
      let l : length (ds ++ channel_of c ∷ []) ≡ length ds + 1 = length-append ds (channel_of c ∷ []) in
      let u : length (ka ++ kept c.writes) ≡ length (ds ++ channel_of c ∷ []) * 6 = length-append ka (kept c.writes) ∙ (let v : length ka + length (kept c.writes) ≡ length (ds ++ channel_of c ∷ []) * 6 = omega arith in v) in
      let front : taken_all (map (write_frame i) c.writes ++ write_frames (suc i) cs ++ gs) (sheet (with_channels (ds ++ bare c ∷ (map bare cs ++ fs)) st) n (entries 64 0 (pre ++ post)) ks)
      ≡ taken_all (ws ++ rest) (sheet (with_channels (ds ++ bare c ∷ (map bare cs ++ fs)) st) n (entries 64 0 (pre ++ post)) ks) =
      ap (λ (l : List (List ℕ)). taken_all l (sheet (with_channels (ds ++ bare c ∷ (map bare cs ++ fs)) st) n (entries 64 0 (pre ++ post)) ks))
      (append_assoc (map (write_frame i) c.writes) (write_frames (suc i) cs) gs ∙ ap (λ (j : ℕ). map (write_frame j) c.writes ++ rest) at) in
      let own = writes_read st n ks ds (map bare cs ++ fs) (bare c) (omega arith) (kept c.writes) six rest c.writes pre post (writes_remember c.writes t.0.writes) (omega arith) g₂ in
      let turn : sheet (with_channels (ds ++ channel_of c ∷ (map bare cs ++ fs)) st) n (entries 64 0 (pre ++ (m ++ post))) ks
      ≡ sheet (with_channels ((ds ++ channel_of c ∷ []) ++ (map bare cs ++ fs)) st) n (entries 64 0 ((pre ++ m) ++ post)) ((ka ++ kept c.writes) ++ (kept_all cs ++ kz)) =
      λ j. sheet (with_channels (sym (append_assoc ds (channel_of c ∷ []) (map bare cs ++ fs)) j) st) n (entries 64 0 (sym (append_assoc pre m post) j)) ((x ∙ y) j) in
      let back : sheet (with_channels ((ds ++ channel_of c ∷ []) ++ (map channel_of cs ++ fs)) st) n (entries 64 0 ((pre ++ m) ++ (w ++ post))) ((ka ++ kept c.writes) ++ (kept_all cs ++ kz))
      ≡ sheet (with_channels (ds ++ channel_of c ∷ (map channel_of cs ++ fs)) st) n (entries 64 0 (pre ++ (m ++ w ++ post))) ks =
      λ j. sheet (with_channels (append_assoc ds (channel_of c ∷ []) (map channel_of cs ++ fs) j) st) n (entries 64 0 ((append_assoc pre m (w ++ post) ∙ ap (λ (l : List Item). pre ++ l) (sym z)) j)) (sym (x ∙ y) j) in
      front ∙ (own ∙ (ap (taken_all rest) turn
      ∙ (all_writes_read cs (ds ++ channel_of c ∷ []) (ka ++ kept c.writes) (suc i) (pre ++ m) post t.1 (omega arith) u (omega arith) (omega arith) g₃ ∙ ap (taken_all gs) back)))

-- ---- D6

module _ (st : State) (n : ℕ) (tb ks : List ℕ) (gs : List (List ℕ)) where
  pub opens_read : (xs l : List ℕ) → length l + length xs ≤ 32
      → taken_all (map (key_frame OPEN) xs ++ gs) (sheet (with_opens (keys_of l) st) n tb ks) ≡ taken_all gs (sheet (with_opens (keys_of (l ++ xs)) st) n tb ks)
  unfolding taken_all added_key
  opens_read [] l h = rw (append-nil l)
  opens_read (k ∷ xs) l h =
      let a = open_frame k (with_opens (keys_of l) st) n tb ks (omega arith) in
      let b = added_of l k (omega arith) in
      let m : length (l ++ k ∷ []) ≡ length l + 1 = length-append l (k ∷ []) in
      ap (taken_all (map (key_frame OPEN) xs ++ gs)) (a ∙ ap (λ (q : Keys). sheet (with_opens q st) n tb ks) b)
      ∙ (opens_read xs (l ++ k ∷ []) (omega arith) ∙ ap (λ (is : List ℕ). taken_all gs (sheet (with_opens (keys_of is) st) n tb ks)) (append_assoc l (k ∷ []) xs))

-- ---- the whole

none_table : entries 64 0 [] ≡ replicate 1472 0
unfolding entries lookup
none_table = refl

module _ (s : StateM) (sane : T (sound s)) (gs : List (List ℕ)) where
  abbrev p : Parts s
  p = parts s sane

  -- the items of the state, and what stands behind each kind of them
  abbrev Rs : List Item
  Rs = map wait_item s.waiting ++ []

  abbrev Vs : List Item
  Vs = map waiter_item s.waiters ++ Rs

  abbrev Ls : List Item
  Ls = map lock_item s.locks ++ Vs

  items_nested : items s ≡ write_items s.channels ++ Ls
  unfolding items
  items_nested = simp (append_assoc, append-nil)

  good : Good (write_items s.channels ++ Ls)
  good = subst Good items_nested (good_of s p)

  most : length s.channels ≤ 8
  most = leb→le (length s.channels) 8 p.most

  few : length (writes_of s.channels) + length s.locks + length s.waiters + length s.waiting ≤ 64
  few = ids_few s p

  fit : Each ChannelFits s.channels
  fit = each_all ChannelFits sound_channel channel_fits s.channels p.channels_ok

  precs : (cs : List ChannelM) → Each ChannelFits cs → Each PrecFits cs
  precs [] t = tt
  precs (c ∷ cs) t = (t.0.prec, precs cs t.1)

  abbrev spare : ℕ
  spare = 8 - length s.channels

  abbrev ks : List ℕ
  ks = kept_all s.channels ++ replicate (spare * 6) 0

  abbrev fs : List Channel
  fs = map channel_of (frees spare)

  -- the frames behind each kind
  abbrev key_frames : List (List ℕ)
  key_frames = map (key_frame OPEN) s.opens ++ (key_frame LAST s.last ∷ gs)

  abbrev writing : List (List ℕ)
  writing = write_frames 0 s.channels ++ key_frames

  abbrev awaiting : List (List ℕ)
  awaiting = map (span_frame WAITCYCLE) s.waiters ++ writing

  abbrev locking : List (List ℕ)
  locking = map (span_frame LOCK) s.locks ++ awaiting

  abbrev joining : List (List ℕ)
  joining = map request_frame s.waiting ++ locking

  frames_nested : frames s ++ gs ≡ map channel_frame s.channels ++ joining
  unfolding frames
  frames_nested = simp append_assoc

  -- the struct with so much of it
  abbrev with : List Channel → List ℕ → List ℕ → List ℕ → List ℕ → ℕ → State
  with cs rs ls vs os k = record { channels = cs; locks = queue_of ls; waiters = queue_of vs; waiting = queue_of rs; opens = keys_of os; last = k }

  abbrev bares : List Channel
  bares = map bare s.channels ++ fs

  abbrev fulls : List Channel
  fulls = map channel_of s.channels ++ fs

  abbrev rids : List ℕ
  rids = map (λ r. r.id) s.waiting

  abbrev lids : List ℕ
  lids = map (λ l. l.id) s.locks

  abbrev vids : List ℕ
  vids = map (λ v. v.id) s.waiters

  abbrev n : ℕ
  n = length s.channels

  channels-done : taken_all (map channel_frame s.channels ++ joining) (blank (replicate 1472 0)) ≡ taken_all joining (sheet (with bares [] [] [] [] 0) n (entries 64 0 []) ks)
  channels-done =
      let e : n + spare ≡ 8 = let m = most in omega arith in
      let a = channels_read (struct_of (fresh_on 8)) (entries 64 0 []) joining s.channels [] [] spare (precs s.channels fit) refl (let m = most in omega arith) in
      let z : 0 + n ≡ n = omega arith in
      let b : taken_all (map channel_frame s.channels ++ joining) (sheet (with_channels (map channel_of (frees 8)) (struct_of (fresh_on 8))) 0 (entries 64 0 []) (replicate (8 * 6) 0))
      ≡ taken_all joining (sheet (with bares [] [] [] [] 0) n (entries 64 0 []) ks) =
      subst (λ (k : ℕ). taken_all (map channel_frame s.channels ++ joining) (sheet (with_channels (map channel_of (frees k)) (struct_of (fresh_on 8))) 0 (entries 64 0 []) (replicate (k * 6) 0))
      ≡ taken_all joining (sheet (with bares [] [] [] [] 0) n (entries 64 0 []) ks)) e (rw z at a) in
      ap (λ (tb : List ℕ). taken_all (map channel_frame s.channels ++ joining) (blank tb)) (sym none_table) ∙ b

  waiting-done : taken_all joining (sheet (with bares [] [] [] [] 0) n (entries 64 0 []) ks) ≡ taken_all locking (sheet (with bares rids [] [] [] 0) n (entries 64 0 Rs) ks)
  waiting-done =
      requests_read (with bares [] [] [] [] 0) n ks locking s.waiting [] []
      (each_all RequestFits (sound_request s.channels) (request_fits s.channels most) s.waiting p.waiting_ok) (let f = few in omega arith)
      (good_sub (sub_right (write_items s.channels) (sub_right (map lock_item s.locks) (sub_right (map waiter_item s.waiters) (sub_refl Rs)))) good)

  locks-done : taken_all locking (sheet (with bares rids [] [] [] 0) n (entries 64 0 Rs) ks) ≡ taken_all awaiting (sheet (with bares rids lids [] [] 0) n (entries 64 0 (map lock_item s.locks ++ Rs)) ks)
  locks-done =
      locks_read (with bares rids [] [] [] 0) n ks awaiting s.locks [] Rs (let f = few in omega arith)
      (good_sub (sub_right (write_items s.channels) (sub_append (sub_refl (map lock_item s.locks)) (sub_right (map waiter_item s.waiters) (sub_refl Rs)))) good)

  waiters-done : taken_all awaiting (sheet (with bares rids lids [] [] 0) n (entries 64 0 (map lock_item s.locks ++ Rs)) ks) ≡ taken_all writing (sheet (with bares rids lids vids [] 0) n (entries 64 0 Ls) ks)
  waiters-done =
      waiters_read (with bares rids lids [] [] 0) n ks writing s.waiters (map lock_item s.locks) Rs (let f = few in omega arith)
      (good_sub (sub_right (write_items s.channels) (sub_refl Ls)) good)

  writes_done : taken_all writing (sheet (with bares rids lids vids [] 0) n (entries 64 0 Ls) ks) ≡ taken_all key_frames (sheet (with fulls rids lids vids [] 0) n (entries 64 0 (write_items s.channels ++ Ls)) ks)
  writes_done =
      all_writes_read (with bares rids lids vids [] 0) n fs (replicate (spare * 6) 0) key_frames s.channels [] [] 0 [] Ls fit (let f = few in omega arith) refl refl (let m = most in omega arith) good

  keys-done : taken_all key_frames (sheet (with fulls rids lids vids [] 0) n (table_of s) ks) ≡ taken_all gs (sheet (with fulls rids lids vids s.opens s.last) n (table_of s) ks)
  unfolding taken_all
  keys-done =
      opens_read (with fulls rids lids vids [] 0) n (table_of s) ks (key_frame LAST s.last ∷ gs) s.opens [] (let o = opens_few s p in omega arith)
      ∙ ap (taken_all gs) (last_frame s.last (with fulls rids lids vids s.opens 0) n (table_of s) ks)

  table_done : entries 64 0 (write_items s.channels ++ Ls) ≡ table_of s
  unfolding table_of
  table_done = ap (entries 64 0) (sym items_nested)

  fulls-wide : fulls ≡ map channel_of (s.channels ++ frees spare)
  fulls-wide = sym (map-append channel_of s.channels (frees spare))

  -- the frames of a sound state make its sheet, whatever follows them
  pub read_back : taken_all (frames s ++ gs) (blank (replicate 1472 0)) ≡ taken_all gs (sheet_of s)
  read_back =
      ap (λ (l : List (List ℕ)). taken_all l (blank (replicate 1472 0))) frames_nested
      ∙ (channels-done ∙ (waiting-done ∙ (locks-done ∙ (waiters-done ∙ (writes_done
      ∙ (ap (λ (tb : List ℕ). taken_all key_frames (sheet (with fulls rids lids vids [] 0) n tb ks)) table_done
      ∙ (keys-done ∙ ap (λ (cs : List Channel). taken_all gs (sheet (with cs rids lids vids s.opens s.last) n (table_of s) ks)) fulls-wide)))))))
