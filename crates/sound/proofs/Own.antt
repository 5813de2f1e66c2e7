-- From the state of eight channels to the board's own: what holds a board is what holds the wide state, with the channels behind the
-- board's own free and no combination above its highest map. Assumes nothing.
use Prim.Native.Nat.{ℕ, zero, suc, ◌+◌, ◌-◌, ◌^◌, ◌≤◌}
use mathlib.Core.Path.{◌≡◌, refl, ap, subst, sym, ◌∙◌}
use mathlib.Core.Bool.{Bool, true, false, not, ◌&&◌}
use mathlib.Core.List.{List, [], ◌∷◌, map}
use native.Mathlib.Omega.{arith}
use lib.Dec.{T, eqb, eqb→eq}
use lib.ListN.{length, drop, take, length-drop}
use Rattle.std.specs.Prelude.{if◌then◌else◌}
use Rattle.machine_laws.specs.machine.Lists.{all}
use Rattle.machine_laws.specs.machine.State.{Write, Channel as ChannelM, Request, free, is_free, frees}
use Rattle.machine_laws.specs.machine.Sound.{sound_channel, sound_request}
use Rattle.machine_laws.proofs.machine.Tests.{and_left, and_right, and_both, test_true, test_false}
use Rattle.board.specs.channel.declared.Channel.{Channel}
use Rattle.board.specs.channel.Channel.{channel_in}
use Rattle.board.specs.store.Store.{write_in, state_in as wide_in, Held as WideHeld}
use Rattle.board.proofs.store.Store.{held_parts as wide_parts}
use Rattle.table_rest.specs.shapes.Shapes.{vacant}
use Rattle.table_rest.specs.entries.Entries.{request_test}
use Rattle.board.specs.declared.Board.{Board}
use Rattle.board.specs.Board.{sized, top_of, Held}
use Rattle.board.proofs.Laws.{top_pow, held_parts, held_width, held_sized, held_wide, held_spare, held_own, own_length}
use Rattle.sound.specs.Sound.{Decides, Within, sound_test, board_test}
use Rattle.sound.proofs.Laws.{yes_T, requests_reach, decides as wide_decides}

-- ---- a channel of good shape without a key is a free one

no_ids : (l : List Write) → length l ≡ 0 → l ≡ []
no_ids [] h = refl
no_ids (x ∷ l) h = absurd (omega arith)

vacant_free : (f : ℕ → Write) (c : Channel) → T (vacant c) → T (sound_channel (channel_in f c)) → channel_in f c ≡ free
unfolding vacant sound_channel
vacant_free f c t u =
    let k : c.key ≡ 0 = eqb→eq c.key 0 t in
    let a = eqb c.prec 128 in
    let b = not c.locked in
    let d = not c.stopped in
    let e = eqb (length (channel_in f c).writes) 0 in
    let v : T (a && b && d && e) = rw (test_true (eqb c.key 0) t) at u in
    let v1 = and_left (a && b && d) e v in
    let v2 = and_left (a && b) d v1 in
    let p = eqb→eq c.prec 128 (and_left a b v2) in
    let l = test_false c.locked (and_right a b v2) in
    let s = test_false c.stopped (and_right (a && b) d v1) in
    let w = no_ids (channel_in f c).writes (eqb→eq (length (channel_in f c).writes) 0 (and_right (a && b && d) e v)) in
    λ i. record { key = k i; prec = p i; locked = l i; stopped = s i; writes = w i }

spare-frees : (f : ℕ → Write) (cs : List Channel) → T (all vacant cs) → T (all sound_channel (map (channel_in f) cs)) → map (channel_in f) cs ≡ frees (length cs)
unfolding all frees
spare-frees f [] t u = refl
spare-frees f (c ∷ cs) t u =
    let a = vacant_free f c (and_left (vacant c) (all vacant cs) t) (and_left (sound_channel (channel_in f c)) (all sound_channel (map (channel_in f) cs)) u) in
    let b = spare-frees f cs (and_right (vacant c) (all vacant cs) t) (and_right (sound_channel (channel_in f c)) (all sound_channel (map (channel_in f) cs)) u) in
    λ i. a i ∷ b i

all_free_lem : (n : ℕ) → T (all is_free (frees n))
unfolding all frees
all_free_lem zero = tt
all_free_lem (suc n) = all_free_lem n

all_vacant : (f : ℕ → Write) (cs : List Channel) → T (all is_free (map (channel_in f) cs)) → T (all vacant cs)
unfolding all vacant
all_vacant f [] t = tt
all_vacant f (c ∷ cs) t = and_both (eqb c.key 0) (all vacant cs) (and_left (eqb c.key 0) (all is_free (map (channel_in f) cs)) t) (all_vacant f cs (and_right (eqb c.key 0) (all is_free (map (channel_in f) cs)) t))

-- ---- lists

drop-map : (f : ℕ → Write) (n : ℕ) (cs : List Channel) → drop n (map (channel_in f) cs) ≡ map (channel_in f) (drop n cs)
drop-map f zero cs = refl
drop-map f (suc n) [] = refl
drop-map f (suc n) (c ∷ cs) = drop-map f n cs

all_drop {ℓ} : {A : Type ℓ} (p : A → Bool) (n : ℕ) (xs : List A) → T (all p xs) → T (all p (drop n xs))
unfolding all
all_drop p zero xs t = t
all_drop p (suc n) [] t = tt
all_drop p (suc n) (x ∷ xs) t = all_drop p n xs (and_right (p x) (all p xs) t)

requests_same : (cs : List ChannelM) (rs : List Request) → T (all (sound_request cs) rs) → T (all (request_test (2 ^ length cs)) rs)
unfolding all sound_request request_test
requests_same cs [] t = tt
requests_same cs (r ∷ rs) t =
    and_both (request_test (2 ^ length cs) r) (all (request_test (2 ^ length cs)) rs) (and_left (sound_request cs r) (all (sound_request cs) rs) t)
    (requests_same cs rs (and_right (sound_request cs r) (all (sound_request cs) rs) t))

-- ---- the test

off : {b : Bool} → b ≡ false → T b → ⊥
off e t = rw e at t

module _ (b : Board) (tb : List ℕ) where
  pub not_sized : sized b.width ≡ false → Decides false (Held b tb)
  not_sized e = record { only = λ q. absurd (let z : ◌≡◌ {A = ℕ} 0 1 = cc in omega arith); always = λ h. absurd (off e (held_sized h)) }

  pub not_spare : all vacant (drop b.width b.state.channels) ≡ false → Decides false (Held b tb)
  not_spare e =
      record {
        only = λ q. absurd (let z : ◌≡◌ {A = ℕ} 0 1 = cc in omega arith);
        always = λ h. absurd (off e (all_vacant (write_in tb) (drop b.width b.state.channels) (subst (λ (l : List ChannelM). T (all is_free l)) (sym (held_spare h) ∙ drop-map (write_in tb) b.width b.state.channels) (all_free_lem (8 - b.width)))));
      }

  module _ (t : T (sized b.width)) (v : T (all vacant (drop b.width b.state.channels))) where
    own_free : WideHeld b.state tb → drop b.width (map (channel_in (write_in tb)) b.state.channels) ≡ frees (8 - b.width)
    own_free h =
        let w = b.width in
        let cs = b.state.channels in
        let k : T (all sound_channel (map (channel_in (write_in tb)) (drop w cs))) = subst (λ (l : List ChannelM). T (all sound_channel l)) (drop-map (write_in tb) w cs) (all_drop sound_channel w (map (channel_in (write_in tb)) cs) (wide_parts h).channels_ok) in
        let n : length (drop w cs) ≡ 8 - w = let e = h.eight in simp length-drop (omega arith) in
        drop-map (write_in tb) w cs ∙ (spare-frees (write_in tb) (drop w cs) v k ∙ ap frees n)

    pub tells : {r : Bool} {top : ℕ} → top ≡ top_of b.width → Decides r (Within top b.state tb) → Decides r (Held b tb)
    tells {r} {top} q f =
        let d : Decides r (Within (top_of b.width) b.state tb) = subst (λ (n : ℕ). Decides r (Within n b.state tb)) q f in
        let w = b.width in
        let cs = take w (map (channel_in (write_in tb)) b.state.channels) in
        let rs = (wide_in b.state tb).waiting in
        record {
          only =
              λ e. let x = d.only e in
              let f = own_free x.held in
              let l = own_length w b.state tb t x.held f in
              let p : top_of w + 1 ≡ 2 ^ length cs = top_pow w t ∙ ap (λ (n : ℕ). 2 ^ n) (sym l) in
              held_own w b.state tb t x.held f (requests_reach (top_of w + 1) cs rs (omega arith) x.low);
          always =
              λ h. let p : top_of w + 1 ≡ 2 ^ length cs = top_pow w t ∙ ap (λ (n : ℕ). 2 ^ n) (held_width h) in
              d.always (record { held = (held_wide h).0; low = subst (λ (n : ℕ). T (all (request_test n) rs)) (sym p) (requests_same cs rs (held_parts h).waiting_ok) });
        }

-- ---- the test as one word

top_small : (w : ℕ) → top_of w ≤ 255
top_small w = go (eqb w 4)
  where
    go : (b : Bool) → (if b then 15 else 255) ≤ 255
    go true = omega arith
    go false = omega arith

pub decides : (b : Board) (tb : List ℕ) → Decides (board_test b tb) (Held b tb)
unfolding board_test
decides b tb = go (sized b.width) refl (all vacant (drop b.width b.state.channels)) refl
  where
    go : (x : Bool) → sized b.width ≡ x → (y : Bool) → all vacant (drop b.width b.state.channels) ≡ y
        → Decides (x && y && sound_test (top_of b.width + 1) b.state tb) (Held b tb)
    go true e true f = tells b tb (yes_T _ e) (yes_T _ f) refl (wide_decides (top_of b.width) b.state tb (top_small b.width))
    go true e false f = not_spare b tb f
    go false e true f = not_sized b tb e
    go false e false f = not_sized b tb e
