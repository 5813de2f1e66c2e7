-- The place of the caller's channel. Assumes nothing.
use Prim.Native.Nat.{ℕ, ◌≤◌, ◌<◌}
use mathlib.Core.Path.{◌≡◌, refl, ap, sym, subst, ◌∙◌}
use mathlib.Core.Bool.{Bool, true, false, not}
use mathlib.Core.List.{List}
use native.Mathlib.Omega.{arith}
use borrow.Author.Tests.{le-leb, lt-leb, leb-true, leb-false}
use lib.Dec.{T, eqb, leb, eqb→eq}
use lib.ListN.{length, get_or}
use Rattle.std.specs.Prelude.{if◌then◌else◌, Option, None, Some, is_some, unwrap_or}
use Rattle.answers.specs.machine.State.{Channel as ChannelM, free}
use Rattle.answers.specs.machine.Commands.{matches}
use Rattle.answers.proofs.machine.Tests.{and_right}
use Rattle.channel.specs.declared.Channel.{Channel}
use Rattle.channel.specs.Channel.{channel_of, lowest_from, has_key}
use Rattle.answers.specs.store.declared.State.{State}
use Rattle.answers.specs.store.Store.{state_in, Held}
use Rattle.play.specs.Play.{place_of, on_board}
use Rattle.play.proofs.Laws.{get_d_any, matches_is}
use Rattle.play.proofs.Queue.{channel_is}

pub place_none : (k m : ℕ) (cs : List Channel) (i : ℕ) → i ≡ lowest_from 8 m → 8 ≤ i → 8 ≡ place_of k m cs
unfolding place_of
place_none k m cs i e h = rw (← e, le-leb 8 i h) refl

pub place_other : (k m : ℕ) (cs : List Channel) (i : ℕ) → i ≡ lowest_from 8 m → i < 8 → has_key k (get_or cs i (channel_of free)) ≡ false → 8 ≡ place_of k m cs
unfolding place_of
place_other k m cs i e h f = rw (← e, lt-leb 8 i h, f) refl

pub place_own : (k m : ℕ) (cs : List Channel) (i : ℕ) → i ≡ lowest_from 8 m → i < 8 → has_key k (get_or cs i (channel_of free)) ≡ true → i ≡ place_of k m cs
unfolding place_of
place_own k m cs i e h f = rw (← e, lt-leb 8 i h, f) refl

pub key_any : (k : ℕ) (cs : List Channel) (i : ℕ) (d : Channel) (b : Bool) → i < length cs → has_key k (get_or cs i d) ≡ b → has_key k (get_or cs i (channel_of free)) ≡ b
key_any k cs i d b h e = rw (get_d_any cs i (channel_of free) d h) e

-- ---- as an Option

pub on_low : (i : ℕ) → i < 8 → Some i ≡ on_board i
on_low i h = rw (lt-leb 8 i h) refl

some_as : (i n : ℕ) (b : Bool) → leb 8 n ≡ b → Some i ≡ (if b then None else Some n) → (i ≡ n) × (n < 8)
some_as i n true e p = absurd (subst T (ap is_some p) tt)
some_as i n false e p = (ap (λ (x : Option ℕ). unwrap_or x 0) p, leb-false 8 n e)

pub some_at : (i n : ℕ) → Some i ≡ on_board n → (i ≡ n) × (i < 8)
some_at i n p = let w = some_as i n (leb 8 n) refl p in (w.0, rw w.0 w.1)

none_as : (n : ℕ) (b : Bool) → leb 8 n ≡ b → None ≡ (if b then None else Some n) → 8 ≤ n
none_as n true e p = leb-true 8 n e
none_as n false e p = absurd (subst T (sym (ap is_some p)) tt)

pub none_at : (n : ℕ) → None ≡ on_board n → 8 ≤ n
none_at n p = none_as n (leb 8 n) refl p

-- ---- of a state that is held

pub key_of : (q : ℕ) (x : ChannelM) → matches q x ≡ true → x.key ≡ q
unfolding matches
key_of q x f = eqb→eq x.key q (and_right (not (eqb q 0)) (eqb x.key q) (subst T (sym f) tt))

-- the place found is that of the lowest channel named, and it matches
pub record Own (k m i : ℕ) (cs : List ChannelM) : Type 0 where
  pub low : i ≡ lowest_from 8 m
  pub own : matches k (get_or cs i free) ≡ true

-- none is found where the map names none, or where the channel is another's
pub data Refused (k m : ℕ) (cs : List ChannelM) : Type 0 where
  nowhere : 8 ≤ lowest_from 8 m → Refused k m cs
  another : lowest_from 8 m < 8 → matches k (get_or cs (lowest_from 8 m) free) ≡ false → Refused k m cs

module _ {st : State} {tb : List ℕ} (h : Held st tb) (k m : ℕ) where
  own_is : (i : ℕ) → i < 8 → (b : Bool) → has_key k (get_or st.channels i (channel_of free)) ≡ b → matches k (get_or (state_in st tb).channels i free) ≡ b
  own_is i l b q = sym (matches_is k (get_or (state_in st tb).channels i free)) ∙ (rw (← (channel_is h i l (channel_of free))) q)

  pub placed : (i : ℕ) → i ≡ place_of k m st.channels → i < 8 → Own k m i (state_in st tb).channels
  unfolding place_of
  placed i e l = go (leb 8 (lowest_from 8 m)) (has_key k (get_or st.channels (lowest_from 8 m) (channel_of free))) refl e
    where
      go : (a b : Bool) → has_key k (get_or st.channels (lowest_from 8 m) (channel_of free)) ≡ b → i ≡ (if a then 8 else if b then lowest_from 8 m else 8) → Own k m i (state_in st tb).channels
      go true b q p = absurd (omega arith)
      go false true q p = record { low = p; own = own_is i l true (rw p q) }
      go false false q p = absurd (omega arith)

  pub refused : (i : ℕ) → i ≡ place_of k m st.channels → 8 ≤ i → Refused k m (state_in st tb).channels
  unfolding place_of
  refused i e g = go (leb 8 (lowest_from 8 m)) refl (has_key k (get_or st.channels (lowest_from 8 m) (channel_of free))) refl e
    where
      go : (a : Bool) → leb 8 (lowest_from 8 m) ≡ a → (b : Bool) → has_key k (get_or st.channels (lowest_from 8 m) (channel_of free)) ≡ b
          → i ≡ (if a then 8 else if b then lowest_from 8 m else 8) → Refused k m (state_in st tb).channels
      go true p b q x = nowhere (leb-true 8 (lowest_from 8 m) p)
      go false p true q x = absurd (let z = leb-false 8 (lowest_from 8 m) p in omega arith)
      go false p false q x = let z = leb-false 8 (lowest_from 8 m) p in another z (own_is (lowest_from 8 m) z false q)
