-- The channel of an event: where one is found, it plays a write; else the machine's event moves nothing. Assumes nothing.
use Prim.Native.Nat.{ℕ, ◌≤◌, ◌<◌}
use mathlib.Core.Path.{◌≡◌, refl, sym, ◌∙◌}
use mathlib.Core.Bool.{Bool, true, false, not, ◌&&◌}
use mathlib.Core.List.{List, [], ◌∷◌}
use native.Mathlib.Omega.{arith}
use borrow.Author.Tests.{le-leb, lt-leb, leb-true, leb-false}
use lib.Dec.{leb}
use lib.ListN.{length, get_or}
use Rattle.answers.specs.machine.Numbers.{NONE}
use Rattle.std.specs.Prelude.{if◌then◌else◌}
use Rattle.answers.specs.machine.State.{Write, Event, free}
use Rattle.answers.specs.machine.Commands.{playing, done, silent, do_event}
use Rattle.channel.specs.declared.Channel.{Channel}
use Rattle.channel.specs.Channel.{channel_of, lowest_from}
use Rattle.channel.proofs.Single.{lowest_none, at_none}
use Rattle.cutting.specs.fronts.declared.Front.TheVariants.{Plays}
use Rattle.cutting.specs.fronts.Fronts.{on_air}
use Rattle.cutting.proofs.fronts.Laws.{passes_is}
use Rattle.answers.specs.store.declared.State.{State}
use Rattle.answers.specs.store.Store.{state_in, Held}
use Rattle.answers.proofs.store.Store.{held_eight}
use Rattle.answers.specs.declared.Request.{Request}
use Rattle.answers.specs.Answers.{call_of}
use Rattle.ending.proofs.play.Laws.{get_d_any}
use Rattle.ending.proofs.play.Outcomes.{at_is}
use Rattle.ending.proofs.play.Queue.{channel_is}
use Rattle.ending.specs.Ending.{Led}
use Rattle.events.specs.Events.{plays_at}

-- ---- what the search finds

pub place_none : (m : ℕ) (cs : List Channel) (i : ℕ) → i ≡ lowest_from 8 m → 8 ≤ i → 8 ≡ plays_at m cs
unfolding plays_at
place_none m cs i e h = rw (← e, le-leb 8 i h) refl

pub place_still : (m : ℕ) (cs : List Channel) (i : ℕ) → i ≡ lowest_from 8 m → i < 8 → on_air (get_or cs i (channel_of free)) ≡ false → 8 ≡ plays_at m cs
unfolding plays_at
place_still m cs i e h f = rw (← e, lt-leb 8 i h, f) refl

pub place_plays : (m : ℕ) (cs : List Channel) (i : ℕ) → i ≡ lowest_from 8 m → i < 8 → on_air (get_or cs i (channel_of free)) ≡ true → i ≡ plays_at m cs
unfolding plays_at
place_plays m cs i e h f = rw (← e, lt-leb 8 i h, f) refl

pub air_any : (cs : List Channel) (i : ℕ) (d : Channel) (b : Bool) → i < length cs → on_air (get_or cs i d) ≡ b → on_air (get_or cs i (channel_of free)) ≡ b
air_any cs i d b h e = rw (get_d_any cs i (channel_of free) d h) e

-- ---- of a state that is held

module _ {st : State} {tb : List ℕ} (h : Held st tb) (m : ℕ) where
  air_is : (i : ℕ) → i < 8 → (b : Bool) → on_air (get_or st.channels i (channel_of free)) ≡ b → playing (get_or (state_in st tb).channels i free) ≡ b
  air_is i l b q = sym (passes_is Plays (get_or (state_in st tb).channels i free)) ∙ (rw (← (channel_is h i l (channel_of free))) q)

  led : (i : ℕ) → playing (get_or (state_in st tb).channels i free) ≡ true → Led i (state_in st tb)
  unfolding playing
  led i p = go (get_or (state_in st tb).channels i free).writes refl
    where
      none : (b : Bool) → (not b && not true) ≡ true → ⊥
      none true e = let z : ◌≡◌ {A = ℕ} 0 1 = cc in omega arith
      none false e = let z : ◌≡◌ {A = ℕ} 0 1 = cc in omega arith

      go : (ws : List Write) → (get_or (state_in st tb).channels i free).writes ≡ ws → Led i (state_in st tb)
      go [] q = absurd (none (get_or (state_in st tb).channels i free).stopped (rw q at p))
      go (w ∷ ws) q = record { first = w; rest = ws; queue = q; plays = p }

  -- the place found is that of the lowest channel named, and it plays a write
  pub found : (i : ℕ) → i ≡ plays_at m st.channels → i < 8 → (i ≡ lowest_from 8 m) × Led i (state_in st tb)
  unfolding plays_at
  found i e l = go (leb 8 (lowest_from 8 m)) (on_air (get_or st.channels (lowest_from 8 m) (channel_of free))) refl e
    where
      go : (a b : Bool) → on_air (get_or st.channels (lowest_from 8 m) (channel_of free)) ≡ b → i ≡ (if a then 8 else if b then lowest_from 8 m else 8)
          → (i ≡ lowest_from 8 m) × Led i (state_in st tb)
      go true b q p = absurd (omega arith)
      go false true q p = (p, led i (air_is i l true (rw p q)))
      go false false q p = absurd (omega arith)

-- where none is found, nothing moves
module _ {st : State} {tb : List ℕ} (h : Held st tb) (v : Event) (r : Request) where
  abbrev Quiet : Type 0
  Quiet = do_event v (call_of r []) (state_in st tb) ≡ silent (done 0 0 r.key NONE) [] (state_in st tb)

  nowhere : 8 ≤ lowest_from 8 r.map → Quiet
  unfolding do_event playing
  nowhere g = rw (lowest_none (length (state_in st tb).channels) r.map (rw (held_eight h) g), at_none (state_in st tb).channels) refl

  still : lowest_from 8 r.map < 8 → playing (get_or (state_in st tb).channels (lowest_from 8 r.map) free) ≡ false → Quiet
  unfolding do_event
  still g p = rw (at_is (call_of r []) (state_in st tb) (lowest_from 8 r.map) (rw (held_eight h) refl) (rw (held_eight h) g), p) refl

  pub not_found : (i : ℕ) → i ≡ plays_at r.map st.channels → 8 ≤ i → Quiet
  unfolding plays_at
  not_found i e g = go (leb 8 k) refl (on_air (get_or st.channels k (channel_of free))) refl e
    where
      k : ℕ
      k = lowest_from 8 r.map

      go : (a : Bool) → leb 8 k ≡ a → (b : Bool) → on_air (get_or st.channels k (channel_of free)) ≡ b → i ≡ (if a then 8 else if b then k else 8) → Quiet
      go true p b q x = nowhere (leb-true 8 k p)
      go false p true q x = absurd (let z = leb-false 8 k p in omega arith)
      go false p false q x = let z = leb-false 8 k p in still z (air_is h r.map k z false q)
