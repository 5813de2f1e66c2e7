-- The turns of a test of each channel that a map names. Assumes nothing.
use Prim.Native.Nat.{ℕ, suc, ◌+◌, ◌/◌, ◌^◌, ◌≤◌, ◌<◌}
use mathlib.Core.Path.{◌≡◌, refl}
use mathlib.Core.Bool.{Bool, true, false}
use mathlib.Core.List.{List, map}
use native.Mathlib.Nat.{div-one}
use native.Mathlib.Numerals.{add-one}
use lib.ListN.{length, drop, get_or, drop_of_length-le}
use lib.Seq.{drop-cons}
use Rattle.store.specs.machine.State.{Write, Channel as ChannelM}
use Rattle.store.specs.machine.Maps.{odd, named}
use Rattle.channel.specs.declared.Channel.{Channel}
use Rattle.channel.specs.Channel.{channel_in}
use Rattle.channel.proofs.Turns.{half_pow}

-- ---- a test of each channel named

pub record Tested (f : ℕ → Write) (p : ChannelM → Bool) (m : ℕ) (cs : List Channel) (i : ℕ) : Type 0 where
  pub rest : named p (m / 2 ^ i) (map (channel_in f) (drop i cs)) ≡ named p m (map (channel_in f) cs)

pub tested_start : (f : ℕ → Write) (p : ChannelM → Bool) (m : ℕ) (cs : List Channel) → Tested f p m cs 0
tested_start f p m cs = record { rest = rw div-one }

module _ {f : ℕ → Write} {p : ChannelM → Bool} {m : ℕ} {cs : List Channel} {i : ℕ} (t : Tested f p m cs i) where
  pub tested_end : length cs ≤ i → true ≡ named p m (map (channel_in f) cs)
  unfolding named
  tested_end h = rw (drop_of_length-le cs h) at t.rest

  module _ (d : Channel) (h : i < length cs) where
    pub tested_stop : odd (m / 2 ^ i) ≡ true → p (channel_in f (get_or cs i d)) ≡ false → false ≡ named p m (map (channel_in f) cs)
    unfolding named
    tested_stop e x = rw (drop-cons cs i d h, e, x) at t.rest

    pub tested_more : odd (m / 2 ^ i) ≡ true → p (channel_in f (get_or cs i d)) ≡ true → Tested f p m cs (i + 1)
    unfolding named
    tested_more e x = record { rest = rw (add-one i) (rw (drop-cons cs i d h, e, x, half_pow) at t.rest) }

    pub tested-skip : odd (m / 2 ^ i) ≡ false → Tested f p m cs (i + 1)
    unfolding named
    tested-skip e = record { rest = rw (add-one i) (rw (drop-cons cs i d h, e, half_pow) at t.rest) }
