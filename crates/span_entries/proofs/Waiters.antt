-- Why the test of a WAITCYCLE's entry is right: a map of one bit names one channel, the one at that bit's place. Assumes nothing.
use Prim.Native.Nat.{ℕ, zero, suc, ◌+◌, ◌*◌, ◌%◌, ◌^◌, ◌≤◌, ◌<◌}
use mathlib.Core.Path.{◌≡◌, refl, ap, sym, ◌∙◌}
use mathlib.Core.Bool.{Bool, true, false, not, ◌&&◌, ◌||◌}
use mathlib.Core.List.{List, [], ◌∷◌, map}
use native.Mathlib.Omega.{arith}
use borrow.Author.Tests.{eq-eqb, ne_eqb}
use lib.Dec.{T, eqb}
use lib.ListN.{length, get_or, take, length-map, length-take}
use lib.Pow.{shl_exact, pow_pos}
use Rattle.std.specs.Prelude.{if◌then◌else◌}
use Rattle.store.specs.machine.State.{Write, Channel as ChannelM, Lock, free}
use Rattle.store.specs.machine.Maps.{odd, half, bit, lowest, named}
use Rattle.store.specs.machine.Sound.{sound_waiter}
use Rattle.store.proofs.machine.Tests.{by_test, test_true, test_false, eqb_false}
use Rattle.channel.proofs.machine_laws.Maps.{odd-bit, half-bit, named_zero}
use Rattle.queue.specs.Queue.{list_of}
use Rattle.channel.specs.declared.Channel.{Channel}
use Rattle.channel.specs.Channel.{channel_in, channel_of, lowest_from}
use Rattle.channel.proofs.Single.{lowest_pow, lowest_none}
use Rattle.entries.proofs.Cases.{and_off}

-- the lowest bit of a map names its own channel alone
pub named-lowest : (p : ChannelM → Bool) (m : ℕ) (cs : List ChannelM) → lowest_from (length cs) m < length cs
    → named p (lowest (length cs) m) cs ≡ p (get_or cs (lowest_from (length cs) m) free)
unfolding lowest_from lowest named
named-lowest p m [] h = absurd (omega arith)
named-lowest p m (c ∷ cs) h = go (odd m) h (named-lowest p (half m) cs)
  where
    k : ℕ
    k = lowest_from (length cs) (half m)

    l : ℕ
    l = lowest (length cs) (half m)

    and_on : (b : Bool) → T b → (a : Bool) → (a && b) ≡ a
    and_on true t true = refl
    and_on true t false = refl
    and_on false t a = absurd t

    go : (b : Bool) → (if b then 0 else suc k) < suc (length cs) → (k < length cs → named p l cs ≡ p (get_or cs k free))
        → ((not (odd (if b then 1 else bit false l)) || p c) && named p (half (if b then 1 else bit false l)) cs) ≡ p (get_or (c ∷ cs) (if b then 0 else suc k) free)
    go true q ih = unfold odd half in and_on (named p 0 cs) (named_zero p cs) (p c)
    go false q ih = rw (odd-bit false l, half-bit false l) (ih (omega arith))

get_d_map : (f : ℕ → Write) (cs : List Channel) (j : ℕ) (d : Channel) → j < length cs → get_or (map (channel_in f) cs) j free ≡ channel_in f (get_or cs j d)
get_d_map f [] j d h = absurd (omega arith)
get_d_map f (c ∷ cs) zero d h = refl
get_d_map f (c ∷ cs) (suc j) d h = get_d_map f cs j d (omega arith)

module _ (f : ℕ → Write) (cs : List Channel) (eight : length cs ≡ 8) (w : Lock) where
  abbrev channels : List ChannelM
  channels = map (channel_in f) cs

  abbrev place : ℕ
  place = lowest_from 8 w.map

  abbrev plays : ChannelM → Bool
  plays c = eqb c.key w.key && not (eqb (length c.writes) 0)

  long : length channels ≡ 8
  long = length-map cs (channel_in f) ∙ eight

  pub nowhere : 8 ≤ place → false ≡ sound_waiter channels w
  unfolding sound_waiter
  nowhere h =
      rw (long, lowest_none 8 w.map h)
      (by_test (eqb w.map 0) (λ t. rw (test_true (eqb w.map 0) t) refl)
      (λ t. let e : eqb 0 w.map ≡ false = eqb_false 0 w.map (λ z. let q : T (eqb w.map 0) = rw (← z) tt in absurd (rw (test_false (eqb w.map 0) t) at q)) in
      rw (e, and_off) refl))

  module _ (h : place < 8) where
    shifted : 1 * 2 ^ place % 256 ≡ 2 ^ place
    shifted =
        let k : 1 + place ≤ 8 = omega arith in
        let e : 1 * 2 ^ place % 2 ^ 8 ≡ 1 * 2 ^ place = shl_exact 1 place 8 (omega arith) k in
        e ∙ (let q : 1 * 2 ^ place ≡ 2 ^ place = omega arith in q)

    pub other_bits : (w.map ≡ 1 * 2 ^ place % 256 → ⊥) → false ≡ sound_waiter channels w
    unfolding sound_waiter
    other_bits n =
        let e = shifted in
        let g : eqb (2 ^ place) w.map ≡ false = eqb_false (2 ^ place) w.map (λ z. n (sym z ∙ sym e)) in
        rw (long, lowest_pow 8 w.map h, g, and_off) refl

    module _ (b : w.map ≡ 1 * 2 ^ place % 256) (d : Channel) where
      abbrev own : Channel
      own = get_or cs place d

      one : w.map ≡ 2 ^ place
      one = b ∙ shifted

      low : lowest (length channels) w.map ≡ w.map
      low = rw long (lowest_pow 8 w.map h ∙ sym one)

      there : named plays w.map channels ≡ plays (channel_in f own)
      there =
          let q : lowest_from (length channels) w.map ≡ place = ap (λ (x : ℕ). lowest_from x w.map) long in
          let n = long in
          ap (λ (x : ℕ). named plays x channels) (sym low)
          ∙ (named-lowest plays w.map channels (rw q (omega arith))
          ∙ (ap (λ (x : ℕ). plays (get_or channels x free)) q ∙ ap plays (get_d_map f cs place d (omega arith))))

      pub waits_there : sound_waiter channels w ≡ plays (channel_in f own)
      unfolding sound_waiter
      waits_there =
          let z : eqb w.map 0 ≡ false = eqb_false w.map 0 (λ e. let p : 0 < 2 ^ place = pow_pos place in let o = one in omega arith) in
          rw (z, low, eq-eqb w.map w.map refl) there

      -- by the place that the code finds
      module _ {j : ℕ} (e : j ≡ place) where
        own_is : get_or cs j d ≡ own
        own_is = ap (λ (x : ℕ). get_or cs x d) e

        pub waits_at : sound_waiter channels w ≡ (eqb (get_or cs j d).key w.key && not (eqb (length (list_of (get_or cs j d).writes)) 0))
        waits_at =
            waits_there
            ∙ (ap (λ (x : Channel). plays (channel_in f x)) (sym own_is) ∙ rw (length-map (list_of (get_or cs j d).writes) f) refl)
