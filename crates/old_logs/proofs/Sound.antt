-- A state is sound now where it was: a write with n 0 has its numbers in range, and nobody waits for a cycle. Assumes nothing.
use Prim.Native.Nat.{ℕ}
use mathlib.Core.Path.{◌≡◌, refl, ◌∙◌}
use mathlib.Core.Bool.{true, ◌&&◌}
use mathlib.Core.List.{List, [], ◌∷◌, map, map-map, map-id, append-nil}
use lib.Dec.{eqb, leb}
use lib.ListN.{length-map}
use Rattle.machine.specs.Numbers.{KEYS}
use Rattle.machine.specs.Lists.{all}
use Rattle.machine.specs.State.{Write, Channel, Lock, Request}
use Rattle.machine.specs.Sound.{sound_tone, sound_pervol, sound_write, no_pervol, forgets, sound_writes, sound_channel, sound_lock, sound_waiter, sound_request, in_order, writes_of, ids, sound_opens, sound}
use Rattle.old_logs.specs.Old
use Rattle.old_logs.specs.Now.{now_write, now_channel, now_lock, now_request, now}
use Rattle.old_logs.proofs.Lists.{and_yes, all_map, all_as}
use Rattle.old_logs.proofs.Maps.{length-now, named-now}

later-sound : (is : List ℕ) → all (λ v. sound_write v && forgets v) (map now_write is) ≡ true
unfolding all sound_write sound_tone sound_pervol forgets no_pervol
later-sound [] = refl
later-sound (i ∷ is) = later-sound is

sound_writes-now : (is : List ℕ) → sound_writes (map now_write is) ≡ true
unfolding sound_writes sound_write sound_tone sound_pervol
sound_writes-now [] = refl
sound_writes-now (i ∷ is) = later-sound is

sound_channel-now : (c : Old.Channel) → sound_channel (now_channel c) ≡ Old.sound_channel c
unfolding sound_channel Old.sound_channel
sound_channel-now c = rw (length-map c.writes now_write, sound_writes-now c.writes, and_yes (leb c.key KEYS && leb c.prec 255))

sound_lock-now : (cs : List Old.Channel) (l : Old.Lock) → sound_lock (map now_channel cs) (now_lock l) ≡ Old.sound_lock cs l
unfolding sound_lock Old.sound_lock
sound_lock-now cs l = rw (length-now cs, named-now (λ c. c.locked && eqb c.key l.key) l.map cs)

sound_request-now : (cs : List Old.Channel) (r : Old.Request) → sound_request (map now_channel cs) (now_request r) ≡ Old.sound_request cs r
unfolding sound_request Old.sound_request
sound_request-now cs r = rw (length-now cs)

in_order-now : (rs : List Old.Request) → in_order (map now_request rs) ≡ Old.in_order rs
unfolding in_order Old.in_order
in_order-now [] = refl
in_order-now (r ∷ rs) = rw (all_map (λ q. leb q.prec r.prec) now_request rs, in_order-now rs)

writes_of_now : (cs : List Old.Channel) → writes_of (map now_channel cs) ≡ Old.writes_of cs
unfolding writes_of Old.writes_of
writes_of_now [] = refl
writes_of_now (c ∷ cs) = rw (map-map (λ (w : Write). w.id) now_write c.writes, map-id c.writes, writes_of_now cs)

pub ids-now : (s : Old.State) → ids (now s) ≡ Old.ids s
unfolding ids Old.ids
ids-now s =
    rw (writes_of_now s.channels, map-map (λ (l : Lock). l.id) now_lock s.locks, map-map (λ (r : Request). r.id) now_request s.waiting, append-nil)

no_waiter-unsound : (cs : List Channel) → all (sound_waiter cs) [] ≡ true
unfolding all
no_waiter-unsound cs = refl

pub sound-now : (s : Old.State) → sound (now s) ≡ Old.sound s
unfolding sound sound_opens Old.sound Old.sound_opens
sound-now s =
    let cs = s.channels in
    rw (
      length-now cs,
      ids-now s,
      in_order-now s.waiting,
      all_map sound_channel now_channel cs ∙ all_as (λ c. sound_channel (now_channel c)) Old.sound_channel cs sound_channel-now,
      all_map (sound_lock (map now_channel cs)) now_lock s.locks ∙ all_as (λ l. sound_lock (map now_channel cs) (now_lock l)) (Old.sound_lock cs) s.locks (sound_lock-now cs),
      all_map (sound_request (map now_channel cs)) now_request s.waiting ∙ all_as (λ r. sound_request (map now_channel cs) (now_request r)) (Old.sound_request cs) s.waiting (sound_request-now cs),
      no_waiter-unsound (map now_channel cs),
      and_yes,
    )
