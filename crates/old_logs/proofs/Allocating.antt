-- ALLOCATE and OPEN do what they did. Assumes nothing.
use mathlib.Core.Path.{◌≡◌, refl, ap}
use mathlib.Core.List.{List, [], ◌∷◌, map}
use lib.Dec.{ltb}
use Rattle.machine.specs.Numbers.{nowait, ALLOCFAILED, ADCMD_ALLOCATE, NONE}
use Rattle.machine.specs.State.{Request, with_waiting}
use Rattle.machine.specs.Commands.{done, pending, silent}
use Rattle.machine.specs.Allocating.{enqueue, waits, allocating, do_allocate, opening, do_open}
use Rattle.old_logs.specs.Old
use Rattle.old_logs.specs.Now.{now_request, now, now_outcome, now_call}
use Rattle.old_logs.proofs.Lists.{if_out, if_as}
use Rattle.old_logs.proofs.Choosing.{now_look, look_now}
use Rattle.old_logs.proofs.Granting.{key_for-now, dropped-now, granted-now}
use Rattle.old_logs.proofs.Commands.{finished-now}

enqueue-now : (r : Old.Request) (rs : List Old.Request) → enqueue (now_request r) (map now_request rs) ≡ map now_request (Old.enqueue r rs)
unfolding enqueue Old.enqueue
enqueue-now r [] = refl
enqueue-now r (w ∷ ws) =
    rw (enqueue-now r ws) (if_out (map now_request) (ltb w.prec r.prec) (r ∷ w ∷ ws) (w ∷ Old.enqueue r ws))

waits-now : (c : Old.Call) (s : Old.State) → waits (now_call c) (now s) ≡ now_outcome (Old.waits c s)
unfolding waits silent pending nowait Old.waits Old.silent Old.pending Old.nowait
waits-now c s =
    ap (λ (rs : List Request). silent (pending c.key) [] (with_waiting rs (now s)))
    (enqueue-now (record { id = c.id; key = c.key; prec = c.prec; impatient = Old.nowait c.flags; combos = c.combos }) s.waiting)

allocating-now : (l : Old.Look) (c : Old.Call) (s : Old.State) → allocating (now_look l) (now_call c) (now s) ≡ now_outcome (Old.allocating l c s)
unfolding allocating nowait done Old.allocating Old.nowait Old.done
allocating-now Old.fails c s =
    if_as now_outcome (Old.nowait c.flags)
    (λ _. finished-now ADCMD_ALLOCATE c (Old.done ALLOCFAILED 0 c.key NONE) [] s)
    (λ _. waits-now c s)
allocating-now (Old.held m) c s = waits-now c s
allocating-now (Old.grants m) c s =
    rw (key_for-now c.key s, dropped-now m s, granted-now m c.key c.prec s)
    (finished-now ADCMD_ALLOCATE c (Old.done 0 m (Old.key_for c.key s) NONE) (Old.aborted_in m s.channels) (Old.granted m c.key c.prec s))

pub do_allocate-now : (c : Old.Call) (s : Old.State) → do_allocate (now_call c) (now s) ≡ now_outcome (Old.do_allocate c s)
unfolding do_allocate Old.do_allocate
do_allocate-now c s =
    rw (look_now c.prec c.combos s.channels) (allocating-now (Old.look c.prec c.combos s.channels) c s)

opening-now : (l : Old.Look) (c : Old.Call) (s : Old.State) → opening (now_look l) (now_call c) (now s) ≡ now_outcome (Old.opening l c s)
unfolding opening silent done Old.opening Old.silent Old.done
opening-now Old.fails c s = refl
opening-now (Old.held m) c s = refl
opening-now (Old.grants m) c s = rw (key_for-now c.key s, dropped-now m s, granted-now m c.key c.prec s)

pub do_open-now : (c : Old.Call) (s : Old.State) → do_open (now_call c) (now s) ≡ now_outcome (Old.do_open c s)
unfolding do_open Old.do_open
do_open-now c s = rw (look_now c.prec c.combos s.channels) (opening-now (Old.look c.prec c.combos s.channels) c s)
