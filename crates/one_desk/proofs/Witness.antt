-- The theorem is about something: two states that differ in the other desk's writes, locks and WAITCYCLEs and in every number of desk
-- A's own writes, and a call of A's that steals from both desks and ends locks of both: A gets the same six replies in both, B six in
-- one and two in the other. The same by OPEN, and a CLOSE of A's; for desk B, CLOSE and an OPEN. Assumes nothing.
use Prim.Native.Nat.{ℕ}
use mathlib.Core.Path.{◌≡◌, refl}
use mathlib.Core.Bool.{true, false}
use mathlib.Core.List.{List, [], ◌∷◌}
use lib.Dec.{T}
use Rattle.machine_laws.specs.machine.State.{State, Reply, Call, OPEN, CLOSE, COMMAND}
use Rattle.machine_laws.specs.machine.Desks.{DESK_A, DESK_B, replies_to}
use Rattle.machine_laws.specs.machine.Sound.{sound}
use Rattle.machine_laws.specs.machine.Call.{call}
use Rattle.machine_laws.specs.machine.Text.{bytes, page}
use Rattle.machine_laws.specs.machine.Machine.{machine}
use Rattle.machine_laws.specs.machine.Walks.{plays, cuts, tunes, chan, lock, wait, stands, asks_from, reply}
use Rattle.one_desk.specs.OneDesk.{mine, own_locks, under, one_key, clear, calls, Premises, Same, reads}
use Rattle.one_desk.proofs.OneDesk.{one_desk_lem}
use Rattle.one_desk.proofs.Lines.{one_desk-log}

-- A's 2 and 3 on channel 0, B's 40 and 41 on channel 1 and 42 on channel 2, which is stopped; channel 3 is locked by a lock of each; A's
-- 5 and 7 wait for cycles of channel 0 and, its key passed by hand, of channel 1, and B's 45 too; A's 20 waits for channel 3, B's 50
-- for channel 2
abbrev pub busy : State
busy =
    stands
    (chan 1 133 false false (tunes 2 3 200 50 300 40 ∷ plays 3 1 124 64 ∷ [])
    ∷ chan 2 130 false false (plays 40 0 500 10 ∷ plays 41 2 124 64 ∷ [])
    ∷ chan 3 131 false true (plays 42 1 124 64 ∷ [])
    ∷ chan 4 200 true false []
    ∷ [])
    (lock 33 4 8 ∷ lock 6 4 8 ∷ [])
    (lock 5 1 1 ∷ lock 45 2 2 ∷ lock 7 2 2 ∷ [])
    (wait 20 0 250 false (8 ∷ []) ∷ wait 50 0 129 true (4 ∷ []) ∷ [])
    (1 ∷ 2 ∷ [])
    4

-- A's requests have other numbers, and of B there is one write
abbrev pub quiet : State
quiet =
    stands
    (chan 1 133 false false (cuts 2 9 1000 1 ∷ plays 3 0 400 64 ∷ [])
    ∷ chan 2 130 false false (plays 60 1 124 64 ∷ [])
    ∷ chan 3 131 false true []
    ∷ chan 4 200 true false []
    ∷ [])
    (lock 6 4 8 ∷ [])
    (lock 5 1 1 ∷ lock 7 2 2 ∷ [])
    (wait 20 0 250 false (8 ∷ []) ∷ wait 50 0 129 true (4 ∷ []) ∷ [])
    (1 ∷ 2 ∷ [])
    4

-- ALLOCATE id 8 key 0 at 12 for the channels 0, 1 and 2
abbrev pub steals : Call
steals = asks_from DESK_A (COMMAND 32) 8 0 0 140 0 (7 ∷ []) 64

pub premises-met : Premises DESK_A steals busy quiet
premises-met =
    unfold machine mine own_locks under one_key clear calls in record { sane = (tt, tt); one_desk = (tt, tt); alike = refl; its_call = tt; not_theirs = (tt, tt) }

pub a_sees_the_same : Same DESK_A (call busy steals) (call quiet steals)
a_sees_the_same = one_desk_lem DESK_A steals busy quiet premises-met

-- the writes, who waited for their cycles, the grant, and the lock that request 20 ends
abbrev heard_by_a : List Reply
heard_by_a =
    reply 2 3 254 0 1 ∷ reply 3 3 254 0 1 ∷ reply 5 14 254 0 1 ∷ reply 7 14 254 0 2 ∷ reply 8 32 0 7 5 ∷ reply 6 13 244 8 4 ∷ []

pub a_hears : replies_to DESK_A (call busy steals).replies ≡ heard_by_a
unfolding machine
a_hears = refl

pub a_hears_too : replies_to DESK_A (call quiet steals).replies ≡ heard_by_a
unfolding machine
a_hears_too = refl

pub b_hears : replies_to DESK_B (call busy steals).replies
    ≡ reply 40 3 254 0 2 ∷ reply 41 3 254 0 2 ∷ reply 42 3 254 0 3 ∷ reply 45 14 254 0 2 ∷ reply 33 13 244 8 4 ∷ reply 50 32 245 0 0 ∷ []
unfolding machine
b_hears = refl

pub b_hears_otherwise : replies_to DESK_B (call quiet steals).replies ≡ reply 60 3 254 0 2 ∷ reply 50 32 245 0 0 ∷ []
unfolding machine
b_hears_otherwise = refl

-- the same as a line of a log: the six replies and the answer, byte for byte
abbrev pub stealing : List ℕ
stealing = bytes "200800000C00000107"

pub a_reads_the_same : reads DESK_A busy stealing ≡ reads DESK_A quiet stealing
a_reads_the_same = one_desk-log DESK_A stealing steals busy quiet (unfold machine bytes in refl) premises-met

pub a_reads : reads DESK_A busy stealing
    ≡ page ("C00203FE000001" ∷ "C00303FE000001" ∷ "C0050EFE000001" ∷ "C0070EFE000002" ∷ "C0082000070005" ∷ "C0060DF4080004" ∷ "A000070005FF" ∷ [])
unfolding machine bytes page reads
a_reads = refl

-- OPEN key 0 at 12 for the same channels, and CLOSE key 1
abbrev pub opens : Call
opens = asks_from DESK_A OPEN 0 0 0 140 0 (7 ∷ []) 64

pub a_opens : Same DESK_A (call busy opens) (call quiet opens)
a_opens =
    one_desk_lem DESK_A opens busy quiet
    (unfold machine mine own_locks under one_key clear calls in record { sane = (tt, tt); one_desk = (tt, tt); alike = refl; its_call = tt; not_theirs = (tt, tt) })

pub a_hears_of_its_open : replies_to DESK_A (call busy opens).replies
    ≡ reply 2 3 254 0 1 ∷ reply 3 3 254 0 1 ∷ reply 5 14 254 0 1 ∷ reply 7 14 254 0 2 ∷ reply 6 13 244 8 4 ∷ []
unfolding machine
a_hears_of_its_open = refl

abbrev pub leaves : Call
leaves = asks_from DESK_A CLOSE 0 0 0 128 1 [] 64

pub a_closes : Same DESK_A (call busy leaves) (call quiet leaves)
a_closes =
    one_desk_lem DESK_A leaves busy quiet
    (unfold machine mine own_locks under one_key clear calls in record { sane = (tt, tt); one_desk = (tt, tt); alike = refl; its_call = tt; not_theirs = (tt, tt) })

pub a_hears_of_its_close : replies_to DESK_A (call busy leaves).replies
    ≡ reply 2 3 254 0 1 ∷ reply 3 3 254 0 1 ∷ reply 5 14 254 0 1 ∷ reply 6 13 244 8 4 ∷ []
unfolding machine
a_hears_of_its_close = refl

-- ---- for desk B

-- B's requests of `busy` with other numbers, and of A nothing but what waits
abbrev pub other : State
other =
    stands
    (chan 1 133 false false []
    ∷ chan 2 130 false false (cuts 40 7 125 64 ∷ plays 41 1 124 0 ∷ [])
    ∷ chan 3 131 false true (plays 42 5 124 64 ∷ [])
    ∷ chan 4 200 true false []
    ∷ [])
    (lock 33 4 8 ∷ [])
    (lock 45 2 2 ∷ [])
    (wait 20 0 250 false (8 ∷ []) ∷ wait 50 0 129 true (4 ∷ []) ∷ [])
    (1 ∷ 2 ∷ [])
    4

-- CLOSE key 2
abbrev pub closes : Call
closes = asks_from DESK_B CLOSE 0 0 0 128 2 [] 64

pub premises-met_by_b : Premises DESK_B closes busy other
premises-met_by_b =
    unfold machine mine own_locks under one_key clear calls in record { sane = (tt, tt); one_desk = (tt, tt); alike = refl; its_call = tt; not_theirs = (tt, tt) }

pub b_sees_the_same : Same DESK_B (call busy closes) (call other closes)
b_sees_the_same = one_desk_lem DESK_B closes busy other premises-met_by_b

pub b_hears_of_its_close : replies_to DESK_B (call busy closes).replies
    ≡ reply 40 3 254 0 2 ∷ reply 41 3 254 0 2 ∷ reply 45 14 254 0 2 ∷ reply 33 13 244 8 4 ∷ reply 50 32 245 0 0 ∷ []
unfolding machine
b_hears_of_its_close = refl

pub a_hears_of_it : replies_to DESK_A (call busy closes).replies ≡ reply 7 14 254 0 2 ∷ reply 6 13 244 8 4 ∷ []
unfolding machine
a_hears_of_it = refl

-- OPEN key 0 at 3 for channel 1
abbrev pub joins : Call
joins = asks_from DESK_B OPEN 0 0 0 131 0 (2 ∷ []) 64

pub b_opens : Same DESK_B (call busy joins) (call other joins)
b_opens =
    one_desk_lem DESK_B joins busy other
    (unfold machine mine own_locks under one_key clear calls in record { sane = (tt, tt); one_desk = (tt, tt); alike = refl; its_call = tt; not_theirs = (tt, tt) })

pub b_hears_of_its_open : replies_to DESK_B (call busy joins).replies
    ≡ reply 40 3 254 0 2 ∷ reply 41 3 254 0 2 ∷ reply 45 14 254 0 2 ∷ reply 33 13 244 8 4 ∷ reply 50 32 245 0 0 ∷ []
unfolding machine
b_hears_of_its_open = refl
