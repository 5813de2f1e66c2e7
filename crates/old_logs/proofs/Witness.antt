-- The theorem is about something: an old log in which writes are sent, end, are aborted and are stolen, a lock ends and a line is
-- malformed; of desk A, and one of desk B. Each part of the premise is needed: for each, a log that breaks it alone and comes out
-- otherwise than it did.
-- Assumes nothing.
use Prim.Native.Nat.{ℕ}
use Prim.Native.String.{String}
use mathlib.Core.Path.{◌≡◌, refl, ◌∙◌}
use mathlib.Core.Bool.{true, false}
use mathlib.Core.List.{List, [], ◌∷◌, ◌++◌, map}
use Rattle.machine.specs.Lists.{all}
use Rattle.machine.specs.State.{fresh_on}
use Rattle.machine.specs.Desks.{DESK_A, DESK_B}
use Rattle.machine.specs.Log.{lines, run, log}
use Rattle.machine.specs.Machine.{machine}
use Rattle.machine.specs.Text.{bytes, page}
use Rattle.machine.specs.Drawn.{Talk, given, written, begun}
use Rattle.old_logs.specs.Old
use Rattle.old_logs.specs.OldLogs.{old_command, old_op, old_call, old_line, OldLog, in_half, half_op, half_call, half_line, OneHalf}
use Rattle.old_logs.specs.Both.{in_halves, hidden, hides, both_told, both_run}
use Rattle.old_logs.proofs.OldLogs.{old_log, old_log-four}
use Rattle.old_logs.proofs.Both.{old_log_both}

-- OPEN got key 1, which has channels 0 and 1 at precedence 5
abbrev busy : Talk
busy =
    begun
    -- WRITE id 8 and 9 on channel 0, id 10 on channel 1
    ++ ("0308000100000100", "A100000001FF" ∷ [])
    ∷ ("0309000100000100", "A100000001FF" ∷ [])
    ∷ ("030A000200000100", "A100000001FF" ∷ [])
    -- the event on channel 0
    ∷ ("F300000100000000", "C0080300010001" ∷ "A000010000FF" ∷ [])
    -- ABORT id 9
    ∷ ("F209000000000000", "C00903FE000001" ∷ "A00000000001" ∷ [])
    -- F4 with too few bytes is no frame, now and then
    ∷ ("F400", "A007000000FF" ∷ [])
    -- LOCK id 11 key 1 map 01, which takes any n
    ∷ ("0D0B00010000010107", "A100000001FF" ∷ [])
    -- ALLOCATE id 2 QUICK key 0 at 10 for 02: id 10 is stolen from
    ∷ ("200201000A00000102", "C00A03FE000001" ∷ "A000020002FF" ∷ [])
    -- FREE id 3 QUICK key 1 map 01: the lock ends
    ∷ ("0903010100000100", "C00B0D00000001" ∷ "A000010001FF" ∷ [])
    ∷ []

pub busy_is_old : OldLog (page (given busy))
busy_is_old = unfold machine bytes page old_command old_op old_call old_line in tt

pub busy_is_of_a : OneHalf DESK_A (page (given busy))
busy_is_of_a = unfold machine bytes page in_half half_op half_call half_line in tt

pub busy-said : Old.log (page (given busy)) ≡ page (written busy)
unfolding Old.machine machine bytes page
busy-said = refl

pub busy_says : log (page (given busy)) ≡ page (written busy)
busy_says = old_log-four DESK_A (page (given busy)) busy_is_old busy_is_of_a ∙ busy-said

-- on eight channels: OPEN for 80 at 5, WRITE id 8 and the event there
abbrev eighth : Talk
eighth =
    ("F00000000500000180", "A000800001FF" ∷ [])
    ∷ ("0308008000000100", "A100000001FF" ∷ [])
    ∷ ("F300008000000000", "C0080300800001" ∷ "A000800000FF" ∷ [])
    ∷ []

pub eighth_is_old : OldLog (page (given eighth))
eighth_is_old = unfold machine bytes page old_command old_op old_call old_line in tt

pub eighth_is_of_a : OneHalf DESK_A (page (given eighth))
eighth_is_of_a = unfold machine bytes page in_half half_op half_call half_line in tt

pub eighth-said : (Old.run (Old.fresh_on 8) (Old.lines (page (given eighth)))).output ≡ page (written eighth)
unfolding Old.machine Old.frees machine bytes page
eighth-said = refl

pub eighth_says : (run (fresh_on 8) (lines (page (given eighth)))).output ≡ page (written eighth)
eighth_says = old_log DESK_A 8 (page (given eighth)) eighth_is_old eighth_is_of_a ∙ eighth-said

-- of desk B: OPEN for 01 at 5, WRITE id 40 and id 41 there, READ id 63, an id above 63, ABORT of an id of A, RESET id 63
abbrev second : Talk
second =
    ("F00000000500000101", "A000010001FF" ∷ [])
    ∷ ("0328000100000100", "A100000001FF" ∷ [])
    ∷ ("0329000100000100", "A100000001FF" ∷ [])
    ∷ ("023F010100000100", "A00001000128" ∷ [])
    ∷ ("0240000100000100", "A004000001FF" ∷ [])
    ∷ ("F205000000000000", "A00000000000" ∷ [])
    ∷ ("013F000100000100", "C02803FE000001" ∷ "C02903FE000001" ∷ "C03F0100010001" ∷ "A000010001FF" ∷ [])
    ∷ []

pub second_is_old : OldLog (page (given second))
second_is_old = unfold machine bytes page old_command old_op old_call old_line in tt

pub second_is_of_b : OneHalf DESK_B (page (given second))
second_is_of_b = unfold machine bytes page in_half half_op half_call half_line in tt

pub second-said : Old.log (page (given second)) ≡ page (written second)
unfolding Old.machine machine bytes page
second-said = refl

pub second_says : log (page (given second)) ≡ page (written second)
second_says = old_log-four DESK_B (page (given second)) second_is_old second_is_of_b ∙ second-said

-- ---- each part of the premise is needed

-- id 8 plays on channel 0; a line; what it writes now, and what it wrote
abbrev Broken : Type 0
Broken = List String × List String × List String

abbrev finishing : Broken
finishing = ("0308000100000100" ∷ "0B02010100000100" ∷ [], "A100000001FF" ∷ "C00803FE000001" ∷ "A000010001FF" ∷ [], "A100000001FF" ∷ "A0FD000001FF" ∷ [])

abbrev tuning : Broken
tuning = ("0308000100000100" ∷ "0C02010100000100" ∷ [], "A100000001FF" ∷ "A000010001FF" ∷ [], "A100000001FF" ∷ "A0FD000001FF" ∷ [])

abbrev awaiting : Broken
awaiting = ("0308000100000100" ∷ "0E02010100000100" ∷ [], "A100000001FF" ∷ "A100000001FF" ∷ [], "A100000001FF" ∷ "A0FD000001FF" ∷ [])

-- F4 was a command that nobody knew
abbrev giving_up : Broken
giving_up = ("0308000100000100" ∷ "F400000100000000" ∷ [], "A100000001FF" ∷ "C00803FE000001" ∷ "A000010000FF" ∷ [], "A100000001FF" ∷ "C000F4FD000000" ∷ "A0FD000000FF" ∷ [])

-- a WRITE of two cycles, period 124 and volume 64, and the event
abbrev cycling : Broken
cycling = ("0308000100000106000200007C40" ∷ "F300000100000000" ∷ [], "A100000001FF" ∷ "A000010000FF" ∷ [], "A100000001FF" ∷ "C0080300010001" ∷ "A000010000FF" ∷ [])

abbrev broken : List Broken
broken = finishing ∷ tuning ∷ awaiting ∷ giving_up ∷ cycling ∷ []

abbrev begins : Broken → List ℕ
begins b = page (given begun ++ b.0)

pub broken_are_not_old : map (λ b. all old_line (lines (begins b))) broken ≡ map (λ _. false) broken
unfolding machine bytes page old_command old_op old_call old_line
broken_are_not_old = refl

pub broken_say : map (λ b. log (begins b)) broken ≡ map (λ b. page (written begun ++ b.1)) broken
unfolding machine bytes page
broken_say = refl

pub broken-said : map (λ b. Old.log (begins b)) broken ≡ map (λ b. page (written begun ++ b.2)) broken
unfolding Old.machine machine bytes page
broken-said = refl

-- ---- so is the half: old logs with ids of both

-- WRITE id 40 and id 8 on channel 0, FLUSH id 2 QUICK: A's reply is now the first
abbrev flushing : Broken
flushing =
    ("0328000100000100" ∷ "0308000100000100" ∷ "0802010100000100" ∷ [], "A100000001FF" ∷ "A100000001FF" ∷ "C00803FE000001" ∷ "C02803FE000001" ∷ "A000010001FF" ∷ [], "A100000001FF" ∷ "A100000001FF" ∷ "C02803FE000001" ∷ "C00803FE000001" ∷ "A000010001FF" ∷ [])

-- WRITE id 40 on channel 0, READ id 2 QUICK: the write is now hidden
abbrev reading : Broken
reading = ("0328000100000100" ∷ "0202010100000100" ∷ [], "A100000001FF" ∷ "A000010001FF" ∷ [], "A100000001FF" ∷ "A00001000128" ∷ [])

abbrev mixed : List Broken
mixed = flushing ∷ reading ∷ []

pub mixed_are_old : map (λ b. all old_line (lines (begins b))) mixed ≡ map (λ _. true) mixed
unfolding machine bytes page old_command old_op old_call old_line
mixed_are_old = refl

pub mixed_are_of_no_half : (map (λ b. all (half_line DESK_A) (lines (begins b))) mixed ≡ map (λ _. false) mixed)
    × (map (λ b. all (half_line DESK_B) (lines (begins b))) mixed ≡ map (λ _. false) mixed)
unfolding machine bytes page in_half half_op half_call half_line
mixed_are_of_no_half = (refl, refl)

pub mixed_say : map (λ b. log (begins b)) mixed ≡ map (λ b. page (written begun ++ b.1)) mixed
unfolding machine bytes page
mixed_say = refl

pub mixed-said : map (λ b. Old.log (begins b)) mixed ≡ map (λ b. page (written begun ++ b.2)) mixed
unfolding Old.machine machine bytes page
mixed-said = refl

-- ---- what such logs give by the theorem of every old log

-- WRITE id 40 and id 8 on channel 0, READ by either desk, a FLUSH of A's and an ABORT of B's
abbrev both : Talk
both =
    begun
    ++ ("0328000100000100", "A100000001FF" ∷ [])
    ∷ ("0308000100000100", "A100000001FF" ∷ [])
    ∷ ("0203010100000100", "A000010001FF" ∷ [])
    ∷ ("023F010100000100", "A00001000128" ∷ [])
    ∷ ("0804000100000100", "C00803FE000001" ∷ "C0040800010001" ∷ "C02803FE000001" ∷ "A000010001FF" ∷ [])
    ∷ ("0329000200000100", "A100000001FF" ∷ [])
    ∷ ("F229000000000000", "C02903FE000001" ∷ "A00000000001" ∷ [])
    ∷ []

pub both_is_old : OldLog (page (given both))
both_is_old = unfold machine bytes page old_command old_op old_call old_line in tt

pub both_said : (both_run (Old.fresh_on 4) (Old.lines (page (given both)))).output ≡ page (written both)
unfolding Old.machine Old.frees machine bytes page in_halves hidden hides both_told both_run
both_said = refl

pub both_says : (run (fresh_on 4) (lines (page (given both)))).output ≡ page (written both)
both_says = old_log_both 4 (page (given both)) both_is_old ∙ both_said
