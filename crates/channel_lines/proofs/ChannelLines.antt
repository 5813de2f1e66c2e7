-- Lines of channels: how long they are, how they grow by a channel, and that those of a board fit the memory that is lent.
-- Assumes nothing.
use Prim.Native.Nat.{ℕ, suc, ◌+◌, ◌*◌, ◌≤◌, ◌<◌, min}
use mathlib.Core.Path.{◌≡◌, refl, ap, sym, ◌∙◌}
use mathlib.Core.Bool.{true, false}
use mathlib.Core.List.{List, [], ◌∷◌, ◌++◌, append_assoc, append-nil}
use native.Mathlib.Omega.{arith}
use native.Mathlib.Nat.{add-zero, zero-add}
use native.Mathlib.Numerals.{add-one}
use native.Mathlib.Decide.{dec_lt}
use lib.ListN.{length, take, get_or, length-append, length-take}
use lib.Seq.{take-suc, take_all, length-take-le}
use Rattle.spelling.specs.memory.Splice.{splice}
use Rattle.spelling.proofs.memory.Splice.{splice_then}
use Rattle.spelling.specs.machine.Log.{line, hex_digit}
use Rattle.board.specs.channel.declared.Channel.{Channel}
use Rattle.board.specs.declared.Board.{Board}
use Rattle.channel_lines.specs.ChannelLines.{channel_line, channel_lines, board_lines, Shows}

-- B00312AB800102: channel 3 with key 12AB, precedence -128, locked, two writes
shown : channel_line 3 (record { key = 0x12AB; prec = 0; locked = true; stopped = false; writes = record { n = 2; ids = [] } })
    ≡ 66 ∷ 48 ∷ 48 ∷ 51 ∷ 49 ∷ 50 ∷ 65 ∷ 66 ∷ 56 ∷ 48 ∷ 48 ∷ 49 ∷ 48 ∷ 50 ∷ 10 ∷ []
unfolding channel_line line hex_digit
shown = refl

pub length-channel_line : (i : ℕ) (c : Channel) → length (channel_line i c) ≡ 15
unfolding channel_line line
length-channel_line i c = refl

pub length-channel_lines : (i : ℕ) (cs : List Channel) → length (channel_lines i cs) ≡ 15 * length cs
unfolding channel_lines
length-channel_lines i [] = refl
length-channel_lines i (c ∷ cs) =
    let e = length-channel_lines (suc i) cs in
    let f = length-channel_line i c in
    rw length-append (omega arith)

-- one channel more
pub channel_lines_more : (i : ℕ) (cs : List Channel) (c : Channel) → channel_lines i (cs ++ c ∷ []) ≡ channel_lines i cs ++ channel_line (i + length cs) c
unfolding channel_lines
channel_lines_more i [] c = rw add-zero (append-nil (channel_line i c))
channel_lines_more i (b ∷ cs) c =
    let e : suc i + length cs ≡ i + suc (length cs) = omega arith in
    rw (channel_lines_more (suc i) cs c, e) (sym (append_assoc (channel_line i b) (channel_lines (suc i) cs) (channel_line (i + suc (length cs)) c)))

pub channel_turn : (out : List ℕ) (cs : List Channel) (i : ℕ) (d : Channel) → i < length cs → i * 15 + 15 ≤ length out
    → splice (splice out 0 (channel_lines 0 (take i cs))) (i * 15) (channel_line i (get_or cs i d)) ≡ splice out 0 (channel_lines 0 (take (i + 1) cs))
channel_turn out cs i d h g =
    let k = length-take-le i cs (omega arith) in
    let e = length-channel_lines 0 (take i cs) in
    let m : channel_lines 0 (take (suc i) cs) ≡ channel_lines 0 (take i cs) ++ channel_line i (get_or cs i d) =
    rw (take-suc cs i d h) (channel_lines_more 0 (take i cs) (get_or cs i d) ∙ rw (zero-add, k) refl) in
    rw (add-one i, m) (splice_then out 0 (channel_lines 0 (take i cs)) (channel_line i (get_or cs i d)) (i * 15) (omega arith) (omega arith))

-- a board's own channels: eight at most
own_take : (w : ℕ) (cs : List Channel) → length cs ≡ 8 → take (min w 8) cs ≡ take w cs
own_take w cs h = elim (dec_lt w 8) [
  | yes k ↦ let e : min w 8 ≡ w = omega arith in rw e
  | no k ↦ take_all (min w 8) cs (omega arith) ∙ sym (take_all w cs (omega arith))
]

pub board-shown : (b : Board) {n : ℕ} {out out' : List ℕ} → length b.state.channels ≡ 8 → n ≡ min b.width 8
    → out' ≡ splice out 0 (channel_lines 0 (take n b.state.channels)) → Shows b out (n * 15) out'
board-shown b {n} {out} h e p =
    let t : take n b.state.channels ≡ take b.width b.state.channels = ap (λ (k : ℕ). take k b.state.channels) e ∙ own_take b.width b.state.channels h in
    let l = length-channel_lines 0 (take n b.state.channels) in
    let k = length-take-le n b.state.channels (omega arith) in
    let c : n * 15 ≡ length (channel_lines 0 (take n b.state.channels)) = omega arith in
    record { count = c ∙ ap (λ (cs : List Channel). length (channel_lines 0 cs)) t; bytes = p ∙ ap (λ (cs : List Channel). splice out 0 (channel_lines 0 cs)) t }

-- what a board shows fits the memory that is lent
pub board_few : (b : Board) → length b.state.channels ≡ 8 → length (board_lines b) ≤ 120
board_few b h = let l = length-channel_lines 0 (take b.width b.state.channels) in let k = length-take b.width b.state.channels in omega arith

-- no second showing fits
pub one_showing : {b : Board} {out : List ℕ} {r r₂ : ℕ} {o p : List ℕ} → Shows b out r o → Shows b out r₂ p → (r ≡ r₂) × (o ≡ p)
one_showing x y = (x.count ∙ sym y.count, x.bytes ∙ sym y.bytes)
