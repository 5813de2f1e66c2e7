-- The frames of a saved text as a struct and a table have them, whatever they hold. proofs/FramesIn.antt shows that those of a state
-- that is held are the frames of crate `saved`.
-- Assumes nothing.
--
--   request_line, span_line, write_line   the frame of the request with an id: a waiting one, a lock or WAITCYCLE, a write of channel i
--   entry_frame k i tb id  the same by the frame's first byte
--   kept_in tb q           what is remembered for the front write of a queue
--   channel_line tb c      the frame of a channel
--   writes_in tb i cs      the frames of the writes of channels, the first of them numbered i
--   request_lines s tb     the lines of the waiting requests, the locks and the WAITCYCLEs; key_lines q k: of the open keys and the last key
--   Listed q tb           the ids of a queue, and their entries, can be read; AllListed cs tb: those of all channels' writes
use Rattle.std.specs.Prelude.{ℕ, suc, ◌≤◌, ◌<◌, List, [], ◌∷◌, ◌++◌, map, eqb, length, get_or, take, drop, replicate, if◌then◌else◌}
use Rattle.table.specs.memory.Splice.{block}
use Rattle.open_keys.specs.queue.declared.Queue.{Queue}
use Rattle.open_keys.specs.queue.Queue.{list_of}
use Rattle.board.specs.channel.declared.Channel.{Channel}
use Rattle.open_keys.specs.declared.Keys.{Keys}
use Rattle.open_keys.specs.OpenKeys.{keys_in}
use Rattle.machine_laws.specs.machine.Log.{line}
use Rattle.machine_laws.specs.machine.InBytes.{two_bytes, mark_of, signed}
use Rattle.board.specs.store.declared.State.{State}
use Rattle.board.specs.store.Store.{request_in}
use Rattle.waiting.specs.Waiting.{Readable}
use Rattle.saved.specs.Saved.{request_frame, OPEN, LAST, key_frame, spelt}

abbrev pub request_line : List ℕ → ℕ → List ℕ
request_line tb id = request_frame (request_in tb id)

abbrev pub span_line : ℕ → List ℕ → ℕ → List ℕ
span_line first tb id = first ∷ id ∷ take 3 (drop 1 (block 23 tb id))

abbrev pub write_line : ℕ → List ℕ → ℕ → List ℕ
write_line i tb id = 0xD5 ∷ i ∷ id ∷ take 6 (drop 7 (block 23 tb id))

unfoldable pub entry_frame : ℕ → ℕ → List ℕ → ℕ → List ℕ
entry_frame first i tb id =
    if eqb first 0xD2 then request_line tb id else if eqb first 0xD5 then write_line i tb id else span_line first tb id

unfoldable pub kept_in : List ℕ → Queue → List ℕ
kept_in tb q = if eqb q.n 0 then replicate 6 0 else take 6 (drop 13 (block 23 tb (get_or q.ids 0 0)))

unfoldable pub channel_line : List ℕ → Channel → List ℕ
channel_line tb c = 0xD1 ∷ two_bytes c.key ++ (signed c.prec ∷ mark_of c.locked ∷ mark_of c.stopped ∷ kept_in tb c.writes)

unfoldable pub writes_in : List ℕ → ℕ → List Channel → List (List ℕ)
writes_in tb i [] = []
writes_in tb i (c ∷ cs) = map (entry_frame 0xD5 i tb) (list_of c.writes) ++ writes_in tb (suc i) cs

abbrev pub request_lines : State → List ℕ → List ℕ
request_lines s tb =
    spelt (map (entry_frame 0xD2 0 tb) (list_of s.waiting))
    ++ (spelt (map (entry_frame 0xD3 0 tb) (list_of s.locks)) ++ spelt (map (entry_frame 0xD4 0 tb) (list_of s.waiters)))

abbrev pub key_lines : Keys → ℕ → List ℕ
key_lines q k = spelt (map (key_frame OPEN) (keys_in q)) ++ line (key_frame LAST k)

abbrev pub Listed : Queue → List ℕ → Type 0
Listed q tb = Readable q tb × (q.n ≤ length q.ids)

abbrev pub AllListed : List Channel → List ℕ → Type 0
AllListed cs tb = (i : ℕ) (d : Channel) → i < 8 → Listed (get_or cs i d).writes tb
