-- What aborting does to the table, and what it asks.
-- Assumes nothing.
--
--   idled is tb        the table with the entries of these ids cleared
--   writes_in m cs      the ids of the writes of the channels that m names: by channel, then oldest first
--   Writable c, Writables cs   the queue lies within its array, and its ids are the table's; so of each channel
--   held_in tb cs         the machine's channels that structs and a table hold
--   Aborts c n ..              the promise of `abort_writes`: the writes of a channel replied -2 behind the first n replies, their ids idle
--   AbortsIn m cs n ..         the same of the channels that m names
--   stays m ws                 the WAITCYCLEs that are left where the front writes of the channels of m are cut
--   drop_replies m cs ws        what is replied then: to the writes, then to who waited for a cycle of theirs, oldest first
--   Dropping m cs q ..         what `drop_named` asks: the table without those writes has the entries of the WAITCYCLEs ws, whose ids q
--                              has, between the items pre and post
--   Dropt, Drops               queue, table, reply list and count afterwards; that, for all such WAITCYCLEs
use Rattle.std.specs.Prelude.{ℕ, ◌+◌, ◌*◌, ◌≤◌, ◌<◌, ◌≡◌, not, List, [], ◌∷◌, ◌++◌, map, length, if◌then◌else◌}
use Rattle.queue.specs.declared.Queue.{Queue}
use Rattle.queue.specs.Queue.{queue_of, list_of}
use Rattle.channel.specs.declared.Channel.{Channel}
use Rattle.channel.specs.Channel.{channel_in}
use Rattle.memory.specs.Splice.{splice}
use Rattle.locks.specs.table.Entry.{idle}
use Rattle.machine.specs.Numbers.{ADCMD_WAITCYCLE}
use Rattle.machine.specs.Lists.{keep}
use Rattle.machine.specs.State.{Channel as ChannelM, Lock, Reply}
use Rattle.machine.specs.Maps.{odd, half}
use Rattle.machine.specs.Granting.{aborted, aborted_in, on_channels, given_up}
use Rattle.locks.specs.reply.Replies.{sent}
use Rattle.locks.specs.store.Store.{Item, waiter_item, entries, write_in, Small, Each}
use Rattle.locks.specs.Locks.{Locked}
use Rattle.locks.specs.declared.Sifted.{Sifted}

unfoldable pub idled : List ℕ → List ℕ → List ℕ
idled [] tb = tb
idled (i ∷ is) tb = idled is (splice tb (i * 23) idle)

unfoldable pub writes_in : ℕ → List ChannelM → List ℕ
writes_in m [] = []
writes_in m (c ∷ cs) = (if odd m then map (λ w. w.id) c.writes else []) ++ writes_in (half m) cs

abbrev pub Writable : Channel → Type 0
Writable c = (c.writes.n ≤ 64) × Small (list_of c.writes)

abbrev pub Writables : List Channel → Type 0
Writables cs = Each Writable cs

abbrev pub held_in : List ℕ → List Channel → List ChannelM
held_in tb cs = map (channel_in (write_in tb)) cs

abbrev pub Aborts : Channel → ℕ → List ℕ → List ℕ → ℕ → List ℕ → List ℕ → Type 0
Aborts c n tb l r tb' l' =
    let is = list_of c.writes in
    (r ≡ n + length is) × (l' ≡ sent l n (aborted c.key (map (write_in tb) is))) × (tb' ≡ idled is tb)

abbrev pub AbortsIn : ℕ → List Channel → ℕ → List ℕ → List ℕ → ℕ → List ℕ → List ℕ → Type 0
AbortsIn m cs n tb l r tb' l' =
    let ms = held_in tb cs in
    (r ≡ n + length (aborted_in m ms)) × (l' ≡ sent l n (aborted_in m ms)) × (tb' ≡ idled (writes_in m ms) tb)

-- ---- with those who wait for a cycle

abbrev pub stays : ℕ → List Lock → List Lock
stays m ws = keep (λ w. not (on_channels 8 m w)) ws

abbrev pub drop_replies : ℕ → List ChannelM → List Lock → List Reply
drop_replies m cs ws = aborted_in m cs ++ map given_up (keep (on_channels 8 m) ws)

pub record Dropping (m : ℕ) (cs : List Channel) (q : Queue) (tb l : List ℕ) (n : ℕ) : Type 0 where
  pub writable : Writables cs
  pub tall : length tb ≡ 1472
  pub wanted : m < 256
  pub pre : List Item
  pub ws : List Lock
  pub post : List Item
  pub locked : Locked ADCMD_WAITCYCLE pre ws post q (idled (writes_in m (held_in tb cs)) tb)
  pub room : n * 6 + length (drop_replies m (held_in tb cs) ws) * 6 ≤ length l

pub record Dropt (m : ℕ) (cs : List ChannelM) (pre : List Item) (ws : List Lock) (post : List Item) (l : List ℕ) (n : ℕ) (r : Sifted) (tb' l' : List ℕ)
    : Type 0 where
  pub queue : r.left ≡ queue_of (map (λ w. w.id) (stays m ws))
  pub table : tb' ≡ entries 64 0 (pre ++ map waiter_item (stays m ws) ++ post)
  pub replies : l' ≡ sent l n (drop_replies m cs ws)
  pub count : r.n ≡ n + length (drop_replies m cs ws)

abbrev pub Drops : ℕ → List Channel → Queue → List ℕ → List ℕ → ℕ → Sifted → List ℕ → List ℕ → Type 0
Drops m cs q tb l n r tb' l' = (a : Dropping m cs q tb l n) → Dropt m (held_in tb cs) a.pre a.ws a.post l n r tb' l'
