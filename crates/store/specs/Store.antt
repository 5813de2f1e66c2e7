-- The representation: which struct and which table stand for a state of the machine, and which state they hold.
-- Assumes nothing.
--
--   struct_of s        the struct of a state: its channels, the ids of its locks, WAITCYCLEs and waiting requests, its open keys,
--                     its last key
--   Item, items s     the outstanding ids, each with the bytes of its entry: writes by channel, locks, WAITCYCLEs, waiting requests
--   keys xs, Long xs, Good xs   the ids of items; each entry is 23 bytes; no id stands twice, and all fit the table
--   lookup i xs       the entry of id i: that of its item, and all 0 where it has none
--   entries n i xs    the entries of the n ids from i on
--   table_of s         the table of a state: 64 entries
--   write_in, lock_in, request_in   the write, the lock or WAITCYCLE, and the waiting request that an entry of a table holds
--   state_in st tb     the state that a struct and a table hold
--   Each P xs, Small is   each element has the property; each id is one of the table's
--   Held st tb        they hold a sound state with eight channels, and are the ones that stand for it
use Rattle.std.specs.Prelude.{ℕ, zero, suc, ◌<◌, ◌≡◌, Bool, true, false, List, [], ◌∷◌, ◌++◌, map, T, eqb, length, get_or, if◌then◌else◌}
use Rattle.open_keys.specs.queue.Queue.{queue_of, list_of}
use Rattle.open_keys.specs.OpenKeys.{keys_of, keys_in}
use Rattle.channel.specs.Channel.{channel_of, channel_in}
use Rattle.table.specs.memory.Splice.{block}
use Rattle.table.specs.Entry.{idle, write_entry, lock_entry, waiter_entry, wait_entry, key_in, list_in, numbers_in}
use Rattle.open_keys.specs.machine.Lists.{distinct}
use Rattle.open_keys.specs.machine.State.{Write, Channel as ChannelM, Lock, Request, State as StateM}
use Rattle.open_keys.specs.machine.Sound.{sound}
use Rattle.store.specs.declared.State.{State}

abbrev pub struct_of : StateM → State
struct_of s =
    record {
      channels = map channel_of s.channels;
      locks = queue_of (map (λ l. l.id) s.locks);
      waiters = queue_of (map (λ w. w.id) s.waiters);
      waiting = queue_of (map (λ r. r.id) s.waiting);
      opens = keys_of s.opens;
      last = s.last;
    }

pub record Item : Type 0 where
  pub id : ℕ
  pub entry : List ℕ

abbrev pub write_item : ℕ → Write → Item
write_item key w = record { id = w.id; entry = write_entry key w }

abbrev pub lock_item : Lock → Item
lock_item l = record { id = l.id; entry = lock_entry l }

abbrev pub waiter_item : Lock → Item
waiter_item w = record { id = w.id; entry = waiter_entry w }

abbrev pub wait_item : Request → Item
wait_item r = record { id = r.id; entry = wait_entry r }

unfoldable pub write_items : List ChannelM → List Item
write_items [] = []
write_items (c ∷ cs) = map (write_item c.key) c.writes ++ write_items cs

unfoldable pub items : StateM → List Item
items s = write_items s.channels ++ map lock_item s.locks ++ map waiter_item s.waiters ++ map wait_item s.waiting

abbrev pub Each {ℓ} : {A : Type ℓ} → (A → Type 0) → List A → Type 0
Each P [] = Unit {0}
Each P (x ∷ xs) = P x × Each P xs

abbrev pub Small : List ℕ → Type 0
Small is = Each (λ i. i < 64) is

abbrev pub keys : List Item → List ℕ
keys xs = map (λ x. x.id) xs

abbrev pub Long : List Item → Type 0
Long xs = Each (λ x. length x.entry ≡ 23) xs

pub record Good (xs : List Item) : Type 0 where
  pub apart : T (distinct (keys xs))
  pub small : Small (keys xs)
  pub long : Long xs

unfoldable pub lookup : ℕ → List Item → List ℕ
lookup i [] = idle
lookup i (x ∷ xs) = if eqb i x.id then x.entry else lookup i xs

unfoldable pub entries : ℕ → ℕ → List Item → List ℕ
entries zero i xs = []
entries (suc n) i xs = lookup i xs ++ entries n (suc i) xs

unfoldable pub table_of : StateM → List ℕ
table_of s = entries 64 0 (items s)

abbrev pub write_in : List ℕ → ℕ → Write
write_in tb i = numbers_in i (list_in (block 23 tb i))

abbrev pub lock_in : List ℕ → ℕ → Lock
lock_in tb i = record { id = i; key = key_in (block 23 tb i); map = get_or (block 23 tb i) 3 0 }

abbrev pub request_in : List ℕ → ℕ → Request
request_in tb i =
    record {
      id = i;
      key = key_in (block 23 tb i);
      prec = get_or (block 23 tb i) 4 0;
      impatient = eqb (get_or (block 23 tb i) 5 0) 1;
      combos = list_in (block 23 tb i);
    }

abbrev pub state_in : State → List ℕ → StateM
state_in st tb =
    record {
      channels = map (channel_in (write_in tb)) st.channels;
      locks = map (lock_in tb) (list_of st.locks);
      waiters = map (lock_in tb) (list_of st.waiters);
      waiting = map (request_in tb) (list_of st.waiting);
      opens = keys_in st.opens;
      last = st.last;
    }

pub record Held (st : State) (tb : List ℕ) : Type 0 where
  pub eight : length st.channels ≡ 8
  pub sane : T (sound (state_in st tb))
  pub struct : st ≡ struct_of (state_in st tb)
  pub table : tb ≡ table_of (state_in st tb)
