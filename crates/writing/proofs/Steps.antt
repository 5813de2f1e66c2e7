-- WRITE put together: what its calls ensure makes what it promises. Assumes nothing.
use Prim.Native.Nat.{ℕ, ◌+◌, ◌*◌, ◌≤◌, ◌<◌}
use mathlib.Core.Path.{◌≡◌, refl, ap, sym, ◌∙◌}
use mathlib.Core.Bool.{not}
use mathlib.Core.List.{List, [], ◌++◌, map}
use lib.Dec.{T}
use lib.ListN.{get_or, length-map}
use Rattle.memory.specs.Splice.{splice}
use Rattle.memory.proofs.Splice.{splice_none}
use Rattle.queue.specs.declared.Queue.{Queue}
use Rattle.queue.specs.Queue.{pushed}
use Rattle.channel.specs.declared.Channel.{Channel}
use Rattle.channel.specs.Channel.{channel_of, with_writes}
use Rattle.numbers.specs.table.Entry.{number_bytes, write_entry, head_bytes, padded}
use Rattle.answers.specs.machine.Numbers.{NONE, NOALLOCATION}
use Rattle.answers.specs.machine.Lists.{among}
use Rattle.answers.specs.machine.State.{Write, free}
use Rattle.answers.specs.machine.Sound.{ids}
use Rattle.answers.specs.machine.Commands.{done, pending, finished, silent, do_write}
use Rattle.answers.specs.store.declared.State.{State}
use Rattle.answers.specs.store.Store.{struct_of, state_in, Held}
use Rattle.answers.proofs.store.Store.{held_parts, held_eight}
use Rattle.answers.specs.declared.Request.{Request}
use Rattle.answers.specs.declared.Answer.{Answer}
use Rattle.answers.specs.Answers.{call_of, answer_of, Told}
use Rattle.answers.proofs.Laws.{told_as}
use Rattle.numbers.specs.Numbers.{carried}
use Rattle.play.specs.Play.{place_of, with_channel, with_back}
use Rattle.play.proofs.Places.{key_of, placed, Refused, nowhere, another, refused}
use Rattle.play.proofs.Queue.{channel_is, back_struct, back_table, back_room}
use Rattle.play.proofs.Outcomes.{write_none, write_other, write_own}
use Rattle.writing.specs.Writing.{joined}

-- the entry of a write with the numbers that it carries: they are the same whatever its id
pub entry_of : (k i : ℕ) (ms b : List ℕ) → b ≡ number_bytes (carried 0 ms)
    → head_bytes (record { command = 3; key = k; map = 0; prec = 0; impatient = 0; n = 12 }) ++ padded b ≡ write_entry k (carried i ms)
unfolding write_entry number_bytes
entry_of k i ms b e = ap (λ (x : List ℕ). head_bytes (record { command = 3; key = k; map = 0; prec = 0; impatient = 0; n = 12 }) ++ padded x) e

module _ {st : State} {tb : List ℕ} (h : Held st tb) (r : Request) (ms : List ℕ) where
  pub write_refused : (i : ℕ) → i ≡ place_of r.key r.map st.channels → 8 ≤ i
      → do_write (call_of r ms) (state_in st tb) ≡ finished 3 (call_of r ms) (done NOALLOCATION 0 r.key NONE) [] (state_in st tb)
  write_refused i e g = go (refused h r.key r.map i e g)
    where
      go : Refused r.key r.map (state_in st tb).channels
          → do_write (call_of r ms) (state_in st tb) ≡ finished 3 (call_of r ms) (done NOALLOCATION 0 r.key NONE) [] (state_in st tb)
      go (nowhere l) = write_none (call_of r ms) (state_in st tb) (rw (held_eight h) l)
      go (another l m) = write_other (call_of r ms) (state_in st tb) _ (rw (held_eight h) refl) (rw (held_eight h) l) m

  module _ (b : r.id < 64) (n : T (not (among r.id (ids (state_in st tb))))) where
    pub write_room : (i : ℕ) (d : Channel) → i < 8 → (get_or st.channels i d).writes.n < 64
    write_room i d l =
        rw (channel_is h i l d, length-map (get_or (state_in st tb).channels i free).writes (λ (w : Write). w.id))
        (back_room (state_in st tb) i r.id (held_parts h) b n)

    pub join_struct : {t : State} {d : Channel} {q : Queue} (i : ℕ) (c : Channel) → i < 8 → c ≡ get_or st.channels i (channel_of free)
        → q ≡ pushed c.writes r.id → d ≡ with_writes q c → t ≡ with_channel i d st → t ≡ struct_of (with_back i (joined r ms) (state_in st tb))
    join_struct i c g ec eq ed et =
        et
        ∙ (ap (λ (x : Channel). with_channel i x st) (ed ∙ ap (λ (x : Queue). with_writes x c) eq)
        ∙ back_struct h i g c (joined r ms) (ec ∙ channel_is h i g (channel_of free)) (back_room (state_in st tb) i r.id (held_parts h) b n))

    pub write_told : {t : State} {a : Answer} {l tb' : List ℕ} (i : ℕ) → i ≡ place_of r.key r.map st.channels → i < 8
        → a ≡ answer_of (pending r.key) → t ≡ struct_of (with_back i (joined r ms) (state_in st tb))
        → tb' ≡ splice tb (r.id * 23) (write_entry r.key (joined r ms))
        → Told (do_write (call_of r ms) (state_in st tb)) l (record { answer = a; state = t; n = 0 }) tb' l
    unfolding silent
    write_told {l = l} i e g ea et eb =
        let p = placed h r.key r.map i e g in
        let k = key_of r.key (get_or (state_in st tb).channels i free) p.own in
        told_as (write_own (call_of r ms) (state_in st tb) i (rw (held_eight h) p.low) (rw (held_eight h) g) p.own)
        (record {
          answer = ea;
          did = record {
            struct = et;
            table =
                eb
                ∙ (ap (λ (x : ℕ). splice tb (r.id * 23) (write_entry x (joined r ms))) (sym k)
                ∙ (ap (λ (x : List ℕ). splice x (r.id * 23) (write_entry (get_or (state_in st tb).channels i free).key (joined r ms))) h.table
                ∙ back_table (state_in st tb) i (joined r ms) (held_parts h) (rw (held_eight h) g) b n));
            list = sym (splice_none l 0);
            count = refl;
          };
        })
