-- Turns over the eight channels in the bytes: those before place i are done, those from it on are as they were. Assumes nothing.
use Prim.Native.Nat.{ℕ, ◌+◌, ◌/◌, ◌^◌, ◌≤◌, ◌<◌}
use mathlib.Core.Path.{◌≡◌, refl, ap, sym, subst, ◌∙◌}
use mathlib.Core.Bool.{Bool, true, false}
use mathlib.Core.List.{List}
use native.Mathlib.Omega.{arith}
use lib.Dec.{T}
use lib.ListN.{length, get_or, set}
use lib.Seq.{get_or-set_other}
use Rattle.std.specs.Prelude.{if◌then◌else◌}
use Rattle.machine.specs.Maps.{odd}
use Rattle.machine.specs.State.{free}
use Rattle.channel.specs.declared.Channel.{Channel}
use Rattle.channel.specs.declared.Change.{Change}
use Rattle.channel.specs.declared.Change.TheVariants.{Reset, Free, SetPrecedence, Flush, Stop, Lock, Take, FrontGone, FrontOnly, Nothing}
use Rattle.channel.specs.Channel.{channel_of, changed_of, change_each}
use Rattle.channel.proofs.Turns.{rest, change_start, change-named, change-passed, change_end}
use Rattle.image.specs.board.declared.Board.{Board}
use Rattle.image.specs.Image.{channels_at, state_of, Whole}
use Rattle.lent_channels.specs.declared.Channel.{Channel as Head}
use Rattle.lent_channels.specs.lent.Lent.{Tidy, channel_on, with_channel}
use Rattle.lent_channels.specs.Heads.{head_in, stored, PutHead}
use Rattle.lent_channels.proofs.Heads.{stored-reset, stored_free, stored_flush, stored-take, stored_same, stored-prec, stored_stop, stored-lock}
use Rattle.named_channels.specs.Named.{by_head, changed_head, with_channels, TidyAll, Once, Changed}

-- stored again, the channel changed by its head is the channel changed
pub stored_changed : (how : Change) (c : Channel) → T (by_head how) → Tidy c.writes → stored (changed_head how (head_in c)) c ≡ changed_of how c
stored_changed Reset c b t = stored-reset c
stored_changed Free c b t = stored_free c
stored_changed (SetPrecedence p) c b t = stored-prec c t p
stored_changed Flush c b t = stored_flush c
stored_changed (Stop s) c b t = stored_stop c t s
stored_changed Lock c b t = stored-lock c t
stored_changed (Take k p) c b t = stored-take k p c
stored_changed FrontGone c b t = absurd b
stored_changed FrontOnly c b t = absurd b
stored_changed Nothing c b t = stored_same c t

module _ (how : Change) (m i : ℕ) {l l' : List ℕ} where
  pub once-named : {d : Head} → Whole l → Tidy (channel_on i (state_of l)).writes → T (by_head how) → odd (m / 2 ^ i) ≡ true
      → d ≡ changed_head how (head_in (channel_on i (state_of l))) → PutHead l i d l' → Once how m i l l'
  once-named {d} w t b o e p =
      let c = channel_on i (state_of l) in
      let s : stored d c ≡ changed_of how c = ap (λ (h : Head). stored h c) e ∙ stored_changed how c b t in
      let h = p.holds w in
      rw o (record { whole = h.whole; board = h.board ∙ ap (λ (x : Channel). with_channel i x (state_of l)) s })

pub once-passed : (how : Change) (m i : ℕ) (l : List ℕ) → Whole l → odd (m / 2 ^ i) ≡ false → Once how m i l l
once-passed how m i l w o = rw o (record { whole = w; board = refl })

-- ---- the loop

abbrev chans : List ℕ → List Channel
chans l = (state_of l).state.channels

pub eight : (l : List ℕ) → length (state_of l).state.channels ≡ 8
unfolding state_of channels_at
eight l = refl

pub record Turned (how : Change) (m : ℕ) (l₀ l : List ℕ) (i : ℕ) : Type 0 where
  pub whole : Whole l
  pub board : state_of l ≡ with_channels (chans l) (state_of l₀)
  pub left : rest (changed_of how) m i (chans l) ≡ change_each (changed_of how) m (chans l₀)
  pub later : (j : ℕ) → i ≤ j → channel_on j (state_of l) ≡ channel_on j (state_of l₀)

pub turned_start : (how : Change) (m : ℕ) (l : List ℕ) → Whole l → Turned how m l l 0
turned_start how m l w = record { whole = w; board = refl; left = change_start (changed_of how) m (chans l); later = λ j h. refl }

module _ {how : Change} {m : ℕ} {l₀ l : List ℕ} {i : ℕ} (t : Turned how m l₀ l i) where
  pub turned_tidy : i < 8 → TidyAll (state_of l₀) → Tidy (channel_on i (state_of l)).writes
  turned_tidy h a = subst (λ (c : Channel). Tidy c.writes) (sym (t.later i (omega arith))) (a i h)

  pub turned_end : 8 ≤ i → Changed how m l₀ l
  turned_end h =
      let e : chans l ≡ change_each (changed_of how) m (chans l₀) = sym (change_end (changed_of how) m i (chans l) (omega (arith, eight l))) ∙ t.left in
      record { whole = t.whole; board = t.board ∙ ap (λ (cs : List Channel). with_channels cs (state_of l₀)) e }

  pub turned_more : {l' : List ℕ} → i < 8 → Once how m i l l' → Turned how m l₀ l' (i + 1)
  turned_more {l'} h o = go (odd (m / 2 ^ i)) refl
    where
      go : (b : Bool) → odd (m / 2 ^ i) ≡ b → Turned how m l₀ l' (i + 1)
      go true e =
          let c = channel_on i (state_of l) in
          let d = changed_of how c in
          let v : state_of l' ≡ with_channel i d (state_of l) = o.board ∙ ap (λ (b : Bool). if b then with_channel i d (state_of l) else state_of l) e in
          let cs : chans l' ≡ set (chans l) i d = ap (λ (b : Board). b.state.channels) v in
          record {
            whole = o.whole;
            board = v ∙ (ap (with_channel i d) t.board ∙ ap (λ (x : List Channel). with_channels x (state_of l₀)) (sym cs));
            left = ap (rest (changed_of how) m (i + 1)) cs ∙ (change-named (changed_of how) m (chans l) i (channel_of free) (omega (arith, eight l, h)) e ∙ t.left);
            later = λ j g.
                ap (λ (x : List Channel). get_or x j (channel_of free)) cs
                ∙ (get_or-set_other (chans l) i j d (channel_of free) (λ q. absurd (omega (arith, q, g))) ∙ t.later j (omega (arith, g)));
          }
      go false e =
          let v : state_of l' ≡ state_of l = o.board ∙ ap (λ (b : Bool). if b then with_channel i (changed_of how (channel_on i (state_of l))) (state_of l) else state_of l) e in
          let cs : chans l' ≡ chans l = ap (λ (b : Board). b.state.channels) v in
          record {
            whole = o.whole;
            board = v ∙ (t.board ∙ ap (λ (x : List Channel). with_channels x (state_of l₀)) (sym cs));
            left = ap (rest (changed_of how) m (i + 1)) cs ∙ (change-passed (changed_of how) m (chans l) i (channel_of free) (omega (arith, eight l, h)) e ∙ t.left);
            later = λ j g. ap (λ (x : List Channel). get_or x j (channel_of free)) cs ∙ t.later j (omega (arith, g));
          }
