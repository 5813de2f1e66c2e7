-- The claims about the port are about something: any bytes, fed in any fragments to a fresh device, come to something; so the log of
-- document 01, and the same with the line of crates/inspected_lines, cut within that line.
-- Assumes nothing.
--
--   Comes w bss    a run whose fragments are bss: its output, and the bytes that it left
use Prim.Native.Nat.{ℕ}
use mathlib.Core.Path.{◌≡◌, refl, ap, sym}
use mathlib.Core.List.{List, [], ◌∷◌, ◌++◌}
use lib.Dec.{T}
use lib.ListN.{replicate, length-replicate}
use Rattle.machine.specs.Lists.{all}
use Rattle.machine.specs.State.{fresh_on}
use Rattle.machine.specs.Log.{lines}
use Rattle.machine.specs.Machine.{machine}
use Rattle.machine.specs.Text.{bytes, page}
use Rattle.machine_laws.proofs.Sound.{parts}
use Rattle.display.specs.Display.{blank}
use Rattle.image.specs.board.Board.{sized, struct_of}
use Rattle.image.proofs.board.Laws.{fresh-sane}
use Rattle.image.specs.Image.{STATE, image_of, is_byte}
use Rattle.slow_line.proofs.images.Images.{saved_of}
use Rattle.slow_line.specs.sizes.Sizes.{TABLE, PORT}
use Rattle.slow_line.specs.starting.Starting.{Fits, Started}
use Rattle.slow_line.specs.whole_log.Whole.{joined}
use Rattle.slow_line.proofs.Runs.{run_exists, fresh-port}
use Rattle.inspected_lines.specs.nothing_left.NothingLeft.{NothingLeft}
use Rattle.slow_line.specs.hearing.Hearing.{held_in}
use Rattle.inspected_lines.proofs.Witness.{before, slipped, behind, slips_there}
use Rattle.inspected_port.specs.Port.{Fed, Inserted}
use Rattle.inspected_port.proofs.Port.{nothing_left_behind_the_port, nothing-slipped_through_the_port}

pub record Comes (w : ℕ) (ls : List (List ℕ)) : Type 0 where
  pub out : List ℕ
  pub state : List ℕ
  pub table : List ℕ
  pub display : List ℕ
  pub fed : Fed w ls out state table display

module _ (w : ℕ) (t : T (sized w)) where
  fits : Fits w (replicate STATE 0) (replicate TABLE 0) blank
  fits = record { board = t; state = length-replicate {A = ℕ} STATE 0; table = length-replicate {A = ℕ} TABLE 0; display = refl }

  starts : Started w (replicate STATE 0) (replicate TABLE 0) blank 0 (image_of (struct_of (fresh_on w))) (replicate TABLE 0) blank
  starts =
      record {
        begun = λ _. record {
          result = refl;
          state = saved_of (fresh_on w) (parts (fresh_on w) (fresh-sane w t));
          table = ap (λ (k : ℕ). replicate k 0) (sym (length-replicate {A = ℕ} TABLE 0));
          display = refl;
        };
        otherwise = λ n. absurd (n fits);
      }

  pub comes : (bss ls : List (List ℕ)) → T (all is_byte (joined bss)) → lines (joined bss) ≡ ls → Comes w ls
  comes bss ls b e =
      let r = run_exists bss b (replicate PORT 0) (image_of (struct_of (fresh_on w))) (replicate TABLE 0) blank fresh-port.0 refl in
      record {
        out = r.out;
        state = r.state;
        table = r.table;
        display = r.display;
        fed =
            record {
              lent_state = replicate STATE 0;
              lent_table = replicate TABLE 0;
              lent_display = blank;
              result = 0;
              first_state = image_of (struct_of (fresh_on w));
              first_table = replicate TABLE 0;
              first_display = blank;
              fits = fits;
              started = starts;
              port = replicate PORT 0;
              last_port = r.port;
              fragments = bss;
              none = fresh-port.1;
              ran = r.ran;
              spelt = e;
            };
      }

-- ---- the log of document 01

abbrev front : List ℕ
front = page ("F000000000000000" ∷ "200501000A000102030C" ∷ "0D06000100000100" ∷ "200740001400000103" ∷ [])

abbrev back : List ℕ
back = page ("0908010300000100" ∷ [])

pub with_it : Comes 4 (before ++ slipped ∷ behind)
with_it =
    comes 4 tt ((front ++ bytes "03090001") ∷ [] ∷ (bytes "00000900" ++ 10 ∷ back) ∷ []) (before ++ slipped ∷ behind) (unfold machine bytes page in tt)
    (unfold machine bytes page in refl)

pub without_it : Comes 4 (before ++ behind)
without_it = comes 4 tt ((front ++ back) ∷ []) (before ++ behind) (unfold machine bytes page in tt) (unfold machine bytes page in refl)

pub left_there : NothingLeft (held_in with_it.state with_it.table)
left_there = nothing_left_behind_the_port 4 (before ++ slipped ∷ behind) with_it.out with_it.state with_it.table with_it.display with_it.fed

pub unseen_there : Inserted 4 before slipped behind with_it.out with_it.state with_it.table with_it.display without_it.out without_it.state without_it.table without_it.display
unseen_there =
    nothing-slipped_through_the_port 4 before slipped behind with_it.out with_it.state with_it.table with_it.display without_it.out without_it.state without_it.table
    without_it.display with_it.fed without_it.fed slips_there
