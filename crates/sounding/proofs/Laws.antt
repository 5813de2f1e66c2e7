-- Which function performs FINISH and PERVOL: by the flag SYNCCYCLE. Assumes nothing.
use Prim.Native.Nat.{ℕ, ◌+◌}
use mathlib.Core.Path.{◌≡◌, refl, ap, sym, subst, ◌∙◌}
use mathlib.Core.Bool.{true, false}
use mathlib.Core.List.{List, []}
use native.Mathlib.Omega.{arith}
use lib.ListN.{length}
use Rattle.answers.specs.machine.Numbers.{synced}
use Rattle.answers.specs.machine.State.{State as StateM}
use Rattle.answers.specs.machine.Commands.{matching, in_progress, finished, each, each_change, do_finish, do_pervol}
use Rattle.answers.specs.machine.Kinds.{kind}
use Rattle.answers.specs.machine.Call.{perform}
use Rattle.answers.specs.store.declared.State.{State}
use Rattle.answers.specs.store.Store.{state_in}
use Rattle.answers.specs.store.Work.{Ready}
use Rattle.answers.proofs.store.Store.{held_parts}
use Rattle.answers.specs.declared.Request.{Request}
use Rattle.answers.specs.Answers.{call_of}
use Rattle.tuning.specs.retuning.declared.Tune.TheVariants.{Set, Later, Finish}
use Rattle.tuning.specs.Tuning.{tuned_of}
use Rattle.cutting.specs.Cutting.{finish_replies}
use Rattle.changing.specs.Changing.{Accepted}
use Rattle.cutting.proofs.granting.Few.{front_replies_few}
use Rattle.changing.proofs.Laws.{own_few}

-- ---- combinations: FINISH reads none

module _ (r : Request) (ms : List ℕ) (s : StateM) where
  pub finish_listless : (n : ℕ) → n ≡ 11 → perform (kind n) (call_of r ms) s ≡ perform (kind n) (call_of r []) s
  unfolding perform kind do_finish each_change each finished
  finish_listless n e = subst (λ (k : ℕ). perform (kind k) (call_of r ms) s ≡ perform (kind k) (call_of r []) s) (sym e) refl

-- ---- SYNCCYCLE

module _ (r : Request) (s : StateM) where
  pub finish-now : r.command ≡ 11 → perform (kind r.command) (call_of r []) s ≡ do_finish (call_of r []) s
  unfolding perform kind
  finish-now e = ap (λ (k : ℕ). perform (kind k) (call_of r []) s) e

  kept_finish : synced r.flags ≡ true → do_finish (call_of r []) s ≡ tuned_of (record { desk = r.desk; command = 11; id = r.id; flags = r.flags; map = r.map; prec = r.prec; key = r.key }) Finish [] s
  unfolding do_finish each_change each finished
  kept_finish y = rw y refl

  pub finish-later : r.command ≡ 11 → synced r.flags ≡ true → perform (kind r.command) (call_of r []) s ≡ tuned_of r Finish [] s
  unfolding each_change each finished
  finish-later e y =
      finish-now e ∙ kept_finish y
      ∙ ap (λ (k : ℕ). tuned_of (record { desk = r.desk; command = k; id = r.id; flags = r.flags; map = r.map; prec = r.prec; key = r.key }) Finish [] s) (sym e)

  module _ (ms : List ℕ) (e : r.command ≡ 12) where
    pervol_is : perform (kind r.command) (call_of r ms) s ≡ do_pervol (call_of r ms) s
    unfolding perform kind
    pervol_is = ap (λ (k : ℕ). perform (kind k) (call_of r ms) s) e

    kept_pervol : synced r.flags ≡ true → do_pervol (call_of r ms) s ≡ tuned_of (record { desk = r.desk; command = 12; id = r.id; flags = r.flags; map = r.map; prec = r.prec; key = r.key }) Later ms s
    unfolding do_pervol each_change each finished
    kept_pervol y = rw y refl

    set-pervol : synced r.flags ≡ false → do_pervol (call_of r ms) s ≡ tuned_of (record { desk = r.desk; command = 12; id = r.id; flags = r.flags; map = r.map; prec = r.prec; key = r.key }) Set ms s
    unfolding do_pervol each_change each finished
    set-pervol y = rw y refl

    pub pervol-later : synced r.flags ≡ true → perform (kind r.command) (call_of r ms) s ≡ tuned_of r Later ms s
    unfolding each_change each finished
    pervol-later y =
        pervol_is ∙ kept_pervol y
        ∙ ap (λ (k : ℕ). tuned_of (record { desk = r.desk; command = k; id = r.id; flags = r.flags; map = r.map; prec = r.prec; key = r.key }) Later ms s) (sym e)

    pub pervol-now : synced r.flags ≡ false → perform (kind r.command) (call_of r ms) s ≡ tuned_of r Set ms s
    unfolding each_change each finished
    pervol-now y =
        pervol_is ∙ set-pervol y
        ∙ ap (λ (k : ℕ). tuned_of (record { desk = r.desk; command = k; id = r.id; flags = r.flags; map = r.map; prec = r.prec; key = r.key }) Set ms s) (sym e)

-- ---- room for FINISH: with its own id idle, at most 63 others can be replied

pub ready-finish : {r : Request} {s : State} {tb l : List ℕ} → Accepted r s tb l → Ready s tb l 0 (length (finish_replies r (state_in s tb)) + 1)
ready-finish {r} {s} {tb} a =
    let u = state_in s tb in
    let m = in_progress (matching r.key r.map u.channels) u.channels in
    let f = front_replies_few m u in
    let o = own_few u r.id (held_parts a.held) a.valid a.idle in
    record { held = a.held; room = a.room; fits = omega arith }
