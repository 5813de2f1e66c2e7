-- `verdict_command` meets its contract: its tests are those of the list, in their order. Assumes nothing.
use Prim.Native.Nat.{◌<◌}
use mathlib.Core.Path.{◌≡◌, refl, sym, ap, ◌∙◌}
use mathlib.Core.Bool.{true, false, not}
use borrow.Author.Tests.{eq-eqb, ne_eqb}
use Rattle.steps.specs.Steps.{number_of, number, number_in}
use Rattle.steps.proofs.Laws.{met_before, met, past, none, map-met, map_past, unknown-met, unknown_past, reads-list, reads-map, reads-numbers, allocates_32}
use Rattle.refusals.proofs.Laws.{id_small, own_id}
use Rattle.open_keys.specs.machine.Kinds.{kind, carries}
use Rattle.open_keys.proofs.machine.Known.{carries_two}
use borrow.Author.Rules.{rules}
use Rattle.refusals.proofs.verdict_command.Goals as goal

pub returns-in_err-verdict_id : goal.returns-in_err-verdict_id
returns-in_err-verdict_id c =
    let e : number_in c.from_residual.result ≡ number c.in_err-verdict_id.field-0.0 = search rules in
    e ∙ met_before _ _ _ c.in_err-verdict_id.ensures

pub outstanding-taken-requires : goal.outstanding-taken-requires
outstanding-taken-requires c = (id_small _ _ c.in_ok-verdict_id.ensures, c.requires)

pub returns-then-taken : goal.returns-then-taken
returns-then-taken c = own_id _ _ _ c.in_ok-verdict_id.ensures (met _ _ _ (sym c.outstanding-taken.ensures ∙ c.if-taken.true))

pub returns-then-closed : goal.returns-then-closed
returns-then-closed c =
    own_id _ _ _ c.in_ok-verdict_id.ensures
    (past _ _ _ (sym c.outstanding-taken.ensures ∙ c.if-taken.false) (met _ _ _ (eq-eqb _ _ c.if-closed.true)))

pub returns-then-not-known : goal.returns-then-not-known
returns-then-not-known c =
    own_id _ _ _ c.in_ok-verdict_id.ensures
    (past _ _ _ (sym c.outstanding-taken.ensures ∙ c.if-taken.false)
    (past _ _ _ (ne_eqb _ _ c.if-closed.false) (met _ _ _ (unknown-met c.known.ensures (ap not c.if-not-known.true)))))

pub returns-then-r-eq-ADCMD_ALLOCATE : goal.returns-then-r-eq-ADCMD_ALLOCATE
returns-then-r-eq-ADCMD_ALLOCATE c =
    let n = c.args.r.command in
    let h : n < 256 = search rules in
    own_id _ _ _ c.in_ok-verdict_id.ensures
    (past _ _ _ (sym c.outstanding-taken.ensures ∙ c.if-taken.false)
    (past _ _ _ (ne_eqb _ _ c.if-closed.false)
    (past _ _ _ (unknown_past c.known.ensures (ap not c.if-not-known.false))
    (c.bad_list.ensures ∙ sym (ap number_of (reads-list _ _ _ _ _ (sym (allocates_32 n h) ∙ eq-eqb n 32 c.if-r-eq-ADCMD_ALLOCATE.true) (rw (carries_two n, c.if-r-eq-ADCMD_ALLOCATE.true) refl)))))))

pub returns-in_err-bad_map : goal.returns-in_err-bad_map
returns-in_err-bad_map c =
    let n = c.args.r.command in
    let h : n < 256 = search rules in
    let q = map-met _ _ c.in_err-bad_map.ensures in
    let e : number_in c.from_residual-in_err-bad_map.result ≡ number c.in_err-bad_map.field-0.0 = search rules in
    e
    ∙ own_id _ _ _ c.in_ok-verdict_id.ensures
    (past _ _ _ (sym c.outstanding-taken.ensures ∙ c.if-taken.false)
    (past _ _ _ (ne_eqb _ _ c.if-closed.false)
    (past _ _ _ (unknown_past c.known.ensures (ap not c.if-not-known.false))
    (q.1 ∙ reads-map _ _ _ _ _ (sym (allocates_32 n h) ∙ ne_eqb n 32 c.if-r-eq-ADCMD_ALLOCATE.false) q.0))))

pub returns-then-carries : goal.returns-then-carries
returns-then-carries c =
    let n = c.args.r.command in
    let h : n < 256 = search rules in
    own_id _ _ _ c.in_ok-verdict_id.ensures
    (past _ _ _ (sym c.outstanding-taken.ensures ∙ c.if-taken.false)
    (past _ _ _ (ne_eqb _ _ c.if-closed.false)
    (past _ _ _ (unknown_past c.known.ensures (ap not c.if-not-known.false))
    (let d = map_past _ c.in_ok-bad_map.ensures in
    let y : carries (kind n) ≡ true = sym c.carries.ensures ∙ c.if-carries.true in
    rw (reads-numbers _ _ _ _ _ (sym (allocates_32 n h) ∙ ne_eqb n 32 c.if-r-eq-ADCMD_ALLOCATE.false) d, y) c.bad_numbers.ensures))))

pub returns : goal.returns
returns c =
    let n = c.args.r.command in
    let h : n < 256 = search rules in
    own_id _ _ _ c.in_ok-verdict_id.ensures
    (past _ _ _ (sym c.outstanding-taken.ensures ∙ c.if-taken.false)
    (past _ _ _ (ne_eqb _ _ c.if-closed.false)
    (past _ _ _ (unknown_past c.known.ensures (ap not c.if-not-known.false))
    (let d = map_past _ c.in_ok-bad_map.ensures in
    let y : carries (kind n) ≡ false = sym c.carries.ensures ∙ c.if-carries.false in
    rw (reads-numbers _ _ _ _ _ (sym (allocates_32 n h) ∙ ne_eqb n 32 c.if-r-eq-ADCMD_ALLOCATE.false) d, y) (past _ _ _ refl none)))))
