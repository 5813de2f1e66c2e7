-- `grant` meets its contract: the named channels' writes go and who waits for them, then the channels change hands. Assumes nothing.
use mathlib.Core.Path.{refl, ◌∙◌}
use Rattle.keys.specs.machine.Granting.{key_for, taken}
use Rattle.keys.specs.store.Store.{state_in}
use Rattle.granting.proofs.Laws.{dropping_all, cuts_all, grant-struct, grant-table}
use borrow.Author.Rules.{rules}
use Rattle.granting.proofs.grant.Goals as goal

pub drop_named-d-requires : goal.drop_named-d-requires
drop_named-d-requires c = dropping_all c.args.map (search rules) c.requires (taken 0 0) (λ x. unfold taken in refl)

pub returns : goal.returns
returns c =
    let a = c.args in
    let h = c.requires.held in
    let k = c.key_for-k.ensures in
    let d = cuts_all a.map (search rules) c.requires (taken (key_for a.key (state_in a.s a.table.now)) a.prec) (λ x. unfold taken in refl) c.drop_named-d.ensures in
    record {
      did = record {
        struct = c.taking-t.ensures ∙ (rw c.change_named-ds.ensures (grant-struct a.map a.key a.prec _ h k d));
        table = grant-table a.map a.key a.prec _ h k d;
        list = d.list;
        count = d.count;
      };
      given = k;
    }
