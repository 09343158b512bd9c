use Rattle.std.proofs.Common.{sym, subst}
use Rattle.vault_types.specs.Lists.{with_number, IsAscending}
use Rattle.vault_types.proofs.SetLemmas.{IsAscending-with_number}
use Rattle.fp_index.proofs.Entries.{ascend-done}
use Rattle.fp_index.proofs.Tables.{index-added}
use Rattle.fp_index.proofs.Index.add_container.Goals as goal

pub invariant_of-self-2 : goal.invariant_of-self-2
invariant_of-self-2 c =
    ascend-done (with_number c.args.table.now.id) c.make_room.new.containers.entries c.add_rows.new.containers.entries c.as_slice-2.result.now (IsAscending-with_number c.args.table.now.id)
    (λ f. subst IsAscending (sym (c.make_room.ensures.same f)) (c.self.invariant f)) c.add_rows.ensures

pub returns-clause-added : goal.returns-clause-added
returns-clause-added c = λ tables h.
    index-added c.self.inside.containers.entries c.make_room.new.containers.entries c.add_rows.new.containers.entries c.args.self.now tables c.as_slice-2.result.now c.args.table.now
    c.self.view_is c.make_room.ensures.same c.add_rows.ensures c.as_slice-2.ensures h
