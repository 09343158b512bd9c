use Rattle.fp_index.specs.Lists.{without}
use Rattle.fp_index.proofs.Ids.{IsAscending-without}
use Rattle.fp_index.proofs.Entries.{ascend-done}
use Rattle.fp_index.proofs.Tables.{index-dropped}
use Rattle.fp_index.proofs.Index.drop_container.Goals as goal

pub invariant_of-self : goal.invariant_of-self
invariant_of-self c =
    ascend-done (without c.args.table.now.id) c.self.inside.containers.entries c.take_rows.new.containers.entries c.as_slice.result.now (IsAscending-without c.args.table.now.id) c.self.invariant c.take_rows.ensures

pub returns : goal.returns
returns c = λ tables h one.
    index-dropped c.self.inside.containers.entries c.take_rows.new.containers.entries c.args.self.now tables c.as_slice.result.now c.args.table.now c.self.view_is c.take_rows.ensures c.as_slice.ensures h one
