use Rattle.std.proofs.Common.{take}
use Rattle.fp_index.specs.Lists.{ids_in, without}
use Rattle.fp_index.proofs.Ids.{IsAscending-without}
use Rattle.fp_index.proofs.Entries.{done-more, ascend-done, without-twice}
use Rattle.fp_index.proofs.lists.take_rows.Goals as goal

pub take_id-requires : goal.take_id-requires
take_id-requires c =
    ascend-done (without c.args.id) c.args.containers.now.entries c.loop-row.containers.entries (take c.loop-row.row-index c.args.rows.now) (IsAscending-without c.args.id) c.requires c.loop-row.invariant

pub loop-row-preserved : goal.loop-row-preserved
loop-row-preserved c =
    done-more (without c.args.id) c.args.containers.now.entries c.loop-row.containers.entries c.take_id.new.containers.entries c.args.rows.now c.loop-row.row-index _ c.loop-row-test.true
    (λ f. without-twice c.args.id (ids_in c.args.containers.now.entries f) (c.requires f)) c.loop-row.invariant c.take_id.ensures
