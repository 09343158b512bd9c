use Rattle.std.proofs.Common.{take}
use Rattle.vault_types.specs.Lists.{with_number}
use Rattle.vault_types.proofs.SetLemmas.{IsAscending-with_number}
use Rattle.fp_index.specs.Lists.{ids_in}
use Rattle.fp_index.proofs.Entries.{done-more, ascend-done, with_number-twice, rows-room, rows-kept}
use Rattle.fp_index.proofs.lists.add_rows.Goals as goal

pub add_id-requires-clause-ascend : goal.add_id-requires-clause-ascend
add_id-requires-clause-ascend c =
    ascend-done (with_number c.args.id) c.args.containers.now.entries c.loop-row.containers.entries (take c.loop-row.row-index c.args.rows.now) (IsAscending-with_number c.args.id) c.requires.ascend c.loop-row.invariant.done

pub add_id-requires-clause-room : goal.add_id-requires-clause-room
add_id-requires-clause-room c = rows-room c.loop-row.containers.entries c.args.id c.args.rows.now c.loop-row.row-index _ c.loop-row-test.true c.loop-row.invariant.room

pub loop-row-preserved : goal.loop-row-preserved
loop-row-preserved c = record {
  done = done-more (with_number c.args.id) c.args.containers.now.entries c.loop-row.containers.entries c.add_id.new.containers.entries c.args.rows.now c.loop-row.row-index _ c.loop-row-test.true
      (λ f. with_number-twice c.args.id (ids_in c.args.containers.now.entries f) (c.requires.ascend f)) c.loop-row.invariant.done c.add_id.ensures.ids;
  room = rows-kept c.loop-row.containers.entries c.add_id.new.containers.entries c.args.id c.args.rows.now c.add_id.ensures.room c.loop-row.invariant.room;
}
