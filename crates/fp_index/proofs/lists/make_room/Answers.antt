use Rattle.std.proofs.Common.{◌∙◌, take}
use Rattle.fp_index.proofs.Entries.{rows-more, rows-kept}
use Rattle.fp_index.proofs.lists.make_room.Goals as goal

pub loop-row-preserved : goal.loop-row-preserved
loop-row-preserved c = record {
  same = λ f. c.make_room_at.ensures.same f ∙ c.loop-row.invariant.same f;
  room = rows-more c.make_room_at.new.containers.entries c.args.id c.args.rows.now c.loop-row.row-index _ c.loop-row-test.true
      (rows-kept c.loop-row.containers.entries c.make_room_at.new.containers.entries c.args.id (take c.loop-row.row-index c.args.rows.now) c.make_room_at.ensures.others c.loop-row.invariant.room)
      c.in_ok-make_room_at.ensures.room;
}
