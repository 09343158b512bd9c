use Rattle.keeper_catalog.proofs.Ids.{each_more, ascending_more, all_rows_of}
use Rattle.keeper_catalog.proofs.ids_in.Goals as goal

pub loop-row-preserved : goal.loop-row-preserved
loop-row-preserved c = record {
  each = each_more c.args.rows.now c.loop-row.row-index _ c.loop-row-test.true c.loop-row.ids.keys _ c.in_ok-insert.ensures.keys c.loop-row.invariant.each;
  ascending = ascending_more c.args.rows.now c.loop-row.row-index _ c.loop-row-test.true c.loop-row.ids.keys _ c.in_ok-insert.ensures.keys c.loop-row.invariant.each c.loop-row.invariant.ascending;
}

pub returns : goal.returns
returns c = all_rows_of c.args.rows.now c.loop-row.row-index c.loop-row.ids.keys c.loop-row-test.false c.loop-row.invariant.ascending c.loop-row.invariant.each
