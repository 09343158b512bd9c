use Rattle.std.proofs.Common.{[], sym, subst, arith}
use Rattle.row_spots.proofs.Building.{IsBuilt, built_none, row_fits, row_more, built_all}
use Rattle.row_spots.proofs.offsets.ChunkSpans.of_rows.Goals as goal

pub loop-row-init : goal.loop-row-init
loop-row-init c = subst (λ es. IsBuilt es 0 c.args.rows.now c.args.rows.now) (sym c.new-chunks.ensures.empty) (built_none c.args.rows.now c.requires.total c.requires.differ)

pub overflow_add-at : goal.overflow_add-at
overflow_add-at c = omega (arith, row_fits c.loop-row.chunks.entries c.loop-row.at c.loop-row.row-index (record { fp = record { 0 = [] }; len = 0 }) c.args.rows.now c.loop-row-test.true c.loop-row.invariant)

pub loop-row-preserved : goal.loop-row-preserved
loop-row-preserved c = row_more c.loop-row.chunks.entries _ c.loop-row.at c.loop-row.row-index _ c.args.rows.now c.loop-row-test.true c.loop-row.invariant c.in_ok-insert.ensures.updates.0

pub returns : goal.returns
returns c = λ f. built_all c.loop-row.chunks.entries c.loop-row.at c.loop-row.row-index c.args.rows.now c.loop-row-test.false c.loop-row.invariant f
