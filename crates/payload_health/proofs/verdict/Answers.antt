use Rattle.std.proofs.Common.{arith, ap, length}
use Rattle.payload_health.proofs.Comparing.{few_rows}
use Rattle.payload_health.proofs.verdict.Goals as goal

pub chunk_health-requires-clause-few : goal.chunk_health-requires-clause-few
chunk_health-requires-clause-few c = omega (arith, few_rows c.args.table.now c.requires, ap length c.as_slice-rows.ensures)
