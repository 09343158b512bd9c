use Rattle.std.proofs.Common.{arith, ap, length}
use Rattle.container_store.proofs.TableLemmas.{few_rows}
use Rattle.container_store.proofs.encode_table.Goals as goal

pub overflow_cast-rows : goal.overflow_cast-rows
overflow_cast-rows c = omega (arith, few_rows c.args.table.now c.requires, ap length c.as_slice-rows.ensures)
