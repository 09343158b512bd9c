use Rattle.std.proofs.Common.{arith}
use Rattle.backup_jobs.proofs.Lens.{whole_len}
use Rattle.backup_jobs.proofs.putting.payload_len.Goals as goal

pub overflow_cast-result : goal.overflow_cast-result
overflow_cast-result c =
    omega (arith, whole_len c.args.sealed.now.table c.payload.result.now c.payload.ensures.whole, c.table-table.ensures.rules.total)

pub returns : goal.returns
returns c = whole_len c.args.sealed.now.table c.payload.result.now c.payload.ensures.whole
