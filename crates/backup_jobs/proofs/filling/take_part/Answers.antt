use Rattle.backup_jobs.specs.Going.{part_of}
use Rattle.backup_jobs.proofs.Parts.{took_part}
use Rattle.backup_jobs.proofs.filling.take_part.Goals as goal

pub returns : goal.returns
returns c b gone parts h room = took_part b _ _ gone parts (part_of c.args.decided) h room c.push.result c.push.ensures.filled c.push.ensures.capacity
