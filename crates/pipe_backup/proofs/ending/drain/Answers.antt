use Rattle.std.proofs.Common.{◌∷◌, ◌++◌, []}
use Rattle.pipe_backup.proofs.Flows.{part_behind, begun_still}
use Rattle.pipe_backup.proofs.ending.drain.Goals as goal

pub loop-preserved-in_default : goal.loop-preserved-in_default
loop-preserved-in_default g c =
    let i = c.loop.invariant in
    record {
      taken = (i.taken.0 ++ c.in_default.field-0 ∷ [], part_behind c.loop.job c.next-in-loop.new.self c.next-in-loop.result c.next-in-loop.ensures c.args.job.now.taken i.taken.0 c.in_default.field-0 i.taken.1 c.in_default.ensures);
      same = begun_still c.loop.job c.next-in-loop.new.self c.next-in-loop.result c.next-in-loop.ensures c.args.job.now i.same;
    }
