use Rattle.vault_types.specs.declared.Fault.TheVariants as fault
use Rattle.backup_jobs.specs.Going.{IsStopped}
use Rattle.backup_jobs.proofs.Jobs.{stopped_again}
use Rattle.backup_jobs.proofs.Causes.{concludes, memory_stops, over_ok, over_err}
use Rattle.backup_jobs.proofs.closing.conclude_all.Goals as goal

pub returns-in-Err-clause-err : goal.returns-in-Err-clause-err
returns-in-Err-clause-err g c b to j over = over_err b c.args.keeper.now to c.args.lens.now c.args.ended c.in-Err.fault over c.in-Err.is

pub conclude-requires : goal.conclude-requires
conclude-requires g c =
    let all = over_ok c.requires.0 c.args.keeper.now c.requires.1 c.args.lens.now c.args.ended c.in-Ok.ended c.requires.3 c.in-Ok.is in
    (c.requires.0, all.read, c.requires.2, all.ended)

pub returns-in_err-conclude-in-Ok-clause-err : goal.returns-in_err-conclude-in-Ok-clause-err
returns-in_err-conclude-in-Ok-clause-err g c b to j over =
    stopped_again (IsStopped b c.args.keeper.now to) c.from_residual.result fault.Memory c.from_residual.ensures.1
    (memory_stops b c.args.keeper.now to c.args.lens.now c.in-Ok.ended (over_ok b c.args.keeper.now to c.args.lens.now c.args.ended c.in-Ok.ended over c.in-Ok.is))

pub returns-in_ok-conclude-in-Ok-clause-ok : goal.returns-in_ok-conclude-in-Ok-clause-ok
returns-in_ok-conclude-in-Ok-clause-ok g c b to j over =
    let all = over_ok b c.args.keeper.now to c.args.lens.now c.args.ended c.in-Ok.ended over c.in-Ok.is in
    concludes b c.args.keeper.now to c.args.lens.now c.in-Ok.ended all c.in_ok-conclude-in-Ok.field-0 (c.in_ok-conclude-in-Ok.ensures b all.read j all.ended)
