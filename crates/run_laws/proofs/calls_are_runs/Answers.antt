use Rattle.run_laws.proofs.OneLineRuns.{backup_run, delete_run, restore_run}
use Rattle.run_laws.proofs.calls_are_runs.Goals as goal

pub returns-clause-backup : goal.returns-clause-backup
returns-clause-backup g c = backup_run g.K.StateKeeper.shelf g.K.StateKeeper.keeps g.K.StateKeeper.strays g.K.StateKeeper.keeps_is g.K.StateKeeper.strays_known

pub returns-clause-restore : goal.returns-clause-restore
returns-clause-restore g c = restore_run g.K.StateKeeper.shelf g.K.StateKeeper.keeps g.K.StateKeeper.strays g.K.StateKeeper.keeps_is g.K.StateKeeper.strays_known

pub returns-clause-delete : goal.returns-clause-delete
returns-clause-delete g c = delete_run g.K.StateKeeper.shelf g.K.StateKeeper.keeps g.K.StateKeeper.strays g.K.StateKeeper.keeps_is g.K.StateKeeper.strays_known
