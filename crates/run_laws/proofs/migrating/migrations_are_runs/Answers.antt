use Rattle.run_laws.proofs.MigrateRuns.{migrate_run}
use Rattle.run_laws.proofs.migrating.migrations_are_runs.Goals as goal

pub returns : goal.returns
returns g c = migrate_run g.K.StateKeeper.shelf g.K.StateKeeper.keeps g.K.StateKeeper.strays g.K.StateKeeper.keeps_is g.K.StateKeeper.strays_known
