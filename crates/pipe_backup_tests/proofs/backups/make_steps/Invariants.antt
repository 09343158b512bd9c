use Rattle.backup_jobs.specs.Going.{Began}
use Rattle.pipe_backup.specs.Piping.{IsPiping}
use Rattle.pipe_backup_tests.proofs.backups.make_steps.Given as goal

abbrev pub invariant-loop : goal.invariant-loop
invariant-loop g l = (b : Began) × IsPiping b (λ s. g.I.Source.told s) l.keeper l.piping
