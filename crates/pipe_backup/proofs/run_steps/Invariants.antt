use Rattle.backup_jobs.specs.Going.{Began}
use Rattle.pipe_backup.specs.Piping.{IsPiping}
use Rattle.pipe_backup.proofs.run_steps.Given as goal

abbrev pub invariant-loop : goal.invariant-loop
invariant-loop g l = record {
  piping : (b : Began) → IsPiping b (λ s. g.I.Source.told s) l.fn.keeper l.fn.piping → IsPiping b (λ s. g.I.Source.told s) l.keeper l.piping;
}
