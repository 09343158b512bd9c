use Rattle.std.proofs.Common.{◌≡◌}
use Rattle.std.specs.Prelude.{vec_capacity}
use Rattle.backup_jobs.specs.Going.{Began}
use Rattle.pipe_backup.specs.Piping.{IsPiping}
use Rattle.beside_jobs.specs.Beside.{Reached, IsBeside}
use Rattle.beside_jobs.proofs.stream.turn_to_end.Given as goal

abbrev pub invariant-loop : goal.invariant-loop
invariant-loop g l = record {
  room : vec_capacity l.running ≡ vec_capacity l.initial.running;
  beside : (r : Reached) (first : Began)
      → IsBeside r first l.initial.running.items (λ b. IsPiping b (λ s. g.I.Source.told s) l.initial.keeper l.initial.piping)
      → IsBeside r first l.running.items (λ b. IsPiping b (λ s. g.I.Source.told s) l.keeper l.piping);
}
