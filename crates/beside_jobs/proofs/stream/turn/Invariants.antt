use Rattle.std.proofs.Common.{◌≡◌, ◌≤◌}
use Rattle.std.specs.Prelude.{vec_len, vec_capacity}
use Rattle.backup_jobs.specs.Going.{Began}
use Rattle.pipe_backup.specs.Piping.{IsPiping}
use Rattle.beside_jobs.specs.Beside.{Reached, IsBeside}
use Rattle.beside_jobs.proofs.stream.turn.Given as goal

abbrev pub decreases-loop-left : goal.decreases-loop-left
decreases-loop-left g l = l.left

abbrev pub invariant-loop-left : goal.invariant-loop-left
invariant-loop-left g l = record {
  within : l.left ≤ vec_len l.running;
  room : vec_capacity l.running ≡ vec_capacity l.initial.running;
  beside : (r : Reached) (first : Began)
      → IsBeside r first l.initial.running.items (λ b. IsPiping b (λ s. g.I.Source.told s) l.initial.keeper l.initial.piping)
      → IsBeside r first l.running.items (λ b. IsPiping b (λ s. g.I.Source.told s) l.keeper l.initial.piping);
}
