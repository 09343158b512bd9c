use Rattle.std.proofs.Common.{◌≡◌, ◌≤◌, ℕ, List}
use Rattle.std.specs.Prelude.{vec_len, vec_capacity}
use Rattle.vault_types.specs.declared.Line.{Line}
use Rattle.store_model.specs.Steps.{Moment}
use Rattle.keeper_catalog.specs.View.{View}
use Rattle.beside_steps.specs.Holding.{Holds}
use Rattle.beside_jobs.specs.Under.{IsUnder}
use Rattle.keeper_run.proofs.serving.serve.Given as goal

abbrev pub decreases-loop-left : goal.decreases-loop-left
decreases-loop-left g l = l.left

abbrev pub invariant-loop-left : goal.invariant-loop-left
invariant-loop-left g l = record {
  within : l.left ≤ vec_len l.running;
  room : vec_capacity l.running ≡ vec_capacity l.initial.running;
  holds : Holds l.keeper (g.P.Places.told l.places).files l.running.items;
  under : (lines : List Line) (start : Moment View) (i : ℕ)
      → IsUnder l.limits lines start i l.initial.answers.items l.initial.running.items l.initial.keeper (g.P.Places.told l.initial.places)
      → IsUnder l.limits lines start i l.answers.items l.running.items l.keeper (g.P.Places.told l.places);
}
