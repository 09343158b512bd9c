use Rattle.std.proofs.Common.{◌≡◌, ℕ, List}
use Rattle.std.specs.Prelude.{vec_capacity}
use Rattle.vault_types.specs.declared.Line.{Line}
use Rattle.store_model.specs.Steps.{Moment}
use Rattle.keeper_catalog.specs.View.{View}
use Rattle.beside_steps.specs.Holding.{Holds}
use Rattle.beside_jobs.specs.Under.{IsUnder}
use Rattle.keeper_run.proofs.serving.serve_until.Given as goal

abbrev pub invariant-loop : goal.invariant-loop
invariant-loop g l = record {
  room : vec_capacity l.running ≡ vec_capacity l.initial.running;
  holds : Holds l.keeper (g.P.Places.told l.places).files l.running.items;
  under : (lines : List Line) (start : Moment View) (i : ℕ)
      → IsUnder l.limits lines start i l.initial.answers.items l.initial.running.items l.initial.keeper (g.P.Places.told l.initial.places)
      → IsUnder l.limits lines start i l.answers.items l.running.items l.keeper (g.P.Places.told l.places);
}
