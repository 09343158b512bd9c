use Rattle.std.proofs.Common.{None}
use Rattle.store_model.specs.Leaves.{Begins}
use Rattle.store_model.specs.Strays.{StraysOf}
use Rattle.run_laws.proofs.Earlier.{runs_opened}
use Rattle.run_laws.proofs.openings_change_no_run.Goals as goal

pub returns : goal.returns
returns g c = λ in_order limits lines answers old new k before now same told begins runs.
    runs_opened in_order limits lines answers old (g.K.StateKeeper.shelf k) new before now (λ S. g.K.StateKeeper.keeps k S None) (Begins old) (λ S. g.K.StateKeeper.strays k) (StraysOf old) same begins told runs
