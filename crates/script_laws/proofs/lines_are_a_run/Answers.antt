use Rattle.script_laws.proofs.Composed.{runs_of_chain}
use Rattle.script_laws.proofs.lines_are_a_run.Goals as goal

pub returns : goal.returns
returns g c = λ limits old new lines answers apart chain. runs_of_chain g.K.StateKeeper.shelf g.K.StateKeeper.keeps g.K.StateKeeper.strays g.K.StateKeeper.keeps_is g.K.StateKeeper.strays_known limits old new lines answers apart chain
