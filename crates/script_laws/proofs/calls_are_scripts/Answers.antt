use Rattle.script_laws.proofs.OneLine.{one_line_means}
use Rattle.script_laws.proofs.calls_are_scripts.Goals as goal

pub returns : goal.returns
returns g c = λ limits sources S k k' line answer keep step. one_line_means g.K.StateKeeper.shelf g.K.StateKeeper.keeps g.K.StateKeeper.strays g.K.StateKeeper.keeps_is g.K.StateKeeper.strays_known limits sources S k k' line answer keep step
