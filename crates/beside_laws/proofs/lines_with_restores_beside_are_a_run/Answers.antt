use Rattle.beside_laws.proofs.Whole.{runs_at_end, stands_at}
use Rattle.beside_laws.proofs.lines_with_restores_beside_are_a_run.Goals as goal

pub returns-clause-run : goal.returns-clause-run
returns-clause-run g c = λ limits lines old new answers known under. runs_at_end g.K.PinnedKeeper.shelf g.K.PinnedKeeper.keeps g.K.PinnedKeeper.strays g.K.PinnedKeeper.keeps_is limits lines old answers new known under

pub returns-clause-there : goal.returns-clause-there
returns-clause-there g c = λ limits lines old new i answers first p later under. stands_at g.K.PinnedKeeper.shelf g.K.PinnedKeeper.keeps g.K.PinnedKeeper.strays g.K.PinnedKeeper.keeps_is limits lines old i answers first p later new under
