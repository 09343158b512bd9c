use Rattle.beside_laws.proofs.Alone.{alone_own, alone_got, alone_output}
use Rattle.beside_laws.proofs.a_restore_beside_answers_as_alone.Goals as goal

pub returns-clause-own : goal.returns-clause-own
returns-clause-own g c = λ limits p k old new w v result number call is met.
    alone_own g.K.PinnedKeeper.keeps limits p (g.K.PinnedKeeper.keeps k) (g.K.PinnedKeeper.strays p.from) (g.K.PinnedKeeper.strays k) old new w v result number call is met

pub returns-clause-got : goal.returns-clause-got
returns-clause-got g c = λ limits p k old new w v result number more call is none all few.
    alone_got g.K.PinnedKeeper.keeps limits p (g.K.PinnedKeeper.keeps k) (g.K.PinnedKeeper.strays p.from) (g.K.PinnedKeeper.strays k) old new w v result number call is more none all few

pub returns-clause-output : goal.returns-clause-output
returns-clause-output g c = λ limits p k old new w v result number a b kept call is empty changed.
    alone_output g.K.PinnedKeeper.keeps limits p (g.K.PinnedKeeper.keeps k) (g.K.PinnedKeeper.strays p.from) (g.K.PinnedKeeper.strays k) old new w v result number call is kept a b empty changed
