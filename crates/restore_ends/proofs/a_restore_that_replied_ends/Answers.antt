use Rattle.restore_ends.proofs.Closes.{ends_restore}
use Rattle.restore_ends.proofs.a_restore_that_replied_ends.Goals as goal

pub returns : goal.returns
returns g c = λ limits old new p v u now number loads a sent r sink t entry h becomes fresh empty leaves gets changed place read write.
    ends_restore g.K.PinnedKeeper.shelf g.K.PinnedKeeper.keeps g.K.PinnedKeeper.strays limits old new p v u now number loads a sent r sink t entry h becomes fresh empty leaves gets changed place read write
