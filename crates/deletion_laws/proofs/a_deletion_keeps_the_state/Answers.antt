use Rattle.deletion_laws.proofs.Keeping.{delete_valid, delete_next, delete_same}
use Rattle.deletion_laws.proofs.a_deletion_keeps_the_state.Goals as goal

pub returns-clause-valid : goal.returns-clause-valid
returns-clause-valid c = λ S s n valid below low. delete_valid S s n valid below low

pub returns-clause-next : goal.returns-clause-next
returns-clause-next c = λ S s n valid below low. delete_next S s n valid below low

pub returns-clause-same : goal.returns-clause-same
returns-clause-same c = λ S s n valid even. delete_same S s n valid even
