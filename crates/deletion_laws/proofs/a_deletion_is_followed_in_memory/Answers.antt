use Rattle.deletion_laws.proofs.Keeping.{delete_sets}
use Rattle.deletion_laws.proofs.Indexing.{delete_index}
use Rattle.deletion_laws.proofs.Tabling.{delete_tables}
use Rattle.deletion_laws.proofs.a_deletion_is_followed_in_memory.Goals as goal

pub returns-clause-sets : goal.returns-clause-sets
returns-clause-sets c = λ S s n valid below low. delete_sets S s n valid below low

pub returns-clause-index : goal.returns-clause-index
returns-clause-index c = λ S s n valid. delete_index S s n valid

pub returns-clause-tables : goal.returns-clause-tables
returns-clause-tables c = λ K s n strays before after core no_job are goes. delete_tables K s n strays core no_job before after are goes
