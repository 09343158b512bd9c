use Rattle.deletion_laws.proofs.Releasing.{release_core, release_held, release_idle, release_tables}
use Rattle.deletion_laws.proofs.a_release_keeps_a_core.Goals as goal

pub returns-clause-done : goal.returns-clause-done
returns-clause-done c = λ K number strays core. release_core K number strays core

pub returns-clause-held : goal.returns-clause-held
returns-clause-held c = λ K number strays m core are held. release_held K number core strays are m held

pub returns-clause-may_go : goal.returns-clause-may_go
returns-clause-may_go c = λ K number q core goes. (release_idle K number core q goes).0

pub returns-clause-not_put : goal.returns-clause-not_put
returns-clause-not_put c = λ K number q core goes put. (release_idle K number core q goes).1 put

pub returns-clause-tables : goal.returns-clause-tables
returns-clause-tables c = λ K number strays before after core alike are goes. release_tables K number core alike strays before after are goes
