use Rattle.commit_laws.proofs.Putting.{abort_core, abort_held, abort_tables}
use Rattle.commit_laws.proofs.ends_keep_a_core.Goals as goal

pub returns-clause-core : goal.returns-clause-core
returns-clause-core c = λ K core. abort_core K core

pub returns-clause-held : goal.returns-clause-held
returns-clause-held c = λ K m held. abort_held K m held

pub returns-clause-tables : goal.returns-clause-tables
returns-clause-tables c = λ K t t' core left are. abort_tables K core t t' left are
