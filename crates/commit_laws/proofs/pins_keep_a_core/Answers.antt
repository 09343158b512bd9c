use Rattle.commit_laws.proofs.Pinned.{pin_core, pin_tables, pin_held}
use Rattle.commit_laws.proofs.pins_keep_a_core.Goals as goal

pub returns-clause-core : goal.returns-clause-core
returns-clause-core c = λ K number set version ids core fresh. pin_core K core number set version ids fresh

pub returns-clause-tables : goal.returns-clause-tables
returns-clause-tables c = λ K number set version ids tables core are. pin_tables K core number set version ids tables are

pub returns-clause-held : goal.returns-clause-held
returns-clause-held c = λ K number set version ids m core held. pin_held K core number set version ids m held
