use Rattle.std.proofs.Common.{refl}
use Rattle.commit_laws.specs.Laws.{said}
use Rattle.commit_laws.proofs.Looking.{commit_tables}
use Rattle.commit_laws.proofs.Marking.{commit_markers, commit_sets, commit_versions}
use Rattle.commit_laws.proofs.commits_keep_the_memory.Goals as goal

pub returns-clause-tables : goal.returns-clause-tables
returns-clause-tables c = λ K job r strays tables core can are. commit_tables K job core can.open_job tables (said K job r) strays are

pub returns-clause-marks : goal.returns-clause-marks
returns-clause-marks c = λ K job r marks core can are. commit_markers K.state job r (said K job r) core.state can.in_range refl can.version marks are

pub returns-clause-sets : goal.returns-clause-sets
returns-clause-sets c = λ K job r core can. commit_sets K.state job r (said K job r) core.state refl refl can.version

pub returns-clause-versions : goal.returns-clause-versions
returns-clause-versions c = λ K job r core can. commit_versions K.state job (said K job r) core.state can.in_range
