use Rattle.script_laws.proofs.Names.{fed_told}
use Rattle.script_laws.proofs.Reading.{some_sources}
use Rattle.script_laws.proofs.reads_are_sources.Goals as goal

pub returns-clause-told : goal.returns-clause-told
returns-clause-told c = fed_told

pub returns-clause-some : goal.returns-clause-some
returns-clause-some c = some_sources
