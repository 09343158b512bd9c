use Rattle.commit_laws.proofs.Putting.{put_core, put_tables}
use Rattle.commit_laws.proofs.puts_keep_a_core.Goals as goal

pub returns-clause-core : goal.returns-clause-core
returns-clause-core c = λ K job d strays core open_job number table payload. put_core K job d core open_job number strays table payload

pub returns-clause-tables : goal.returns-clause-tables
returns-clause-tables c = λ K job d strays t t' core open_job number made are. put_tables K job d core open_job number t t' strays made are
