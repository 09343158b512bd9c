use Rattle.run_laws.proofs.Filled.{no_fault}
use Rattle.run_laws.proofs.fills_open_and_read_all.Goals as goal

pub returns : goal.returns
returns c = λ in_order seed versions limits before now answers f runs. no_fault in_order seed versions limits before now answers f runs
