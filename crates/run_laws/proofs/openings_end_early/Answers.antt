use Rattle.run_laws.proofs.Openings.{ends}
use Rattle.run_laws.proofs.openings_end_early.Goals as goal

pub returns : goal.returns
returns c = λ words limits before now input answers f can batch ended. ends words limits before now input answers f can batch ended
