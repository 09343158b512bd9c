use Rattle.run_laws.proofs.Openings.{batch_run}
use Rattle.run_laws.proofs.scripts_are_batches.Goals as goal

pub returns : goal.returns
returns c = λ words limits before now input answers lines f queue lanes workers in_order is script read within ran. batch_run words limits before now input answers in_order lines f queue lanes workers is script read within ran
