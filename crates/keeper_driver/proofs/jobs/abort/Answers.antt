use Rattle.std.proofs.Common.{refl}
use Rattle.keeper_driver.proofs.Ending.{idle, in_job}
use Rattle.keeper_driver.proofs.jobs.abort.Goals as goal

pub abort-requires-clause-in_job : goal.abort-requires-clause-in_job
abort-requires-clause-in_job g c = in_job _ _ c.requires

pub returns : goal.returns
returns g c = idle _ _ (c.abort.ensures.aborts c.requires.core c.requires.keeps) refl
