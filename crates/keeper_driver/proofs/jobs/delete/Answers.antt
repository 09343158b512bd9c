use Rattle.std.proofs.Common.{⊎_elim, refl}
use Rattle.keeper_driver.proofs.Ending.{idle, idle_job}
use Rattle.keeper_driver.proofs.jobs.delete.Goals as goal

pub returns-in-Ok : goal.returns-in-Ok
returns-in-Ok g c = idle _ _ (c.in-Ok.ensures.ok c.requires.core c.requires.keeps).2 (idle_job _ c.requires)

pub returns-in-Err : goal.returns-in-Err
returns-in-Err g c = ⊎_elim
    (λ still. idle _ _ still.keeps (idle_job _ c.requires))
    (λ half. idle _ _ half.keeps refl)
    (c.in-Err.ensures.err c.requires.core c.requires.keeps)
