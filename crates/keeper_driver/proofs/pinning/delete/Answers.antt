use Rattle.std.proofs.Common.{⊎_elim, refl}
use Rattle.keeper_driver.proofs.Holding.{goes_on}
use Rattle.keeper_driver.proofs.pinning.delete.Goals as goal

pub returns-in-Ok : goal.returns-in-Ok
returns-in-Ok g c n spots is = goes_on _ _ n spots is _ (c.in-Ok.ensures.ok is.core is.keeps).2 c.delete_through.ensures.same.0 refl

pub returns-in-Err : goal.returns-in-Err
returns-in-Err g c n spots is = ⊎_elim
    (λ still. goes_on _ _ n spots is _ still.keeps c.delete_through.ensures.same.0 refl)
    (λ half. goes_on _ _ n spots is _ half.keeps c.delete_through.ensures.same.0 refl)
    (c.in-Err.ensures.err is.core is.keeps)
