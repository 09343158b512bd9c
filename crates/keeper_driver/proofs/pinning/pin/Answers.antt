use Rattle.keeper_driver.proofs.Holding.{begins, beside, apart}
use Rattle.keeper_driver.proofs.pinning.pin.Goals as goal

pub returns-in-Ok : goal.returns-in-Ok
returns-in-Ok g c = record {
  pinned =
      let at = c.in-Ok.ensures.pinned c.requires.core c.requires.keeps in
      begins _ _ c.requires _ _ at.0 at.1 at.3 c.in-Ok.ensures.lists c.pin.ensures.same.2;
  others = λ n spots is.
      let at = c.in-Ok.ensures.pinned is.core is.keeps in
      (beside _ _ n spots is at.0 at.3 c.pin.ensures.same.2, apart _ n _ spots is c.in-Ok.ensures.fresh);
}
