use Rattle.std.proofs.Common.{◌∙◌}
use Rattle.keeper_driver.proofs.Holding.{known, left}
use Rattle.keeper_driver.proofs.pinning.release.Goals as goal

pub release-requires : goal.release-requires
release-requires g c = known _ _ _ c.requires

pub returns : goal.returns
returns g c = record {
  idle = record { core = _; keeps = c.release.ensures.releases c.requires.core c.requires.keeps; no_job = c.release.ensures.same.1 ∙ c.requires.no_job };
  others = λ n spots other is. left _ _ n _ spots is _ other (c.release.ensures.releases is.core is.keeps) c.release.ensures.same.1;
}
