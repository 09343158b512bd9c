use Rattle.std.proofs.Common.{refl, ◌∙◌}
use Rattle.keeper_driver.proofs.Ending.{begun}
use Rattle.keeper_driver.proofs.jobs.begin.Goals as goal

pub returns : goal.returns
returns g c = record {
  ok = begun _ _ c.requires _ c.in_ok-set.field-0 c.args.set c.in_ok-set.ensures.ok c.in_ok-set.ensures.lent.0 refl refl refl refl (c.from_vec.ensures ∙ c.new.ensures.items);
  err = tt;
}
