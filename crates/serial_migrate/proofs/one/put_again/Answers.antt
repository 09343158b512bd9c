use Rattle.serial_migrate.proofs.Ones.{put_results, put_refusals, put_faults}
use Rattle.serial_migrate.proofs.one.put_again.Goals as goal

pub returns-clause-ok : goal.returns-clause-ok
returns-clause-ok g c = put_results c.args.keeper.now c.sum_of.new.keeper c.replace.new.self c.args.set c.args.version c.replace.result c.replace.ensures c.in_ok-sum.ensures.ok

pub returns-clause-err : goal.returns-clause-err
returns-clause-err g c = put_refusals c.args.keeper.now c.sum_of.new.keeper c.replace.new.self c.args.set c.args.version c.replace.result c.replace.ensures c.in_ok-sum.ensures.ok c.ranges.set.fits c.in_ok-sum.ensures.kept

pub returns-clause-cause : goal.returns-clause-cause
returns-clause-cause g c = put_faults c.args.keeper.now c.sum_of.new.keeper c.replace.new.self c.args.set c.args.version c.replace.result c.replace.ensures c.sum_of.ensures.later.later c.ranges.set.fits c.in_ok-sum.ensures.kept
