use Rattle.keeper_driver.specs.Drafts.{HasNoJob}
use Rattle.bench.proofs.store.add_versions.Given as goal

abbrev pub invariant-loop-number : goal.invariant-loop-number
invariant-loop-number l = HasNoJob l.keeper
