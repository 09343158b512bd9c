use Rattle.keeper_driver.specs.Drafts.{IsDraft}
use Rattle.keeper_driver.proofs.jobs.fill.Given as goal

abbrev pub invariant-loop-chunk : goal.invariant-loop-chunk
invariant-loop-chunk g l = IsDraft l.keeper l.draft

abbrev pub invariant-loop-payload : goal.invariant-loop-payload
invariant-loop-payload g l = IsDraft l.keeper l.draft
