use Rattle.std.proofs.Common.{◌-◌, ◌^◌, ◌<◌, length}
use Rattle.scrub.specs.Walking.{IsUnderway}
use Rattle.scrub.proofs.Steps.{IsOver}
use Rattle.scrub.proofs.beside.scrub_on.Given as goal

-- what is found of the containers that were passed is noted, but of those whose checks run
abbrev pub invariant-loop-running : goal.invariant-loop-running
invariant-loop-running g l = IsUnderway l.fn.keeper l.keeper l.passed l.findings l.running.items × (l.passed < 2 ^ 64)

abbrev pub decreases-loop-running : goal.decreases-loop-running
decreases-loop-running g l = 2 ^ 64 - l.passed

-- all were passed
abbrev pub invariant-loop-running-2 : goal.invariant-loop-running-2
invariant-loop-running-2 g l = IsOver l.fn.keeper l.keeper l.findings l.running.items

abbrev pub decreases-loop-running-2 : goal.decreases-loop-running-2
decreases-loop-running-2 g l = length l.running.items
