use Rattle.std.proofs.Common.{◌-◌, ◌^◌, ◌<◌, []}
use Rattle.scrub.specs.Walking.{IsUnderway}
use Rattle.scrub.proofs.plain.scrub_plain.Given as goal

-- what is found of the containers that were passed is noted
abbrev pub invariant-loop-findings : goal.invariant-loop-findings
invariant-loop-findings g l = IsUnderway l.fn.keeper l.keeper l.passed l.findings [] × (l.passed < 2 ^ 64)

abbrev pub decreases-loop-findings : goal.decreases-loop-findings
decreases-loop-findings g l = 2 ^ 64 - l.passed
