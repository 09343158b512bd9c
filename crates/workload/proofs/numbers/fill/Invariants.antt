use Rattle.std.proofs.Common.{length, ◌-◌, ◌≡◌, ◌≤◌, take}
use Rattle.vault_types.specs.Generator.{bytes_from}
use Rattle.workload.specs.Numbers.{number_after}
use Rattle.workload.proofs.numbers.fill.Given as goal

abbrev pub invariant-loop-at : goal.invariant-loop-at
invariant-loop-at l = (l.at ≤ length l.buf) × (length l.buf ≡ length l.initial.buf) × (l.last ≡ number_after l.number l.at) × (take l.at l.buf ≡ bytes_from l.number l.at)

abbrev pub decreases-loop-at : goal.decreases-loop-at
decreases-loop-at l = length l.initial.buf - l.at
