use Rattle.std.proofs.Common.{◌≡◌, ℕ, List, ◌++◌, length}
use Rattle.fingerprint_stage.specs.Sums.{HasSummed}
use Rattle.workload.proofs.sums.sum_of_rest.Given as goal

abbrev pub invariant-pieces : goal.invariant-pieces
invariant-pieces l = (done : List ℕ) × HasSummed l.sum done × (done ++ l.source ≡ l.fn.source)

abbrev pub decreases-pieces : goal.decreases-pieces
decreases-pieces l = length l.source
