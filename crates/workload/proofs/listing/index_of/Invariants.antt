use Rattle.workload.proofs.Placing.{SearchedTo}
use Rattle.workload.proofs.listing.index_of.Given as goal

abbrev pub invariant-loop-i : goal.invariant-loop-i
invariant-loop-i l = SearchedTo l.places l.name l.i
