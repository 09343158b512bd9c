use Rattle.std.proofs.Common.{◌≡◌, ◌++◌, map}
use Rattle.std.specs.List.{range_with_len}
use Rattle.workload.specs.Places.{source}
use Rattle.workload.proofs.listing.add_sources.Given as goal

abbrev pub invariant-loop-earlier : goal.invariant-loop-earlier
invariant-loop-earlier l = l.places.items ≡ l.fn.places.items ++ map source (range_with_len 1 l.earlier)
