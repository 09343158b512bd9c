use Rattle.std.proofs.Common.{take}
use Rattle.std.specs.Prelude.{filter_map}
use Rattle.capping.specs.Counts.{HasCounted}
use Rattle.capping.proofs.count.Given as goal

abbrev pub invariant-loop-old : goal.invariant-loop-old
invariant-loop-old l = HasCounted l.times.entries (filter_map (λ o. o) (take l.old-index l.segment))
