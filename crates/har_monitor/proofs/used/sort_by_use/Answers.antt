use Rattle.std.proofs.Common.{rules}
use Rattle.std.proofs.lemmas.List.Sorted.{answers_always}
use Rattle.har_monitor.specs.Used.{goes_first}
use Rattle.har_monitor.proofs.Parts.{weak_order}
use Rattle.har_monitor.proofs.used.sort_by_use.Goals as goal

pub returns-clause-sorted : goal.returns-clause-sorted
returns-clause-sorted c = c.sort_unstable_by.ensures.sorted goes_first weak_order (answers_always _ _ _ (λ f a r g h. search rules))
