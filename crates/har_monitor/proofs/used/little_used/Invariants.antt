use Rattle.std.proofs.Common.{◌≡◌, map, filter, take}
use Rattle.har_monitor.specs.Used.{used_of, is_little_used}
use Rattle.har_monitor.proofs.used.little_used.Given as goal

abbrev pub invariant-loop-id : goal.invariant-loop-id
invariant-loop-id l = l.list.items ≡ filter (is_little_used l.threshold) (map (used_of l.sums.entries) (take l.id-index l.payloads))
