use Rattle.set_markers.proofs.Counting.{count-taken}
use Rattle.set_markers.proofs.maps.take_marker.Goals as goal

pub returns-clause-taken : goal.returns-clause-taken
returns-clause-taken c = λ s i. c.remove.ensures.updates.0 (s, i)

pub returns-clause-count : goal.returns-clause-count
returns-clause-count c = count-taken c.args.set c.args.id c.args.markers.now.entries c.remove.new.self.entries c.requires c.remove.ensures.entries
