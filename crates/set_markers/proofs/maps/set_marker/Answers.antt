use Rattle.set_markers.proofs.Counting.{at_ok, count-put}
use Rattle.set_markers.proofs.maps.set_marker.Goals as goal

pub returns-clause-set : goal.returns-clause-set
returns-clause-set c = λ s i. (at_ok _ c.insert.result (c.insert.ensures.succeeds c.requires) c.insert.ensures.updates).0 (s, i)

pub returns-clause-count : goal.returns-clause-count
returns-clause-count c = count-put c.args.set c.args.id c.args.marker c.args.markers.now.entries c.insert.new.self.entries c.insert.result (c.insert.ensures.succeeds c.requires) c.insert.ensures.old c.insert.ensures.entries
