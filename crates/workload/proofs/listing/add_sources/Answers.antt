use Rattle.workload.proofs.Placing.{made_more}
use Rattle.workload.proofs.listing.add_sources.Goals as goal

pub loop-earlier-preserved : goal.loop-earlier-preserved
loop-earlier-preserved c = made_more _ _ _ _ c.loop-earlier.earlier c.loop-earlier.invariant c.in_ok-source_of.ensures c.in_ok-push.ensures.items
