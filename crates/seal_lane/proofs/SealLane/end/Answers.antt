use Rattle.seal_lane.proofs.Fronts.{comes_back}
use Rattle.seal_lane.proofs.SealLane.end.Goals as goal

pub returns : goal.returns
returns g c =
    rw (← c.self.view_is) (comes_back c.self.inside.near.sent c.end-from.result.0.taken c.end-stage.result.ready c.end-from.result.1.sent c.self.inside.far.taken c.close.ensures c.end-from.ensures.sent c.close-2.ensures)
