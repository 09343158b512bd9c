use Rattle.pipe_laws.proofs.ByFlows.{deciding_by_flows}
use Rattle.pipe_laws.proofs.deciding_is_by_flows.Goals as goal

pub returns : goal.returns
returns c find r limit chunks over parts l h = deciding_by_flows find r limit chunks over parts l h
