use Rattle.payload_health.proofs.Whole.{good_where_whole}
use Rattle.payload_health.proofs.good_is_whole.Goals as goal

pub returns : goal.returns
returns c t payload = good_where_whole t payload
