use Rattle.damage_laws.proofs.Undamaged.{undamaged}
use Rattle.damage_laws.proofs.damaged_blobs_open_as_no_state.Goals as goal

pub returns : goal.returns
returns c m k n w T bad opens = undamaged m T opens k n w bad
