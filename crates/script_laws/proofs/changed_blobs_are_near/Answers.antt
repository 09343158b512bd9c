use Rattle.script_laws.proofs.Near.{nearly}
use Rattle.script_laws.proofs.changed_blobs_are_near.Goals as goal

pub returns : goal.returns
returns c = λ S s h m valid change has. nearly S s h valid change m has
