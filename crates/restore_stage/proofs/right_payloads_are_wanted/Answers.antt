use Rattle.restore_stage.proofs.Right.{never_off}
use Rattle.restore_stage.proofs.right_payloads_are_wanted.Goals as goal

pub returns : goal.returns
returns c = never_off
