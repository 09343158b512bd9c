use Rattle.std.proofs.Common.{◌≡◌, ◌++◌, drop}
use Rattle.restore_stage.specs.Assembling.{load_ids}
use Rattle.running_restore.proofs.planning.load_ids.Given as goal

abbrev pub invariant-loop-step : goal.invariant-loop-step
invariant-loop-step l = l.ids.items ++ load_ids (drop l.step-index l.steps) ≡ load_ids l.steps
