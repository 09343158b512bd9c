use Rattle.std.proofs.Common.{arith}
use Rattle.restore_assembler.proofs.Steps.{load_within}
use Rattle.restore_assembler.proofs.progress.Progress.load.Goals as goal

pub overflow_add-self : goal.overflow_add-self
overflow_add-self c = omega (arith, load_within c.args.self.now c.args.id c.requires.step, c.args.self.now.steps.ok, c.args.self.now.steps.small)
