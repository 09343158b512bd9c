use Rattle.std.proofs.lemmas.Result.{IfOk-weaker}
use Rattle.word_ranges.proofs.Lines.{of_script}
use Rattle.script_input.proofs.read_lines.Goals as goal

pub returns-clause-ranges : goal.returns-clause-ranges
returns-clause-ranges g c = IfOk-weaker c.read_script.result _ _ (λ lines is. (of_script c.as_slice.result.now lines.items is).1) c.read_script.ensures.ok

pub returns-clause-apart : goal.returns-clause-apart
returns-clause-apart g c = IfOk-weaker c.read_script.result _ _ (λ lines is. (of_script c.as_slice.result.now lines.items is).0) c.read_script.ensures.ok
