use Rattle.word_ranges.proofs.Lines.{of_script}
use Rattle.word_ranges.proofs.scripts_are_in_range.Goals as goal

pub returns-clause-ranges : goal.returns-clause-ranges
returns-clause-ranges c = λ text lines is. (of_script text lines is).1

pub returns-clause-apart : goal.returns-clause-apart
returns-clause-apart c = λ text lines is. (of_script text lines is).0
