use Rattle.word_ranges.proofs.Fills.{fill_in_range, fill_apart}
use Rattle.word_ranges.proofs.fill_scripts_are_in_range.Goals as goal

pub returns-clause-ranges : goal.returns-clause-ranges
returns-clause-ranges c = λ versions. fill_in_range versions

pub returns-clause-apart : goal.returns-clause-apart
returns-clause-apart c = λ versions few. fill_apart versions few
