use Rattle.word_ranges.proofs.Commands.{of_words}
use Rattle.word_ranges.proofs.commands_are_in_range.Goals as goal

pub returns : goal.returns
returns c = λ words command is. of_words words command is
