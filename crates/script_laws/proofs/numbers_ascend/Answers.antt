use Rattle.script_laws.proofs.Counting.{few_counted, rise_ascends}
use Rattle.script_laws.proofs.numbers_ascend.Goals as goal

pub returns-clause-ascend : goal.returns-clause-ascend
returns-clause-ascend c = rise_ascends

pub returns-clause-few : goal.returns-clause-few
returns-clause-few c = few_counted
