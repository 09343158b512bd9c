use Rattle.script_laws.proofs.Crashing.{alone_any_moment, alone_at_the_end, settled_at_the_end}
use Rattle.script_laws.proofs.crashes_go_by_lines.Goals as goal

pub returns-clause-any_moment : goal.returns-clause-any_moment
returns-clause-any_moment c = alone_any_moment

pub returns-clause-at_the_end : goal.returns-clause-at_the_end
returns-clause-at_the_end c = alone_at_the_end

pub returns-clause-settled : goal.returns-clause-settled
returns-clause-settled c = settled_at_the_end
