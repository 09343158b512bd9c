use Rattle.recipe_form2.proofs.RunLemmas.{runs-first}
use Rattle.recipe_form2.proofs.writing.split_run.Goals as goal

pub returns-clause-first : goal.returns-clause-first
returns-clause-first c = (runs-first _ _ _ _ c.front_len.result c.requires c.front_len.ensures.count c.split_at.ensures.front c.split_at.ensures.back).runs

pub returns-clause-some : goal.returns-clause-some
returns-clause-some c = (runs-first _ _ _ _ c.front_len.result c.requires c.front_len.ensures.count c.split_at.ensures.front c.split_at.ensures.back).some
