use Rattle.std.proofs.Common.{◌∙◌, sym}
use Rattle.recipe_store.proofs.Apart.{recipes_apart}
use Rattle.recipe_store.proofs.recipes_are_told_apart.Goals as goal

pub returns-clause-one : goal.returns-clause-one
returns-clause-one c s v r a b first second = first.spelled ∙ sym second.spelled

pub returns-clause-apart : goal.returns-clause-apart
returns-clause-apart c s v r q a b more first second e = recipes_apart s v r q a b more first second e
