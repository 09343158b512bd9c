use Rattle.std.proofs.Common.{◌∙◌, sym}
use Rattle.recipe_store.proofs.Apart.{floors_apart}
use Rattle.recipe_store.proofs.floors_are_told_apart.Goals as goal

pub returns-clause-one : goal.returns-clause-one
returns-clause-one c s f a b first second = first.spelled ∙ sym second.spelled

pub returns-clause-apart : goal.returns-clause-apart
returns-clause-apart c s f g a b more first second e = floors_apart s f g a b more first second e
