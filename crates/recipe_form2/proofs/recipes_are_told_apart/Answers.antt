use Rattle.std.proofs.Common.{◌∙◌, ◌++◌, List, ℕ, sym, ap}
use Rattle.blob_parts.proofs.Fields.{blob_same}
use Rattle.recipe_form2.proofs.RecipeField.{recipe_field, is_second, second_spelled}
use Rattle.recipe_form2.proofs.recipes_are_told_apart.Goals as goal

pub returns-clause-one : goal.returns-clause-one
returns-clause-one c s v r a b first second = first.spells.spelled ∙ sym second.spells.spelled

pub returns-clause-apart : goal.returns-clause-apart
returns-clause-apart c s v r q a b more first second e =
    blob_same (recipe_field s) s r q more (is_second s v a r first) (is_second s v b q second)
    (ap (λ (x : List ℕ). x ++ more) (sym (second_spelled s v a r first)) ∙ e ∙ second_spelled s v b q second)
