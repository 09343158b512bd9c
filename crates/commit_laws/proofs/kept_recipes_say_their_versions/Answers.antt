use Rattle.std.proofs.Common.{◌∙◌, map, sym}
use Rattle.vault_types.specs.declared.Row.{Row}
use Rattle.vault_types.specs.Lists.{set_of}
use Rattle.vault_types.proofs.SetLemmas.{has-set_of}
use Rattle.commit_laws.proofs.Loading.{held_version, pin_list, version_named}
use Rattle.commit_laws.proofs.kept_recipes_say_their_versions.Goals as goal

pub returns-clause-recipe : goal.returns-clause-recipe
returns-clause-recipe c = λ K s v k m bytes r core below kept held there spells. held_version K core s v k below kept m bytes r held there spells

pub returns-clause-ids : goal.returns-clause-ids
returns-clause-ids c = λ S number s v k valid kept. pin_list S number s v (set_of (map (λ (q : Row). q.id) k.rows))
    (λ id h. version_named S s v k valid kept id (sym (has-set_of id (map (λ (q : Row). q.id) k.rows)) ∙ h))
