use Rattle.std.proofs.Common.{rules, List, ℕ, Some, subst}
use Rattle.vault_types.specs.Blobs.{SpellsFloor}
use Rattle.recipe_store.proofs.get_floor.Goals as goal

pub returns-in-Some-clause-found : goal.returns-in-Some-clause-found
returns-in-Some-clause-found g c = (
  Some c.in-Ok-Some.bytes.items,
  search rules,
  subst (λ (bytes : List ℕ). SpellsFloor c.args.set bytes c.in-Some.floor) c.as_slice.ensures.value c.in-Some.ensures.found,
)
