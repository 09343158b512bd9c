use Rattle.std.proofs.Common.{◌≡◌, ◌-◌, ◌++◌, ◌∷◌, [], arith}
use Rattle.std.proofs.lemmas.Grind.{common_steps}
use Rattle.vault_types.specs.Shelf.{recipe_name}
use Rattle.keeper_removals.proofs.Recipes.{recipes_more}
use Rattle.keeper_removals.proofs.deleting.leave_recipes.Goals as goal

pub loop-version-preserved : goal.loop-version-preserved
loop-version-preserved c =
    let inv = c.loop-version.invariant in
    let items : c.push.new.self.items ≡ c.loop-version.strays.items ++ recipe_name c.args.set (c.loop-version.version - 1) ∷ [] = grind (arith, common_steps) in
    record {
      low = omega (arith, c.loop-version-test.true);
      high = omega (arith, inv.high);
      left = recipes_more c.args.set c.loop-version.version c.args.floor _ _ _ (omega (arith, c.loop-version-test.true)) inv.high inv.left items;
      count = grind (arith, common_steps);
      capacity = omega (arith, inv.capacity, c.push.ensures.capacity);
    }
