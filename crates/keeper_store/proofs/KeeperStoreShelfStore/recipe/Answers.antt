use Rattle.std.proofs.Common.{◌∙◌, sym, subst}
use Rattle.vault_types.specs.Events.{Core}
use Rattle.keeper_catalog.specs.View.{View}
use Rattle.command_runner.specs.Showing.{AnswersRecipe}
use Rattle.keeper_core.specs.Keeping.{IsStateOf}
use Rattle.keeper_store.proofs.Reading.{reads}
use Rattle.keeper_store.proofs.KeeperStoreShelfStore.recipe.Goals as goal

pub returns-clause-reads : goal.returns-clause-reads
returns-clause-reads g c =
    let v = c.self.inside.keeper in
    subst (λ (u : View). AnswersRecipe (λ S other. IsStateOf u S other) u.told c.recipe.new.self.told c.args.set c.args.version c.recipe.result) c.self.view_is
    (reads v c.recipe.new.self c.args.set c.args.version c.ranges.set.fits (λ (K : Core) keeps. sym (c.kept.ensures K keeps) ∙ c.if-not-kept.false) c.recipe.ensures.shelf c.recipe.result c.recipe.ensures.named c.recipe.ensures.says c.recipe.ensures.causes)
