use Rattle.std.proofs.Common.{◌≡◌, ◌<◌, ◌^◌, length, ℕ, List, Some, subst}
use Rattle.std.specs.Prelude.{IsSome}
use Rattle.vault_types.specs.declared.Recipe.{Recipe}
use Rattle.vault_types.specs.State.{KeptVersion, length_of, version_of}
use Rattle.vault_types.specs.Blobs.{SpellsRecipe}
use Rattle.vault_types.specs.Shelf.{recipe_name, Has}
use Rattle.vault_types.specs.Events.{Core}
use Rattle.commit_laws.specs.Laws.{SaysVersion}
use Rattle.keeper_catalog.specs.View.{View, Keeps}
use Rattle.keeper_core.specs.Calls.{IsWholeOf}
use Rattle.keeper_core.proofs.Openings.{says_version, says_whole, ok_more}
use Rattle.keeper_core.proofs.keeper.Keeper.recipe.Goals as goal

pub returns-clause-says : goal.returns-clause-says
returns-clause-says g c =
    ok_more (λ (r : Recipe). (bytes : List ℕ) × Has (g.S.Shelf.told c.self.inside.shelf).blobs (recipe_name c.args.set c.args.version) (Some bytes) × SpellsRecipe c.args.set c.args.version bytes r)
    (λ (r : Recipe). IsSome c.args.self.now.told.blobs → (K : Core) (k : KeptVersion) → Keeps c.args.self.now K → version_of K.state c.args.set c.args.version ≡ Some k → SaysVersion r k)
    c.get_recipe.result
    (λ r found tells K k keeps kept. says_version c.args.self.now K k c.args.set c.args.version r found.0 keeps c.ranges.set.fits kept tells (subst (λ (v : View). Has v.told.blobs (recipe_name c.args.set c.args.version) (Some found.0)) c.self.view_is found.1) found.2)
    c.get_recipe.ensures.found

pub returns-clause-whole : goal.returns-clause-whole
returns-clause-whole g c =
    ok_more (λ (r : Recipe). (bytes : List ℕ) × Has (g.S.Shelf.told c.self.inside.shelf).blobs (recipe_name c.args.set c.args.version) (Some bytes) × SpellsRecipe c.args.set c.args.version bytes r)
    (λ (r : Recipe). IsSome c.args.self.now.told.blobs → (K : Core) (k : KeptVersion) → Keeps c.args.self.now K → version_of K.state c.args.set c.args.version ≡ Some k → IsWholeOf c.args.self.now.told.blobs c.args.set c.args.version k r.whole)
    c.get_recipe.result
    (λ r found tells K k keeps kept. says_whole c.args.self.now K k c.args.set c.args.version r found.0 keeps c.ranges.set.fits kept tells (subst (λ (v : View). Has v.told.blobs (recipe_name c.args.set c.args.version) (Some found.0)) c.self.view_is found.1) found.2)
    c.get_recipe.ensures.found

pub returns-clause-named : goal.returns-clause-named
returns-clause-named g c =
    ok_more (λ (r : Recipe). (bytes : List ℕ) × Has (g.S.Shelf.told c.self.inside.shelf).blobs (recipe_name c.args.set c.args.version) (Some bytes) × SpellsRecipe c.args.set c.args.version bytes r)
    (λ (r : Recipe). (r.set ≡ c.args.set) × (r.version ≡ c.args.version) × (r.length ≡ length_of r.rows) × (length r.rows < 2 ^ 32))
    c.get_recipe.result
    (λ r found. (found.2.set, found.2.number, found.2.rules.total, found.2.rules.rules.few))
    c.get_recipe.ensures.found
