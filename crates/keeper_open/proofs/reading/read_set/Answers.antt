use Rattle.std.proofs.Common.{◌∙◌, subst, arith, Option, ◌++◌, ◌∷◌, []}
use Rattle.vault_types.specs.Shelf.{Blobs}
use Rattle.vault_traits.specs.Shelf.{IsListing}
use Rattle.vault_types.specs.FirstDamage.{ReadsRecipe}
use Rattle.keeper_open.specs.Reading.{IsVersionDamage, IsSetDamage, IsLastDue}
use Rattle.keeper_open.proofs.Gathering.{causes_again, versions_more, version_damage, if_listed}
use Rattle.keeper_open.proofs.reading.read_set.Goals as goal

pub returns-in_err-recipe-clause-causes : goal.returns-in_err-recipe-clause-causes
returns-in_err-recipe-clause-causes g c =
    let inv = c.loop-version.invariant in
    let told = (g.S.Shelf.told c.args.shelf.now).blobs in
    let now = (g.S.Shelf.told c.loop-version.shelf).blobs in
    causes_again _ _ _ (IsVersionDamage now c.args.set c.loop-version.version c.loop-version.next) (IsSetDamage told c.args.set c.args.floor) inv.later c.in_err-recipe.ensures.causes.later
    (version_damage told now c.args.set c.args.floor c.last_due-latest.result c.loop-version.version c.loop-version.next c.loop-version.sparse c.args.notes.now c.loop-version.notes inv.read.0 inv.kept.blobs inv.read.1
    (if_listed told (λ m. IsListing m c.args.names.now) (λ m. IsLastDue m c.args.set c.args.floor c.last_due-latest.result) c.requires.listing c.last_due-latest.ensures.last) (omega (arith, c.loop-version-test.true)) c.last_due-latest.ensures.high)
    c.in_err-recipe.field-0.0 c.in_err-recipe.ensures.causes.each c.from_residual.result c.from_residual.ensures.1

pub loop-version-preserved : goal.loop-version-preserved
loop-version-preserved g c =
    let inv = c.loop-version.invariant in
    let told = (g.S.Shelf.told c.args.shelf.now).blobs in
    record {
      kept = record { blobs = c.read_version.ensures.kept.blobs ∙ inv.kept.blobs; history = c.read_version.ensures.kept.history ∙ inv.kept.history };
      gets = c.read_version.ensures.gets ∙ inv.gets;
      later = omega (arith, inv.later, c.read_version.ensures.causes.later);
      read = (
        inv.read.0 ++ c.in_ok-recipe.recipe ∷ [],
        versions_more told c.args.set c.args.floor c.loop-version.version c.loop-version.next c.loop-version.sparse c.args.notes.now c.loop-version.notes c.note.new.notes
            inv.read.0 c.in_ok-recipe.recipe inv.read.1 (subst (λ (t : Option Blobs). ReadsRecipe t c.args.set c.loop-version.version c.in_ok-recipe.recipe) inv.kept.blobs c.in_ok-recipe.ensures.found.0) c.in_ok-recipe.ensures.found.1 c.in_ok-note.ensures,
      );
    }
