use Rattle.std.proofs.Common.{◌∙◌, sym, ap, subst, arith}
use Rattle.std.proofs.lemmas.Result.{err_from_is_err_and}
use Rattle.std.proofs.lemmas.Bool.{eqb-true}
use Rattle.vault_types.specs.declared.Recipe.{Recipe}
use Rattle.vault_types.specs.Blobs.{IsRecipe}
use Rattle.blob_parts.proofs.Fields.{passed_none, not_empty, blob_unread, blob_other, blob_fits, blob_spelled}
use Rattle.recipe_store.specs.Plain.{plain_at, plain_head}
use Rattle.recipe_store.proofs.PlainField.{plain_field, plain_bytes, is_plain, plain_spelled}
use Rattle.recipe_store.proofs.plain.read_plain.Goals as goal
use Rattle.recipe_store.proofs.plain.read_plain.Goals.{then-not-is_empty-via-then-not-is_empty, then-not-is_empty-via-else-not-is_empty+then-recipe-version}

pub returns-in_default-clause-none : goal.returns-in_default-clause-none
returns-in_default-clause-none c spelling r none spells = c.in_default.ensures.none (plain_head r) (plain_spelled c.args.set c.args.version c.args.bytes.now r none spells)

pub returns-in_err-recipe-clause-none : goal.returns-in_err-recipe-clause-none
returns-in_err-recipe-clause-none c spelling r none spells =
    let p = err_from_is_err_and c.from_residual.result c.from_residual.ensures.1 in
    blob_unread (plain_field c.args.set) c.args.set c.args.bytes.now c.in-Some.body.now c.in-Some.ensures.found
    (passed_none c.from_residual.result p.0 c.in_err-recipe.field-0.0 (plain_at c.args.set c.in-Some.body.now) p.1 p.2 spelling c.in_err-recipe.ensures)
    r (is_plain c.args.set c.args.version c.args.bytes.now r none spells) (plain_spelled c.args.set c.args.version c.args.bytes.now r none spells)

pub returns-then-not-is_empty-clause-none : goal.returns-then-not-is_empty-clause-none
returns-then-not-is_empty-clause-none c spelling r none spells =
    let same =
    blob_other (plain_field c.args.set) c.args.set c.args.bytes.now c.in-Some.body.now c.in-Some.ensures.found c.in_ok-recipe.recipe c.in_ok-recipe.rest.now c.in_ok-recipe.ensures
    r (is_plain c.args.set c.args.version c.args.bytes.now r none spells) (plain_spelled c.args.set c.args.version c.args.bytes.now r none spells)
    in
    elim c.then-not-is_empty.branch [
      | then-not-is_empty-via-then-not-is_empty w ↦ not_empty c.in_ok-recipe.rest.now (sym c.is_empty.ensures ∙ w.if-not-is_empty.true) same.1
      | then-not-is_empty-via-else-not-is_empty+then-recipe-version w ↦ w.if-recipe-version.true (ap (λ (x : Recipe). x.version) same.0 ∙ spells.number)
    ]

pub has_rules-requires : goal.has_rules-requires
has_rules-requires c =
    (blob_fits (plain_field c.args.set) c.args.set c.args.bytes.now c.in-Some.body.now c.in-Some.ensures.found (λ i. omega (arith, c.type_inv.bytes i)) c.in_ok-recipe.recipe c.in_ok-recipe.rest.now c.in_ok-recipe.ensures).widths

pub returns-then-not-branch-clause-none : goal.returns-then-not-branch-clause-none
returns-then-not-branch-clause-none c spelling r none spells =
    let same =
    blob_other (plain_field c.args.set) c.args.set c.args.bytes.now c.in-Some.body.now c.in-Some.ensures.found c.in_ok-recipe.recipe c.in_ok-recipe.rest.now c.in_ok-recipe.ensures
    r (is_plain c.args.set c.args.version c.args.bytes.now r none spells) (plain_spelled c.args.set c.args.version c.args.bytes.now r none spells)
    in
    let passes = c.in_ok-has_rules.ensures.no (subst IsRecipe (sym same.0) spells.rules) in
    absurd (cc (sym passes ∙ c.if-not-branch.true))

pub returns-clause-found : goal.returns-clause-found
returns-clause-found c =
    let field = plain_field c.args.set in
    let fits = blob_fits field c.args.set c.args.bytes.now c.in-Some.body.now c.in-Some.ensures.found (λ i. omega (arith, c.type_inv.bytes i)) c.in_ok-recipe.recipe c.in_ok-recipe.rest.now c.in_ok-recipe.ensures in
    record {
      set = fits.set;
      number = c.if-recipe-version.false;
      rules = c.in_ok-has_rules.ensures.yes c.if-not-branch.false;
      spelled =
          blob_spelled field c.args.set c.args.bytes.now c.in-Some.body.now c.in-Some.ensures.found (λ i. omega (arith, c.type_inv.bytes i)) c.in_ok-recipe.recipe c.in_ok-recipe.rest.now c.in_ok-recipe.ensures
          (eqb-true _ _ (sym c.is_empty.ensures ∙ c.if-not-is_empty.false))
          ∙ sym (plain_bytes c.args.set c.in_ok-recipe.recipe fits.set fits.whole);
    }
