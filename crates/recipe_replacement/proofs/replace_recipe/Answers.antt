use Rattle.std.proofs.Common.{None, sym, ◌∙◌}
use Rattle.vault_types.specs.Events.{Held, IsNear}
use Rattle.vault_traits.proofs.Moments.{then, ends, stays}
use Rattle.state_laws.proofs.Changing.{settle_moment, settle_leaves, told_same, done_of, failed_of}
use Rattle.recipe_replacement.proofs.Replacing.{held_may, put_moment, put_near, by_settle}
use Rattle.recipe_replacement.proofs.replace_recipe.Goals as goal

pub returns-in-Err-clause-held : goal.returns-in-Err-clause-held
returns-in-Err-clause-held g c K none of held = held_may K _ none of c.put_recipe.ensures.at_most held

pub returns-in-Err-clause-any_moment : goal.returns-in-Err-clause-any_moment
returns-in-Err-clause-any_moment g c A of here = put_moment A _ (g.met.S.Shelf.reads_an_image c.args.shelf.now) of c.put_recipe.ensures.at_most here

pub returns-then-is_err-clause-held : goal.returns-then-is_err-clause-held
returns-then-is_err-clause-held g c K none of held = told_same (λ m. Held m K) _ _ c.settle.ensures.blobs (held_may K _ none of c.put_recipe.ensures.at_most held)

pub returns-then-is_err-clause-any_moment : goal.returns-then-is_err-clause-any_moment
returns-then-is_err-clause-any_moment g c A of here =
    let first = put_moment A _ (g.met.S.Shelf.reads_an_image c.args.shelf.now) of c.put_recipe.ensures.at_most here in
    let P = IsNear A None in
    then P _ _ _ first (stays P _ _ (failed_of c.settle.result (sym c.is_err.ensures.value ∙ c.if-is_err.true) c.settle.ensures.failed) (ends P _ _ first))

pub returns-clause-held : goal.returns-clause-held
returns-clause-held g c K none of held = told_same (λ m. Held m K) _ _ c.settle.ensures.blobs (held_may K _ none of c.put_recipe.ensures.at_most held)

pub returns-clause-any_moment : goal.returns-clause-any_moment
returns-clause-any_moment g c A of here =
    let first = put_moment A _ (g.met.S.Shelf.reads_an_image c.args.shelf.now) of c.put_recipe.ensures.at_most here in
    let P = IsNear A None in
    then P _ _ _ first (settle_moment P _ _ _ (g.met.S.Shelf.reads_an_image c.put_recipe.new.shelf) (done_of c.settle.result (sym c.is_err.ensures.value ∙ c.if-is_err.false) c.settle.ensures.ok) (ends P _ _ first))

pub returns-clause-acknowledged : goal.returns-clause-acknowledged
returns-clause-acknowledged g c A of stands =
    settle_leaves (IsNear A None) _ _ _ (g.met.S.Shelf.reads_an_image c.put_recipe.new.shelf) (done_of c.settle.result (sym c.is_err.ensures.value ∙ c.if-is_err.false) c.settle.ensures.ok)
    (put_near A _ _ _ of c.in-Ok.ensures.ok.blobs stands)

pub returns-in-Err-clause-at_most : goal.returns-in-Err-clause-at_most
returns-in-Err-clause-at_most g c = c.put_recipe.ensures.at_most.blobs

pub returns-then-is_err-clause-at_most : goal.returns-then-is_err-clause-at_most
returns-then-is_err-clause-at_most g c = by_settle _ _ _ c.settle.ensures.blobs c.put_recipe.ensures.at_most.blobs

pub returns-clause-at_most : goal.returns-clause-at_most
returns-clause-at_most g c = by_settle _ _ _ c.settle.ensures.blobs c.put_recipe.ensures.at_most.blobs
