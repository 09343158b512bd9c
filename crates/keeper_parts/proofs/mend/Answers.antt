use Rattle.std.proofs.Common.{◌∙◌, refl, sym, ap, Option, None}
use Rattle.vault_types.specs.Shelf.{Blobs, blob_at}
use Rattle.vault_types.specs.Events.{IsNear, Held}
use Rattle.vault_traits.proofs.Maps.{other_blob}
use Rattle.vault_traits.proofs.Moments.{then, ends, may_write, stays}
use Rattle.state_laws.specs.Parts.{without_other}
use Rattle.state_laws.proofs.Changing.{settle_moment, settle_leaves, told_same, told_may, told_more, told_mended, recipe_near, floor_near, recipe_held, floor_held, done_of, failed_of}
use Rattle.keeper_parts.proofs.Telling.{tells_may, tells_same}
use Rattle.keeper_parts.proofs.mend.Goals as goal

pub returns-then-is_err-clause-held : goal.returns-then-is_err-clause-held
returns-then-is_err-clause-held g c K mends held = told_may (λ m. Held m K) c.remove_recipe.ensures.at_most (recipe_held K _ _ _ mends) held

pub returns-then-is_err-clause-any_moment : goal.returns-then-is_err-clause-any_moment
returns-then-is_err-clause-any_moment g c K mends here = may_write (IsNear K.state K.other) c.remove_recipe.ensures.at_most here (recipe_near K _ _ _ mends)

pub returns-in_err-put_floor-clause-held : goal.returns-in_err-put_floor-clause-held
returns-in_err-put_floor-clause-held g c K mends held =
    told_may (λ m. Held m K) c.put_floor.ensures.at_most (floor_held K _ _ _ mends _ refl)
    (told_may (λ m. Held m K) c.remove_recipe.ensures.at_most (recipe_held K _ _ _ mends) held)

pub returns-in_err-put_floor-clause-any_moment : goal.returns-in_err-put_floor-clause-any_moment
returns-in_err-put_floor-clause-any_moment g c K mends here =
    let P : Blobs → Type 0 = IsNear K.state K.other in
    let first = may_write P c.remove_recipe.ensures.at_most here (recipe_near K _ _ _ mends) in
    then P _ _ _ first (may_write P c.put_floor.ensures.at_most (ends P _ _ first) (floor_near K _ _ _ mends _ refl))

pub returns-then-is_err-2-clause-held : goal.returns-then-is_err-2-clause-held
returns-then-is_err-2-clause-held g c K mends held =
    told_same (λ m. Held m K) _ _ c.settle.ensures.blobs
    (told_may (λ m. Held m K) c.put_floor.ensures.at_most (floor_held K _ _ _ mends _ refl)
    (told_may (λ m. Held m K) c.remove_recipe.ensures.at_most (recipe_held K _ _ _ mends) held))

pub returns-then-is_err-2-clause-any_moment : goal.returns-then-is_err-2-clause-any_moment
returns-then-is_err-2-clause-any_moment g c K mends here =
    let P : Blobs → Type 0 = IsNear K.state K.other in
    let first = may_write P c.remove_recipe.ensures.at_most here (recipe_near K _ _ _ mends) in
    let second = then P _ _ _ first (may_write P c.put_floor.ensures.at_most (ends P _ _ first) (floor_near K _ _ _ mends _ refl)) in
    then P _ _ _ second (stays P _ _ (failed_of c.settle.result (sym c.is_err-2.ensures.value ∙ c.if-is_err-2.true) c.settle.ensures.failed) (ends P _ _ second))

pub returns-clause-held : goal.returns-clause-held
returns-clause-held g c K mends held =
    told_same (λ m. Held m K) _ _ c.settle.ensures.blobs
    (told_may (λ m. Held m K) c.put_floor.ensures.at_most (floor_held K _ _ _ mends _ refl)
    (told_may (λ m. Held m K) c.remove_recipe.ensures.at_most (recipe_held K _ _ _ mends) held))

pub returns-clause-mended : goal.returns-clause-mended
returns-clause-mended g c K mends held =
    told_same (λ m. Held m (without_other K)) _ _ c.settle.ensures.blobs
    (told_mended K _ _ _ mends _ refl _ _ _ (done_of c.remove_recipe.result (sym c.is_err.ensures.value ∙ c.if-is_err.false) c.remove_recipe.ensures.ok).blobs c.in_ok-put_floor.ensures.ok.blobs held)

pub returns-clause-any_moment : goal.returns-clause-any_moment
returns-clause-any_moment g c K mends here =
    let P : Blobs → Type 0 = IsNear K.state K.other in
    let first = may_write P c.remove_recipe.ensures.at_most here (recipe_near K _ _ _ mends) in
    let second = then P _ _ _ first (may_write P c.put_floor.ensures.at_most (ends P _ _ first) (floor_near K _ _ _ mends _ refl)) in
    then P _ _ _ second (settle_moment P _ _ _ (g.met.S.Shelf.reads_an_image c.put_floor.new.shelf) (done_of c.settle.result (sym c.is_err-2.ensures.value ∙ c.if-is_err-2.false) c.settle.ensures.ok) (ends P _ _ second))

pub returns-clause-acknowledged : goal.returns-clause-acknowledged
returns-clause-acknowledged g c K mends held =
    settle_leaves (IsNear K.state None) _ _ _ (g.met.S.Shelf.reads_an_image c.put_floor.new.shelf) (done_of c.settle.result (sym c.is_err-2.ensures.value ∙ c.if-is_err-2.false) c.settle.ensures.ok)
    (told_more (λ m. Held m (without_other K)) (IsNear K.state None) _ (λ m held. held.near)
    (told_mended K _ _ _ mends _ refl _ _ _ (done_of c.remove_recipe.result (sym c.is_err.ensures.value ∙ c.if-is_err.false) c.remove_recipe.ensures.ok).blobs c.in_ok-put_floor.ensures.ok.blobs held))

pub returns-then-is_err-clause-tells : goal.returns-then-is_err-clause-tells
returns-then-is_err-clause-tells g c tells = tells_may c.remove_recipe.ensures.at_most tells

pub returns-in_err-put_floor-clause-tells : goal.returns-in_err-put_floor-clause-tells
returns-in_err-put_floor-clause-tells g c tells = tells_may c.put_floor.ensures.at_most (tells_may c.remove_recipe.ensures.at_most tells)

pub returns-then-is_err-2-clause-tells : goal.returns-then-is_err-2-clause-tells
returns-then-is_err-2-clause-tells g c tells = tells_same _ _ c.settle.ensures.blobs (tells_may c.put_floor.ensures.at_most (tells_may c.remove_recipe.ensures.at_most tells))

pub returns-clause-tells : goal.returns-clause-tells
returns-clause-tells g c tells = tells_same _ _ c.settle.ensures.blobs (tells_may c.put_floor.ensures.at_most (tells_may c.remove_recipe.ensures.at_most tells))

pub returns-then-is_err-clause-others : goal.returns-then-is_err-clause-others
returns-then-is_err-clause-others g c q recipe floor = other_blob c.remove_recipe.ensures.at_most q recipe

pub returns-in_err-put_floor-clause-others : goal.returns-in_err-put_floor-clause-others
returns-in_err-put_floor-clause-others g c q recipe floor = other_blob c.put_floor.ensures.at_most q floor ∙ other_blob c.remove_recipe.ensures.at_most q recipe

pub returns-then-is_err-2-clause-others : goal.returns-then-is_err-2-clause-others
returns-then-is_err-2-clause-others g c q recipe floor =
    ap (λ (t : Option Blobs). blob_at t q) c.settle.ensures.blobs ∙ other_blob c.put_floor.ensures.at_most q floor ∙ other_blob c.remove_recipe.ensures.at_most q recipe

pub returns-clause-others : goal.returns-clause-others
returns-clause-others g c q recipe floor =
    ap (λ (t : Option Blobs). blob_at t q) c.settle.ensures.blobs ∙ other_blob c.put_floor.ensures.at_most q floor ∙ other_blob c.remove_recipe.ensures.at_most q recipe
