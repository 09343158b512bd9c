use Rattle.std.proofs.Common.{ap, sym, Some, None, ◌∙◌}
use Rattle.std.specs.Prelude.{Result, Err}
use Rattle.vault_traits.specs.declared.names.Refused.{Refused}
use Rattle.vault_types.specs.Shelf.{Blobs, recipe_name}
use Rattle.vault_types.specs.Events.{IsNear}
use Rattle.vault_traits.proofs.Moments.{then, ends, stays}
use Rattle.state_laws.specs.Parts.{change}
use Rattle.state_laws.proofs.Changing.{settle_moment, written, settled_second, renamed, done_of, failed_of}
use Rattle.keeper_parts.proofs.commit.Goals as goal

pub returns-in-Err-Memory-clause-any_moment : goal.returns-in-Err-Memory-clause-any_moment
returns-in-Err-Memory-clause-any_moment g c A B can images =
    written _ _ (g.met.S.Shelf.reads_an_image c.args.shelf.now) _ _ A B can images _ (done_of c.settle.result (sym c.is_err.ensures.value ∙ c.if-is_err.false) c.settle.ensures.ok)
    (renamed (recipe_name c.args.set c.args.version) c.recipe.ensures c.put.ensures.at_most)

abbrev error : Refused → Result (Unit {0}) Refused
error e = Err e

pub returns-in-Err-Memory-clause-still : goal.returns-in-Err-Memory-clause-still
returns-in-Err-Memory-clause-still g c r is A images =
    let P : Blobs → Type 0 = IsNear A None in
    let first = settle_moment P _ _ _ (g.met.S.Shelf.reads_an_image c.args.shelf.now) (done_of c.settle.result (sym c.is_err.ensures.value ∙ c.if-is_err.false) c.settle.ensures.ok) images in
    then P _ _ _ first (stays P _ _ (c.put.ensures.memory (c.in-Err-Memory.is ∙ ap error c.in-Err-Memory.field-0-is)).history (ends P _ _ first))

pub returns-in-Err-Failed-clause-any_moment : goal.returns-in-Err-Failed-clause-any_moment
returns-in-Err-Failed-clause-any_moment g c A B can images =
    written _ _ (g.met.S.Shelf.reads_an_image c.args.shelf.now) _ _ A B can images _ (done_of c.settle.result (sym c.is_err.ensures.value ∙ c.if-is_err.false) c.settle.ensures.ok)
    (renamed (recipe_name c.args.set c.args.version) c.recipe.ensures c.put.ensures.at_most)

pub returns-then-is_err-2-clause-any_moment : goal.returns-then-is_err-2-clause-any_moment
returns-then-is_err-2-clause-any_moment g c A B can images =
    let P : Blobs → Type 0 = IsNear A (Some (change (recipe_name c.args.set c.args.version) c.args.recipe.now B)) in
    let so_far = written _ _ (g.met.S.Shelf.reads_an_image c.args.shelf.now) _ _ A B can images _ (done_of c.settle.result (sym c.is_err.ensures.value ∙ c.if-is_err.false) c.settle.ensures.ok)
    (renamed (recipe_name c.args.set c.args.version) c.recipe.ensures c.put.ensures.at_most) in
    then P _ _ _ so_far (stays P _ _ (failed_of c.settle-2.result (sym c.is_err-2.ensures.value ∙ c.if-is_err-2.true) c.settle-2.ensures.failed) (ends P _ _ so_far))

pub returns-clause-any_moment : goal.returns-clause-any_moment
returns-clause-any_moment g c A B can images =
    settled_second _ _ (g.met.S.Shelf.reads_an_image c.args.shelf.now) _ _ A B can images _ (done_of c.settle.result (sym c.is_err.ensures.value ∙ c.if-is_err.false) c.settle.ensures.ok)
    (renamed (recipe_name c.args.set c.args.version) c.recipe.ensures c.put.ensures.at_most)
    (g.met.S.Shelf.reads_an_image c.put.new.self)
    (done_of c.settle-2.result (sym c.is_err-2.ensures.value ∙ c.if-is_err-2.false) c.settle-2.ensures.ok)
