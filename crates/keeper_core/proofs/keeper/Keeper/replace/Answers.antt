use Rattle.std.proofs.Common.{sym, subst, arith}
use Rattle.std.specs.Prelude.{Ok}
use Rattle.keeper_catalog.specs.Catalog.{memo_of}
use Rattle.keeper_catalog.specs.View.{View}
use Rattle.keeper_core.specs.Stands.{index_of, job_of}
use Rattle.keeper_removals.proofs.Cleaned.{again}
use Rattle.keeper_core.specs.Mends.{MendsFirst}
use Rattle.keeper_core.specs.Replacing.{Replaces}
use Rattle.keeper_core.proofs.Replacings.{whole_rules}
use Rattle.keeper_core.proofs.Replaced.{unmended_replaces, unread_core, unread_replaces, unput_core, unput_replaces, done_core, done_replaces}
use Rattle.keeper_core.proofs.keeper.Keeper.replace.Goals as goal

pub replace_recipe-requires : goal.replace_recipe-requires
replace_recipe-requires g c = whole_rules c.in_ok-recipe.recipe c.with_whole-recipe.result c.args.whole c.in_ok-recipe.ensures.found.2.rules c.requires.sum c.with_whole-recipe.ensures

pub returns-in_err-mend_first : goal.returns-in_err-mend_first
returns-in_err-mend_first g c = again (Replaces c.args.set c.args.version c.args.self.now c.mend_first.new.self) c.in_err-mend_first.field-0.0 (unmended_replaces _ _ _ _ _ c.in_err-mend_first.ensures) c.from_residual.result c.from_residual.ensures.1

pub invariant_of-self : goal.invariant_of-self
invariant_of-self g c =
    let mends = subst (λ (v : View). MendsFirst c.args.self.now v (Ok c.in_ok-mend_first.field-0)) (sym c.self.view_is) c.in_ok-mend_first.ensures in
    (unread_core _ _ c.args.set c.args.version _ mends (omega (arith, c.ranges.set.fits)) c.requires.kept _ c.get_recipe.ensures.kept, c.self.invariant.1)

pub returns-in_err-recipe : goal.returns-in_err-recipe
returns-in_err-recipe g c =
    let mends = subst (λ (v : View). MendsFirst c.args.self.now v (Ok c.in_ok-mend_first.field-0)) (sym c.self.view_is) c.in_ok-mend_first.ensures in
    again (Replaces c.args.set c.args.version c.args.self.now (record { told = g.S.Shelf.told c.get_recipe.new.shelf; memo = memo_of c.self.inside.catalog; index = index_of c.self.inside.stand; pins = c.self.inside.pins; job = job_of c.self.inside.stand; pending = c.self.inside.pending }))
    c.in_err-recipe.field-0.0 (unread_replaces _ _ c.args.set c.args.version _ mends (omega (arith, c.ranges.set.fits)) c.requires.kept _ c.get_recipe.ensures.kept c.in_err-recipe.field-0.0 c.get_recipe.ensures.gets c.in_err-recipe.ensures.causes)
    c.from_residual-in_err-recipe.result c.from_residual-in_err-recipe.ensures.1

pub invariant_of-self-in_err-replace_recipe : goal.invariant_of-self-in_err-replace_recipe
invariant_of-self-in_err-replace_recipe g c =
    let mends = subst (λ (v : View). MendsFirst c.args.self.now v (Ok c.in_ok-mend_first.field-0)) (sym c.self.view_is) c.in_ok-mend_first.ensures in
    (unput_core _ _ c.args.set c.args.version _ mends (omega (arith, c.ranges.set.fits)) c.requires.kept _ c.get_recipe.ensures.kept c.args.whole c.requires.whole c.in_ok-recipe.recipe c.with_whole-recipe.result c.in_ok-recipe.ensures.found c.with_whole-recipe.ensures (g.S.Shelf.told c.replace_recipe.new.shelf) c.replace_recipe.new.pending c.replace_recipe.ensures.at_most c.replace_recipe.ensures.held c.replace_recipe.ensures.any_moment c.in_err-replace_recipe.field-0.0 c.in_err-replace_recipe.ensures.due, c.self.invariant.1)

pub returns-in_err-replace_recipe : goal.returns-in_err-replace_recipe
returns-in_err-replace_recipe g c =
    let mends = subst (λ (v : View). MendsFirst c.args.self.now v (Ok c.in_ok-mend_first.field-0)) (sym c.self.view_is) c.in_ok-mend_first.ensures in
    again (Replaces c.args.set c.args.version c.args.self.now (record { told = g.S.Shelf.told c.replace_recipe.new.shelf; memo = memo_of c.self.inside.catalog; index = index_of c.self.inside.stand; pins = c.self.inside.pins; job = job_of c.self.inside.stand; pending = c.replace_recipe.new.pending }))
    c.in_err-replace_recipe.field-0.0 (unput_replaces _ _ c.args.set c.args.version _ mends (omega (arith, c.ranges.set.fits)) c.requires.kept _ c.get_recipe.ensures.kept c.args.whole c.requires.whole c.in_ok-recipe.recipe c.with_whole-recipe.result c.in_ok-recipe.ensures.found c.with_whole-recipe.ensures (g.S.Shelf.told c.replace_recipe.new.shelf) c.replace_recipe.new.pending c.replace_recipe.ensures.at_most c.replace_recipe.ensures.held c.replace_recipe.ensures.any_moment c.in_err-replace_recipe.field-0.0 c.in_err-replace_recipe.ensures.due c.get_recipe.ensures.gets c.get_recipe.ensures.causes.later c.replace_recipe.ensures.gets c.in_err-replace_recipe.ensures.causes)
    c.from_residual-in_err-replace_recipe.result c.from_residual-in_err-replace_recipe.ensures.1

pub invariant_of-self-2 : goal.invariant_of-self-2
invariant_of-self-2 g c =
    let mends = subst (λ (v : View). MendsFirst c.args.self.now v (Ok c.in_ok-mend_first.field-0)) (sym c.self.view_is) c.in_ok-mend_first.ensures in
    (done_core _ _ c.args.set c.args.version _ mends (omega (arith, c.ranges.set.fits)) c.requires.kept _ c.get_recipe.ensures.kept c.args.whole c.requires.whole c.in_ok-recipe.recipe c.with_whole-recipe.result c.in_ok-recipe.ensures.found c.with_whole-recipe.ensures (g.S.Shelf.told c.replace_recipe.new.shelf) c.replace_recipe.new.pending c.replace_recipe.ensures.at_most c.replace_recipe.ensures.held c.replace_recipe.ensures.any_moment c.in_ok-replace_recipe.ensures.not_due, c.self.invariant.1)

pub returns : goal.returns
returns g c =
    let mends = subst (λ (v : View). MendsFirst c.args.self.now v (Ok c.in_ok-mend_first.field-0)) (sym c.self.view_is) c.in_ok-mend_first.ensures in
    done_replaces _ _ c.args.set c.args.version _ mends (omega (arith, c.ranges.set.fits)) c.requires.kept _ c.get_recipe.ensures.kept c.args.whole c.requires.whole c.in_ok-recipe.recipe c.with_whole-recipe.result c.in_ok-recipe.ensures.found c.with_whole-recipe.ensures (g.S.Shelf.told c.replace_recipe.new.shelf) c.replace_recipe.new.pending c.replace_recipe.ensures.at_most c.replace_recipe.ensures.held c.replace_recipe.ensures.any_moment c.in_ok-replace_recipe.ensures.not_due c.get_recipe.ensures.gets c.get_recipe.ensures.causes.later c.replace_recipe.ensures.gets c.replace_recipe.ensures.causes.later c.in_ok-replace_recipe.ensures.ok c.in_ok-replace_recipe.ensures.acknowledged _
