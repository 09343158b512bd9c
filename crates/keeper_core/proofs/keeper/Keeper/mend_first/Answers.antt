use Rattle.std.proofs.Common.{subst}
use Rattle.keeper_catalog.specs.Catalog.{memo_of}
use Rattle.keeper_catalog.specs.View.{View}
use Rattle.keeper_core.specs.Stands.{index_of, job_of}
use Rattle.keeper_core.specs.Mends.{MendsFirst}
use Rattle.keeper_core.proofs.Mendings.{mends_first, mended_core_of}
use Rattle.keeper_core.proofs.keeper.Keeper.mend_first.Goals as goal

pub invariant_of-self : goal.invariant_of-self
invariant_of-self g c =
    (mended_core_of _ _ c.mend_for.result (mends_first _ _ c.deref.ensures.value (g.S.Shelf.told c.mend_for.new.shelf) c.mend_for.new.pending c.mend_for.result c.self.invariant.0 c.mend_for.ensures.held c.mend_for.ensures.mended c.mend_for.ensures.tells c.mend_for.ensures.recipes c.mend_for.ensures.any_moment c.mend_for.ensures.acknowledged c.mend_for.ensures.over c.mend_for.ensures.waits c.mend_for.ensures.gets c.mend_for.ensures.causes), c.self.invariant.1)

pub returns : goal.returns
returns g c =
    subst (λ (v : View). MendsFirst v (record { told = g.S.Shelf.told c.mend_for.new.shelf; memo = memo_of c.self.inside.catalog; index = index_of c.self.inside.stand; pins = c.self.inside.pins; job = job_of c.self.inside.stand; pending = c.mend_for.new.pending }) c.mend_for.result) c.self.view_is
    (mends_first _ _ c.deref.ensures.value (g.S.Shelf.told c.mend_for.new.shelf) c.mend_for.new.pending c.mend_for.result c.self.invariant.0 c.mend_for.ensures.held c.mend_for.ensures.mended c.mend_for.ensures.tells c.mend_for.ensures.recipes c.mend_for.ensures.any_moment c.mend_for.ensures.acknowledged c.mend_for.ensures.over c.mend_for.ensures.waits c.mend_for.ensures.gets c.mend_for.ensures.causes)
