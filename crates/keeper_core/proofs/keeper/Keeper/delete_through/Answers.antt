use Rattle.std.proofs.Common.{◌<◌, sym, ap, subst, arith, length}
use Rattle.std.specs.Prelude.{Ok}
use Rattle.vault_types.specs.State.{latest_of}
use Rattle.vault_types.specs.Events.{Core, after_mend}
use Rattle.keeper_catalog.specs.declared.SetInfo.{SetInfo}
use Rattle.keeper_catalog.specs.View.{View, Keeps}
use Rattle.keeper_removals.proofs.Cleaned.{again}
use Rattle.keeper_core.specs.Stands.{index_of}
use Rattle.keeper_core.specs.Mends.{MendsFirst}
use Rattle.keeper_core.specs.Deletes.{DeletesThrough}
use Rattle.keeper_core.proofs.Deletions.{last_refused, unmended_refused, removing, done_core, done_sets, done_deletes, tried_core, tried_refused}
use Rattle.keeper_core.proofs.keeper.Keeper.delete_through.Goals as goal

pub returns-then-through-latest : goal.returns-then-through-latest
returns-then-through-latest g c = last_refused _ _ _ _ c.requires c.latest-latest.ensures c.if-through-latest.true

pub returns-in_err-mend_first : goal.returns-in_err-mend_first
returns-in_err-mend_first g c =
    let low : (K : Core) → Keeps c.args.self.now K → c.args.through < latest_of K.state c.args.set = λ K keeps. omega (arith, c.latest-latest.ensures K keeps, c.if-through-latest.false) in
    again (DeletesThrough c.args.set c.args.through c.args.self.now c.mend_first.new.self) c.in_err-mend_first.field-0.0 (unmended_refused _ _ _ _ c.requires low _ c.in_err-mend_first.ensures) c.from_residual.result c.from_residual.ensures.1

pub delete_versions-requires-clause-can : goal.delete_versions-requires-clause-can
delete_versions-requires-clause-can g c =
    let low : (K : Core) → Keeps c.args.self.now K → c.args.through < latest_of K.state c.args.set = λ K keeps. omega (arith, c.latest-latest.ensures K keeps, c.if-through-latest.false) in
    let mends = subst (λ (v : View). MendsFirst c.args.self.now v (Ok c.in_ok-mend_first.field-0)) (sym c.self.view_is) c.in_ok-mend_first.ensures in
    (after_mend mends.core.0.strays mends.core.0, removing _ _ _ _ c.requires low _ mends (omega (arith, c.ranges.set.fits)) mends.core.0 mends.core.1 c.in-Here.index (ap index_of (sym c.in-Here.is)))

pub invariant_of-self : goal.invariant_of-self
invariant_of-self g c =
    let low : (K : Core) → Keeps c.args.self.now K → c.args.through < latest_of K.state c.args.set = λ K keeps. omega (arith, c.latest-latest.ensures K keeps, c.if-through-latest.false) in
    let mends = subst (λ (v : View). MendsFirst c.args.self.now v (Ok c.in_ok-mend_first.field-0)) (sym c.self.view_is) c.in_ok-mend_first.ensures in
    (done_core _ _ _ _ c.requires low _ mends (omega (arith, c.ranges.set.fits)) _ _ c.in-Here.index _ (ap index_of (sym c.in-Here.is)) _ c.in-Ok.ensures, c.delete_versions.ensures.room)

pub invariant_of-self-in-Err : goal.invariant_of-self-in-Err
invariant_of-self-in-Err g c =
    let low : (K : Core) → Keeps c.args.self.now K → c.args.through < latest_of K.state c.args.set = λ K keeps. omega (arith, c.latest-latest.ensures K keeps, c.if-through-latest.false) in
    let mends = subst (λ (v : View). MendsFirst c.args.self.now v (Ok c.in_ok-mend_first.field-0)) (sym c.self.view_is) c.in_ok-mend_first.ensures in
    (tried_core _ _ _ _ c.requires low _ mends (omega (arith, c.ranges.set.fits)) _ _ c.in-Here.index _ (ap index_of (sym c.in-Here.is)) _ c.in-Err.ensures, c.delete_versions.ensures.room)

pub bounds-sets-set : goal.bounds-sets-set
bounds-sets-set g c =
    let low : (K : Core) → Keeps c.args.self.now K → c.args.through < latest_of K.state c.args.set = λ K keeps. omega (arith, c.latest-latest.ensures K keeps, c.if-through-latest.false) in
    let mends = subst (λ (v : View). MendsFirst c.args.self.now v (Ok c.in_ok-mend_first.field-0)) (sym c.self.view_is) c.in_ok-mend_first.ensures in
    let count = done_sets _ _ _ _ c.requires low _ mends (omega (arith, c.ranges.set.fits)) _ _ c.in-Here.index _ (ap index_of (sym c.in-Here.is)) _ c.in-Ok.ensures in
    omega (arith, count, ap length c.as_slice-sets.ensures.value, c.ranges.set.fits)

pub bounds-sets-set-in-Ok : goal.bounds-sets-set-in-Ok
bounds-sets-set-in-Ok g c =
    let low : (K : Core) → Keeps c.args.self.now K → c.args.through < latest_of K.state c.args.set = λ K keeps. omega (arith, c.latest-latest.ensures K keeps, c.if-through-latest.false) in
    let mends = subst (λ (v : View). MendsFirst c.args.self.now v (Ok c.in_ok-mend_first.field-0)) (sym c.self.view_is) c.in_ok-mend_first.ensures in
    let count = done_sets _ _ _ _ c.requires low _ mends (omega (arith, c.ranges.set.fits)) _ _ c.in-Here.index _ (ap index_of (sym c.in-Here.is)) _ c.in-Ok.ensures in
    omega (arith, count, ap length c.as_slice-sets.ensures.value, c.ranges.set.fits)

pub returns-in-Ok : goal.returns-in-Ok
returns-in-Ok g c =
    let low : (K : Core) → Keeps c.args.self.now K → c.args.through < latest_of K.state c.args.set = λ K keeps. omega (arith, c.latest-latest.ensures K keeps, c.if-through-latest.false) in
    let mends = subst (λ (v : View). MendsFirst c.args.self.now v (Ok c.in_ok-mend_first.field-0)) (sym c.self.view_is) c.in_ok-mend_first.ensures in
    done_deletes _ _ _ _ c.requires low _ mends (omega (arith, c.ranges.set.fits)) _ _ c.in-Here.index _ (ap index_of (sym c.in-Here.is)) _ c.in-Ok.ensures _ _ _ c.as_slice-sets.ensures.value c.index-sets-set.is (sym (ap (λ (j : SetInfo). j.floor) c.index-sets-set.is))

pub returns-in-Err : goal.returns-in-Err
returns-in-Err g c =
    let low : (K : Core) → Keeps c.args.self.now K → c.args.through < latest_of K.state c.args.set = λ K keeps. omega (arith, c.latest-latest.ensures K keeps, c.if-through-latest.false) in
    let mends = subst (λ (v : View). MendsFirst c.args.self.now v (Ok c.in_ok-mend_first.field-0)) (sym c.self.view_is) c.in_ok-mend_first.ensures in
    tried_refused _ _ _ _ c.requires low _ mends (omega (arith, c.ranges.set.fits)) _ _ c.in-Here.index _ (ap index_of (sym c.in-Here.is)) _ c.in-Err.ensures
