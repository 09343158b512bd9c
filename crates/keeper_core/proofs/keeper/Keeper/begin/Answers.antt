use Rattle.std.proofs.Common.{◌+◌, ℕ, List, refl, sym, subst, ap, ◌∙◌, arith, map, length}
use Rattle.std.specs.Prelude.{fold, max, IsSome}
use Rattle.vault_types.specs.Events.{after_begin}
use Rattle.vault_types.specs.declared.Fp.{Fp}
use Rattle.vault_types.specs.Tables.{Container}
use Rattle.fp_index.specs.Index.{IsIndexOf}
use Rattle.keeper_catalog.specs.declared.SetInfo.{SetInfo}
use Rattle.keeper_catalog.specs.View.{View, Keeps}
use Rattle.keeper_jobs.specs.Jobs.{Sees}
use Rattle.keeper_jobs.proofs.Seeing.{info_is}
use Rattle.vault_types.specs.Shelf.{blob_at, recipe_name}
use Rattle.state_laws.proofs.Changing.{latest_low, version_high}
use Rattle.keeper_core.proofs.Keeping.{sees_of, begun, sets_count, next_is}
use Rattle.keeper_core.proofs.keeper.Keeper.begin.Goals as goal

pub overflow_add-version : goal.overflow_add-version
overflow_add-version g c =
    let k = c.self.invariant.0 in
    let sees = subst (λ (l : List SetInfo). Sees l c.self.inside.pending k.0) (sym c.as_slice-sets.ensures.value) (sees_of _ k.0 k.1) in
    let i = info_is _ _ k.0 sees c.args.set _ (let count = sets_count _ k.0 k.1 in let len = ap length c.as_slice-sets.ensures.value in omega (arith, count, len, c.ranges.set.fits)) c.index-sets-set.is in
    omega (arith, ap (λ (j : SetInfo). j.latest) i, latest_low k.0.state c.args.set k.1.core.state)

pub invariant_of-self-2 : goal.invariant_of-self-2
invariant_of-self-2 g c =
    let k = c.self.invariant.0 in
    let sees = subst (λ (l : List SetInfo). Sees l c.self.inside.pending k.0) (sym c.deref.ensures.value) (sees_of _ k.0 k.1) in (
      (
        after_begin c.args.set k.0.strays k.0,
        begun _ k.0 k.1 _ _ c.args.set _ _ _ (omega (arith, c.ranges.set.fits)) (c.next_of_sets-next.ensures ∙ ap (λ (l : List SetInfo). fold max 1 (map (λ i. i.next) l)) c.deref-2.ensures.value) c.lend-index.ensures.job c.lend-index.ensures.index.1 (ap (λ (v : View). v.job) c.self.view_is ∙ c.requires) c.in_ok-mend_for.ensures.over (c.in_ok-mend_for.ensures.mended k.0 sees k.1.held),
      ),
      c.self.invariant.1,
    )

pub returns-clause-ok : goal.returns-clause-ok
returns-clause-ok g c K keeps =
    let k = subst (λ (v : View). Keeps v K) (sym c.self.view_is) keeps in
    let sees = subst (λ (l : List SetInfo). Sees l c.self.inside.pending K) (sym c.deref.ensures.value) (sees_of _ K k) in
    let info = subst (λ (l : List SetInfo). Sees l c.self.inside.pending K) (sym c.as_slice-sets.ensures.value) (sees_of _ K k) in
    let i = info_is _ _ K info c.args.set _ (let count = sets_count _ K k in let len = ap length c.as_slice-sets.ensures.value in omega (arith, count, len, c.ranges.set.fits)) c.index-sets-set.is in
    let next = c.next_of_sets-next.ensures ∙ ap (λ (l : List SetInfo). fold max 1 (map (λ i. i.next) l)) c.deref-2.ensures.value in (
      begun _ K k _ _ c.args.set _ _ _ (omega (arith, c.ranges.set.fits)) next c.lend-index.ensures.job c.lend-index.ensures.index.1 (ap (λ (v : View). v.job) c.self.view_is ∙ c.requires) c.in_ok-mend_for.ensures.over (c.in_ok-mend_for.ensures.mended K sees k.held),
      record {
        set = refl;
        version = ap (λ (j : SetInfo). j.latest + 1) i;
        next = next ∙ ap (λ (l : List SetInfo). fold max 1 (map (λ i. i.next) l)) k.memo.sets ∙ next_is K.state.datasets 1;
        sparse = c.in_ok-sparse.ensures ∙ c.as_slice.ensures ∙ ap (λ (j : SetInfo). j.sparse) i;
        index = subst (λ (l : List (Fp × List ℕ)). IsIndexOf l (map (λ (d : Container). d.table) K.state.containers)) (sym c.lend-index.ensures.index.0) k.index;
      },
    )

pub returns-clause-core : goal.returns-clause-core
returns-clause-core g c = let k = c.self.invariant.0 in (k.0, subst (λ (v : View). Keeps v k.0) c.self.view_is k.1)

pub returns-in_err-sparse-clause-tells : goal.returns-in_err-sparse-clause-tells
returns-in_err-sparse-clause-tells g c told = told

pub returns-in_err-sparse-clause-pins : goal.returns-in_err-sparse-clause-pins
returns-in_err-sparse-clause-pins g c = refl

pub returns-in_err-mend_for-clause-tells : goal.returns-in_err-mend_for-clause-tells
returns-in_err-mend_for-clause-tells g c told = c.mend_for.ensures.tells (subst (λ (v : View). IsSome v.told.blobs) (sym c.self.view_is) told)

pub returns-in_err-mend_for-clause-pins : goal.returns-in_err-mend_for-clause-pins
returns-in_err-mend_for-clause-pins g c = ap (λ (v : View). v.pins) c.self.view_is

pub returns-clause-tells : goal.returns-clause-tells
returns-clause-tells g c told = c.mend_for.ensures.tells (subst (λ (v : View). IsSome v.told.blobs) (sym c.self.view_is) told)

pub returns-clause-pins : goal.returns-clause-pins
returns-clause-pins g c = ap (λ (v : View). v.pins) c.self.view_is

pub returns-in_err-sparse-clause-recipes : goal.returns-in_err-sparse-clause-recipes
returns-in_err-sparse-clause-recipes g c K keeps s n j below is = refl

pub returns-in_err-mend_for-clause-recipes : goal.returns-in_err-mend_for-clause-recipes
returns-in_err-mend_for-clause-recipes g c K keeps s n j below is =
    let k = subst (λ (v : View). Keeps v K) (sym c.self.view_is) keeps in
    let sees = subst (λ (l : List SetInfo). Sees l c.self.inside.pending K) (sym c.deref.ensures.value) (sees_of _ K k) in
    c.mend_for.ensures.recipes K sees s n (version_high K.state s n j is) ∙ ap (λ (v : View). blob_at v.told.blobs (recipe_name s n)) c.self.view_is

pub returns-clause-recipes : goal.returns-clause-recipes
returns-clause-recipes g c K keeps s n j below is =
    let k = subst (λ (v : View). Keeps v K) (sym c.self.view_is) keeps in
    let sees = subst (λ (l : List SetInfo). Sees l c.self.inside.pending K) (sym c.deref.ensures.value) (sees_of _ K k) in
    c.mend_for.ensures.recipes K sees s n (version_high K.state s n j is) ∙ ap (λ (v : View). blob_at v.told.blobs (recipe_name s n)) c.self.view_is
