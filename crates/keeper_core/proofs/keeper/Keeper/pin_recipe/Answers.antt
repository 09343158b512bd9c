use Rattle.std.proofs.Common.{rules, ◌++◌, ◌∷◌, [], ℕ, List, map, refl, sym, ◌∙◌, ap, subst, Some}
use Rattle.std.specs.Prelude.{Err, IsSome, IsSomeAnd, slice_get}
use Rattle.std.specs.List.{AllByRecursion}
use Rattle.vault_types.specs.declared.Fault.TheVariants as fault
use Rattle.vault_types.specs.declared.Fault.{Fault}
use Rattle.vault_types.specs.declared.Row.{Row}
use Rattle.vault_types.specs.Lists.{has, set_of}
use Rattle.commit_laws.proofs.Pinned.{filter_was}
use Rattle.vault_types.specs.Events.{Core}
use Rattle.vault_types.specs.Shelf.{recipe_name, Has}
use Rattle.vault_traits.specs.Causes.{IsCause, HasCauses}
use Rattle.row_spots.specs.declared.Unplaced.{Unplaced}
use Rattle.row_spots.specs.Spots.{spot_in, HasPlace}
use Rattle.keeper_catalog.specs.Catalog.{memo_of}
use Rattle.keeper_catalog.specs.View.{View, Keeps}
use Rattle.commit_laws.specs.Laws.{pin_with, pinned_core}
use Rattle.keeper_core.specs.declared.pinning.Pinned.{Pinned}
use Rattle.keeper_core.specs.declared.copying.PinnedRecipe.{PinnedRecipe}
use Rattle.std.specs.Prelude.{Result}
use Rattle.keeper_core.specs.Stands.{index_of, job_of}
use Rattle.keeper_core.specs.Calls.{HasListed, IsPinDamage, IsUnplaced}
use Rattle.keeper_core.proofs.Openings.{says_version, says_whole}
use Rattle.keeper_core.specs.Copying.{PinsRecipe, AreSpotsOf}
use Rattle.keeper_core.proofs.Copyings.{pinned_as, spots_of_rows}
use Rattle.keeper_core.proofs.Pinnings.{tables_ruled, unplaced_cause, pinned_rows, pin_is, pinned_version, spots_listed}
use Rattle.keeper_core.proofs.keeper.Keeper.pin_recipe.Goals as goal

pub spots_in-requires-clause-rules : goal.spots_in-requires-clause-rules
spots_in-requires-clause-rules g c = let k = c.self.invariant.0 in tables_ruled _ k.0 k.1

pub invariant_of-self-2 : goal.invariant_of-self-2
invariant_of-self-2 g c =
    let k = c.self.invariant.0 in (
      (
        pinned_core c.in_ok-no.no c.args.set c.args.version (set_of (map (λ (q : Row). q.id) c.as_slice-rows.result.now)) k.0,
        pinned_rows _ k.0 k.1 c.as_slice-rows.result.now c.in-Ok.ensures.named c.in_ok-no.no c.args.set c.args.version c.in_ok-ids.ids.items (g.S.Shelf.told c.get_recipe.new.shelf) c.pin.new.self c.in_ok-ids.ensures c.in_ok-no.ensures.pinned c.in_ok-no.ensures.fresh c.in_ok-recipe.ensures.kept.blobs,
      ),
      c.self.invariant.1,
    )

pub returns-in_err-recipe : goal.returns-in_err-recipe
returns-in_err-recipe g c =
    pinned_as (λ (r : Result PinnedRecipe Fault). PinsRecipe c.args.set c.args.version c.args.self.now (record { told = g.S.Shelf.told c.get_recipe.new.shelf; memo = memo_of c.self.inside.catalog; index = index_of c.self.inside.stand; pins = c.self.inside.pins; job = job_of c.self.inside.stand; pending = c.self.inside.pending }) r) c.from_residual.result c.in_err-recipe.field-0.0 c.from_residual.ensures.1
    (record {
      pins = record {
        ok = search rules;
        whole = search rules;
        pinned = search rules;
        given = search rules;
        fresh = search rules;
        lists = search rules;
        core = search rules;
        err = search rules;
        same = search rules;
        shelf = search rules;
        causes = search rules;
      };
      rules = tt;
      says = tt;
      whole = tt;
      spots = tt;
    })

pub returns-in-Err : goal.returns-in-Err
returns-in-Err g c = record {
  pins = record {
    ok = search rules;
    whole = search rules;
    pinned = search rules;
    given = search rules;
    fresh = search rules;
    lists = search rules;
    core = search rules;
    err = search rules;
    same = search rules;
    shelf = search rules;
    causes = λ K keeps.
        let k = subst (λ (v : View). Keeps v K) (sym c.self.view_is) keeps in
        let found = c.in_ok-recipe.ensures.found in
        let marks = k.memo.markers in
        subst (λ (v : View). HasCauses {T = Pinned} v.told.faults (g.S.Shelf.told c.get_recipe.new.shelf).faults (IsPinDamage v.told.blobs K.state c.args.set c.args.version) (Err c.fault_of.result)) c.self.view_is
        (record {
          later = c.in_ok-recipe.ensures.causes.later;
          each = subst (λ (f : Fault). IsCause (g.S.Shelf.told c.self.inside.shelf).faults (g.S.Shelf.told c.get_recipe.new.shelf).faults (IsPinDamage (g.S.Shelf.told c.self.inside.shelf).blobs K.state c.args.set c.args.version) f) (sym c.fault_of.ensures)
              (unplaced_cause _ K k c.args.set c.args.version c.in_ok-recipe.recipe found.0 marks.0 marks.2 c.ranges.set.fits found.1 found.2 c.in-Err.unplaced _ _
              (λ i same. subst (λ (l : List Row). IsSomeAnd (slice_get l i) (IsUnplaced (memo_of c.self.inside.catalog).tables marks.0)) c.as_slice-rows.ensures (c.in-Err.ensures.bad i (ap (λ (u : Unplaced). Err u) same) marks.0 marks.1)));
        });
  };
  rules = tt;
  says = tt;
  whole = tt;
  spots = tt;
}

pub returns-in_err-ids : goal.returns-in_err-ids
returns-in_err-ids g c =
    pinned_as (λ (r : Result PinnedRecipe Fault). PinsRecipe c.args.set c.args.version c.args.self.now (record { told = g.S.Shelf.told c.get_recipe.new.shelf; memo = memo_of c.self.inside.catalog; index = index_of c.self.inside.stand; pins = c.self.inside.pins; job = job_of c.self.inside.stand; pending = c.self.inside.pending }) r) c.from_residual-in_err-ids.result fault.Memory c.from_residual-in_err-ids.ensures.1
    (record {
      pins = record {
        ok = search rules;
        whole = search rules;
        pinned = search rules;
        given = search rules;
        fresh = search rules;
        lists = search rules;
        core = search rules;
        err = search rules;
        same = search rules;
        shelf = search rules;
        causes = search rules;
      };
      rules = tt;
      says = tt;
      whole = tt;
      spots = tt;
    })

pub returns-in_err-no : goal.returns-in_err-no
returns-in_err-no g c =
    pinned_as (λ (r : Result PinnedRecipe Fault). PinsRecipe c.args.set c.args.version c.args.self.now (record { told = g.S.Shelf.told c.get_recipe.new.shelf; memo = memo_of c.self.inside.catalog; index = index_of c.self.inside.stand; pins = c.pin.new.self; job = job_of c.self.inside.stand; pending = c.self.inside.pending }) r) c.from_residual-in_err-no.result fault.Memory c.from_residual-in_err-no.ensures.1
    (record {
      pins = record {
        ok = search rules;
        whole = search rules;
        pinned = search rules;
        given = search rules;
        fresh = search rules;
        lists = search rules;
        core = search rules;
        err = search rules;
        same = search rules;
        shelf = search rules;
        causes = search rules;
      };
      rules = tt;
      says = tt;
      whole = tt;
      spots = tt;
    })

pub returns : goal.returns
returns g c = record {
  pins = record {
    ok = λ tells K k keeps kept.
        let h = subst (λ (v : View). Keeps v K) (sym c.self.view_is) keeps in
        let tells_in = subst (λ (v : View). IsSome v.told.blobs) (sym c.self.view_is) tells in
        let found = c.in_ok-recipe.ensures.found in
        let rows = c.as_slice-rows.ensures in
        let says = says_version _ K k c.args.set c.args.version c.in_ok-recipe.recipe found.0 h c.ranges.set.fits kept tells_in found.1 found.2 in
        let pinned = pinned_rows _ K h c.as_slice-rows.result.now c.in-Ok.ensures.named c.in_ok-no.no c.args.set c.args.version c.in_ok-ids.ids.items (g.S.Shelf.told c.get_recipe.new.shelf) c.pin.new.self c.in_ok-ids.ensures c.in_ok-no.ensures.pinned c.in_ok-no.ensures.fresh c.in_ok-recipe.ensures.kept.blobs in (
          subst (λ (C : Core). Keeps (record { told = g.S.Shelf.told c.get_recipe.new.shelf; memo = memo_of c.self.inside.catalog; index = index_of c.self.inside.stand; pins = c.pin.new.self; job = job_of c.self.inside.stand; pending = c.self.inside.pending }) C) (ap (λ (l : List Row). pinned_core c.in_ok-no.no c.args.set c.args.version (set_of (map (λ (q : Row). q.id) l)) K) (rows ∙ says.rows) ∙ pin_is _ K h c.in_ok-no.no c.args.set c.args.version k) pinned,
          pinned_version _ K h c.args.set c.args.version k c.in_ok-recipe.recipe found.0 c.in-Ok.spots.items c.ranges.set.fits kept tells_in found.1 found.2 (c.in-Ok.ensures.spots ∙ ap (map (spot_in (memo_of c.self.inside.catalog).tables)) rows) (subst (AllByRecursion (HasPlace (memo_of c.self.inside.catalog).tables)) rows c.in-Ok.ensures.placed),
        );
    whole = λ tells K k keeps kept.
        let found = c.in_ok-recipe.ensures.found in
        says_whole c.args.self.now K k c.args.set c.args.version c.in_ok-recipe.recipe found.0 keeps c.ranges.set.fits kept tells (subst (λ (v : View). Has v.told.blobs (recipe_name c.args.set c.args.version) (Some found.0)) c.self.view_is found.1) found.2;
    pinned = λ K keeps.
        let k = subst (λ (v : View). Keeps v K) (sym c.self.view_is) keeps in (
          pin_with c.in_ok-no.no c.args.set c.args.version (set_of (map (λ (q : Row). q.id) c.as_slice-rows.result.now)) K.state,
          refl,
          (λ d there. filter_was (λ e. has e.table.id (set_of (map (λ (q : Row). q.id) c.as_slice-rows.result.now))) K.state.containers d there),
          pinned_rows _ K k c.as_slice-rows.result.now c.in-Ok.ensures.named c.in_ok-no.no c.args.set c.args.version c.in_ok-ids.ids.items (g.S.Shelf.told c.get_recipe.new.shelf) c.pin.new.self c.in_ok-ids.ensures c.in_ok-no.ensures.pinned c.in_ok-no.ensures.fresh c.in_ok-recipe.ensures.kept.blobs,
        );
    given = search rules;
    fresh = search rules;
    lists = λ K keeps.
        subst (AllByRecursion (HasListed K.pins c.in_ok-no.no)) (sym c.in-Ok.ensures.spots)
        (spots_listed _ K keeps c.in_ok-no.no c.args.version c.self.inside.pins c.as_slice-rows.result.now
        (c.in_ok-no.ensures.pinned ∙ ap (λ (l : List ℕ). c.self.inside.pins ++ record { number = c.in_ok-no.no; version = c.args.version; ids = l } ∷ []) c.in_ok-ids.ensures)
        c.in-Ok.ensures.placed);
    core = let k = c.self.invariant.0 in (
      pinned_core c.in_ok-no.no c.args.set c.args.version (set_of (map (λ (q : Row). q.id) c.as_slice-rows.result.now)) k.0,
      pinned_rows _ k.0 k.1 c.as_slice-rows.result.now c.in-Ok.ensures.named c.in_ok-no.no c.args.set c.args.version c.in_ok-ids.ids.items (g.S.Shelf.told c.get_recipe.new.shelf) c.pin.new.self c.in_ok-ids.ensures c.in_ok-no.ensures.pinned c.in_ok-no.ensures.fresh c.in_ok-recipe.ensures.kept.blobs,
    );
    err = search rules;
    same = search rules;
    shelf = search rules;
    causes = search rules;
  };
  rules = c.in_ok-recipe.ensures.found.2.rules;
  says = λ tells K k keeps kept.
      let found = c.in_ok-recipe.ensures.found in
      says_version c.args.self.now K k c.args.set c.args.version c.in_ok-recipe.recipe found.0 keeps c.ranges.set.fits kept tells (subst (λ (v : View). Has v.told.blobs (recipe_name c.args.set c.args.version) (Some found.0)) c.self.view_is found.1) found.2;
  whole = refl;
  spots = λ K keeps.
      subst (λ (rows : List Row). AreSpotsOf K.pins c.in_ok-no.no rows c.in-Ok.spots.items) c.as_slice-rows.ensures
      (subst (AreSpotsOf K.pins c.in_ok-no.no c.as_slice-rows.result.now) (sym c.in-Ok.ensures.spots)
      (spots_of_rows _ K keeps c.in_ok-no.no c.as_slice-rows.result.now c.in-Ok.ensures.placed));
}
