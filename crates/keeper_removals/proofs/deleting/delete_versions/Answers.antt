use Rattle.std.proofs.Common.{⊎_elim, arith, ◌+◌, inl, inr, refl, sym, ◌∙◌, subst, None}
use Rattle.std.specs.Prelude.{Contains}
use Rattle.vault_types.specs.Delete.{delete}
use Rattle.vault_types.specs.Events.{IsNear, after_delete}
use Rattle.keeper_catalog.specs.Catalog.{memo_of}
use Rattle.keeper_removals.specs.Deletes.{DeletesVersions}
use Rattle.vault_traits.proofs.Moments.{ends}
use Rattle.deletion_laws.proofs.Steps.{told_half, near_deleting, changes, told_stands}
use Rattle.keeper_removals.proofs.Deleted.{floor_is}
use Rattle.keeper_removals.proofs.Cleaned.{again, rises, stays_even, even_removed, even_index, even_memo, even_held, even_idle, even_now, only_deleted, risen_held, risen_idle, then_deleted, floor_half, recipe_apart, floor_leaves, floor_tells, floor_goes_on}
use Rattle.keeper_removals.proofs.deleting.delete_versions.Goals as goal

pub returns-then-floor-index : goal.returns-then-floor-index
returns-then-floor-index g c = record {
  removed = λ K r.
      even_removed _ _ _ K _ _ r (stays_even _ _ _ K _ _ r c.index.result.now c.index.ensures c.if-floor-index.true);
  memo = λ K r.
      even_memo _ _ _ K _ _ r (stays_even _ _ _ K _ _ r c.index.result.now c.index.ensures c.if-floor-index.true) c.clean_from.new.strays.items _;
  index = λ K r.
      even_index _ _ _ K _ _ r (stays_even _ _ _ K _ _ r c.index.result.now c.index.ensures c.if-floor-index.true);
  held = λ K r held.
      let even = stays_even _ _ _ K _ _ r c.index.result.now c.index.ensures c.if-floor-index.true in
      c.clean_from.ensures.held (after_delete c.args.set c.args.through c.args.catalog.now.strays.items K) refl (λ tells. even_idle _ _ _ K _ _ r even _ held tells) (even_held _ _ _ K _ _ r even _ held);
  as_before = tt;
  half = tt;
  recipes = λ tells K r held s v k below is.
      let even = stays_even _ _ _ K _ _ r c.index.result.now c.index.ensures c.if-floor-index.true in
      c.clean_from.ensures.others _ (recipe_apart (after_delete c.args.set c.args.through c.args.catalog.now.strays.items K) _ (even_idle _ _ _ K _ _ r even _ held tells) s v k below is);
  all_recipes = tt;
  refused_moment = tt;
  any_moment = λ K r held here.
      let even = stays_even _ _ _ K _ _ r c.index.result.now c.index.ensures c.if-floor-index.true in
      only_deleted _ _ _ K _ _ r _ _
      (c.clean_from.ensures.any_moment (after_delete c.args.set c.args.through c.args.catalog.now.strays.items K) refl (λ tells. even_idle _ _ _ K _ _ r even _ held tells) (even_now _ _ _ K _ _ r even _ here));
  acknowledged = λ K r held here.
      let even = stays_even _ _ _ K _ _ r c.index.result.now c.index.ensures c.if-floor-index.true in
      ends (IsNear (delete K.state c.args.set c.args.through) None) _ _
      (c.clean_from.ensures.any_moment (after_delete c.args.set c.args.through c.args.catalog.now.strays.items K) refl (λ tells. even_idle _ _ _ K _ _ r even _ held tells) (even_now _ _ _ K _ _ r even _ here));
  within = λ K r q there. inl (c.clean_from.ensures.within q there);
  few = λ below. omega (arith, c.clean_from.ensures.few below);
  room = record { names = omega (arith, c.requires.room.names, c.clean_from.ensures.fewer.0, c.clean_from.ensures.fewer.1); ids = c.requires.room.ids };
  tells = c.clean_from.ensures.tells;
  gets = c.clean_from.ensures.gets;
  causes = record { later = c.clean_from.ensures.later; each = tt };
}

pub returns-in_err-raise_floor : goal.returns-in_err-raise_floor
returns-in_err-raise_floor g c =
    again (DeletesVersions c.args.set c.args.through c.args.pins.now (memo_of c.args.catalog.now) (memo_of c.args.catalog.now) c.args.index.now c.args.index.now (g.S.Shelf.told c.args.shelf.now) (g.S.Shelf.told c.raise_floor.new.shelf)) c.in_err-raise_floor.field-0.0 (record {
      removed = tt;
      memo = tt;
      index = tt;
      held = tt;
      as_before = (refl, refl);
      half = λ K r held.
          let up = rises _ _ _ K _ _ r c.index.result.now (c.args.through + 1) c.index.ensures refl c.if-floor-index.false in
          told_half K c.args.set c.args.through (c.args.through + 1) r.core.state r.in_range r.low (floor_is _ _ _ K _ _ r _ up) r.no_job r.alone _ _ c.raise_floor.ensures.at_most held;
      recipes = tt;
      all_recipes = floor_leaves _ _ _ _ c.raise_floor.ensures.at_most;
      refused_moment = λ K r here.
          let up = rises _ _ _ K _ _ r c.index.result.now (c.args.through + 1) c.index.ensures refl c.if-floor-index.false in
          let is = floor_is _ _ _ K _ _ r _ up in
          floor_half K c.args.set c.args.through (c.args.through + 1) is _ _
          (c.raise_floor.ensures.any_moment K.state (delete K.state c.args.set c.args.through) (changes K c.args.set c.args.through (c.args.through + 1) r.core.state r.in_range r.low is) here);
      any_moment = λ K r held here.
          let up = rises _ _ _ K _ _ r c.index.result.now (c.args.through + 1) c.index.ensures refl c.if-floor-index.false in
          let is = floor_is _ _ _ K _ _ r _ up in
          near_deleting K c.args.set c.args.through (c.args.through + 1) r.core.state r.in_range r.low is _ _
          (c.raise_floor.ensures.any_moment K.state (delete K.state c.args.set c.args.through) (changes K c.args.set c.args.through (c.args.through + 1) r.core.state r.in_range r.low is) here);
      acknowledged = tt;
      within = tt;
      few = tt;
      room = c.requires.room;
      tells = floor_goes_on _ _ _ _ c.raise_floor.ensures.at_most;
      gets = c.raise_floor.ensures.gets;
      causes = record { later = c.raise_floor.ensures.causes.later; each = c.in_err-raise_floor.ensures.causes.each };
    }) c.from_residual.result c.from_residual.ensures.1

pub returns : goal.returns
returns g c = record {
  removed = λ K r.
      c.forget_versions-count.ensures.removed K c.args.through r (rises _ _ _ K _ _ r c.index.result.now (c.args.through + 1) c.index.ensures refl c.if-floor-index.false);
  memo = λ K r.
      let memo = c.forget_versions-count.ensures.memo K c.args.through r (rises _ _ _ K _ _ r c.index.result.now (c.args.through + 1) c.index.ensures refl c.if-floor-index.false) in
      record { sets = memo.sets; tables = memo.tables; markers = memo.markers; strays = refl };
  index = λ K r. c.forget_versions-count.ensures.index K c.args.through r (rises _ _ _ K _ _ r c.index.result.now (c.args.through + 1) c.index.ensures refl c.if-floor-index.false);
  held = λ K r held.
      let up = rises _ _ _ K _ _ r c.index.result.now (c.args.through + 1) c.index.ensures refl c.if-floor-index.false in
      let are = c.forget_versions-count.ensures.strays K c.args.through r up in
      c.clean_from-2.ensures.held (after_delete c.args.set c.args.through c.forget_versions-count.new.catalog.strays.items K) refl
      (risen_idle _ _ _ K _ _ r (c.args.through + 1) refl up _ are _ _ c.in_ok-raise_floor.ensures.ok held)
      (risen_held _ _ _ K _ _ r (c.args.through + 1) refl up _ are _ _ c.in_ok-raise_floor.ensures.ok held);
  as_before = tt;
  half = tt;
  recipes = λ tells K r held s v k below is.
      let up = rises _ _ _ K _ _ r c.index.result.now (c.args.through + 1) c.index.ensures refl c.if-floor-index.false in
      let are = c.forget_versions-count.ensures.strays K c.args.through r up in
      c.clean_from-2.ensures.others _
      (recipe_apart (after_delete c.args.set c.args.through c.forget_versions-count.new.catalog.strays.items K) _
      (risen_idle _ _ _ K _ _ r (c.args.through + 1) refl up _ are _ _ c.in_ok-raise_floor.ensures.ok held (floor_tells _ _ _ _ c.in_ok-raise_floor.ensures.ok tells)) s v k below is)
      ∙ floor_leaves _ _ _ _ (inr c.in_ok-raise_floor.ensures.ok) s v;
  all_recipes = tt;
  refused_moment = tt;
  any_moment = λ K r held here.
      let up = rises _ _ _ K _ _ r c.index.result.now (c.args.through + 1) c.index.ensures refl c.if-floor-index.false in
      let is = floor_is _ _ _ K _ _ r _ up in
      let are = c.forget_versions-count.ensures.strays K c.args.through r up in
      let may = changes K c.args.set c.args.through (c.args.through + 1) r.core.state r.in_range r.low is in
      then_deleted _ _ _ K _ _ r _ _ _
      (near_deleting K c.args.set c.args.through (c.args.through + 1) r.core.state r.in_range r.low is _ _ (c.raise_floor.ensures.any_moment K.state (delete K.state c.args.set c.args.through) may here))
      (c.clean_from-2.ensures.any_moment (after_delete c.args.set c.args.through c.forget_versions-count.new.catalog.strays.items K) refl
      (risen_idle _ _ _ K _ _ r (c.args.through + 1) refl up _ are _ _ c.in_ok-raise_floor.ensures.ok held)
      (c.in_ok-raise_floor.ensures.acknowledged K.state (delete K.state c.args.set c.args.through) may (told_stands K c.args.set c.args.through (c.args.through + 1) r.core.state r.in_range r.low is r.no_job r.alone _ held)));
  acknowledged = λ K r held here.
      let up = rises _ _ _ K _ _ r c.index.result.now (c.args.through + 1) c.index.ensures refl c.if-floor-index.false in
      let is = floor_is _ _ _ K _ _ r _ up in
      let are = c.forget_versions-count.ensures.strays K c.args.through r up in
      let may = changes K c.args.set c.args.through (c.args.through + 1) r.core.state r.in_range r.low is in
      ends (IsNear (delete K.state c.args.set c.args.through) None) _ _
      (c.clean_from-2.ensures.any_moment (after_delete c.args.set c.args.through c.forget_versions-count.new.catalog.strays.items K) refl
      (risen_idle _ _ _ K _ _ r (c.args.through + 1) refl up _ are _ _ c.in_ok-raise_floor.ensures.ok held)
      (c.in_ok-raise_floor.ensures.acknowledged K.state (delete K.state c.args.set c.args.through) may (told_stands K c.args.set c.args.through (c.args.through + 1) r.core.state r.in_range r.low is r.no_job r.alone _ held)));
  within = λ K r n there.
      let up = rises _ _ _ K _ _ r c.index.result.now (c.args.through + 1) c.index.ensures refl c.if-floor-index.false in
      ⊎_elim (λ old. inl (subst (λ l. Contains l n) (sym r.memo.strays) old)) (λ goes. inr goes)
      ((c.forget_versions-count.ensures.strays K c.args.through r up).only n (c.clean_from-2.ensures.within n there));
  few = λ below. omega (arith, c.clean_from-2.ensures.few below, c.raise_floor.ensures.causes.later);
  room = record { names = omega (arith, c.forget_versions-count.ensures.room.names, c.clean_from-2.ensures.fewer.0, c.clean_from-2.ensures.fewer.1); ids = c.forget_versions-count.ensures.room.ids };
  tells = λ tells. c.clean_from-2.ensures.tells (floor_goes_on _ _ _ _ c.raise_floor.ensures.at_most tells);
  gets = c.clean_from-2.ensures.gets ∙ c.raise_floor.ensures.gets;
  causes = record { later = omega (arith, c.raise_floor.ensures.causes.later, c.clean_from-2.ensures.later); each = tt };
}
