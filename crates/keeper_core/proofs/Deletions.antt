-- A deletion of versions, by where it ends.
use Rattle.std.proofs.Common.{◌≡◌, ◌⊎◌, inl, inr, ℕ, ◌≤◌, ◌<◌, List, length, None, Some, refl, sym, ◌∙◌, ap, subst, arith}
use Rattle.std.specs.Prelude.{Result, Ok, Err, slice_index_or}
use Rattle.vault_types.specs.declared.Fp.{Fp}
use Rattle.vault_types.specs.declared.Fault.{Fault}
use Rattle.vault_types.specs.declared.Fault.TheVariants as fault
use Rattle.vault_types.specs.declared.Answer.TheVariants.{Removed}
use Rattle.vault_types.specs.declared.Pending.TheVariants.{FailedFor}
use Rattle.vault_types.specs.State.{latest_of}
use Rattle.vault_types.specs.Shelf.{Blobs}
use Rattle.vault_types.specs.Events.{Core, IsNear, after_delete, after_mend, after_refused, delete_change}
use Rattle.vault_traits.specs.Told.{ShelfTold}
use Rattle.vault_traits.specs.Causes.{IsStoreFault}
use Rattle.vault_traits.specs.Crash.{LeavesNowIfTold, LeavesOnlyIfTold}
use Rattle.vault_traits.proofs.Moments.{stays, then, more}
use Rattle.state_laws.proofs.Changing.{version_high}
use Rattle.state_laws.proofs.Shrinking as shrinking
use Rattle.deletion_laws.specs.Deleting.{IsDeleting}
use Rattle.keeper_catalog.specs.declared.SetInfo.{SetInfo}
use Rattle.keeper_catalog.specs.Catalog.{Memo}
use Rattle.keeper_catalog.specs.View.{View, Keeps, HasCore}
use Rattle.keeper_jobs.proofs.Seeing.{not_failed}
use Rattle.keeper_removals.specs.Removals.{Removing}
use Rattle.keeper_removals.specs.Deletes.{DeletesVersions}
use Rattle.keeper_core.specs.Calls.{IsDeletionFault}
use Rattle.keeper_core.specs.Mends.{MendsFirst}
use Rattle.keeper_core.specs.Deletes.{DeletesThrough}
use Rattle.keeper_core.proofs.Keeping.{sets_count}
use Rattle.keeper_core.proofs.Mendings.{mended_leaves}
use Rattle.keeper_core.proofs.Removing.{removing_of, deleted, floor_after, halved}
use Rattle.keeper_core.proofs.Refusing.{delete_tried, shelf_fault}

-- the version is not below the latest
pub last_refused : (u : View) (s n latest : ℕ) → u.job ≡ None → ((K : Core) → Keeps u K → latest ≡ latest_of K.state s) → latest ≤ n → DeletesThrough s n u u (Err (fault.LastVersion s n latest))
last_refused u s n latest none is high = record {
  ok = tt;
  err = λ K keeps. inl (record { keeps = keeps; any_moment = λ here. stays (IsNear K.state K.other) _ _ refl here });
  still = λ K keeps above. refl;
  last = λ K keeps above. ap (λ (l : ℕ). Err (fault.LastVersion s n l)) (is K keeps);
  cause = λ K keeps. omega (arith, is K keeps, high);
  later = omega arith;
  same = (none, refl);
  memo = refl;
  tells = λ tells. tells;
  recipes = tt;
  all_recipes = λ K keeps t v k below there. refl;
  any_moment = λ K keeps here. more (IsNear K.state K.other) _ (λ b near. inl near) _ _ (stays (IsNear K.state K.other) _ _ refl here);
  acknowledged = tt;
  due = λ over. over;
  few = tt;
  gets = refl;
}

-- why it is refused otherwise
failed_cause : (before mid now : ℕ) (IsLast : Type 0) (f : Fault) → before ≤ mid → IsStoreFault mid now f → IsDeletionFault before now IsLast f
failed_cause before mid now IsLast f later why =
    let failed = shelf_fault mid now f why in
    let rose = subst (λ (g : Fault). IsStoreFault mid now g) failed.1 why in
    subst (λ (g : Fault). IsDeletionFault before now IsLast g) (sym failed.1) (rose.0, omega (arith, later, rose.1))

module _ {T : Type 0} (u m : View) (s n : ℕ) (none : u.job ≡ None) (low : (K : Core) → Keeps u K → n < latest_of K.state s) where
  -- the mending failed
  pub unmended_refused : (f : Fault) → MendsFirst {T = T} u m (Err f) → DeletesThrough s n u m (Err f)
  unmended_refused f mends = record {
    ok = tt;
    err = λ K keeps. inl (record { keeps = mends.err K keeps; any_moment = mends.any_moment K keeps });
    still = λ K keeps high. absurd (omega (arith, low K keeps, high));
    last = λ K keeps high. absurd (omega (arith, low K keeps, high));
    cause = λ K keeps. failed_cause u.told.faults u.told.faults m.told.faults (latest_of K.state s ≤ n) f (omega arith) mends.causes.each;
    later = mends.causes.later;
    same = (mends.job ∙ none, mends.pins);
    memo = mends.memo;
    tells = mends.tells;
    recipes = tt;
    all_recipes = λ K keeps t v k below is. mends.recipes K keeps t v (version_high K.state t v k is);
    any_moment = λ K keeps here. more (IsNear K.state K.other) _ (λ b near. inl near) _ _ (mends.any_moment K keeps here);
    acknowledged = tt;
    due = λ over. sym mends.waits ∙ over;
    few = tt;
    gets = mends.gets;
  }

  module _ (x : T) (mends : MendsFirst u m (Ok x)) (in_range : s < 256) where
    below : (K : Core) → Keeps u K → s < length K.state.datasets
    below K keeps = omega (arith, in_range, keeps.core.state.sets)

    -- the deletion may be made
    pub removing : (K : Core) → Keeps u K → (entries : List (Fp × List ℕ)) → entries ≡ m.index → Removing m.memo entries m.pins (after_mend K.strays K) s n
    removing K keeps entries same = removing_of m (after_mend K.strays K) (mends.ok K keeps) (mends.job ∙ none) s n (below K keeps) (low K keeps) entries same refl

    abbrev either : Core → Blobs → Type 0
    either K b = IsNear K.state K.other b ⊎ IsDeleting K.state s n b

    module _ (told : ShelfTold) (l : Memo) (entries rest : List (Fp × List ℕ)) (same : entries ≡ m.index) where
      abbrev done : View
      done = record { told = told; memo = l; index = rest; pins = m.pins; job = None; pending = m.pending }

      abbrev tried : View
      tried = record { told = told; memo = l; index = rest; pins = m.pins; job = None; pending = FailedFor s }

      moment : (r : Result ℕ Fault) → DeletesVersions s n m.pins m.memo l entries rest m.told told r → (K : Core) → Keeps u K → LeavesNowIfTold u.told.history (IsNear K.state K.other) → LeavesOnlyIfTold u.told.history told.history (either K)
      moment r deletes K keeps here =
          let may = removing K keeps entries same in
          then (either K) _ _ _ (more (IsNear K.state K.other) (either K) (λ b near. inl near) _ _ (mends.any_moment K keeps here))
          (more (IsDeleting K.state s n) (either K) (λ b goes. inr goes) _ _ (deletes.any_moment (after_mend K.strays K) may (mends.ok K keeps).held (mended_leaves u m x mends K keeps (λ e. here))))

      -- it is done
      module _ (count : ℕ) (deletes : DeletesVersions s n m.pins m.memo l entries rest m.told told (Ok count)) where
        pub done_keeps : (K : Core) → Keeps u K → Keeps done (after_delete s n l.strays K)
        done_keeps K keeps =
            let r = removing K keeps entries same in
            deleted m (after_mend K.strays K) (mends.ok K keeps) (mends.job ∙ none) s n (below K keeps) (low K keeps) told l rest None m.pending refl mends.over (deletes.memo (after_mend K.strays K) r) (deletes.index (after_mend K.strays K) r) (deletes.held (after_mend K.strays K) r (mends.ok K keeps).held)

        pub done_core : HasCore done
        done_core = (_, done_keeps mends.core.0 mends.core.1)

        pub done_sets : length l.sets ≡ 256
        done_sets = sets_count done (after_delete s n l.strays mends.core.0) (done_keeps mends.core.0 mends.core.1)

        pub done_deletes : (sets : List SetInfo) (info : SetInfo) (floor : ℕ) → sets ≡ l.sets → info ≡ slice_index_or sets s info → floor ≡ info.floor → DeletesThrough s n u done (Ok (Removed s n floor count))
        done_deletes sets info floor sets_are info_is floor_is = record {
          ok = λ K keeps.
              let r = removing K keeps entries same in
              let inside : s < length sets = omega (arith, in_range, ap length sets_are, done_sets) in
              let at = floor_is ∙ floor_after m (after_mend K.strays K) (mends.ok K keeps) (mends.job ∙ none) s n (below K keeps) (low K keeps) l sets info l.strays (deletes.memo (after_mend K.strays K) r) sets_are inside info_is in
              (low K keeps, (λ i. Removed s n (at i) (deletes.removed (after_mend K.strays K) r i)), done_keeps K keeps);
          err = tt;
          still = λ K keeps high. absurd (omega (arith, low K keeps, high));
          last = λ K keeps high. absurd (omega (arith, low K keeps, high));
          cause = tt;
          later = omega (arith, mends.causes.later, deletes.causes.later);
          same = (refl, mends.pins);
          memo = tt;
          tells = λ tells. deletes.tells (mends.tells tells);
          recipes = λ tells K keeps t v k in_sets is.
              deletes.recipes (mends.tells tells) (after_mend K.strays K) (removing K keeps entries same) (mends.ok K keeps).held t v k in_sets is
              ∙ mends.recipes K keeps t v (version_high K.state t v k (shrinking.version_was K.state s n keeps.core.state (below K keeps) (low K keeps) t v k is));
          all_recipes = tt;
          any_moment = moment _ deletes;
          acknowledged = λ K keeps now. deletes.acknowledged (after_mend K.strays K) (removing K keeps entries same) (mends.ok K keeps).held (mended_leaves u m x mends K keeps now);
          due = tt;
          few = λ high. omega (arith, mends.causes.later, deletes.few high);
          gets = deletes.gets ∙ mends.gets;
        }

      -- the floor was tried
      module _ (f : Fault) (deletes : DeletesVersions s n m.pins m.memo l entries rest m.told told (Err f)) where
        tried_keeps : (K : Core) → Keeps u K → Keeps tried (after_refused (Some (delete_change s n K.state)) None l.strays (FailedFor s) K)
        tried_keeps K keeps = halved m (after_mend K.strays K) (mends.ok K keeps) (mends.job ∙ none) s n (below K keeps) (low K keeps) told l rest None refl deletes.as_before.0 (deletes.as_before.1 ∙ same)
            (deletes.half (after_mend K.strays K) (removing K keeps entries same) (mends.ok K keeps).held)

        pub tried_core : HasCore tried
        tried_core = (_, tried_keeps mends.core.0 mends.core.1)

        pub tried_refused : DeletesThrough s n u tried (Err f)
        tried_refused = record {
          ok = tt;
          err = λ K keeps. inr (delete_tried u tried K (delete_change s n K.state) f m.told.history (shelf_fault _ _ f deletes.causes.each) (tried_keeps K keeps) (mends.any_moment K keeps)
              (λ here. deletes.refused_moment (after_mend K.strays K) (removing K keeps entries same) (mended_leaves u m x mends K keeps (λ e. here))));
          still = λ K keeps high. absurd (omega (arith, low K keeps, high));
          last = λ K keeps high. absurd (omega (arith, low K keeps, high));
          cause = λ K keeps. failed_cause u.told.faults m.told.faults told.faults (latest_of K.state s ≤ n) f mends.causes.later deletes.causes.each;
          later = omega (arith, mends.causes.later, deletes.causes.later);
          same = (refl, mends.pins);
          memo = deletes.as_before.0 ∙ mends.memo;
          tells = λ tells. deletes.tells (mends.tells tells);
          recipes = tt;
          all_recipes = λ K keeps t v k below is. deletes.all_recipes t v ∙ mends.recipes K keeps t v (version_high K.state t v k is);
          any_moment = moment _ deletes;
          acknowledged = tt;
          due = λ over. absurd (not_failed s (sym over));
          few = tt;
          gets = deletes.gets ∙ mends.gets;
        }
