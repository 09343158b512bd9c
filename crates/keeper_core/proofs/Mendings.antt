-- What a mending leaves that comes before a change of a set.
use Rattle.std.proofs.Common.{◌≡◌, ◌≤◌, ℕ, zero, true, false, List, [], ◌∷◌, Option, Some, None, refl, sym, ◌∙◌, subst, arith}
use Rattle.std.specs.Prelude.{◌≢◌, Result, Ok, Err, OnOk, OnErr, IsSome, Contains}
use Rattle.vault_types.specs.declared.Fault.{Fault}
use Rattle.vault_types.specs.declared.Pending.{Pending}
use Rattle.vault_types.specs.declared.Pending.TheVariants.{Not}
use Rattle.vault_types.specs.State.{latest_of}
use Rattle.vault_types.specs.Shelf.{Blobs, blob_at, recipe_name, floor_name}
use Rattle.vault_types.specs.Events.{Core, IsCore, IsNear, pinned_containers, after_mend}
use Rattle.vault_traits.specs.Told.{ShelfTold}
use Rattle.vault_traits.specs.Crash.{LeavesNowIfTold, LeavesOnlyIfTold}
use Rattle.vault_traits.specs.Causes.{HasStoreFault}
use Rattle.state_laws.specs.Parts.{HeldIfTold, without_other}
use Rattle.state_laws.proofs.Standing.{needs_floor}
use Rattle.keeper_catalog.specs.declared.SetInfo.{SetInfo}
use Rattle.keeper_catalog.specs.View.{View, Keeps, HasCore}
use Rattle.keeper_jobs.specs.Jobs.{Sees}
use Rattle.keeper_jobs.proofs.Seeing.{alone, not_failed}
use Rattle.keeper_core.specs.Mends.{MendsFirst}
use Rattle.keeper_core.proofs.Keeping.{sees_of, mended, same_keeps}
use Rattle.keeper_core.proofs.Removing.{mended_sure}

-- a shelf that tells nothing goes on so: otherwise it would hold each core that has the sets, whatever its strays

silent_stays : (v : View) (K : Core) → Keeps v K → (b : Option Blobs) → ((J : Core) → Sees v.memo.sets v.pending J → HeldIfTold b J) → IsSome b → ⊥
silent_stays v K keeps None holds some = let clash : false ≡ true = some in cc
silent_stays v K keeps (Some m) holds some =
    let J : Core = record { state = K.state; other = K.other; pins = K.pins; strays = floor_name 0 ∷ []; job = K.job; pending = K.pending } in
    let core : IsCore J = record { state = keeps.core.state; job = keeps.core.job; tables = keeps.core.tables; payloads = keeps.core.payloads; job_set = keeps.core.job_set; pins = keeps.core.pins; numbers = keeps.core.numbers; alone = keeps.core.alone; failed = keeps.core.failed; other = keeps.core.other } in
    let held = holds J (record { core = core; sets_are = keeps.memo.sets; pending_is = keeps.pending }) in
    held.apart (floor_name 0) first (needs_floor K.state (pinned_containers K.pins) 0 (omega (arith, keeps.core.state.sets)))
  where
    first : Contains (floor_name 0 ∷ []) (floor_name 0)
    first = (zero, omega arith, refl)

-- so where it tells now, it told before
told_before : (v : View) (K : Core) → Keeps v K → (b : Option Blobs) → ((J : Core) → Sees v.memo.sets v.pending J → HeldIfTold v.told.blobs J → HeldIfTold b J) → IsSome b → IsSome v.told.blobs
told_before v K keeps b holds some = by_told v.told.blobs refl
  where
    by_told : (t : Option Blobs) → v.told.blobs ≡ t → IsSome t
    by_told (Some m) is = refl
    by_told None is = absurd (silent_stays v K keeps b (λ J sees. holds J sees (subst (λ (t : Option Blobs). HeldIfTold t J) (sym is) tt)) some)

-- from what a mending of the shelf ensures
module _ (u : View) (sets : List SetInfo) (same : sets ≡ u.memo.sets) (told : ShelfTold) (waits : Pending) where
  sees : (K : Core) → Keeps u K → Sees sets u.pending K
  sees K keeps = subst (λ (l : List SetInfo). Sees l u.pending K) (sym same) (sees_of u K keeps)

  told_back : HasCore u → ((K : Core) → Sees sets u.pending K → HeldIfTold u.told.blobs K → HeldIfTold told.blobs K) → IsSome told.blobs → IsSome u.told.blobs
  told_back some held = told_before u some.0 some.1 told.blobs (λ K here. held K (subst (λ (l : List SetInfo). Sees l u.pending K) (sym same) here))

  pub mends_first : {T : Type 0} (r : Result T Fault) → HasCore u → ((K : Core) → Sees sets u.pending K → HeldIfTold u.told.blobs K → HeldIfTold told.blobs K)
      → OnOk r ((K : Core) → Sees sets u.pending K → HeldIfTold u.told.blobs K → HeldIfTold told.blobs (without_other K))
      → (IsSome u.told.blobs → IsSome told.blobs)
      → ((K : Core) → Sees sets u.pending K → (s n : ℕ) → n ≤ latest_of K.state s → blob_at told.blobs (recipe_name s n) ≡ blob_at u.told.blobs (recipe_name s n))
      → ((K : Core) → Sees sets u.pending K → LeavesNowIfTold u.told.history (IsNear K.state K.other) → LeavesOnlyIfTold u.told.history told.history (IsNear K.state K.other))
      → OnOk r (u.pending ≢ Not → (K : Core) → Sees sets u.pending K → HeldIfTold u.told.blobs K → LeavesNowIfTold told.history (IsNear K.state None))
      → OnOk r (waits ≡ Not) → OnErr r (waits ≡ u.pending) → told.gets ≡ u.told.gets → HasStoreFault u.told.faults told.faults r
      → MendsFirst u (record { told = told; memo = u.memo; index = u.index; pins = u.pins; job = u.job; pending = waits }) r
  mends_first (Ok x) some held clean tells recipes moment sure over still gets causes = record {
    ok = λ K keeps. mended u K keeps told waits over (clean K (sees K keeps) keeps.held);
    err = tt;
    over = over;
    waits = tt;
    any_moment = λ K keeps. moment K (sees K keeps);
    acknowledged = λ due K keeps. sure due K (sees K keeps) keeps.held;
    recipes = λ K keeps. recipes K (sees K keeps);
    memo = refl;
    index = refl;
    pins = refl;
    job = refl;
    core = some;
    told = told_back some held;
    tells = tells;
    gets = gets;
    causes = causes;
  }
  mends_first (Err f) some held clean tells recipes moment sure over still gets causes = record {
    ok = tt;
    err = λ K keeps. same_keeps u K keeps told waits still (held K (sees K keeps) keeps.held);
    over = tt;
    waits = still;
    any_moment = λ K keeps. moment K (sees K keeps);
    acknowledged = tt;
    recipes = λ K keeps. recipes K (sees K keeps);
    memo = refl;
    index = refl;
    pins = refl;
    job = refl;
    core = some;
    told = told_back some held;
    tells = tells;
    gets = gets;
    causes = causes;
  }

-- some core is kept behind it
pub mended_core_of : {T : Type 0} (u v : View) (r : Result T Fault) → MendsFirst u v r → HasCore v
mended_core_of u v (Ok x) mends = (after_mend mends.core.0.strays mends.core.0, mends.ok mends.core.0 mends.core.1)
mended_core_of u v (Err f) mends = (mends.core.0, mends.err mends.core.0 mends.core.1)

-- behind one that is done a crash leaves only the state, where what it could leave before is known if none was due
pub mended_leaves : {T : Type 0} (u m : View) (x : T) → MendsFirst u m (Ok x) → (K : Core) → Keeps u K → (u.pending ≡ Not → LeavesNowIfTold u.told.history (IsNear K.state K.other)) → LeavesNowIfTold m.told.history (IsNear K.state None)
mended_leaves u m x mends K keeps now =
    mended_sure K u.pending u.told.history m.told.history (λ e. alone K keeps.core.other Not (sym keeps.pending ∙ e) not_failed) (λ e. mends.any_moment K keeps (now e)) (λ due. mends.acknowledged due K keeps)
