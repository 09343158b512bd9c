-- What a crash leaves in a call that was refused.
use Rattle.std.proofs.Common.{◌≡◌, ◌⊎◌, inl, inr, ℕ, ◌≤◌, Option, Some, None, refl, ◌∙◌, subst, arith}
use Rattle.std.specs.Prelude.{◌≢◌, Result, Ok, Err, IfErr}
use Rattle.vault_types.specs.declared.Fault.{Fault}
use Rattle.vault_types.specs.declared.Fault.TheVariants as fault
use Rattle.vault_types.specs.declared.Recipe.{Recipe}
use Rattle.vault_types.specs.State.{KeptVersion, latest_of, version_of}
use Rattle.vault_types.specs.Shelf.{Blobs, recipe_name}
use Rattle.vault_types.specs.Events.{Core, Change, Job, IsCore, IsNear, CanCommit, after_refused}
use Rattle.vault_traits.specs.Crash.{History, LeavesNowIfTold, LeavesOnlyIfTold}
use Rattle.vault_traits.proofs.Moments.{ends, more, then}
use Rattle.vault_types.specs.declared.Pending.{Pending}
use Rattle.vault_traits.specs.Told.{ShelfTold}
use Rattle.state_laws.specs.Parts.{HeldIfTold}
use Rattle.state_laws.proofs.Changing.{latest_low, recipe_same, version_high}
use Rattle.vault_traits.specs.Causes.{IsStoreFault}
use Rattle.keeper_catalog.specs.declared.JobInfo.{JobInfo}
use Rattle.keeper_catalog.specs.View.{View, Keeps}
use Rattle.keeper_core.specs.Calls.{IsHalf, IsStill, IsShelfFault}
use Rattle.keeper_core.proofs.Keeping.{alone, same_keeps}

module _ (u v : View) (K : Core) (keeps : Keeps u K) (info : JobInfo) (open_job : u.job ≡ Some info) (h : Change) (job : Option Job) (f : Fault) where
  with_job : LeavesNowIfTold u.told.history (IsNear K.state K.other) → LeavesNowIfTold u.told.history (IsNear K.state None)
  with_job here = subst (λ (o : Option Change). LeavesNowIfTold u.told.history (IsNear K.state o)) (alone u K keeps info open_job) here

  -- the recipe's put was not tried
  pub commit_untried : Keeps v (after_refused None job v.memo.strays v.pending K) → (LeavesNowIfTold u.told.history (IsNear K.state None) → LeavesOnlyIfTold u.told.history v.told.history (IsNear K.state None)) → IsHalf u v h job f K
  commit_untried kept leaves = record {
    other = None;
    keeps = kept;
    half = inl refl;
    any_moment = λ here. more (IsNear K.state None) (λ c. IsNear K.state K.other c ⊎ IsNear K.state None c) (λ b near. inr near) u.told.history v.told.history (leaves (with_job here));
    behind = λ here. ends (IsNear K.state None) u.told.history v.told.history (leaves (with_job here));
  }

  -- it was tried
  pub commit_tried : IsShelfFault f → Keeps v (after_refused (Some h) job v.memo.strays v.pending K) → (LeavesNowIfTold u.told.history (IsNear K.state None) → LeavesOnlyIfTold u.told.history v.told.history (IsNear K.state (Some h))) → IsHalf u v h job f K
  commit_tried failed kept leaves = record {
    other = Some h;
    keeps = kept;
    half = inr (refl, failed);
    any_moment = λ here. more (IsNear K.state (Some h)) (λ c. IsNear K.state K.other c ⊎ IsNear K.state (Some h) c) (λ b near. inr near) u.told.history v.told.history (leaves (with_job here));
    behind = λ here. ends (IsNear K.state (Some h)) u.told.history v.told.history (leaves (with_job here));
  }

-- a fault of the shelf, by its cause
pub shelf_fault : (before now : ℕ) (f : Fault) → IsStoreFault before now f → IsShelfFault f
shelf_fault before now (fault.StoreFault n) h = (n, refl)
shelf_fault before now fault.Usage h = absurd h
shelf_fault before now (fault.NotKept a b c d) h = absurd h
shelf_fault before now (fault.ReadFault n) h = absurd h
shelf_fault before now (fault.WriteFault n) h = absurd h
shelf_fault before now (fault.Damaged k n w) h = absurd h
shelf_fault before now fault.Memory h = absurd h
shelf_fault before now (fault.TooMany n) h = absurd h
shelf_fault before now (fault.LastVersion a b c) h = absurd h
shelf_fault before now (fault.PlaceFault n) h = absurd h
shelf_fault before now (fault.BadLine n) h = absurd h
shelf_fault before now (fault.ScriptTooLong n) h = absurd h
shelf_fault before now (fault.Full a b c) h = absurd h

-- a deletion that tried the floor, behind a mending
pub delete_tried : (u v : View) (K : Core) (h : Change) (f : Fault) (mid : Option History) → IsShelfFault f → Keeps v (after_refused (Some h) None v.memo.strays v.pending K)
    → (LeavesNowIfTold u.told.history (IsNear K.state K.other) → LeavesOnlyIfTold u.told.history mid (IsNear K.state K.other))
    → (LeavesNowIfTold u.told.history (IsNear K.state K.other) → LeavesOnlyIfTold mid v.told.history (IsNear K.state (Some h))) → IsHalf u v h None f K
delete_tried u v K h f mid failed kept first second = record {
  other = Some h;
  keeps = kept;
  half = inr (refl, failed);
  any_moment = λ here. then either u.told.history mid v.told.history (more (IsNear K.state K.other) either (λ b near. inl near) u.told.history mid (first here)) (more (IsNear K.state (Some h)) either (λ b near. inr near) mid v.told.history (second here));
  behind = λ here. ends (IsNear K.state (Some h)) mid v.told.history (second here);
}
  where
    either : Blobs → Type 0
    either c = IsNear K.state K.other c ⊎ IsNear K.state (Some h) c

pub on_if : {T E : Type 0} (r : Result T E) (P : E → Type 0) → ((e : E) → P e) → IfErr r P
on_if (Ok x) P h = tt
on_if (Err e) P h = h e

-- a mending that was refused
pub mending_refused : (u : View) (K : Core) → Keeps u K → (told : ShelfTold) (waits : Pending) → waits ≡ u.pending → HeldIfTold told.blobs K
    → (LeavesNowIfTold u.told.history (IsNear K.state K.other) → LeavesOnlyIfTold u.told.history told.history (IsNear K.state K.other))
    → IsStill u (record { told = told; memo = u.memo; index = u.index; pins = u.pins; job = u.job; pending = waits }) K
mending_refused u K keeps told waits over held leaves = record { keeps = same_keeps u K keeps told waits over held; any_moment = leaves }

-- no kept recipe is the one that a commit puts
pub not_next : (K : Core) (j : Job) (r : Recipe) → IsCore K → CanCommit K j r → (s v : ℕ) (k : KeptVersion) → version_of K.state s v ≡ Some k → recipe_name s v ≢ recipe_name r.set r.version
not_next K j r core can s v k is same =
    let high = version_high K.state s v k is in
    let one = latest_low K.state s core.state in
    let two = latest_low K.state j.set core.state in
    let e = recipe_same s v r.set r.version (omega (arith, high, one)) (omega (arith, can.version, two)) same in
    let there : v ≤ latest_of K.state j.set = subst (λ (t : ℕ). v ≤ latest_of K.state t) (e.0 ∙ can.set) high in
    absurd (omega (arith, there, e.1, can.version))
