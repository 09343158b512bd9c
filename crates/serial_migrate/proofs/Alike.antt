-- The cores that a keeper keeps at one moment are of one state.
use Rattle.std.proofs.Common.{◌≡◌, ⊎_elim, ℕ, ◌+◌, ◌<◌, ◌&&◌, length, true, false, List, Option, Some, None, refl, sym, ap, subst, ◌∙◌, get_or}
use Rattle.std.specs.Prelude.{IsSome, IfSome, nat_le}
use Rattle.std.proofs.Math.ListN.{get_or-map}
use Rattle.vault_types.specs.declared.Pending.{Pending}
use Rattle.vault_types.specs.declared.Pending.TheVariants.{Not, Opened, FailedFor}
use Rattle.vault_types.specs.State.{KeptVersion, dataset, empty_dataset, floor_of, is_kept, version_of, recipe_of}
use Rattle.vault_types.specs.Blobs.{floor_bytes, recipe_bytes, recipe_bytes_2}
use Rattle.vault_types.specs.Shelf.{Blobs, Stands, with_blob, blob_at, recipe_name, floor_name}
use Rattle.vault_types.specs.Events.{Core, Change, IsChange, IsNear}
use Rattle.state_laws.specs.Parts.{HeldIfTold, IsOf, mended_blobs}
use Rattle.state_laws.proofs.Changing.{mended, near_alone}
use Rattle.keeper_catalog.specs.declared.SetInfo.{SetInfo}
use Rattle.keeper_catalog.specs.Catalog.{set_info}
use Rattle.keeper_catalog.specs.View.{View, Keeps}
use Rattle.commit_laws.proofs.Listing.{none_some}
use Rattle.commit_laws.proofs.Loading.{held_recipe}
use Rattle.commit_laws.proofs.Unique.{stands_unique, plain_of}
use Rattle.keeper_jobs.proofs.Seeing.{alone, not_failed, opened_failed, failed_same}

-- the change that is half done is of the set whose write failed
of_set : (K : Core) (p : ℕ) → K.pending ≡ FailedFor p → (o : Option Change) → IfSome o (λ h. (s : ℕ) × (K.pending ≡ FailedFor s) × IsChange K.state s h) → IsOf K.state p o
of_set K p is None other = other
of_set K p is (Some h) other = subst (λ (s : ℕ). IsChange K.state s h) (failed_same other.0 p (sym other.1 ∙ is)) other.2

module _ (w : View) (K J : Core) (keeps : Keeps w K) (also : Keeps w J) where
  -- what of a set is in memory
  info : (s : ℕ) → set_info (dataset K.state s) ≡ set_info (dataset J.state s)
  info s =
      sym (get_or-map set_info K.state.datasets s empty_dataset)
      ∙ ap (λ (l : List SetInfo). get_or l s (set_info empty_dataset)) (sym keeps.memo.sets ∙ also.memo.sets)
      ∙ get_or-map set_info J.state.datasets s empty_dataset

  pub kept_alike : (s n : ℕ) → is_kept K.state s n ≡ is_kept J.state s n
  kept_alike s n = ap (λ (i : SetInfo). nat_le i.floor n && nat_le n i.latest) (info s)

  pub floor_alike : (s : ℕ) → floor_of K.state s ≡ floor_of J.state s
  floor_alike s = ap (λ (i : SetInfo). i.floor) (info s)

  same_mended : (p : ℕ) (m : Blobs) → mended_blobs K.state p m ≡ mended_blobs J.state p m
  same_mended p m = ap (λ (i : SetInfo). with_blob (with_blob m (recipe_name p (i.latest + 1)) None) (floor_name p) (Some (floor_bytes p i.floor))) (info p)

  both_stand : (m : Blobs) → IsNear K.state K.other m → IsNear J.state J.other m → K.other ≡ None → J.other ≡ None → K.state ≡ J.state
  both_stand m near too one two = stands_unique m K.state J.state
      (record { stands = near_alone K.state m (subst (λ (o : Option Change). IsNear K.state o m) one near); valid = keeps.core.state })
      (record { stands = near_alone J.state m (subst (λ (o : Option Change). IsNear J.state o m) two too); valid = also.core.state })

  by_pending : (m : Blobs) → IsNear K.state K.other m → IsNear J.state J.other m → (p : Pending) → w.pending ≡ p → K.state ≡ J.state
  by_pending m near too Not is = both_stand m near too (alone K keeps.core.other Not (sym keeps.pending ∙ is) not_failed) (alone J also.core.other Not (sym also.pending ∙ is) not_failed)
  by_pending m near too Opened is = both_stand m near too (alone K keeps.core.other Opened (sym keeps.pending ∙ is) opened_failed) (alone J also.core.other Opened (sym also.pending ∙ is) opened_failed)
  by_pending m near too (FailedFor p) is =
      let one : Stands (mended_blobs K.state p m) K.state = mended K.state p keeps.core.state K.other (of_set K p (sym keeps.pending ∙ is) K.other keeps.core.other) m near in
      let two : Stands (mended_blobs J.state p m) J.state = mended J.state p also.core.state J.other (of_set J p (sym also.pending ∙ is) J.other also.core.other) m too in
      stands_unique (mended_blobs K.state p m) K.state J.state
      (record { stands = one; valid = keeps.core.state })
      (record { stands = subst (λ (b : Blobs). Stands b J.state) (sym (same_mended p m)) two; valid = also.core.state })

  by_told : (b : Option Blobs) → IsSome b → HeldIfTold b K → HeldIfTold b J → K.state ≡ J.state
  by_told None some held too = absurd (let clash : false ≡ true = some in cc)
  by_told (Some m) some held too = by_pending m held.near too.near w.pending refl

  pub one_state : IsSome w.told.blobs → K.state ≡ J.state
  one_state some = by_told w.told.blobs some keeps.held also.held

-- a shelf that tells a kept recipe, and told the same of it before, told its blobs before
pub told_back : (old : Option Blobs) (w : View) (K : Core) (s n : ℕ) (k : KeptVersion) → Keeps w K → s < length K.state.datasets → version_of K.state s n ≡ Some k
    → blob_at w.told.blobs (recipe_name s n) ≡ blob_at old (recipe_name s n) → IsSome w.told.blobs → IsSome old
told_back old w K s n k keeps below kept same some = at old w.told.blobs same some keeps.held
  where
    at : (a b : Option Blobs) → blob_at b (recipe_name s n) ≡ blob_at a (recipe_name s n) → IsSome b → HeldIfTold b K → IsSome a
    at (Some m) b same some held = refl
    at None None same some held = some
    at None (Some m) same some held = absurd (⊎_elim
        (λ is. none_some (recipe_bytes_2 k.sum (recipe_of s n k)) (sym same ∙ is))
        (λ is. none_some (recipe_bytes (plain_of s n k)) (sym same ∙ is.0))
        (held_recipe K keeps.core s n k below kept m held))
