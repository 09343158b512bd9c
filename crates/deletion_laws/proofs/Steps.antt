-- A deletion on the shelf.
use Rattle.std.proofs.Common.{◌≡◌, ◌⊎◌, inl, inr, ⊎_elim, ℕ, ◌<◌, ◌+◌, max, length, List, [], ◌++◌, Option, Some, None, refl, sym, ap, subst}
use Rattle.std.specs.Prelude.{Contains, IsSome, IfSome, IsSomeAnd}
use Rattle.vault_types.specs.declared.Name.{Name}
use Rattle.vault_types.specs.declared.Pending.{Pending}
use Rattle.vault_types.specs.declared.Pending.TheVariants.{FailedFor}
use Rattle.vault_types.specs.Tables.{Container}
use Rattle.vault_types.specs.State.{floor_of, latest_of, IsValid}
use Rattle.vault_types.specs.Blobs.{floor_bytes}
use Rattle.vault_types.specs.Delete.{delete}
use Rattle.vault_types.specs.Shelf.{Blobs, with_blob, floor_name, Stands}
use Rattle.vault_types.specs.Events.{Core, Job, Change, put_by, pinned_containers, Held, HasChange, IsCore, IsNear, IsNeeded, after_delete, after_refused, delete_change}
use Rattle.vault_traits.specs.Shelf.{blobs_with}
use Rattle.vault_traits.proofs.Maps.{written_or_other}
use Rattle.state_laws.specs.Parts.{HeldIfTold, Changes, CanClean, change}
use Rattle.state_laws.proofs.Standing.{keeps_container, needs_floor}
use Rattle.state_laws.proofs.Changing.{told_with, told_more, told_same, floor_no_table, floor_no_payload}
use Rattle.vault_traits.specs.Crash.{History, LeavesOnlyIfTold}
use Rattle.vault_traits.proofs.Moments.{more}
use Rattle.deletion_laws.specs.Deleting.{Deletes, IsDeleting}
use Rattle.state_laws.proofs.Shrinking.{delete_changes, delete_held, delete_cleans, is_delete}
use Rattle.deletion_laws.proofs.Keeping.{delete_valid}

-- the floor of the set is written, and nothing else was half done

module _ (K : Core) (s n floor : ℕ) (valid : IsValid K.state) (below : s < length K.state.datasets) (low : n < latest_of K.state s) (floor_is : floor ≡ max (floor_of K.state s) (n + 1)) where
  pub changes : Changes K.state (change (floor_name s) (floor_bytes s floor) (delete K.state s n))
  changes = subst (λ (f : ℕ). Changes K.state (change (floor_name s) (floor_bytes s f) (delete K.state s n))) (sym floor_is) (delete_changes K.state s n valid below low)

  -- near the state with the floor half written is in the deletion
  pub near_deleting : (past now : Option History) → LeavesOnlyIfTold past now (IsNear K.state (Some (change (floor_name s) (floor_bytes s floor) (delete K.state s n)))) → LeavesOnlyIfTold past now (IsDeleting K.state s n)
  near_deleting past now leaves = more (IsNear K.state (Some (change (floor_name s) (floor_bytes s floor) (delete K.state s n)))) (IsDeleting K.state s n)
      (λ b near. inl (subst (λ (f : ℕ). IsNear K.state (Some (change (floor_name s) (floor_bytes s f) (delete K.state s n))) b) floor_is near)) past now leaves

  module _ (no_job : K.job ≡ None) (alone : K.other ≡ None) where
    pub stands_of : (m : Blobs) → Held m K → Stands m K.state
    stands_of m held = ⊎_elim (λ here. here) (λ none. absurd (subst (λ (o : Option Change). IsSomeAnd o (λ h. HasChange K.state h m)) alone none)) held.near

    pub told_stands : (b : Option Blobs) → HeldIfTold b K → IfSome b (λ m. Stands m K.state)
    told_stands b held = told_more (λ m. Held m K) (λ m. Stands m K.state) b stands_of held

    pinned_of : (m : Blobs) → Held m K → (c : Container) → Contains (pinned_containers K.pins ++ []) c → Contains (pinned_containers K.pins ++ put_by K.job) c
    pinned_of m held c among = subst (λ (o : Option Job). Contains (pinned_containers K.pins ++ put_by o) c) (sym no_job) among

    pub half_same : (m : Blobs) → Held m K → Held m (after_refused (Some (delete_change s n K.state)) None K.strays (FailedFor s) K)
    half_same m held = record { near = inl (stands_of m held); containers = λ c among. held.containers c (pinned_of m held c among); others = held.others; apart = held.apart }

    pub half_written : (m : Blobs) → Held m K → Held (with_blob m (floor_name s) (Some (floor_bytes s floor))) (after_refused (Some (delete_change s n K.state)) None K.strays (FailedFor s) K)
    half_written m held = record {
      near = inr (record { before = m; stands = stands_of m held; is = ap (λ (f : ℕ). with_blob m (floor_name s) (Some (floor_bytes s f))) floor_is; other = changes m (stands_of m held) });
      containers = λ c among. keeps_container m (floor_name s) (Some (floor_bytes s floor)) c (λ same. floor_no_table s c.table.id (sym same)) (λ same. floor_no_payload s c.table.id (sym same)) (held.containers c (pinned_of m held c among));
      others = λ q there. ⊎_elim
          (λ (same : q ≡ floor_name s). inl (subst (λ (q : Name). IsNeeded K.state (pinned_containers K.pins) q) (sym same) (needs_floor K.state (pinned_containers K.pins) s below)))
          (λ kept. held.others q (subst (λ (b : Option (List ℕ)). IsSome b) kept there))
          (written_or_other m (floor_name s) (Some (floor_bytes s floor)) q);
      apart = held.apart;
    }

    -- behind a write that failed: the blobs are as before, or have the floor
    pub told_half : (b after : Option Blobs) → (after ≡ b) ⊎ (after ≡ blobs_with b (floor_name s) (Some (floor_bytes s floor))) → HeldIfTold b K → HeldIfTold after (after_refused (Some (delete_change s n K.state)) None K.strays (FailedFor s) K)
    told_half b after may held = ⊎_elim
        (λ same. told_same (λ m. Held m (after_refused (Some (delete_change s n K.state)) None K.strays (FailedFor s) K)) b after same (told_more (λ m. Held m K) (λ m. Held m (after_refused (Some (delete_change s n K.state)) None K.strays (FailedFor s) K)) b half_same held))
        (λ same. told_same (λ m. Held m (after_refused (Some (delete_change s n K.state)) None K.strays (FailedFor s) K)) (blobs_with b (floor_name s) (Some (floor_bytes s floor))) after same
        (told_with (λ m. Held m K) (λ m. Held m (after_refused (Some (delete_change s n K.state)) None K.strays (FailedFor s) K)) b (floor_name s) (Some (floor_bytes s floor)) half_written held))
        may

-- the floor stands, and the names that go are strays

module _ (K : Core) (s n floor : ℕ) (strays : List Name) (d : Deletes K s n floor strays) where
  pub deleted_cleans : CanClean (after_delete s n strays K)
  deleted_cleans = delete_cleans K s n strays d.valid d.in_range d.low d.no_job d.covered d.more d.apart

  pub deleted_held : (m : Blobs) → Held m K → Held (with_blob m (floor_name s) (Some (floor_bytes s floor))) (after_delete s n strays K)
  deleted_held m held = subst (λ (f : ℕ). Held (with_blob m (floor_name s) (Some (floor_bytes s f))) (after_delete s n strays K)) (sym d.new_floor)
      (delete_held K s n strays d.valid d.in_range d.low d.no_job d.covered d.more d.apart m (stands_of K s n floor d.valid d.in_range d.low d.new_floor d.no_job d.alone m held) held)

-- a deletion whose floor may have been written keeps a core
pub half_core : (K : Core) (s n : ℕ) → IsCore K → s < length K.state.datasets → n < latest_of K.state s → IsCore (after_refused (Some (delete_change s n K.state)) None K.strays (FailedFor s) K)
half_core K s n core below low = record {
  state = core.state;
  job = refl;
  tables = tt;
  payloads = tt;
  job_set = tt;
  pins = core.pins;
  numbers = core.numbers;
  alone = λ some. absurd (no_job some);
  failed = λ t is. subst (λ (u : ℕ). u < length K.state.datasets) (same_set s t is) below;
  other = (s, refl, is_delete K.state s n core.state below low (delete_valid K.state s n core.state below low));
}
  where
    no_job : IsSome {T = Job} None → ⊥
    no_job h = let e : ◌≡◌ {A = Option Job} None None = refl in cc

    same_set : (s t : ℕ) → ◌≡◌ {A = Pending} (FailedFor s) (FailedFor t) → s ≡ t
    same_set s t e = cc
