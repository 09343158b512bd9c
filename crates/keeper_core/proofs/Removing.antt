-- What a keeper keeps over a deletion and a release.
use Rattle.std.proofs.Common.{◌≡◌, ◌≢◌, ℕ, ◌<◌, length, map, Bool, true, false, cond, not, List, [], ◌∷◌, ◌++◌, Option, Some, None, refl, sym, ◌∙◌, ap, subst}
use Rattle.std.specs.Prelude.{filter, slice_index_or, option_map, ◌==◌}
use Rattle.std.specs.List.{AllByRecursion}
use Rattle.std.proofs.lemmas.List.{get_or_default}
use Rattle.std.proofs.Math.ListN.{get_or-map}
use Rattle.vault_types.specs.declared.Fp.{Fp}
use Rattle.vault_types.specs.declared.Name.{Name}
use Rattle.vault_types.specs.declared.Pending.{Pending}
use Rattle.vault_types.specs.declared.Pending.TheVariants.{Not, Opened, FailedFor}
use Rattle.vault_types.specs.Tables.{Container, IsTable}
use Rattle.vault_types.specs.State.{empty_dataset, container_in, latest_of, floor_of}
use Rattle.vault_types.specs.Delete.{delete}
use Rattle.vault_types.specs.Events.{Core, Change, Job, Pin, put_by, pinned_containers, pins_without, IsNear, after_delete, after_release, after_refused, delete_change}
use Rattle.vault_traits.specs.Crash.{History, LeavesNowIfTold, LeavesOnlyIfTold}
use Rattle.vault_traits.specs.Told.{ShelfTold}
use Rattle.vault_traits.proofs.Moments.{ends}
use Rattle.fp_index.specs.Index.{IsIndexOf}
use Rattle.restore_pins.specs.Pins.{Listed, AreListsOf}
use Rattle.state_laws.specs.Parts.{HeldIfTold}
use Rattle.keeper_catalog.specs.declared.JobInfo.{JobInfo}
use Rattle.keeper_catalog.specs.declared.SetInfo.{SetInfo}
use Rattle.keeper_catalog.specs.Catalog.{Memo, set_info, table_at, AreMarkersOf, IsMemoOf}
use Rattle.keeper_catalog.specs.View.{View, Keeps, job_info}
use Rattle.keeper_removals.specs.Removals.{Removing, Releasing}
use Rattle.commit_laws.proofs.Listing.{all_append, all_left, all_right}
use Rattle.deletion_laws.proofs.Keeping.{delete_core}
use Rattle.deletion_laws.proofs.Steps.{half_core}
use Rattle.deletion_laws.proofs.Releasing.{release_core}
use Rattle.deletion_laws.proofs.Pinning.{alike_fewer}
use Rattle.keeper_core.proofs.Keeping.{no_job}

-- a release

all_fewer : (P : Container → Type 0) (p : Pin → Bool) (pins : List Pin) → AllByRecursion P (pinned_containers pins) → AllByRecursion P (pinned_containers (filter p pins))
all_fewer P p [] all = tt
all_fewer P p (q ∷ qs) all = step (p q) (all_fewer P p qs (all_right P q.containers (pinned_containers qs) all))
  where
    step : (b : Bool) → AllByRecursion P (pinned_containers (filter p qs)) → AllByRecursion P (pinned_containers (cond b (q ∷ filter p qs) (filter p qs)))
    step true rest = all_append P q.containers (pinned_containers (filter p qs)) (all_left P q.containers (pinned_containers qs) all) rest
    step false rest = rest

module _ (v : View) (K : Core) (keeps : Keeps v K) where
  pub releasing_of : Releasing v.memo v.pins K
  releasing_of = record { core = keeps.core; memo = keeps.memo; pins_are = keeps.pins; alike = keeps.alike }

  pub released : (number : ℕ) (told : ShelfTold) (n : Memo) (pins : List Listed) → IsMemoOf n (after_release number n.strays K) → AreListsOf pins (pins_without number K.pins) → HeldIfTold told.blobs (after_release number n.strays K)
      → Keeps (record { told = told; memo = n; index = v.index; pins = pins; job = v.job; pending = v.pending }) (after_release number n.strays K)
  released number told n pins memo lists held = record {
    core = release_core K number n.strays keeps.core;
    held = held;
    memo = memo;
    index = keeps.index;
    pins = lists;
    alike = alike_fewer (λ p. not (p.number == number)) K.pins keeps.alike;
    pinned = all_fewer (λ c. IsTable c.table) (λ p. not (p.number == number)) K.pins keeps.pinned;
    job = keeps.job;
    pending = keeps.pending;
  }

-- a deletion

-- behind a mending that was due, or where none was, a crash leaves only the state
pub mended_now : (K : Core) (waits : Pending) (old mid : Option History) → (waits ≡ Not → K.other ≡ None) → LeavesOnlyIfTold old mid (IsNear K.state K.other) → (waits ≢ Not → LeavesNowIfTold mid (IsNear K.state None)) → LeavesNowIfTold mid (IsNear K.state None)
mended_now K Not old mid alone moment sure = subst (λ (o : Option Change). LeavesNowIfTold mid (IsNear K.state o)) (alone refl) (ends (IsNear K.state K.other) old mid moment)
mended_now K Opened old mid alone moment sure = sure (λ e. cc)
mended_now K (FailedFor s) old mid alone moment sure = sure (λ e. cc)

-- the same where what a crash could leave before is known only if no mending was due
pub mended_sure : (K : Core) (waits : Pending) (old mid : Option History) → (waits ≡ Not → K.other ≡ None) → (waits ≡ Not → LeavesOnlyIfTold old mid (IsNear K.state K.other)) → (waits ≢ Not → LeavesNowIfTold mid (IsNear K.state None)) → LeavesNowIfTold mid (IsNear K.state None)
mended_sure K Not old mid alone moment sure = mended_now K Not old mid alone (moment refl) sure
mended_sure K Opened old mid alone moment sure = sure (λ e. cc)
mended_sure K (FailedFor s) old mid alone moment sure = sure (λ e. cc)

module _ (v : View) (K : Core) (keeps : Keeps v K) (none : v.job ≡ None) (s n : ℕ) (below : s < length K.state.datasets) (low : n < latest_of K.state s) where
  pub core_job : K.job ≡ None
  core_job = no_job K.state K.job (sym keeps.job ∙ none)

  pub removing_of : (index : List (Fp × List ℕ)) → index ≡ v.index → K.other ≡ None → Removing v.memo index v.pins K s n
  removing_of index same alone = record {
    core = keeps.core;
    memo = keeps.memo;
    index_is = subst (λ (l : List (Fp × List ℕ)). IsIndexOf l (map (λ (c : Container). c.table) K.state.containers)) (sym same) keeps.index;
    pins_are = keeps.pins;
    no_job = core_job;
    alone = alone;
    in_range = below;
    low = low;
  }

  pub deleted : (told : ShelfTold) (m : Memo) (index : List (Fp × List ℕ)) (job : Option JobInfo) (waits : Pending) → job ≡ None → waits ≡ Not → IsMemoOf m (after_delete s n m.strays K) → IsIndexOf index (map (λ c. c.table) (delete K.state s n).containers) → HeldIfTold told.blobs (after_delete s n m.strays K)
      → Keeps (record { told = told; memo = m; index = index; pins = v.pins; job = job; pending = waits }) (after_delete s n m.strays K)
  deleted told m index job waits job_none over memo index_is held = record {
    core = delete_core K s n m.strays keeps.core below low core_job;
    held = held;
    memo = memo;
    index = index_is;
    pins = keeps.pins;
    alike = keeps.alike;
    pinned = keeps.pinned;
    job = job_none ∙ ap (option_map (job_info (delete K.state s n))) (sym core_job);
    pending = over;
  }

  pub floor_after : (m : Memo) (sets : List SetInfo) (i : SetInfo) (strays : List Name) → IsMemoOf m (after_delete s n strays K) → sets ≡ m.sets → s < length sets → i ≡ slice_index_or sets s i → i.floor ≡ floor_of (delete K.state s n) s
  floor_after m sets i strays memo same inside is =
      ap (λ (j : SetInfo). j.floor)
      (is ∙ get_or_default sets s i (set_info empty_dataset) inside ∙ ap (λ (l : List SetInfo). slice_index_or l s (set_info empty_dataset)) (same ∙ memo.sets) ∙ get_or-map set_info (delete K.state s n).datasets s empty_dataset)

  pub halved : (told : ShelfTold) (m : Memo) (index : List (Fp × List ℕ)) (job : Option JobInfo) → job ≡ None → m ≡ v.memo → index ≡ v.index → HeldIfTold told.blobs (after_refused (Some (delete_change s n K.state)) None K.strays (FailedFor s) K)
      → Keeps (record { told = told; memo = m; index = index; pins = v.pins; job = job; pending = FailedFor s }) (after_refused (Some (delete_change s n K.state)) None m.strays (FailedFor s) K)
  halved told m index job job_none memo same held =
      subst (λ (l : List Name). Keeps (record { told = told; memo = m; index = index; pins = v.pins; job = job; pending = FailedFor s }) (after_refused (Some (delete_change s n K.state)) None l (FailedFor s) K)) (sym (ap (λ (x : Memo). x.strays) memo ∙ keeps.memo.strays))
      (record {
        core = half_core K s n keeps.core below low;
        held = held;
        memo = record {
          sets = ap (λ (x : Memo). x.sets) memo ∙ keeps.memo.sets;
          tables = λ id. ap (λ (x : Memo). table_at x.tables id) memo ∙ keeps.memo.tables id ∙ ap (λ (o : Option Job). option_map (λ (c : Container). c.table) (container_in (K.state.containers ++ (pinned_containers K.pins ++ put_by o)) id)) core_job;
          markers = subst (λ (x : Memo). AreMarkersOf x.markers K.state) (sym memo) keeps.memo.markers;
          strays = ap (λ (x : Memo). x.strays) memo ∙ keeps.memo.strays;
        };
        index = subst (λ (l : List (Fp × List ℕ)). IsIndexOf l (map (λ (c : Container). c.table) K.state.containers)) (sym same) keeps.index;
        pins = keeps.pins;
        alike = keeps.alike;
        pinned = keeps.pinned;
        job = job_none;
        pending = refl;
      })
