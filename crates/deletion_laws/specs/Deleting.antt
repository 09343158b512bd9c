-- What a deletion takes from a core, and when the names that go are listed.
use Rattle.std.specs.Prelude.{◌≡◌, ◌⊎◌, ◌+◌, ◌≤◌, ◌<◌, ℕ, true, false, not, List, [], ◌∷◌, map, filter, flat_map, length, Some, None, Contains, max}
use Rattle.std.specs.List.{range_with_len}
use Rattle.vault_types.specs.declared.Name.{Name}
use Rattle.vault_types.specs.declared.Table.{Table}
use Rattle.vault_types.specs.Lists.{has}
use Rattle.vault_types.specs.Tables.{id_of}
use Rattle.vault_types.specs.State.{State, latest_of, floor_of, IsValid}
use Rattle.vault_types.specs.Delete.{delete, reclaimed_ids}
use Rattle.vault_types.specs.Shelf.{Blobs, table_name, payload_name, recipe_name}
use Rattle.vault_types.specs.Events.{Core, Pin, pinned_containers, IsNeeded, IsNear, delete_change}

-- a deletion of the set through n, with its names among the strays already
pub record Deletes (K : Core) (s n floor_is : ℕ) (strays : List Name) : Type 0 where
  pub valid : IsValid K.state
  pub in_range : s < length K.state.datasets
  pub low : n < latest_of K.state s
  pub new_floor : floor_is ≡ max (floor_of K.state s) (n + 1)
  pub no_job : K.job ≡ None
  pub alone : K.other ≡ None
  pub covered : (q : Name) → IsNeeded K.state (pinned_containers K.pins) q
      → IsNeeded (delete K.state s n) (pinned_containers K.pins) q ⊎ Contains strays q
  pub more : (q : Name) → Contains K.strays q → Contains strays q
  pub apart : (q : Name) → Contains strays q → IsNeeded (delete K.state s n) (pinned_containers K.pins) q → ⊥

-- no stray is needed
abbrev pub AreApart : Core → Type 0
AreApart K = (q : Name) → Contains K.strays q → IsNeeded K.state (pinned_containers K.pins) q → ⊥

-- what a crash in a deletion leaves
abbrev pub IsDeleting : State → ℕ → ℕ → Blobs → Type 0
IsDeleting S s n c = IsNear S (Some (delete_change s n S)) c ⊎ IsNear (delete S s n) None c

-- the tables but those with these ids
abbrev pub without_ids : List ℕ → List Table → List Table
without_ids ids tables = filter (λ t. not (has t.id ids)) tables

-- the ids that the pins list
abbrev pub pinned_ids : List Pin → List ℕ
pinned_ids pins = map id_of (pinned_containers pins)

-- the name of a recipe of a version below the new floor
pub record IsGoneRecipe (K : Core) (s n : ℕ) (q : Name) : Type 0 where
  pub version : ℕ
  pub kept : floor_of K.state s ≤ version
  pub below : version < max (floor_of K.state s) (n + 1)
  pub is : q ≡ recipe_name s version

-- the name of the table or of the payload of a container that loses its last name, and that no pin lists
pub record IsGoneContainer (K : Core) (s n : ℕ) (q : Name) : Type 0 where
  pub id : ℕ
  pub reclaimed : has id (reclaimed_ids K.state (delete K.state s n)) ≡ true
  pub unpinned : has id (pinned_ids K.pins) ≡ false
  pub is : (q ≡ table_name id) ⊎ (q ≡ payload_name id)

-- the name goes with the deletion
abbrev pub IsGone : Core → ℕ → ℕ → Name → Type 0
IsGone K s n q = IsGoneRecipe K s n q ⊎ IsGoneContainer K s n q

-- the names of so many versions of a set, from one on
abbrev pub recipe_names : ℕ → ℕ → ℕ → List Name
recipe_names s first count = map (λ v. recipe_name s v) (range_with_len first count)

-- the names of the payload and of the table of each of these containers
abbrev pub container_names : List ℕ → List Name
container_names ids = flat_map (λ id. payload_name id ∷ table_name id ∷ []) ids

-- the strays are those from before and the names that go
pub record AreStraysAfter (K : Core) (s n : ℕ) (strays : List Name) : Type 0 where
  pub only : (q : Name) → Contains strays q → Contains K.strays q ⊎ IsGone K s n q
  pub before : (q : Name) → Contains K.strays q → Contains strays q
  pub gone : (q : Name) → IsGone K s n q → Contains strays q
