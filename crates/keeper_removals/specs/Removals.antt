-- What a deletion and a release take out of memory, and what they are told of a core.
use Rattle.std.specs.Prelude.{◌≡◌, ◌⊎◌, ◌+◌, ◌<◌, ◌≤◌, ℕ, Bool, true, List, ◌++◌, map, length, Contains, Some, None, IsSome, if◌then◌else◌}
use Rattle.vault_types.specs.declared.Fp.{Fp}
use Rattle.vault_types.specs.declared.Name.{Name}
use Rattle.vault_types.specs.declared.Table.{Table}
use Rattle.vault_types.specs.State.{latest_of, floor_of}
use Rattle.vault_types.specs.Shelf.{table_name, payload_name, recipe_name}
use Rattle.vault_types.specs.Events.{Core, IsCore}
use Rattle.fp_index.specs.Index.{IsIndexOf, IsOnlyOne, without_id}
use Rattle.restore_pins.specs.Pins.{Listed, AreListsOf}
use Rattle.keeper_catalog.specs.Catalog.{Memo, table_at, IsMemoOf}
use Rattle.keeper_catalog.specs.View.{AreAlike}

-- a deletion of the set through n may be made, and this is in memory then
pub record Removing (m : Memo) (index : List (Fp × List ℕ)) (pins : List Listed) (K : Core)
    (s n : ℕ) : Type 0 where
  pub core : IsCore K
  pub memo : IsMemoOf m K
  pub index_is : IsIndexOf index (map (λ c. c.table) K.state.containers)
  pub pins_are : AreListsOf pins K.pins
  pub no_job : K.job ≡ None
  pub alone : K.other ≡ None
  pub in_range : s < length K.state.datasets
  pub low : n < latest_of K.state s

-- the floor behind it is the new one, and not below the old one
pub record Rises (K : Core) (s n floor : ℕ) : Type 0 where
  pub is : floor ≡ n + 1
  pub not_below : floor_of K.state s ≤ floor

-- this is in memory where a pin is released
pub record Releasing (m : Memo) (pins : List Listed) (K : Core) : Type 0 where
  pub core : IsCore K
  pub memo : IsMemoOf m K
  pub pins_are : AreListsOf pins K.pins
  pub alike : AreAlike K.pins

-- the name of the table or of the payload of a container
abbrev pub IsNameOf : ℕ → Name → Type 0
IsNameOf id q = (q ≡ table_name id) ⊎ (q ≡ payload_name id)

-- a name of a container whose id passes the test
pub record IsNameAmong (test : ℕ → Bool) (q : Name) : Type 0 where
  pub id : ℕ
  pub passes : test id ≡ true
  pub is : IsNameOf id q

-- the tables of the ids that pass the test are gone from memory, and the names of those that were
-- there are added behind the strays
pub record Leaves (test : ℕ → Bool) (was now : List (ℕ × Table)) (strays after : List Name) : Type 0 where
  pub tables : (id : ℕ) → table_at now id ≡ (if test id then None else table_at was id)
  pub added : List Name
  pub strays_are : after ≡ strays ++ added
  pub only : (q : Name) → Contains added q → IsNameAmong test q
  pub gone : (id : ℕ) (q : Name) → test id ≡ true → IsSome (table_at was id) → IsNameOf id q
      → Contains added q

-- the table in memory at the id is the one with this id among the known ones, or none of them has it
pub record IsTableIn (tables : List (ℕ × Table)) (id : ℕ) (known : List Table) : Type 0 where
  pub there : (t : Table) → table_at tables id ≡ Some t → (t.id ≡ id) × IsOnlyOne t known
  pub absent : table_at tables id ≡ None → without_id id known ≡ known

-- there is a table in memory at the id, and it is the one with this id among the known ones
pub record IsKnown (tables : List (ℕ × Table)) (known : List Table) (id : ℕ) : Type 0 where
  pub table : Table
  pub there : table_at tables id ≡ Some table
  pub same_id : table.id ≡ id
  pub only : IsOnlyOne table known

-- the names of the recipes of a set from one version on and below another are added behind the strays
pub record LeavesRecipes (s from to : ℕ) (strays after : List Name) : Type 0 where
  pub added : List Name
  pub strays_are : after ≡ strays ++ added
  pub only : (q : Name) → Contains added q → (v : ℕ) × (from ≤ v) × (v < to) × (q ≡ recipe_name s v)
  pub gone : (v : ℕ) → from ≤ v → v < to → Contains added (recipe_name s v)
