-- What a keeper has in memory, and when that is what it has of a core.
use Rattle.std.specs.Prelude.{◌≡◌, ℕ, ◌+◌, ◌-◌, ◌*◌, ◌≤◌, List, [], ◌++◌, map, length, sum_by, Option, Some, None, option_map, Contains, vec_capacity}
use Rattle.std.specs.Option.{option_map_or}
use Rattle.std.specs.Ordering.{nat_cmp}
use Rattle.std.specs.BTreeMap.{is_at}
use Rattle.std.specs.Map.{lookup}
use Rattle.vault_types.specs.declared.Name.{Name}
use Rattle.vault_types.specs.declared.Table.{Table}
use Rattle.vault_types.specs.Marks.{Mark}
use Rattle.vault_types.specs.Tables.{Container}
use Rattle.vault_types.specs.State.{State, Dataset, KeptVersion, latest_in, next_in, latest_version, version_of, container_in}
use Rattle.vault_types.specs.Events.{Core, put_by, pinned_containers}
use Rattle.set_markers.specs.SetMarkers.{Marked, AreMarkersOfSets}
use Rattle.keeper_catalog.specs.declared.SetInfo.{SetInfo}
use Rattle.keeper_catalog.specs.declared.Catalog.{Catalog}

-- the sets, the tables by id, the markers, the strays; for how many names the list of strays has
-- room, and for how many ids that of the containers that a deletion frees
pub record Memo : Type 0 where
  pub sets : List SetInfo
  pub tables : List (ℕ × Table)
  pub markers : Marked
  pub strays : List Name
  pub room : ℕ
  pub spare : ℕ

abbrev pub memo_of : Catalog → Memo
memo_of c =
    record {
      sets = c.sets.items;
      tables = c.tables.entries;
      markers = c.markers;
      strays = c.strays.items;
      room = vec_capacity c.strays;
      spare = vec_capacity c.freed;
    }

-- what of a set is in memory
abbrev pub set_info : Dataset → SetInfo
set_info d =
    record {
      floor = d.floor;
      latest = latest_in d;
      next = next_in d;
      sparse = option_map_or (λ k. k.sparse) (latest_version d) [];
    }

-- the containers whose tables are in memory: those that are named, those that are pinned, and those
-- of the open job
abbrev pub listed : Core → List Container
listed K = K.state.containers ++ (pinned_containers K.pins ++ put_by K.job)

-- the table at an id
abbrev pub table_at : List (ℕ × Table) → ℕ → Option Table
table_at tables id = lookup (is_at (nat_cmp id)) tables

-- the tables are those of the containers, by their ids
abbrev pub AreTables : List (ℕ × Table) → List Container → Type 0
AreTables tables cs = (id : ℕ) → table_at tables id ≡ option_map (λ c. c.table) (container_in cs id)

-- a row of the version names the container
abbrev pub Names : Option KeptVersion → ℕ → Type 0
Names None id = ⊥
Names (Some k) id = Contains (map (λ r. r.id) k.rows) id

-- the marks are those of the kept versions
pub record AreMarks (marks : List Mark) (S : State) : Type 0 where
  pub sound : (m : Mark) → Contains marks m → Names (version_of S m.set m.version) m.id
  pub complete : (s v id : ℕ) → Names (version_of S s v) id
      → Contains marks (record { id = id; set = s; version = v })

-- the markers are those of the state
abbrev pub AreMarkersOf : Marked → State → Type 0
AreMarkersOf m S = (marks : List Mark) × AreMarkersOfSets m marks × AreMarks marks S

-- the memory is that of the core
pub record IsMemoOf (m : Memo) (K : Core) : Type 0 where
  pub sets : m.sets ≡ map set_info K.state.datasets
  pub tables : AreTables m.tables (listed K)
  pub markers : AreMarkersOf m.markers K.state
  pub strays : m.strays ≡ K.strays

-- how many versions are kept
abbrev pub versions_in : List SetInfo → ℕ
versions_in sets = sum_by (λ s. s.latest + 1 - s.floor) sets

-- a deletion and a release find room for each name that may become a stray: two for each container,
-- one for each recipe; and for each container that they free
pub record HasRoom (m : Memo) : Type 0 where
  pub names : length m.strays + (2 * length m.tables + versions_in m.sets) ≤ m.room
  pub ids : length m.markers.ids ≤ m.spare
