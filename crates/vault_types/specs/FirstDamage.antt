-- When blobs open as a state, what opening reads, and what it finds damaged first. The order is
-- that of the floors, the recipes, the tables and the rows: a place is damaged first where it is
-- bad and all places before it are good.
use Rattle.std.specs.Prelude.{◌≡◌, ◌⊎◌, ◌≤◌, ◌<◌, ◌+◌, ℕ, List, Contains, Option, Some, IsSome, MatchOption, slice_get}
use Rattle.std.specs.FinMap as fin
use Rattle.vault_types.specs.declared.Kind.{Kind}
use Rattle.vault_types.specs.declared.Kind.TheVariants as kind
use Rattle.vault_types.specs.declared.Row.{Row}
use Rattle.vault_types.specs.declared.Table.{Table}
use Rattle.vault_types.specs.declared.Recipe.{Recipe}
use Rattle.vault_types.specs.declared.Why.{Why}
use Rattle.vault_types.specs.declared.Why.TheVariants as why
use Rattle.vault_types.specs.Blobs.{SpellsRecipe, SpellsTable}
use Rattle.vault_types.specs.Shelf.{Blobs, table_name, recipe_name, Has, Stands}
use Rattle.vault_types.specs.BlobDamage.{IsTableWhy, IsFloorIn, IsFloorWhy, IsRecipeWhy}
use Rattle.std.specs.List.{AllByRecursion}
use Rattle.vault_types.specs.State.{State, all_rows, IsValid}
use Rattle.vault_types.specs.Bytes.{HasRow}

-- the blobs open as the state: they stand for it, and each row has the length that it has in its table
pub record Opens (m : Blobs) (S : State) : Type 0 where
  pub stands : Stands m S
  pub valid : IsValid S
  pub rows : AllByRecursion (HasRow S.containers) (all_rows S.datasets)

-- the recipe of version v of set s, and the table of container id
abbrev pub ReadsRecipe : Option Blobs → ℕ → ℕ → Recipe → Type 0
ReadsRecipe told s v r = (bytes : List ℕ) × Has told (recipe_name s v) (Some bytes) × SpellsRecipe s v bytes r

abbrev pub ReadsTable : Option Blobs → ℕ → Table → Type 0
ReadsTable told id t = (bytes : List ℕ) × Has told (table_name id) (Some bytes) × SpellsTable id bytes t

-- a recipe of the set is there, of this version or a later one
abbrev pub IsListedFrom : Blobs → ℕ → ℕ → Type 0
IsListedFrom m s v = (w : ℕ) × (v ≤ w) × (w ≤ 4294967294) × IsSome (fin.get m (recipe_name s w))

-- where the floor is this, version v is to be read: a recipe at or above it is there, or it is a
-- floor above 1
abbrev pub IsDueFrom : Blobs → ℕ → ℕ → ℕ → Type 0
IsDueFrom m s floor v = ((v ≡ floor) × (1 < floor)) ⊎ IsListedFrom m s v

-- the recipe of version v of set s is to be read
pub record IsRecipeDue (m : Blobs) (s v : ℕ) : Type 0 where
  pub set : s < 256
  pub floor : ℕ
  pub reads : IsFloorIn (Some m) s floor
  pub from : floor ≤ v
  pub last : v ≤ 4294967294
  pub due : IsDueFrom m s floor v

-- the first id that was free after the version before is not above that of this one
abbrev pub IsAfter : Blobs → ℕ → ℕ → Recipe → Type 0
IsAfter m s v r =
    (u : ℕ) (q : Recipe) → u + 1 ≡ v → IsRecipeDue m s u → ReadsRecipe (Some m) s u q → q.next ≤ r.next

pub record IsGoodRecipe (m : Blobs) (s v : ℕ) : Type 0 where
  pub recipe : Recipe
  pub reads : ReadsRecipe (Some m) s v recipe
  pub after : IsAfter m s v recipe

-- row i of the recipe of version v of set s
pub record IsRowAt (m : Blobs) (s v i : ℕ) (row : Row) : Type 0 where
  pub recipe : Recipe
  pub due : IsRecipeDue m s v
  pub reads : ReadsRecipe (Some m) s v recipe
  pub at : slice_get recipe.rows i ≡ Some row

-- a row names the container
pub record IsNamedByRow (m : Blobs) (id : ℕ) : Type 0 where
  pub set : ℕ
  pub version : ℕ
  pub place : ℕ
  pub row : Row
  pub is_row : IsRowAt m set version place row
  pub is : row.id ≡ id

-- the row stands in the table of its container with its length
abbrev pub IsInTable : Blobs → Row → Type 0
IsInTable m row =
    (t : Table) × ReadsTable (Some m) row.id t × Contains t.rows (record { fp = row.fp; len = row.len })

-- all before a place is good

abbrev pub IsBefore : ℕ → ℕ → ℕ → ℕ → Type 0
IsBefore t w s v = (t < s) ⊎ ((t ≡ s) × (w < v))

abbrev pub FloorsBefore : Blobs → ℕ → Type 0
FloorsBefore m s = (t : ℕ) → t < s → (floor : ℕ) × IsFloorIn (Some m) t floor

abbrev pub RecipesBefore : Blobs → ℕ → ℕ → Type 0
RecipesBefore m s v = (t w : ℕ) → IsBefore t w s v → IsRecipeDue m t w → IsGoodRecipe m t w

abbrev pub TablesBefore : Blobs → ℕ → Type 0
TablesBefore m id = (c : ℕ) → c < id → IsNamedByRow m c → (t : Table) × ReadsTable (Some m) c t

abbrev pub RowsBefore : Blobs → ℕ → ℕ → ℕ → Type 0
RowsBefore m s v i =
    (t w j : ℕ) (row : Row) → IsBefore t w s v ⊎ ((t ≡ s) × (w ≡ v) × (j < i)) → IsRowAt m t w j row
    → IsInTable m row

-- all floors, recipes and tables are good

pub record AreFloorsGood (m : Blobs) : Type 0 where
  pub floors : FloorsBefore m 256

pub record AreRecipesGood (m : Blobs) : Type 0 where
  pub floors : FloorsBefore m 256
  pub recipes : RecipesBefore m 256 0

pub record AreTablesGood (m : Blobs) : Type 0 where
  pub floors : FloorsBefore m 256
  pub recipes : RecipesBefore m 256 0
  pub tables : (c : ℕ) → IsNamedByRow m c → (t : Table) × ReadsTable (Some m) c t

-- a bad place

-- the version before has another `next`, which is above the one found
abbrev pub IsLower : Blobs → ℕ → ℕ → ℕ → ℕ → Type 0
IsLower m s v before found =
    (u : ℕ) × (q : Recipe) × (r : Recipe) × (u + 1 ≡ v) × IsRecipeDue m s u × ReadsRecipe (Some m) s u q
    × ReadsRecipe (Some m) s v r
    × (q.next ≡ before) × (r.next ≡ found) × (found < before)

abbrev pub IsRecipeFirst : Blobs → ℕ → ℕ → Why → Type 0
IsRecipeFirst m s v (why.BadRow i) =
    AreTablesGood m × RowsBefore m s v i × ((row : Row) × IsRowAt m s v i row × (IsInTable m row → ⊥))
IsRecipeFirst m s v (why.Lower before found) =
    FloorsBefore m 256 × RecipesBefore m s v × IsLower m s v before found
IsRecipeFirst m s v other = FloorsBefore m 256 × RecipesBefore m s v × IsRecipeWhy (Some m) s v other

abbrev pub IsFirstDamage : Blobs → Kind → ℕ → Why → Type 0
IsFirstDamage m kind.Floor number w = (number < 256) × FloorsBefore m number × IsFloorWhy (Some m) number w
IsFirstDamage m kind.Recipe number w =
    (s : ℕ) × (v : ℕ) × (number ≡ (recipe_name s v).number) × IsRecipeDue m s v × IsRecipeFirst m s v w
IsFirstDamage m kind.Table number w =
    AreRecipesGood m × TablesBefore m number × IsNamedByRow m number × IsTableWhy (Some m) number w
IsFirstDamage m kind.Payload number w = ⊥

-- what opening may find wrong with a place, whatever the shelf tells
abbrev pub IsOpeningWhy : Kind → Why → Type 0
IsOpeningWhy kind.Floor why.Spelling = Unit {0}
IsOpeningWhy kind.Recipe why.Absent = Unit {0}
IsOpeningWhy kind.Recipe why.Spelling = Unit {0}
IsOpeningWhy kind.Recipe (why.Lower before found) = found < before
IsOpeningWhy kind.Recipe (why.BadRow row) = Unit {0}
IsOpeningWhy kind.Table why.Absent = Unit {0}
IsOpeningWhy kind.Table why.Spelling = Unit {0}
IsOpeningWhy kind w = ⊥

-- the first damage of the blobs; where they are not told, one that opening may find
abbrev pub IsDamageOf : Option Blobs → Kind → ℕ → Why → Type 0
IsDamageOf told kind number w = MatchOption told (IsOpeningWhy kind w) (λ m. IsFirstDamage m kind number w)
