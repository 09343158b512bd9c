-- What has been read of a shelf, while it is opened.
use Rattle.std.specs.Prelude.{◌≡◌, ◌⊎◌, ◌≤◌, ◌<◌, ◌+◌, ◌*◌, ◌^◌, ◌&&◌, Bool, ℕ, List, [], ◌∷◌, map, flat_map, ◌++◌, length, Contains, Option, Some, None, IsSome, IfSome, is_some, MatchOption, nat_le, nat_lt, ◌/◌, ◌%◌, false, nat_eq, option_map, unwrap_or, slice_get, find, ◌==◌, if◌then◌else◌}
use Rattle.std.specs.Option.{option_map_or}
use Rattle.std.specs.List.{AllByRecursion, last_or, list_any}
use Rattle.std.specs.Map.{lookup}
use Rattle.std.specs.FinMap as fin
use Rattle.vault_types.specs.declared.Kind.{Kind}
use Rattle.vault_types.specs.declared.Kind.TheVariants as kind
use Rattle.vault_types.specs.declared.Name.{Name}
use Rattle.vault_types.specs.declared.Row.{Row}
use Rattle.vault_types.specs.declared.TableRow.{TableRow}
use Rattle.vault_types.specs.declared.Table.{Table}
use Rattle.vault_types.specs.declared.Recipe.{Recipe}
use Rattle.vault_types.specs.declared.Why.{Why}
use Rattle.vault_types.specs.declared.Why.TheVariants as why
use Rattle.vault_types.specs.Lists.{set_of, EachNext}
use Rattle.vault_types.specs.Marks.{Mark, marks_of}
use Rattle.vault_types.specs.Names.{same_fp}
use Rattle.vault_types.specs.Shelf.{Blobs, recipe_name}
use Rattle.vault_types.specs.BlobDamage.{IsTableWhy, IsFloorIn, IsRecipeWhy}
use Rattle.set_markers.specs.SetMarkers.{AreMarkersOfSets}
use Rattle.keeper_catalog.specs.declared.SetInfo.{SetInfo}
use Rattle.keeper_catalog.specs.Catalog.{table_at}
use Rattle.fp_index.specs.Index.{IsIndexOf}
use Rattle.keeper_open.specs.declared.notes.Chunk.{Chunk}
use Rattle.keeper_open.specs.declared.notes.RowPlace.{RowPlace}
use Rattle.keeper_open.specs.declared.notes.Notes.{Notes}
use Rattle.keeper_open.specs.declared.reading.Found.{Found}
use Rattle.vault_types.specs.FirstDamage.{ReadsRecipe, ReadsTable, IsDueFrom, IsOpeningWhy}

-- floors

-- the floors of the sets from s on
abbrev pub AreFloors : Option Blobs → ℕ → List ℕ → Type 0
AreFloors told s [] = Unit {0}
AreFloors told s (floor ∷ floors) = IsFloorIn told s floor × AreFloors told (s + 1) floors

-- recipes

-- the greatest version of the set that is listed
abbrev pub IsLastListed : Blobs → ℕ → Option ℕ → Type 0
IsLastListed m s None = (v : ℕ) → v ≤ 4294967294 → fin.get m (recipe_name s v) ≡ None
IsLastListed m s (Some w) =
    IsSome (fin.get m (recipe_name s w))
    × ((v : ℕ) → w < v → v ≤ 4294967294 → fin.get m (recipe_name s v) ≡ None)

-- the last version that is to be read
pub record IsLastDue (m : Blobs) (s floor latest : ℕ) : Type 0 where
  pub due : (v : ℕ) → floor ≤ v → v ≤ latest → IsDueFrom m s floor v
  pub above : (v : ℕ) → floor ≤ v → latest < v → v ≤ 4294967294 → fin.get m (recipe_name s v) ≡ None

-- the recipes of the versions from v on
abbrev pub AreRecipes : Option Blobs → ℕ → ℕ → List Recipe → Type 0
AreRecipes told s v [] = Unit {0}
AreRecipes told s v (r ∷ rs) = ReadsRecipe told s v r × AreRecipes told s (v + 1) rs

abbrev pub last_next : List Recipe → ℕ
last_next rs = unwrap_or (option_map (λ r. r.next) (last_or None rs)) 1

abbrev pub last_sparse : List Recipe → List ℕ
last_sparse rs = option_map_or (λ r. r.sparse) (last_or None rs) []

-- these are the recipes of the first versions of the set
pub record AreReadInOrder (told : Option Blobs) (s floor : ℕ) (rs : List Recipe) : Type 0 where
  pub recipes : AreRecipes told s floor rs
  pub rising : EachNext (λ q r. q.next ≤ r.next) rs

pub record IsSetRead (told : Option Blobs) (s : ℕ) (info : SetInfo) (rs : List Recipe) : Type 0 where
  pub floor : IsFloorIn told s info.floor
  pub last : IfSome told (λ m. IsLastDue m s info.floor info.latest)
  pub low : 1 < info.floor → info.floor ≤ info.latest
  pub high : info.latest ≤ 4294967294
  pub count : info.floor + length rs ≡ info.latest + 1
  pub read : AreReadInOrder told s info.floor rs
  pub next : info.next ≡ last_next rs
  pub sparse : info.sparse ≡ last_sparse rs

-- what is wrong with version v of a set, where its `next` may not be below low
abbrev pub IsVersionWhy : Option Blobs → ℕ → ℕ → ℕ → Why → Type 0
IsVersionWhy told s v low (why.Lower before found) =
    (before ≡ low) × ((r : Recipe) × ReadsRecipe told s v r × (r.next ≡ found) × (found < before))
IsVersionWhy told s v low other = IsRecipeWhy told s v other

abbrev pub IsVersionDamage : Option Blobs → ℕ → ℕ → ℕ → Kind → ℕ → Why → Type 0
IsVersionDamage told s v low kind.Recipe number w =
    (number ≡ (recipe_name s v).number) × IsVersionWhy told s v low w
IsVersionDamage told s v low other number w = ⊥

-- the version behind these of the set is to be read, and is bad
pub record IsSetFirst (m : Blobs) (s floor : ℕ) (rs : List Recipe) (number : ℕ) (w : Why) : Type 0 where
  pub read : AreReadInOrder (Some m) s floor rs
  pub due : IsDueFrom m s floor (floor + length rs)
  pub last : floor + length rs ≤ 4294967294
  pub is : IsVersionDamage (Some m) s (floor + length rs) (last_next rs) kind.Recipe number w

abbrev pub IsSetDamage : Option Blobs → ℕ → ℕ → Kind → ℕ → Why → Type 0
IsSetDamage told s floor kind.Recipe number w =
    MatchOption told (IsOpeningWhy kind.Recipe w) (λ m. (rs : List Recipe) × IsSetFirst m s floor rs number w)
IsSetDamage told s floor other number w = ⊥

-- a set, with the recipes that were read of it
pub record SetRead : Type 0 where
  pub info : SetInfo
  pub recipes : List Recipe

abbrev pub AreSets : Option Blobs → ℕ → List SetRead → Type 0
AreSets told s [] = Unit {0}
AreSets told s (d ∷ ds) = IsSetRead told s d.info d.recipes × AreSets told (s + 1) ds

abbrev pub all_recipes : List SetRead → List Recipe
all_recipes ds = flat_map (λ d. d.recipes) ds

-- what is noted of recipes

abbrev pub rows_of_all : List Recipe → List Row
rows_of_all rs = flat_map (λ r. r.rows) rs

abbrev pub marks_in : List Recipe → List Mark
marks_in rs = flat_map (λ r. marks_of r.set r.version (set_of (map (λ q. q.id) r.rows))) rs

abbrev pub chunk_of_row : Row → Chunk
chunk_of_row r = record { fp = r.fp; id = r.id; len = r.len }

abbrev pub same_chunk : Chunk → Chunk → Bool
same_chunk a b = same_fp a.fp b.fp && (nat_eq a.id b.id && nat_eq a.len b.len)

-- the rows with their places, from row i on
abbrev pub placed_rows : ℕ → ℕ → List Row → List (Chunk × RowPlace)
placed_rows number i [] = []
placed_rows number i (r ∷ rows) =
    (chunk_of_row r, record { number = number; row = i }) ∷ placed_rows number (i + 1) rows

abbrev pub number_of : Recipe → ℕ
number_of r = r.set * 2 ^ 32 + r.version

abbrev pub placed : List Recipe → List (Chunk × RowPlace)
placed rs = flat_map (λ r. placed_rows (number_of r) 0 r.rows) rs

abbrev pub IsNotAfter : RowPlace → RowPlace → Type 0
IsNotAfter p q = (p.number < q.number) ⊎ ((p.number ≡ q.number) × (p.row ≤ q.row))

-- of a place, where there is one, and another the one that is not after the other
abbrev pub IsLesserOf : Option RowPlace → RowPlace → RowPlace → Type 0
IsLesserOf None b p = p ≡ b
IsLesserOf (Some a) b p = ((p ≡ a) ⊎ (p ≡ b)) × IsNotAfter p a × IsNotAfter p b

-- the entries have for each chunk the first of these places
pub record AreFirst (entries : List (Chunk × RowPlace)) (places : List (Chunk × RowPlace)) : Type 0 where
  pub sound : (k : Chunk) (p : RowPlace) → lookup (same_chunk k) entries ≡ Some p → Contains places (k, p)
  pub first : (k : Chunk) (p : RowPlace) → Contains places (k, p)
      → (q : RowPlace) × (lookup (same_chunk k) entries ≡ Some q) × IsNotAfter q p

-- all places are before this one
abbrev pub ArePlacesBefore : List (Chunk × RowPlace) → RowPlace → Type 0
ArePlacesBefore places p = (e : Chunk × RowPlace) → Contains places e → IsNotAfter e.1 p

abbrev pub AreBelow : List Recipe → ℕ → Type 0
AreBelow rs number = (r : Recipe) → Contains rs r → number_of r < number

pub record AreNoted (notes : Notes) (rs : List Recipe) : Type 0 where
  pub markers : AreMarkersOfSets notes.markers (marks_in rs)
  pub ids : notes.ids.keys ≡ set_of (map (λ r. r.id) (rows_of_all rs))
  pub places : AreFirst notes.places.entries (placed rs)

-- the recipes were noted behind those before
abbrev pub NotesMore : Notes → Notes → ℕ → List Recipe → Type 0
NotesMore old new number rs =
    (before : List Recipe) → AreBelow before number → AreNoted old before → AreNoted new (before ++ rs)

-- tables

abbrev pub AreReadTables : Option Blobs → List Table → Type 0
AreReadTables told ts = AllByRecursion (λ t. ReadsTable told t.id t) ts

-- the table of container id has the chunk
abbrev pub has_chunk : ℕ → List TableRow → Chunk → Bool
has_chunk id rows k = list_any (λ r. same_chunk (record { fp = r.fp; id = id; len = r.len }) k) rows

abbrev pub some_has : List Table → Chunk → Bool
some_has ts k = list_any (λ t. has_chunk t.id t.rows k) ts

-- the entries that are left
abbrev pub left_of : Bool → Option RowPlace → Option RowPlace
left_of gone p = if gone then None else p

-- the first table of these ids that is bad
abbrev pub IsFirstTable : Option Blobs → List ℕ → Kind → ℕ → Why → Type 0
IsFirstTable told ids kind.Table number w =
    Contains ids number × IsTableWhy told number w
    × ((c : ℕ) → c < number → Contains ids c → (t : Table) × ReadsTable told c t)
IsFirstTable told ids other number w = ⊥

-- the tables of these ids, in memory; of the places those are left whose chunk is in none of them
pub record IsFound (told : Option Blobs) (ids : List ℕ) (places : List (Chunk × RowPlace)) (found : Found)
    (ts : List Table) : Type 0 where
  pub read : AreReadTables told ts
  pub of : map (λ t. t.id) ts ≡ ids
  pub tables : (c : ℕ) → table_at found.tables.entries c ≡ find (λ t. t.id == c) ts
  pub index : IsIndexOf found.index ts
  pub left : (k : Chunk)
      → lookup (same_chunk k) found.places.entries ≡ left_of (some_has ts k) (lookup (same_chunk k) places)

-- names that a store with these sets and tables needs

abbrev pub keeps : List SetInfo → ℕ → Bool
keeps sets number =
    option_map_or (λ i. nat_le i.floor (number % 2 ^ 32) && nat_le (number % 2 ^ 32) i.latest)
    (slice_get sets (number / 2 ^ 32)) false

abbrev pub needs_number : List SetInfo → List (ℕ × Table) → Kind → ℕ → Bool
needs_number sets tables kind.Table number = is_some (table_at tables number)
needs_number sets tables kind.Payload number = is_some (table_at tables number)
needs_number sets tables kind.Recipe number = keeps sets number
needs_number sets tables kind.Floor number = nat_lt number 256

abbrev pub needs : List SetInfo → List (ℕ × Table) → Name → Bool
needs sets tables n = needs_number sets tables n.kind n.number
