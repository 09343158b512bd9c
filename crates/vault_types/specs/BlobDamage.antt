-- What is wrong with a table, a payload, a recipe or a floor, as the shelf's answer shows it.
use Rattle.std.specs.Prelude.{◌≡◌, ◌≢◌, ℕ, List, Option, Some, None, length, MatchOption}
use Rattle.sha1.specs.Sha1.{sha1}
use Rattle.vault_types.specs.declared.Kind.{Kind}
use Rattle.vault_types.specs.declared.Kind.TheVariants as kind
use Rattle.vault_types.specs.declared.Why.{Why}
use Rattle.vault_types.specs.declared.Why.TheVariants as why
use Rattle.vault_types.specs.declared.Table.{Table}
use Rattle.vault_types.specs.Names.{fp}
use Rattle.vault_types.specs.Tables.{payload_len}
use Rattle.vault_types.specs.Blobs.{SpellsTable, SpellsRecipe, SpellsFloor}
use Rattle.vault_types.specs.Shelf.{Blobs, table_name, payload_name, recipe_name, floor_name, Has}
use Rattle.vault_types.specs.declared.Recipe.{Recipe}

-- no table of this id is spelled so
abbrev pub IsNoTable : ℕ → List ℕ → Type 0
IsNoTable id bytes = (t : Table) → SpellsTable id bytes t → ⊥

-- the table of this id is not there, or is something else
abbrev pub IsTableWhy : Option Blobs → ℕ → Why → Type 0
IsTableWhy told id why.Absent = Has told (table_name id) None
IsTableWhy told id why.Spelling =
    (bytes : List ℕ) × Has told (table_name id) (Some bytes) × IsNoTable id bytes
IsTableWhy told id other = ⊥

abbrev pub IsTableDamage : Option Blobs → ℕ → Kind → ℕ → Why → Type 0
IsTableDamage told id kind.Table number w = (number ≡ id) × IsTableWhy told id w
IsTableDamage told id other number w = ⊥

-- what is wrong with the bytes as a payload of this table: another length, or another sum
abbrev pub IsWrongPayload : Table → List ℕ → Why → Type 0
IsWrongPayload t bytes (why.Length want found) =
    (want ≡ payload_len t.rows) × (found ≡ length bytes) × (found ≢ want)
IsWrongPayload t bytes (why.Sum want found) =
    (length bytes ≡ payload_len t.rows) × (want ≡ t.payload_sum) × (found ≡ fp bytes) × (found ≢ want)
IsWrongPayload t bytes other = ⊥

-- the payload of this table is not there, or is wrong
abbrev pub IsPayloadWhy : Option Blobs → Table → Why → Type 0
IsPayloadWhy told t why.Absent = Has told (payload_name t.id) None
IsPayloadWhy told t other =
    (bytes : List ℕ) × Has told (payload_name t.id) (Some bytes) × IsWrongPayload t bytes other

abbrev pub IsPayloadDamage : Option Blobs → Table → Kind → ℕ → Why → Type 0
IsPayloadDamage told t kind.Payload number w = (number ≡ t.id) × IsPayloadWhy told t w
IsPayloadDamage told t other number w = ⊥

-- the bytes have the length and the sum of this table's payload
pub record IsPayloadOf (t : Table) (bytes : List ℕ) : Type 0 where
  pub len : length bytes ≡ payload_len t.rows
  pub sum : sha1 bytes ≡ t.payload_sum.0

-- the shelf has the bytes as this payload
pub record IsLoaded (told : Option Blobs) (t : Table) (bytes : List ℕ) : Type 0 where
  pub there : Has told (payload_name t.id) (Some bytes)
  pub fits : IsPayloadOf t bytes

-- no recipe of version v of set s is spelled so
abbrev pub IsNoRecipe : ℕ → ℕ → List ℕ → Type 0
IsNoRecipe s v bytes = (r : Recipe) → SpellsRecipe s v bytes r → ⊥

-- no floor of set s is spelled so
abbrev pub IsNoFloor : ℕ → List ℕ → Type 0
IsNoFloor s bytes = (floor : ℕ) → SpellsFloor s bytes floor → ⊥

-- the recipe is not there, or is something else
abbrev pub IsRecipeWhy : Option Blobs → ℕ → ℕ → Why → Type 0
IsRecipeWhy told s v why.Absent = Has told (recipe_name s v) None
IsRecipeWhy told s v why.Spelling =
    (bytes : List ℕ) × Has told (recipe_name s v) (Some bytes) × IsNoRecipe s v bytes
IsRecipeWhy told s v other = ⊥

abbrev pub IsRecipeDamage : Option Blobs → ℕ → ℕ → Kind → ℕ → Why → Type 0
IsRecipeDamage told s v kind.Recipe number w = (number ≡ (recipe_name s v).number) × IsRecipeWhy told s v w
IsRecipeDamage told s v other number w = ⊥

-- the floor is something else
abbrev pub IsFloorWhy : Option Blobs → ℕ → Why → Type 0
IsFloorWhy told s why.Spelling = (bytes : List ℕ) × Has told (floor_name s) (Some bytes) × IsNoFloor s bytes
IsFloorWhy told s other = ⊥

abbrev pub IsFloorDamage : Option Blobs → ℕ → Kind → ℕ → Why → Type 0
IsFloorDamage told s kind.Floor number w = (number ≡ s) × IsFloorWhy told s w
IsFloorDamage told s other number w = ⊥

-- the floor of a set as the shelf has it: 1 where there is none
abbrev pub IsFloorIn : Option Blobs → ℕ → ℕ → Type 0
IsFloorIn told s floor =
    (found : Option (List ℕ)) × Has told (floor_name s) found
    × MatchOption found (floor ≡ 1) (λ bytes. SpellsFloor s bytes floor)
