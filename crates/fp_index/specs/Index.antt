-- Which containers have a fingerprint.
use Rattle.std.specs.Prelude.{◌≡◌, ℕ, not, List, [], map, filter, nat_eq, Option, unwrap_or}
use Rattle.std.specs.List.{AllByRecursion}
use Rattle.std.specs.Map.{lookup}
use Rattle.vault_types.specs.declared.Fp.{Fp}
use Rattle.vault_types.specs.declared.Table.{Table}
use Rattle.vault_types.specs.Lists.{set_of, greatest}
use Rattle.vault_types.specs.Names.{same_fp}
use Rattle.vault_types.specs.Tables.{has_fp}

-- the containers that the entries give for a fingerprint
abbrev pub ids_for : List (Fp × List ℕ) → Fp → List ℕ
ids_for entries f = unwrap_or (lookup (same_fp f) entries) []

-- the greatest of them
abbrev pub found_in : List (Fp × List ℕ) → Fp → Option ℕ
found_in entries f = greatest (ids_for entries f)

-- the tables that have the fingerprint, by their ids, ascending
abbrev pub ids_having : List Table → Fp → List ℕ
ids_having tables f = set_of (map (λ t. t.id) (filter (has_fp f) tables))

-- the entries give for each fingerprint the containers among these that have it
pub record IsIndexOf (entries : List (Fp × List ℕ)) (tables : List Table) : Type 0 where
  pub ids : (f : Fp) → ids_for entries f ≡ ids_having tables f

-- the tables but those with this id
abbrev pub without_id : ℕ → List Table → List Table
without_id id tables = filter (λ t. not (nat_eq t.id id)) tables

-- no other table than this one has its id
abbrev pub IsOnlyOne : Table → List Table → Type 0
IsOnlyOne table tables = AllByRecursion (λ t. t.id ≡ table.id → t ≡ table) tables
