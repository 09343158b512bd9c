-- Where the chunks of rows lie, by the tables of their containers.
use Rattle.std.specs.Prelude.{◌≡◌, ℕ, List, take, slice_get, Contains, Some, IsSomeAnd}
use Rattle.std.specs.Option.{option_map_or}
use Rattle.std.specs.List.{AllByRecursion}
use Rattle.vault_types.specs.declared.Table.{Table}
use Rattle.vault_types.specs.declared.Row.{Row}
use Rattle.vault_types.specs.declared.Spot.{Spot}
use Rattle.vault_types.specs.Tables.{IsTable}
use Rattle.vault_types.specs.Bytes.{offset_of}
use Rattle.keeper_catalog.specs.Catalog.{table_at}

-- where the chunk of a row lies
abbrev pub spot_in : List (ℕ × Table) → Row → Spot
spot_in tables r =
    record {
      id = r.id;
      at = option_map_or (λ t. offset_of t.rows r.fp) (table_at tables r.id) 0;
      len = r.len;
    }

-- the table at the row's id has its fingerprint with its length
abbrev pub HasPlace : List (ℕ × Table) → Row → Type 0
HasPlace tables r =
    IsSomeAnd (table_at tables r.id) (λ t. Contains t.rows (record { fp = r.fp; len = r.len }))

-- each table has a spelling
abbrev pub AreRuled : List (ℕ × Table) → Type 0
AreRuled tables = (id : ℕ) (t : Table) → table_at tables id ≡ Some t → IsTable t

-- there is a row at i, and it has no place; each before it has one
pub record IsFirstWithout (tables : List (ℕ × Table)) (rows : List Row) (i : ℕ) : Type 0 where
  pub none : IsSomeAnd (slice_get rows i) (λ r. HasPlace tables r → ⊥)
  pub before : AllByRecursion (HasPlace tables) (take i rows)
