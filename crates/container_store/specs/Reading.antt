-- A table, read from left to right.
use Rattle.std.specs.Prelude.{ℕ, ◌<◌, ◌^◌, ◌++◌, List, length, flat_map, codes}
use Rattle.std.specs.Int.{w32, w64}
use Rattle.std.specs.List.{AllByRecursion}
use Rattle.vault_types.specs.declared.Fp.{Fp}
use Rattle.vault_types.specs.declared.TableRow.{TableRow}
use Rattle.vault_types.specs.declared.Table.{Table}
use Rattle.vault_types.specs.Names.{IsFp}
use Rattle.vault_types.specs.Blobs.{u32_bytes, u64_bytes, table_row_bytes}
use Rattle.blob_parts.specs.Reading.{Field, number_at, tag_at, fp_at, list_at, both_at, made_at}

-- `DTB1`
abbrev pub table_tag : ℕ
table_tag = 0x44544231

abbrev pub table_row_of : Fp × ℕ → TableRow
table_row_of p = record { fp = p.0; len = p.1 }

abbrev pub table_row_at : Field TableRow
table_row_at = made_at table_row_of (both_at fp_at (λ _. number_at w32))

abbrev pub table_of : ℕ × (ℕ × (List TableRow × Fp)) → Table
table_of p = record { id = p.1.0; rows = p.1.1.0; payload_sum = p.1.1.1 }

-- all of a table but the sum of the blob
unfoldable pub table_body_at : Field Table
table_body_at =
    made_at table_of
    (both_at (tag_at table_tag)
    (λ _. both_at (number_at w64) (λ _. both_at (list_at 24 table_row_at) (λ _. fp_at))))

abbrev pub FitsTableRow : TableRow → Type 0
FitsTableRow r = IsFp r.fp × (r.len < 2 ^ 32)

-- numbers and sums have their widths
pub record HasTableWidths (t : Table) : Type 0 where
  pub id : t.id < 2 ^ 64
  pub few : length t.rows < 2 ^ 32
  pub rows : AllByRecursion FitsTableRow t.rows
  pub payload_sum : IsFp t.payload_sum

-- the blob of a table without its sum
abbrev pub table_head : Table → List ℕ
table_head t =
    codes "DTB1" ++ u64_bytes t.id ++ u32_bytes (length t.rows) ++ flat_map table_row_bytes t.rows
    ++ t.payload_sum.0
