-- What is read as a table is what spells it.
use Rattle.std.proofs.Common.{◌≡◌, ℕ, ◌^◌, ◌<◌, ◌≤◌, List, ◌++◌, length, refl, sym, ap, arith}
use Rattle.std.specs.List.{AllByRecursion, flat_map}
use Rattle.std.specs.Int.{w32, w64, to_be_bytes}
use Rattle.std.proofs.lemmas.Bool.{eqb-true}
use Rattle.std.proofs.lemmas.List.{length-append}
use Rattle.vault_types.specs.declared.Fp.{Fp}
use Rattle.vault_types.specs.declared.TableRow.{TableRow}
use Rattle.vault_types.specs.declared.Table.{Table}
use Rattle.vault_types.specs.Names.{IsFp}
use Rattle.vault_types.specs.Blobs.{table_row_bytes}
use Rattle.blob_parts.specs.Reading.{list_at}
use Rattle.blob_parts.proofs.Fields.{IsField, IsTag, fp_field, u32_field, u64_field, tag_field, both_field, made_field, list_field}
use Rattle.container_store.specs.Reading.{table_tag, table_row_of, table_row_at, table_of, table_body_at, table_head, FitsTableRow, HasTableWidths}

row_back : TableRow → Fp × ℕ
row_back r = (r.fp, r.len)

row_field : IsField table_row_at table_row_bytes FitsTableRow
unfolding row_back
row_field = made_field (both_field fp_field (λ f fits. u32_field)) table_row_of row_back table_row_bytes FitsTableRow (λ x fits. (fits, refl)) (λ r fits. (fits, refl))

row_width : (r : TableRow) → FitsTableRow r → 24 ≤ length (table_row_bytes r)
row_width r fits = omega (arith, fits.0.len, length-append r.fp.0 (to_be_bytes w32 r.len))

abbrev Rows : List TableRow → Type 0
Rows rows = (length rows < 2 ^ 32) × AllByRecursion FitsTableRow rows

abbrev rows_bytes : List TableRow → List ℕ
rows_bytes rows = to_be_bytes w32 (length rows) ++ flat_map table_row_bytes rows

rows_field : IsField (list_at 24 table_row_at) rows_bytes Rows
rows_field = list_field row_field 24 row_width

abbrev Parts : Type 0
Parts = ℕ × (ℕ × (List TableRow × Fp))

abbrev parts_bytes : Parts → List ℕ
parts_bytes p = to_be_bytes w32 p.0 ++ (to_be_bytes w64 p.1.0 ++ (rows_bytes p.1.1.0 ++ p.1.1.1.0))

abbrev PartsFit : Parts → Type 0
PartsFit p = IsTag table_tag p.0 × ((p.1.0 < 2 ^ 64) × (Rows p.1.1.0 × IsFp p.1.1.1))

table_back : Table → Parts
table_back t = (table_tag, (t.id, (t.rows, t.payload_sum)))

there : (p : Parts) → PartsFit p → HasTableWidths (table_of p) × (table_head (table_of p) ≡ parts_bytes p)
there p fits =
    let tag : table_tag ≡ p.0 = sym (eqb-true p.0 table_tag fits.0.1) in (
      record { id = fits.1.0; few = fits.1.1.0.0; rows = fits.1.1.0.1; payload_sum = fits.1.1.1 },
      ap (λ (n : ℕ). to_be_bytes w32 n ++ (to_be_bytes w64 p.1.0 ++ (rows_bytes p.1.1.0 ++ p.1.1.1.0))) tag,
    )

back : (t : Table) → HasTableWidths t → PartsFit (table_back t) × (table_of (table_back t) ≡ t)
unfolding table_back
back t fits = (((omega arith, refl), (fits.id, ((fits.few, fits.rows), fits.payload_sum))), refl)

pub table_field : IsField table_body_at table_head HasTableWidths
unfolding table_body_at
table_field =
    made_field
    (both_field (tag_field table_tag) (λ t tag. both_field u64_field (λ id fits. both_field rows_field (λ rows fit. fp_field))))
    table_of table_back table_head HasTableWidths there back
