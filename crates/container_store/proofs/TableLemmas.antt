-- A table has no more rows than its payload has bytes, and no fewer than its payload needs.
use Rattle.std.proofs.Common.{◌*◌, ◌^◌, ◌<◌, ◌≤◌, List, [], ◌∷◌, length, map, All, arith}
use Rattle.std.specs.List.{AllByRecursion, IsDistinct}
use Rattle.std.proofs.lemmas.List.Elements.{recursion_from_All}
use Rattle.std.proofs.lemmas.List.Sums.{sum_by-cons}
use Rattle.vault_types.specs.declared.TableRow.{TableRow}
use Rattle.vault_types.specs.declared.Table.{Table}
use Rattle.vault_types.specs.Names.{IsFp, same_fp}
use Rattle.container_store.specs.Reading.{FitsTableRow, HasTableWidths}
use Rattle.vault_types.specs.Tables.{payload_len, IsTable}

few : (rows : List TableRow) → AllByRecursion (λ r. (1 ≤ r.len) × (r.len ≤ 65536)) rows → length rows ≤ payload_len rows
few [] lens = omega arith
few (r ∷ rows) lens = omega (arith, few rows lens.1, lens.0.0, sum_by-cons (λ (q : TableRow). q.len) r rows)

pub few_rows : (t : Table) → IsTable t → length t.rows ≤ 4194304
few_rows t rules = omega (arith, few t.rows rules.lens, rules.total)

few_bytes : (rows : List TableRow) → AllByRecursion (λ r. (1 ≤ r.len) × (r.len ≤ 65536)) rows → payload_len rows ≤ 65536 * length rows
few_bytes [] lens = omega arith
few_bytes (r ∷ rows) lens = omega (arith, few_bytes rows lens.1, lens.0.1, sum_by-cons (λ (q : TableRow). q.len) r rows)

pub short_payload : (rows : List TableRow) → All (λ r. (1 ≤ r.len) × (r.len ≤ 65536)) rows → length rows < 2 ^ 32 → payload_len rows < 2 ^ 64
short_payload rows lens few = omega (arith, few_bytes rows (recursion_from_All (λ r. (1 ≤ r.len) × (r.len ≤ 65536)) rows lens))

-- a table that has a spelling has numbers and sums of their widths
widths : (rows : List TableRow) → AllByRecursion (λ r. (1 ≤ r.len) × (r.len ≤ 65536)) rows → AllByRecursion (λ r. IsFp r.fp) rows → AllByRecursion FitsTableRow rows
widths [] lens fps = tt
widths (r ∷ rows) lens fps = ((fps.0, omega (arith, lens.0.1)), widths rows lens.1 fps.1)

pub has_widths : (t : Table) → IsTable t → HasTableWidths t
has_widths t rules = record { id = rules.id_high; few = omega (arith, few_rows t rules); rows = widths t.rows rules.lens rules.fps; payload_sum = rules.payload_sum }

only_fps : (rows : List TableRow) → AllByRecursion FitsTableRow rows → AllByRecursion (λ r. IsFp r.fp) rows
only_fps [] fits = tt
only_fps (r ∷ rows) fits = (fits.0.0, only_fps rows fits.1)

pub is_table : (t : Table) → HasTableWidths t → 1 ≤ t.id → 1 ≤ length t.rows → All (λ r. (1 ≤ r.len) × (r.len ≤ 65536)) t.rows → payload_len t.rows ≤ 4194304 → IsDistinct same_fp (map (λ r. r.fp) t.rows) → IsTable t
is_table t fits id count lens total differ = record {
  id_low = id;
  id_high = fits.id;
  count = count;
  lens = recursion_from_All (λ r. (1 ≤ r.len) × (r.len ≤ 65536)) t.rows lens;
  total = total;
  fps = only_fps t.rows fits.rows;
  payload_sum = fits.payload_sum;
  differ = differ;
}
