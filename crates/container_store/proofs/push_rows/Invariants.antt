use Rattle.std.proofs.Common.{◌≡◌, ◌++◌, take}
use Rattle.std.specs.Prelude.{flat_map}
use Rattle.vault_types.specs.Blobs.{table_row_bytes}
use Rattle.container_store.proofs.push_rows.Given as goal

abbrev pub invariant-loop-row : goal.invariant-loop-row
invariant-loop-row l = l.blob.items ≡ l.fn.blob.items ++ flat_map table_row_bytes (take l.row-index l.rows)
