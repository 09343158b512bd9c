use Rattle.std.proofs.Common.{◌≡◌, ◌++◌, take}
use Rattle.std.specs.Prelude.{flat_map}
use Rattle.vault_types.specs.Blobs.{row_bytes_2}
use Rattle.recipe_form2.proofs.writing.push_rows.Given as goal

abbrev pub invariant-loop-row : goal.invariant-loop-row
invariant-loop-row l = l.blob.items ≡ l.fn.blob.items ++ flat_map row_bytes_2 (take l.row-index l.rows)
