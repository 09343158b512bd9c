-- A container that is being filled.
use Rattle.std.specs.Prelude.{◌≡◌, ℕ, ◌≤◌, List, map, length, sum_by}
use Rattle.std.specs.List.{concat, AllByRecursion, IsDistinct}
use Rattle.vault_types.specs.declared.TableRow.{TableRow}
use Rattle.vault_types.specs.Names.{fp, same_fp}
use Rattle.vault_types.specs.Tables.{table_row}

-- how many bytes some chunks have
abbrev pub bytes_in : List (List ℕ) → ℕ
bytes_in chunks = sum_by length chunks

-- these are the rows and the payload of at least one chunk, with what a table asks of them
pub record IsOpen (rows : List TableRow) (payload : List ℕ) : Type 0 where
  pub chunks : List (List ℕ)
  pub rows_are : rows ≡ map table_row chunks
  pub payload_is : payload ≡ concat chunks
  pub some : 1 ≤ length chunks
  pub lens : AllByRecursion (λ c. (1 ≤ length c) × (length c ≤ 65536)) chunks
  pub total : bytes_in chunks ≤ 4194304
  pub differ : IsDistinct same_fp (map fp chunks)
