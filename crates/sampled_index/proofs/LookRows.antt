-- Worked rows of looks: one table kept, hooks of two containers.
use Rattle.std.proofs.Common.{◌≡◌, ℕ, List, [], ◌∷◌, ◌++◌, replicate, refl, Option, Some, None}
use Rattle.std.specs.Map.{lookup}
use Rattle.vault_types.specs.declared.Fp.{Fp}
use Rattle.vault_types.specs.declared.Table.{Table}
use Rattle.vault_types.specs.declared.TableRow.{TableRow}
use Rattle.vault_types.specs.Names.{same_fp}
use Rattle.sampled_index.specs.Looks.{looks}

-- a fingerprint that begins with this number
abbrev starting : ℕ → Fp
starting n = record { 0 = n ∷ replicate 19 0 }

abbrev row_of : Fp → TableRow
row_of f = record { fp = f; len = 1 }

abbrev table_of : ℕ → List TableRow → Table
table_of id rows = record { id = id; rows = rows; payload_sum = starting 0 }

abbrev two_tables : List Table
two_tables = table_of 1 (row_of (starting 0) ∷ row_of (starting 1) ∷ []) ∷ table_of 2 (row_of (starting 4) ∷ row_of (starting 5) ∷ []) ∷ []

abbrev two_hooks : Fp → Option ℕ
two_hooks f = lookup (same_fp f) ((starting 0, 1) ∷ (starting 4, 2) ∷ [])

-- 1 is found once its table was used by 0, and no more once 4 has pushed that out
with_one_table : looks two_tables two_hooks 1 (starting 1 ∷ starting 0 ∷ starting 1 ∷ starting 4 ∷ starting 1 ∷ []) ≡ None ∷ Some 1 ∷ Some 1 ∷ Some 2 ∷ None ∷ []
with_one_table = refl

-- with room for two it is still found
with_two_tables : looks two_tables two_hooks 2 (starting 1 ∷ starting 0 ∷ starting 1 ∷ starting 4 ∷ starting 1 ∷ []) ≡ None ∷ Some 1 ∷ Some 1 ∷ Some 2 ∷ Some 1 ∷ []
with_two_tables = refl
