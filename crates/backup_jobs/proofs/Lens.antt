-- How many bytes a payload has.
use Rattle.std.proofs.Common.{◌≡◌, ℕ, ◌+◌, List, [], ◌∷◌, length, map, refl, sym, ◌∙◌, ap, length-append}
use Rattle.std.specs.List.{concat}
use Rattle.std.proofs.lemmas.List.Sums.{sum_by-cons}
use Rattle.vault_types.specs.declared.Table.{Table}
use Rattle.vault_types.specs.Tables.{table_row, payload_len, IsWhole}

all_bytes : (chunks : List (List ℕ)) → length (concat chunks) ≡ payload_len (map table_row chunks)
all_bytes [] = refl
all_bytes (x ∷ xs) = length-append x (concat xs) ∙ ap (λ n. length x + n) (all_bytes xs) ∙ sym (sum_by-cons (λ r. r.len) (table_row x) (map table_row xs))

pub whole_len : (t : Table) (payload : List ℕ) → IsWhole t payload → length payload ≡ payload_len t.rows
whole_len t payload whole = ap length (sym whole.1) ∙ all_bytes whole.0 ∙ ap payload_len whole.2
