-- A recipe of the second format, read from left to right.
use Rattle.std.specs.Prelude.{ℕ, zero, suc, ◌++◌, ◌==◌, Bool, not, ◌&&◌, nat_lt, List, [], length, Some}
use Rattle.std.specs.Int.{w32, w64}
use Rattle.vault_types.specs.declared.Fp.{Fp}
use Rattle.vault_types.specs.declared.Row.{Row}
use Rattle.vault_types.specs.declared.Recipe.{Recipe}
use Rattle.vault_types.specs.Blobs.{Run}
use Rattle.blob_parts.specs.Reading.{◌>>=◌, Field, number_at, tag_at, fp_at, list_at, both_at, made_at, tested_at}

-- `DRC2`
abbrev pub tag_2 : ℕ
tag_2 = 0x44524332

-- a row of a container
abbrev pub row_of : ℕ → Fp × ℕ → Row
row_of id p = record { fp = p.0; id = id; len = p.1 }

abbrev pub row_at : ℕ → Field Row
row_at id = made_at (row_of id) (both_at fp_at (λ _. number_at w32))

-- a run, which has some rows, and of another container than the rows before it
abbrev pub run_of : ℕ × List Row → Run
run_of p = record { id = p.0; rows = p.1 }

abbrev pub opens : ℕ → Run → Bool
opens before run = not (run.id == before) && nat_lt 0 (length run.rows)

abbrev pub run_at : ℕ → Field Run
run_at before =
    tested_at (opens before) (made_at run_of (both_at (number_at w64) (λ id. list_at 24 (row_at id))))

-- the rows of n runs
abbrev pub runs_at : ℕ → ℕ → Field (List Row)
runs_at before zero bytes = Some ([], bytes)
runs_at before (suc n) bytes =
    run_at before bytes >>= λ run. runs_at run.0.id n run.1 >>= λ rows. Some (run.0.rows ++ rows.0, rows.1)

-- a count and the rows of so many runs, of which there are as many as a count can say. No container
-- has the id 0
abbrev pub is_few : List Row → Bool
is_few rows = nat_lt (length rows) 4294967296

abbrev pub all_runs_at : Field (List Row)
all_runs_at bytes = number_at w32 bytes >>= λ n. runs_at 0 n.0 n.1

abbrev pub rows_at : Field (List Row)
rows_at = tested_at is_few all_runs_at

abbrev pub recipe_from_fields : ℕ → ℕ × (ℕ × (ℕ × (ℕ × (Fp × (List Row × List ℕ))))) → Recipe
recipe_from_fields set p =
    record {
      set = set;
      version = p.1.0;
      next = p.1.1.0;
      length = p.1.1.1.0;
      rows = p.1.1.1.1.1.0;
      sparse = p.1.1.1.1.1.1;
      whole = Some p.1.1.1.1.0;
    }

-- all of a recipe of this set but the sum of the blob
unfoldable pub recipe_at : ℕ → Field Recipe
recipe_at set =
    made_at (recipe_from_fields set)
    (both_at (tag_at tag_2)
    (λ _.
    both_at (number_at w32)
    (λ _.
    both_at (number_at w64)
    (λ _.
    both_at (number_at w64)
    (λ _.
    both_at fp_at (λ _. both_at rows_at (λ _. list_at 8 (number_at w64))))))))
