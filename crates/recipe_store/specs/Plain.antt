-- A recipe of the first format, read from left to right.
use Rattle.std.specs.Prelude.{◌≡◌, ℕ, ◌++◌, List, length, flat_map, codes, None}
use Rattle.std.specs.Int.{w32, w64}
use Rattle.vault_types.specs.declared.Fp.{Fp}
use Rattle.vault_types.specs.declared.Row.{Row}
use Rattle.vault_types.specs.declared.Recipe.{Recipe}
use Rattle.vault_types.specs.Blobs.{u32_bytes, u64_bytes, row_bytes_1, sparse_bytes}
use Rattle.blob_parts.specs.Reading.{Field, number_at, tag_at, fp_at, list_at, both_at, made_at}
use Rattle.blob_parts.specs.Recipes.{HasWidths}

-- `DRC1`
abbrev pub plain_tag : ℕ
plain_tag = 0x44524331

abbrev pub row_of : Fp × (ℕ × ℕ) → Row
row_of p = record { fp = p.0; id = p.1.0; len = p.1.1 }

abbrev pub row_at : Field Row
row_at = made_at row_of (both_at fp_at (λ _. both_at (number_at w64) (λ _. number_at w32)))

abbrev pub plain_of : ℕ → ℕ × (ℕ × (ℕ × (ℕ × (List Row × List ℕ)))) → Recipe
plain_of set p =
    record {
      set = set;
      version = p.1.0;
      next = p.1.1.0;
      length = p.1.1.1.0;
      rows = p.1.1.1.1.0;
      sparse = p.1.1.1.1.1;
      whole = None;
    }

-- all of a recipe of this set but the sum of the blob
unfoldable pub plain_at : ℕ → Field Recipe
plain_at set =
    made_at (plain_of set)
    (both_at (tag_at plain_tag)
    (λ _.
    both_at (number_at w32)
    (λ _.
    both_at (number_at w64)
    (λ _.
    both_at (number_at w64)
    (λ _. both_at (list_at 32 row_at) (λ _. list_at 8 (number_at w64)))))))

-- the blob of a recipe without its sum
abbrev pub plain_head : Recipe → List ℕ
plain_head r =
    codes "DRC1" ++ u32_bytes r.version ++ u64_bytes r.next ++ u64_bytes r.length ++ u32_bytes (length r.rows)
    ++ flat_map row_bytes_1 r.rows ++ sparse_bytes r.sparse

-- what is read so: a recipe of this set, without a sum of its version
pub record IsPlain (s : ℕ) (r : Recipe) : Type 0 where
  pub set : r.set ≡ s
  pub whole : r.whole ≡ None
  pub widths : HasWidths r
