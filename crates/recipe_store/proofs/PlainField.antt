-- What is read as a recipe of the first format is what spells it.
use Rattle.std.proofs.Common.{◌≡◌, ℕ, ◌^◌, ◌<◌, ◌≤◌, List, ◌++◌, length, Option, None, refl, sym, ap, ◌∙◌, append_assoc, arith}
use Rattle.std.specs.List.{AllByRecursion, flat_map}
use Rattle.std.specs.Option.{option_map_or}
use Rattle.std.specs.Int.{w32, w64, to_be_bytes}
use Rattle.std.proofs.lemmas.Bool.{eqb-true}
use Rattle.std.proofs.lemmas.List.{length-append}
use Rattle.vault_types.specs.declared.Fp.{Fp}
use Rattle.vault_types.specs.declared.Row.{Row}
use Rattle.vault_types.specs.declared.Recipe.{Recipe}
use Rattle.vault_types.specs.Blobs.{row_bytes_1, with_sum, recipe_bytes, recipe_bytes_1, recipe_bytes_2, SpellsRecipe}
use Rattle.blob_parts.specs.Reading.{number_at, list_at}
use Rattle.blob_parts.specs.Recipes.{FitsRow, FitIds}
use Rattle.blob_parts.proofs.Fields.{IsField, IsTag, fp_field, u32_field, u64_field, tag_field, both_field, made_field, list_field}
use Rattle.blob_parts.proofs.RuleLemmas.{has_widths}
use Rattle.recipe_store.specs.Plain.{plain_tag, row_of, row_at, plain_of, plain_at, plain_head, IsPlain}

row_back : Row → Fp × (ℕ × ℕ)
row_back r = (r.fp, (r.id, r.len))

row_field : IsField row_at row_bytes_1 FitsRow
unfolding row_back
row_field =
    made_field (both_field fp_field (λ f fits. both_field u64_field (λ id fit. u32_field))) row_of row_back row_bytes_1 FitsRow
    (λ x fits. (fits, append_assoc x.0.0 (to_be_bytes w64 x.1.0) (to_be_bytes w32 x.1.1))) (λ r fits. (fits, refl))

row_width : (r : Row) → FitsRow r → 32 ≤ length (row_bytes_1 r)
row_width r fits = omega (arith, fits.0.len, length-append (r.fp.0 ++ to_be_bytes w64 r.id) (to_be_bytes w32 r.len), length-append r.fp.0 (to_be_bytes w64 r.id))

abbrev Rows : List Row → Type 0
Rows rows = (length rows < 2 ^ 32) × AllByRecursion FitsRow rows

abbrev rows_bytes : List Row → List ℕ
rows_bytes rows = to_be_bytes w32 (length rows) ++ flat_map row_bytes_1 rows

rows_field : IsField (list_at 32 row_at) rows_bytes Rows
rows_field = list_field row_field 32 row_width

abbrev ids_bytes : List ℕ → List ℕ
ids_bytes ids = to_be_bytes w32 (length ids) ++ flat_map (to_be_bytes w64) ids

ids_field : IsField (list_at 8 (number_at w64)) ids_bytes FitIds
ids_field = list_field u64_field 8 (λ id fits. omega arith)

abbrev Parts : Type 0
Parts = ℕ × (ℕ × (ℕ × (ℕ × (List Row × List ℕ))))

abbrev parts_bytes : Parts → List ℕ
parts_bytes p = to_be_bytes w32 p.0 ++ (to_be_bytes w32 p.1.0 ++ (to_be_bytes w64 p.1.1.0 ++ (to_be_bytes w64 p.1.1.1.0 ++ (rows_bytes p.1.1.1.1.0 ++ ids_bytes p.1.1.1.1.1))))

abbrev PartsFit : Parts → Type 0
PartsFit p = IsTag plain_tag p.0 × ((p.1.0 < 2 ^ 32) × ((p.1.1.0 < 2 ^ 64) × ((p.1.1.1.0 < 2 ^ 64) × (Rows p.1.1.1.1.0 × FitIds p.1.1.1.1.1))))

plain_back : Recipe → Parts
plain_back r = (plain_tag, (r.version, (r.next, (r.length, (r.rows, r.sparse)))))

there : (set : ℕ) (p : Parts) → PartsFit p → IsPlain set (plain_of set p) × (plain_head (plain_of set p) ≡ parts_bytes p)
there set p fits =
    let tag : plain_tag ≡ p.0 = sym (eqb-true p.0 plain_tag fits.0.1) in
    let rest = to_be_bytes w32 p.1.0 ++ (to_be_bytes w64 p.1.1.0 ++ (to_be_bytes w64 p.1.1.1.0 ++ (rows_bytes p.1.1.1.1.0 ++ ids_bytes p.1.1.1.1.1))) in (
      record {
        set = refl;
        whole = refl;
        widths = record { version = fits.1.0; next = fits.1.1.0; len = fits.1.1.1.0; few = fits.1.1.1.1.0.0; rows = fits.1.1.1.1.0.1; sparse = fits.1.1.1.1.1; whole = tt };
      },
      ap (λ (n : ℕ). to_be_bytes w32 n ++ rest) tag,
    )

back : (set : ℕ) (r : Recipe) → IsPlain set r → PartsFit (plain_back r) × (plain_of set (plain_back r) ≡ r)
unfolding plain_back
back set r fits =
    let w = fits.widths in (
      ((omega arith, refl), (w.version, (w.next, (w.len, ((w.few, w.rows), w.sparse))))),
      λ i. record { set = (sym fits.set) i; version = r.version; next = r.next; length = r.length; rows = r.rows; sparse = r.sparse; whole = (sym fits.whole) i },
    )

pub plain_field : (set : ℕ) → IsField (plain_at set) plain_head (IsPlain set)
unfolding plain_at
plain_field set =
    made_field
    (both_field (tag_field plain_tag) (λ t tag. both_field u32_field (λ version fits. both_field u64_field (λ next fit. both_field u64_field (λ len fitting. both_field rows_field (λ rows all. ids_field))))))
    (plain_of set) plain_back plain_head (IsPlain set) (there set) (back set)

-- a recipe without a sum is spelled in the first format
pub plain_bytes : (s : ℕ) (r : Recipe) → r.set ≡ s → r.whole ≡ None → recipe_bytes r ≡ with_sum s (plain_head r)
plain_bytes s r set none =
    ap (λ (o : Option Fp). option_map_or (λ whole. recipe_bytes_2 whole r) o (recipe_bytes_1 r)) none ∙ ap (λ (k : ℕ). with_sum k (plain_head r)) set

pub is_plain : (s v : ℕ) (bytes : List ℕ) (r : Recipe) → r.whole ≡ None → SpellsRecipe s v bytes r → IsPlain s r
is_plain s v bytes r none spells = record { set = spells.set; whole = none; widths = has_widths r spells.rules }

pub plain_spelled : (s v : ℕ) (bytes : List ℕ) (r : Recipe) → r.whole ≡ None → SpellsRecipe s v bytes r → bytes ≡ with_sum s (plain_head r)
plain_spelled s v bytes r none spells = spells.spelled ∙ plain_bytes s r spells.set none
