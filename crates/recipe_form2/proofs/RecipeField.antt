-- What is read as a recipe of the second format is what spells it.
use Rattle.std.proofs.Common.{◌≡◌, ℕ, ◌^◌, ◌<◌, ◌≤◌, true, List, [], ◌∷◌, ◌++◌, length, Option, Some, None, refl, sym, ap, ◌∙◌, append_assoc, arith}
use Rattle.std.specs.Prelude.{IfSome, IsSome, unwrap_or}
use Rattle.std.specs.List.{AllByRecursion, flat_map}
use Rattle.std.specs.Option.{option_map_or}
use Rattle.std.specs.Int.{w32, w64, to_be_bytes}
use Rattle.std.proofs.lemmas.Bool.{eqb-true, ltb-true, lt-ltb}
use Rattle.vault_types.specs.declared.Fp.{Fp}
use Rattle.vault_types.specs.declared.Row.{Row}
use Rattle.vault_types.specs.declared.Recipe.{Recipe}
use Rattle.vault_types.specs.Names.{IsFp}
use Rattle.vault_types.specs.Blobs.{runs_of, run_bytes, sparse_bytes, with_sum, recipe_bytes, recipe_bytes_1, recipe_bytes_2}
use Rattle.blob_parts.specs.Reading.{number_at, list_at}
use Rattle.blob_parts.specs.Recipes.{FitIds, HasWidths}
use Rattle.blob_parts.proofs.Fields.{IsField, IsTag, fp_field, u32_field, u64_field, tag_field, both_field, made_field, list_field}
use Rattle.blob_parts.proofs.RuleLemmas.{has_widths}
use Rattle.recipe_form2.specs.Spelling.{SpellsRecipe2}
use Rattle.recipe_form2.specs.Reading.{tag_2, is_few, recipe_from_fields, recipe_at}
use Rattle.recipe_form2.proofs.RunField.{Begins, HasRuns, has_runs, row_widths, begins, all_runs_bytes, rows_field}

-- the blob of a recipe whose version has this sum, without the sum of the blob
abbrev pub head_with : Fp → Recipe → List ℕ
head_with whole r =
    to_be_bytes w32 tag_2 ++ (to_be_bytes w32 r.version ++ (to_be_bytes w64 r.next ++ (to_be_bytes w64 r.length ++ (whole.0 ++ (all_runs_bytes r.rows ++ sparse_bytes r.sparse)))))

abbrev no_sum : Fp
no_sum = record { 0 = [] }

abbrev pub head_2 : Recipe → List ℕ
head_2 r = head_with (unwrap_or r.whole no_sum) r

-- what is read so
pub record IsSecond (s : ℕ) (r : Recipe) : Type 0 where
  pub set : r.set ≡ s
  pub whole : IsSome r.whole
  pub widths : HasWidths r
  pub begins : Begins r.rows

ids_field : IsField (list_at 8 (number_at w64)) (λ ids. to_be_bytes w32 (length ids) ++ flat_map (to_be_bytes w64) ids) FitIds
ids_field = list_field u64_field 8 (λ id fits. omega arith)

abbrev Parts : Type 0
Parts = ℕ × (ℕ × (ℕ × (ℕ × (Fp × (List Row × List ℕ)))))

abbrev parts_bytes : Parts → List ℕ
parts_bytes p =
    to_be_bytes w32 p.0 ++ (to_be_bytes w32 p.1.0 ++ (to_be_bytes w64 p.1.1.0 ++ (to_be_bytes w64 p.1.1.1.0 ++ (p.1.1.1.1.0.0 ++ (all_runs_bytes p.1.1.1.1.1.0 ++ sparse_bytes p.1.1.1.1.1.1)))))

abbrev PartsFit : Parts → Type 0
PartsFit p =
    IsTag tag_2 p.0 × ((p.1.0 < 2 ^ 32) × ((p.1.1.0 < 2 ^ 64) × ((p.1.1.1.0 < 2 ^ 64) × (IsFp p.1.1.1.1.0 × ((HasRuns p.1.1.1.1.1.0 × (is_few p.1.1.1.1.1.0 ≡ true)) × FitIds p.1.1.1.1.1.1)))))

recipe_back : Recipe → Parts
recipe_back r = (tag_2, (r.version, (r.next, (r.length, (unwrap_or r.whole no_sum, (r.rows, r.sparse))))))

there : (set : ℕ) (p : Parts) → PartsFit p → IsSecond set (recipe_from_fields set p) × (head_2 (recipe_from_fields set p) ≡ parts_bytes p)
there set p fits =
    let tag : tag_2 ≡ p.0 = sym (eqb-true p.0 tag_2 fits.0.1) in
    let rows = fits.1.1.1.1.1.0 in
    let rest = to_be_bytes w32 p.1.0 ++ (to_be_bytes w64 p.1.1.0 ++ (to_be_bytes w64 p.1.1.1.0 ++ (p.1.1.1.1.0.0 ++ (all_runs_bytes p.1.1.1.1.1.0 ++ sparse_bytes p.1.1.1.1.1.1)))) in (
      record {
        set = refl;
        whole = refl;
        widths = record {
          version = fits.1.0;
          next = fits.1.1.0;
          len = fits.1.1.1.0;
          few = ltb-true (length p.1.1.1.1.1.0) 4294967296 rows.1;
          rows = row_widths p.1.1.1.1.1.0 rows.0;
          sparse = fits.1.1.1.1.1.1;
          whole = fits.1.1.1.1.0;
        };
        begins = begins p.1.1.1.1.1.0 rows.0;
      },
      ap (λ (n : ℕ). to_be_bytes w32 n ++ rest) tag,
    )

none_is : IsSome {T = Fp} None → ⊥
none_is some = absurd cc

some_of : (o : Option Fp) → IsSome o → Some (unwrap_or o no_sum) ≡ o
some_of None some = absurd (none_is some)
some_of (Some w) some = refl

sum_of : (o : Option Fp) → IsSome o → IfSome o IsFp → IsFp (unwrap_or o no_sum)
sum_of None some fits = absurd (none_is some)
sum_of (Some w) some fits = fits

back : (set : ℕ) (r : Recipe) → IsSecond set r → PartsFit (recipe_back r) × (recipe_from_fields set (recipe_back r) ≡ r)
unfolding recipe_back
back set r fits =
    let w = fits.widths in
    let some = some_of r.whole fits.whole in (
      ((omega arith, refl), (w.version, (w.next, (w.len, (sum_of r.whole fits.whole w.whole, ((has_runs r.rows w.rows fits.begins w.few, lt-ltb (length r.rows) 4294967296 w.few), w.sparse)))))),
      λ i. record { set = (sym fits.set) i; version = r.version; next = r.next; length = r.length; rows = r.rows; sparse = r.sparse; whole = some i },
    )

pub recipe_field : (set : ℕ) → IsField (recipe_at set) head_2 (IsSecond set)
unfolding recipe_at
recipe_field set =
    made_field
    (both_field (tag_field tag_2) (λ t tag. both_field u32_field (λ version fits. both_field u64_field (λ next fit. both_field u64_field (λ len fitting. both_field fp_field (λ whole sum. both_field rows_field (λ rows all. ids_field)))))))
    (recipe_from_fields set) recipe_back head_2 (IsSecond set) (there set) (back set)

-- ---- spelling

regroup : (w c r s : List ℕ) → ((w ++ c) ++ r) ++ s ≡ w ++ ((c ++ r) ++ s)
regroup w c r s = simp append_assoc

bytes_with : (whole : Fp) (r : Recipe) → recipe_bytes_2 whole r ≡ with_sum r.set (head_with whole r)
bytes_with whole r =
    ap (λ (x : List ℕ). with_sum r.set (to_be_bytes w32 tag_2 ++ (to_be_bytes w32 r.version ++ (to_be_bytes w64 r.next ++ (to_be_bytes w64 r.length ++ x)))))
    (regroup whole.0 (to_be_bytes w32 (length (runs_of r.rows))) (flat_map run_bytes (runs_of r.rows)) (sparse_bytes r.sparse))

either_bytes : (r : Recipe) (o : Option Fp) → IsSome o → option_map_or (λ whole. recipe_bytes_2 whole r) o (recipe_bytes_1 r) ≡ with_sum r.set (head_with (unwrap_or o no_sum) r)
either_bytes r None some = absurd (none_is some)
either_bytes r (Some whole) some = bytes_with whole r

-- a recipe with a sum is spelled in the second format
pub second_bytes : (s : ℕ) (r : Recipe) → r.set ≡ s → IsSome r.whole → recipe_bytes r ≡ with_sum s (head_2 r)
second_bytes s r set some = either_bytes r r.whole some ∙ ap (λ (k : ℕ). with_sum k (head_2 r)) set

first_id : (next : ℕ) (rows : List Row) → AllByRecursion (λ r. (1 ≤ r.id) × (r.id < next) × (1 ≤ r.len) × (r.len ≤ 65536)) rows → Begins rows
first_id next [] each = tt
first_id next (r ∷ rows) each = λ zero_id. omega (arith, each.0.0)

pub is_second : (s v : ℕ) (bytes : List ℕ) (r : Recipe) → SpellsRecipe2 s v bytes r → IsSecond s r
is_second s v bytes r spells = record {
  set = spells.spells.set;
  whole = spells.whole;
  widths = has_widths r spells.spells.rules;
  begins = first_id r.next r.rows spells.spells.rules.rules.each;
}

pub second_spelled : (s v : ℕ) (bytes : List ℕ) (r : Recipe) → SpellsRecipe2 s v bytes r → bytes ≡ with_sum s (head_2 r)
second_spelled s v bytes r spells = spells.spells.spelled ∙ second_bytes s r spells.spells.set spells.whole
