-- Recipes and floors that are spelled alike.
use Rattle.std.proofs.Common.{◌≡◌, ℕ, ◌<◌, ◌≤◌, ◌^◌, List, [], ◌++◌, get_or, Option, Some, None, refl, sym, ap, ◌∙◌, arith}
use Rattle.std.specs.Prelude.{IsSome}
use Rattle.std.specs.Int.{w32, to_be_bytes}
use Rattle.vault_types.specs.declared.Fp.{Fp}
use Rattle.vault_types.specs.declared.Recipe.{Recipe}
use Rattle.vault_types.specs.Blobs.{with_sum, SpellsRecipe, SpellsFloor}
use Rattle.blob_parts.specs.Reading.{number_at, tag_at, both_at}
use Rattle.blob_parts.proofs.Fields.{IsField, IsTag, tag_field, u32_field, both_field, blob_same}
use Rattle.recipe_form2.specs.Spelling.{SpellsRecipe2}
use Rattle.recipe_form2.proofs.RecipeField.{recipe_field, head_2, is_second, second_spelled}
use Rattle.recipe_store.specs.Plain.{plain_head}
use Rattle.recipe_store.proofs.PlainField.{plain_field, is_plain, plain_spelled}

in_second : (s v : ℕ) (bytes : List ℕ) (r : Recipe) (w : Fp) → r.whole ≡ Some w → SpellsRecipe s v bytes r → SpellsRecipe2 s v bytes r
in_second s v bytes r w is spells = record { spells = spells; whole = some r.whole w is }
  where
    some : (o : Option Fp) (w : Fp) → o ≡ Some w → IsSome o
    some None w e = absurd cc
    some (Some x) w e = refl

-- the fourth bytes of the formats differ
formats : (s : ℕ) (r q : Recipe) (more : List ℕ) → with_sum s (plain_head r) ++ more ≡ with_sum s (head_2 q) → ⊥
formats s r q more e = let h : 49 ≡ 50 = ap (λ (x : List ℕ). get_or x 3 0) e in absurd (omega (arith, h))

formats_turned : (s : ℕ) (r q : Recipe) (more : List ℕ) → with_sum s (head_2 r) ++ more ≡ with_sum s (plain_head q) → ⊥
formats_turned s r q more e = let h : 50 ≡ 49 = ap (λ (x : List ℕ). get_or x 3 0) e in absurd (omega (arith, h))

module _ (s v : ℕ) (r q : Recipe) (a b more : List ℕ) (first : SpellsRecipe s v a r) (second : SpellsRecipe s v b q) (e : a ++ more ≡ b) where
  on_bytes : (x y : List ℕ) → a ≡ x → b ≡ y → x ++ more ≡ y
  on_bytes x y f g = ap (λ (z : List ℕ). z ++ more) (sym f) ∙ e ∙ g

  recipes_by : (o p : Option Fp) → r.whole ≡ o → q.whole ≡ p → (r ≡ q) × (more ≡ [])
  recipes_by None None none absent =
      blob_same (plain_field s) s r q more (is_plain s v a r none first) (is_plain s v b q absent second)
      (on_bytes (with_sum s (plain_head r)) (with_sum s (plain_head q)) (plain_spelled s v a r none first) (plain_spelled s v b q absent second))
  recipes_by None (Some w) none is =
      absurd (formats s r q more (on_bytes (with_sum s (plain_head r)) (with_sum s (head_2 q)) (plain_spelled s v a r none first) (second_spelled s v b q (in_second s v b q w is second))))
  recipes_by (Some w) None is none =
      absurd (formats_turned s r q more (on_bytes (with_sum s (head_2 r)) (with_sum s (plain_head q)) (second_spelled s v a r (in_second s v a r w is first)) (plain_spelled s v b q none second)))
  recipes_by (Some w) (Some x) is also =
      let one = in_second s v a r w is first in
      let two = in_second s v b q x also second in
      blob_same (recipe_field s) s r q more (is_second s v a r one) (is_second s v b q two)
      (on_bytes (with_sum s (head_2 r)) (with_sum s (head_2 q)) (second_spelled s v a r one) (second_spelled s v b q two))

  pub recipes_apart : (r ≡ q) × (more ≡ [])
  recipes_apart = recipes_by r.whole q.whole refl refl

-- a floor as a field
abbrev floor_tag : ℕ
floor_tag = 0x44464c31

abbrev floor_head : ℕ × ℕ → List ℕ
floor_head p = to_be_bytes w32 p.0 ++ to_be_bytes w32 p.1

floor_field : IsField (both_at (tag_at floor_tag) (λ _. number_at w32)) floor_head (λ p. IsTag floor_tag p.0 × (p.1 < 2 ^ 32))
floor_field = both_field (tag_field floor_tag) (λ t tag. u32_field)

fits : (f : ℕ) → f ≤ 4294967294 → IsTag floor_tag floor_tag × (f < 2 ^ 32)
fits f high = ((omega arith, refl), omega arith)

pub floors_apart : (s f g : ℕ) (a b more : List ℕ) → SpellsFloor s a f → SpellsFloor s b g → a ++ more ≡ b → (f ≡ g) × (more ≡ [])
floors_apart s f g a b more first second e =
    let same =
    blob_same floor_field s (floor_tag, f) (floor_tag, g) more (fits f first.rules.1) (fits g second.rules.1)
    (ap (λ (x : List ℕ). x ++ more) (sym first.spelled) ∙ e ∙ second.spelled)
    in
    (ap (λ (p : ℕ × ℕ). p.1) same.0, same.1)
