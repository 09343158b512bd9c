-- The floor and the recipe that a blob says are one.
use Rattle.std.proofs.Common.{◌≡◌, ℕ, List, [], Option, Some, None, sym, ◌∙◌}
use Rattle.std.specs.Prelude.{MatchOption}
use Rattle.std.proofs.lemmas.List.{append-nil}
use Rattle.vault_types.specs.declared.Recipe.{Recipe}
use Rattle.vault_types.specs.Blobs.{SpellsFloor}
use Rattle.vault_types.specs.Shelf.{Blobs}
use Rattle.vault_types.specs.BlobDamage.{IsFloorIn}
use Rattle.vault_types.specs.FirstDamage.{ReadsRecipe}
use Rattle.recipe_store.proofs.Apart.{recipes_apart, floors_apart}

floors_same : (s f g : ℕ) (o p : Option (List ℕ)) → o ≡ p → MatchOption o (f ≡ 1) (λ bytes. SpellsFloor s bytes f) → MatchOption p (g ≡ 1) (λ bytes. SpellsFloor s bytes g) → f ≡ g
floors_same s f g None None e one two = one ∙ sym two
floors_same s f g None (Some b) e one two = absurd cc
floors_same s f g (Some a) None e one two = absurd cc
floors_same s f g (Some a) (Some b) e one two = let same : a ≡ b = cc in (floors_apart s f g a b [] one two (append-nil a ∙ same)).0

pub floor_unique : (m : Blobs) (s f g : ℕ) → IsFloorIn (Some m) s f → IsFloorIn (Some m) s g → f ≡ g
floor_unique m s f g one two = floors_same s f g one.0 two.0 (sym one.1 ∙ two.1) one.2 two.2

pub recipe_unique : (m : Blobs) (s v : ℕ) (r q : Recipe) → ReadsRecipe (Some m) s v r → ReadsRecipe (Some m) s v q → r ≡ q
recipe_unique m s v r q one two =
    let found : ◌≡◌ {A = Option (List ℕ)} (Some one.0) (Some two.0) = sym one.1 ∙ two.1 in
    let same : one.0 ≡ two.0 = cc in
    (recipes_apart s v r q one.0 two.0 [] one.2 two.2 (append-nil one.0 ∙ same)).0
