-- Elements of a list, by their places.
use Rattle.std.proofs.Common.{◌≡◌, ⊎_elim, ℕ, zero, suc, ◌<◌, length, List, [], ◌∷◌, Option, Some, None, refl, subst, arith}
use Rattle.std.specs.Prelude.{Contains, slice_get}
use Rattle.std.specs.List.{AllByRecursion}
use Rattle.state_laws.proofs.Members.{here, later, no_member, first_or_rest}

pub some_at : {X : Type 0} (xs : List X) (i : ℕ) → i < length xs → (x : X) × (slice_get xs i ≡ Some x)
some_at [] i below = absurd (omega arith)
some_at (x ∷ xs) zero below = (x, refl)
some_at (x ∷ xs) (suc i) below = some_at xs i (omega arith)

pub at_below : {X : Type 0} (xs : List X) (i : ℕ) (x : X) → slice_get xs i ≡ Some x → i < length xs
at_below {X} [] i x is = absurd (let clash : ◌≡◌ {A = Option X} None (Some x) = is in cc)
at_below (y ∷ xs) zero x is = omega arith
at_below (y ∷ xs) (suc i) x is = omega (arith, at_below xs i x is)

pub in_place : {X : Type 0} (xs : List X) (i : ℕ) (x : X) → slice_get xs i ≡ Some x → Contains xs x
in_place {X} [] i x is = absurd (let clash : ◌≡◌ {A = Option X} None (Some x) = is in cc)
in_place (y ∷ xs) zero x is = let same : y ≡ x = cc in subst (λ z. Contains (y ∷ xs) z) same (here y xs)
in_place (y ∷ xs) (suc i) x is = later y xs x (in_place xs i x is)

pub all_in : {X : Type 0} (P : X → Type 0) (xs : List X) (x : X) → AllByRecursion P xs → Contains xs x → P x
all_in P [] x all there = absurd (no_member x there)
all_in P (y ∷ xs) x all there = ⊎_elim (λ (here : y ≡ x). subst P here all.0) (λ later. all_in P xs x all.1 later) (first_or_rest y xs x there)
