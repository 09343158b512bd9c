-- What contracts see of a holder.
use Rattle.std.specs.Prelude.{◌≡◌, ℕ, zero, suc, Bool, false, List, [], ◌∷◌, ◌++◌, length, All}
use Rattle.atomic_table.specs.Seated.{TableId}

-- the holders that one call made: which word they share, and how many they are
pub record Family : Type 0 where
  pub word : TableId
  pub count : ℕ

-- one holder: its number, whether it has raised the word, and whether it saw the word raised
pub record HolderState : Type 0 where
  pub family : Family
  pub number : ℕ
  pub raised : Bool
  pub saw : Bool

-- n new holders, in the order of their numbers
abbrev pub fresh : Family → ℕ → List HolderState
fresh f zero = []
fresh f (suc k) = fresh f k ++ record { family = f; number = k; raised = false; saw = false } ∷ []

-- these are all the holders that one call made: no two are one, so it is enough to count them
abbrev pub AreAllHolders : List HolderState → Type 0
AreAllHolders [] = ⊥
AreAllHolders (h ∷ hs) = (length (h ∷ hs) ≡ h.family.count) × All (λ k. k.family ≡ h.family) (h ∷ hs)

-- several holders taken together
pub record Gathered : Type 0 where
  pub family : Family
  pub parts : ℕ
  pub raised : Bool
  pub saw : Bool
