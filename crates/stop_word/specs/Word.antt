-- The rule of a stop word.
use Rattle.std.specs.Prelude.{◌≡◌, ◌⊎◌, ℕ, ◌+◌, Bool, true, false, List, [], ◌∷◌}
use mathlib.Core.Option.{some}
use lib.ListN.{get_elem?}
use Rattle.atomic_table.specs.Table.{State}
use Rattle.stop_word.specs.declared.rule.View.{View}

abbrev pub seen_as : ℕ → Bool → Bool → View
seen_as parts raised saw = record { parts = parts; raised = raised; saw = saw }

-- all views' parts
abbrev pub total : List View → ℕ
total [] = 0
total (v ∷ vs) = v.parts + total vs

-- what one view has to do with the word: with no part it is spent; where it has raised the word or
-- saw it raised, the word is 1
pub record FitsWord (word : ℕ) (v : View) : Type 0 where
  pub spent : v.parts ≡ 0 → (v.raised ≡ false) × (v.saw ≡ false)
  pub mark : v.raised ≡ true → word ≡ 1
  pub note : v.saw ≡ true → word ≡ 1

-- some view has raised the word
abbrev pub SomeMark : List View → Type 0
SomeMark views = (port : ℕ) × (v : View) × (get_elem? views port ≡ some v) × (v.raised ≡ true)

-- the word is 0 or 1. It is 1 exactly where some view that is not spent has raised it, and it is 1
-- wherever one saw it so
pub record IsConsistent {S : Type 0} (count : ℕ) (s : State S View) : Type 0 where
  pub word : ℕ
  pub words : s.words ≡ word ∷ []
  pub binary : (word ≡ 0) ⊎ (word ≡ 1)
  pub counted : total s.views ≡ count
  pub marked : word ≡ 1 → SomeMark s.views
  pub fits : (port : ℕ) (v : View) → get_elem? s.views port ≡ some v → FitsWord word v
