-- What is committed to the markers of a dataset and taken from them, and what that says of a container.
use Rattle.std.specs.Prelude.{ℕ, ◌<◌, Bool, false, not, ◌&&◌, ◌||◌, List, [], ◌∷◌, ◌++◌, nat_le}
use Rattle.vault_types.specs.Lists.{has}
use Rattle.vault_types.specs.Marks.{Mark, marks_of, marks_above}

-- a version was committed with the ids that it names, or what has no version from a floor on was taken
pub data MarkerStep : Type 0 where
  Committed : (version : ℕ) (ids : List ℕ) → MarkerStep
  Taken : (floor : ℕ) → MarkerStep

-- the marks of a set that these steps leave, the newest step first
abbrev pub marks_after : ℕ → List MarkerStep → List Mark
marks_after s [] = []
marks_after s (Committed v ids ∷ steps) = marks_after s steps ++ marks_of s v ids
marks_after s (Taken floor ∷ steps) = marks_above s floor (marks_after s steps)

-- whether the id stands in a list that was committed for a version at or above the floor
abbrev pub stands_above : ℕ → List MarkerStep → ℕ → Bool
stands_above floor [] c = false
stands_above floor (Committed v ids ∷ steps) c = (nat_le floor v && has c ids) || stands_above floor steps c
stands_above floor (Taken f ∷ steps) c = stands_above floor steps c

-- whether it stands in a list that was committed since it was last taken. What is taken stands so,
-- and in no list for a version at or above the floor
abbrev pub stands_since : List MarkerStep → ℕ → Bool
stands_since [] c = false
stands_since (Committed v ids ∷ steps) c = has c ids || stands_since steps c
stands_since (Taken floor ∷ steps) c =
    stands_since steps c && not (stands_since steps c && not (stands_above floor steps c))

-- every version is below this one
abbrev pub AreEarlier : ℕ → List MarkerStep → Type 0
AreEarlier version [] = Unit {0}
AreEarlier version (Committed v ids ∷ steps) = (v < version) × AreEarlier version steps
AreEarlier version (Taken floor ∷ steps) = AreEarlier version steps

-- each version is greater than those before
abbrev pub VersionsRise : List MarkerStep → Type 0
VersionsRise [] = Unit {0}
VersionsRise (Committed v ids ∷ steps) = AreEarlier v steps × VersionsRise steps
VersionsRise (Taken floor ∷ steps) = VersionsRise steps
