-- What is committed to the markers of all datasets and taken from them, and what that says of a container.
use Rattle.std.specs.Prelude.{ℕ, ◌≤◌, Bool, false, not, ◌&&◌, ◌||◌, List, [], ◌∷◌, ◌++◌, nat_le, nat_eq, if◌then◌else◌}
use Rattle.vault_types.specs.Lists.{has}
use Rattle.vault_types.specs.Marks.{Mark, marks_of, marks_above}

-- a version of a set was committed with the ids that it names, or what a floor of a set left
-- without a name was taken
pub data MarkerStep : Type 0 where
  Committed : (set : ℕ) (version : ℕ) (ids : List ℕ) → MarkerStep
  Taken : (set : ℕ) (floor : ℕ) → MarkerStep

-- the marks that these steps leave, the newest step first
abbrev pub marks_after : List MarkerStep → List Mark
marks_after [] = []
marks_after (Committed s v ids ∷ steps) = marks_after steps ++ marks_of s v ids
marks_after (Taken s floor ∷ steps) = marks_above s floor (marks_after steps)

-- the floor that was last handed in for a set, or 1
abbrev pub floor_after : List MarkerStep → ℕ → ℕ
floor_after [] s = 1
floor_after (Committed t v ids ∷ steps) s = floor_after steps s
floor_after (Taken t floor ∷ steps) s = if nat_eq t s then floor else floor_after steps s

-- whether the id stands in a commit whose version is at or above the floor of its set
abbrev pub stands_above : (ℕ → ℕ) → List MarkerStep → ℕ → Bool
stands_above floors [] c = false
stands_above floors (Committed s v ids ∷ steps) c =
    (nat_le (floors s) v && has c ids) || stands_above floors steps c
stands_above floors (Taken s floor ∷ steps) c = stands_above floors steps c

-- whether it stands in a commit since it was last taken. What is taken stands so, and in no commit
-- whose version is at or above the last floor of its set
abbrev pub stands_since : List MarkerStep → ℕ → Bool
stands_since [] c = false
stands_since (Committed s v ids ∷ steps) c = has c ids || stands_since steps c
stands_since (Taken s floor ∷ steps) c =
    stands_since steps c
    && not (stands_since steps c && not (stands_above (floor_after (Taken s floor ∷ steps)) steps c))

-- no version and no floor is below a floor of its set that was handed in before
abbrev pub FloorsRise : List MarkerStep → Type 0
FloorsRise [] = Unit {0}
FloorsRise (Committed s v ids ∷ steps) = (floor_after steps s ≤ v) × FloorsRise steps
FloorsRise (Taken s floor ∷ steps) = (floor_after steps s ≤ floor) × FloorsRise steps
