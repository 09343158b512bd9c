-- The markers of a dataset.
use Rattle.std.specs.Prelude.{◌≡◌, ℕ, Bool, ◌&&◌, List, map, filter, nat_eq, nat_lt, ◌==◌, Option}
use Rattle.std.specs.List.{AllByRecursion, IsDistinct}
use Rattle.std.specs.Map.{lookup}
use Rattle.vault_types.specs.Lists.{greatest}
use Rattle.vault_types.specs.Marks.{Mark}

-- the named containers, each with its marker, in no order, and for how many more there is room
pub record Marked : Type 0 where
  pub markers : List (ℕ × ℕ)
  pub room : ℕ

-- whether the mark is of this container in this set
abbrev pub is_of : ℕ → ℕ → Mark → Bool
is_of s c m = (m.set == s) && (m.id == c)

-- the marker of a container in a set: the greatest version of the set that names it
abbrev pub marker_of : List Mark → ℕ → ℕ → Option ℕ
marker_of marks s c = greatest (map (λ m. m.version) (filter (is_of s c) marks))

-- the markers are those of these marks, all of which are of the set s
pub record AreMarkers (markers : List (ℕ × ℕ)) (s : ℕ) (marks : List Mark) : Type 0 where
  pub once : IsDistinct nat_eq (map (λ e. e.0) markers)
  pub of_set : AllByRecursion (λ m. m.set ≡ s) marks
  pub each : (c : ℕ) → lookup (nat_eq c) markers ≡ marker_of marks s c

-- the ids whose marker is below the floor
abbrev pub ids_below : ℕ → List (ℕ × ℕ) → List ℕ
ids_below floor markers = map (λ e. e.0) (filter (λ e. nat_lt e.1 floor) markers)
