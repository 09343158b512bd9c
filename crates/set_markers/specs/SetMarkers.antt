-- The markers of all datasets.
use Rattle.std.specs.Prelude.{◌≡◌, ℕ, Bool, false, ◌&&◌, List, count_by, nat_eq, nat_lt, Option, Some, None, if◌then◌else◌}
use Rattle.std.specs.List.{IsDistinct}
use Rattle.std.specs.Option.{option_map_or}
use Rattle.std.specs.Map.{lookup}
use Rattle.vault_types.specs.Lists.{has}
use Rattle.vault_types.specs.Marks.{Mark, marked_ids}
use Rattle.marker_gc.specs.Markers.{marker_of}

-- by set and container the markers, the named containers, each once, and for how many markers and
-- containers more there is room; both lists are in no order
pub record Marked : Type 0 where
  pub markers : List ((ℕ × ℕ) × ℕ)
  pub ids : List ℕ
  pub room : ℕ

-- the key of a container in a set
abbrev pub is_key : ℕ → ℕ → ℕ × ℕ → Bool
is_key s c k = nat_eq s k.0 && nat_eq c k.1

-- the markers, and the ids that are named, are those of these marks
pub record AreMarkersOfSets (m : Marked) (marks : List Mark) : Type 0 where
  pub each : (s c : ℕ) → lookup (is_key s c) m.markers ≡ marker_of marks s c
  pub once : IsDistinct nat_eq m.ids
  pub ids : (c : ℕ) → has c m.ids ≡ has c (marked_ids marks)

-- in how many sets a container has a marker
abbrev pub count_of : ℕ → List ((ℕ × ℕ) × ℕ) → ℕ
count_of c markers = count_by (λ e. nat_eq c e.0.1) markers

abbrev pub some_count : ℕ → Option ℕ
some_count n = if nat_eq n 0 then None else Some n

-- the counts are those of the markers, where a container without a marker has none
abbrev pub AreCounts : List (ℕ × ℕ) → List ((ℕ × ℕ) × ℕ) → Type 0
AreCounts counts markers = (c : ℕ) → lookup (nat_eq c) counts ≡ some_count (count_of c markers)

-- whether the marker of a container in a set is below the floor
abbrev pub is_below : ℕ → ℕ → List ((ℕ × ℕ) × ℕ) → ℕ → Bool
is_below s floor markers c = option_map_or (λ v. nat_lt v floor) (lookup (is_key s c) markers) false
