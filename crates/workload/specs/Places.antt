-- The places of `fill`.
use Rattle.std.specs.Prelude.{◌≡◌, ◌≢◌, ℕ, zero, suc, List, [], ◌∷◌, ◌++◌, Option, Some, None, map, find, cond, codes, decimal, option_map}
use Rattle.std.specs.Option.{option_map_or}
use Rattle.std.specs.List.{range_with_len}
use Rattle.std.specs.Str.{bytes_eq}
use Rattle.vault_types.specs.Generator.{generated}
use Rattle.vault_traits.specs.Told.{PlacesTold}
use Rattle.workload.specs.declared.place.FillPlace.{FillPlace}

-- of the places: the seed, what is under each name, and how often a write failed
pub record FilledPlaces : Type 0 where
  pub seed : ℕ
  pub places : List FillPlace
  pub write_faults : ℕ

abbrev pub source_name : ℕ → List ℕ
source_name v = codes "gen-" ++ decimal v

-- a name that gives a version, and one that has these bytes
abbrev pub source : ℕ → FillPlace
source v = record { name = source_name v; version = Some v; bytes = [] }

abbrev pub written : List ℕ → List ℕ → FillPlace
written name bytes = record { name = name; version = None; bytes = bytes }

-- the sources of the versions up to n
abbrev pub sources_to : ℕ → List FillPlace
sources_to n = map source (range_with_len 1 n)

unfoldable pub sources : List FillPlace
sources = sources_to 64

-- what is under a name; where it stands twice, the first
abbrev pub place_at : List FillPlace → List ℕ → Option FillPlace
place_at places name = find (λ p. bytes_eq name p.name) places

-- the version that a name gives
abbrev pub version_at : List FillPlace → List ℕ → Option ℕ
version_at places name = option_map_or (λ p. p.version) (place_at places name) None

-- what was written under a name
abbrev pub output_at : List FillPlace → List ℕ → Option (List ℕ)
output_at places name =
    option_map_or (λ p. option_map_or (λ v. None) p.version (Some p.bytes)) (place_at places name) None

unfoldable pub generated_version : ℕ → ℕ → List ℕ
generated_version seed v = generated seed v

-- the bytes under a name
abbrev pub bytes_of_place : ℕ → FillPlace → List ℕ
bytes_of_place seed p = option_map_or (λ v. generated_version seed v) p.version p.bytes

abbrev pub file_at : ℕ → List FillPlace → List ℕ → Option (List ℕ)
file_at seed places name = option_map (λ p. bytes_of_place seed p) (place_at places name)

-- what they tell: no opening and no reader fails
abbrev pub told_of : FilledPlaces → PlacesTold
told_of p =
    record {
      files = Some (file_at p.seed p.places);
      faults = 0;
      read_faults = 0;
      write_faults = p.write_faults;
    }

-- the name has these bytes now, and each other what it had
abbrev pub IsPlaced : List FillPlace → List FillPlace → List ℕ → List ℕ → Type 0
IsPlaced old new name bytes =
    (q : List ℕ) → place_at new q ≡ cond (bytes_eq q name) (Some (written name bytes)) (place_at old q)

-- the name stands first at that place
abbrev pub IsFirst : List FillPlace → List ℕ → ℕ → Type 0
IsFirst [] name i = ⊥
IsFirst (p ∷ ps) name zero = p.name ≡ name
IsFirst (p ∷ ps) name (suc i) = (p.name ≢ name) × IsFirst ps name i
