-- What is seen of a sampled index.
use Rattle.std.specs.Prelude.{◌≡◌, ◌≤◌, ◌≢◌, ℕ, Bool, true, List, [], ◌∷◌, map, length, Option, Some, None}
use Rattle.std.specs.List.{list_any, AllByRecursion}
use Rattle.std.specs.Map.{lookup}
use Rattle.vault_types.specs.declared.Fp.{Fp}
use Rattle.vault_types.specs.declared.Table.{Table}
use Rattle.vault_types.specs.Names.{same_fp}
use Rattle.sampled_index.specs.Looks.{has_at}

-- the containers by their hooks; the tables that were used last, the last one first, each with its
-- fingerprints; and how many of these there may be
pub record Sampling : Type 0 where
  pub hooks : List (Fp × ℕ)
  pub used : List (ℕ × List Fp)
  pub room : ℕ

-- the container that the hooks name for a fingerprint
abbrev pub hook_of : Sampling → Fp → Option ℕ
hook_of s f = lookup (same_fp f) s.hooks

-- the fingerprints are those of the table of this id
abbrev pub IsTableOf : List Table → ℕ × List Fp → Type 0
IsTableOf tables e = (f : Fp) → list_any (same_fp f) e.1 ≡ has_at tables f e.0

-- the tables of these containers were used last, of these tables
pub record HasUsed (tables : List Table) (s : Sampling) (ids : List ℕ) : Type 0 where
  pub ids_are : map (λ e. e.0) s.used ≡ ids
  pub tables_are : AllByRecursion (IsTableOf tables) s.used
  pub within : length ids ≤ s.room
  pub some : 1 ≤ s.room
