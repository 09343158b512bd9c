-- What is known of a table by its fingerprints.
use Rattle.std.specs.Prelude.{◌≡◌, ℕ, ◌+◌, List, [], ◌∷◌, nat_eq, Option, Some, None, option_and_then, IfSome, if◌then◌else◌}
use Rattle.std.specs.Map.{lookup}
use Rattle.vault_types.specs.declared.Fp.{Fp}
use Rattle.vault_types.specs.declared.TableRow.{TableRow}
use Rattle.vault_types.specs.declared.Table.{Table}
use Rattle.vault_types.specs.declared.Row.{Row}
use Rattle.vault_types.specs.declared.Spot.{Spot}
use Rattle.vault_types.specs.Names.{same_fp}
use Rattle.keeper_catalog.specs.Catalog.{table_at}
use Rattle.row_spots.specs.declared.offsets.ChunkSpan.{ChunkSpan}

-- the chunk under a fingerprint, where the chunks of these rows stand from a byte on
abbrev pub place_from : ℕ → List TableRow → Fp → Option ChunkSpan
place_from at [] f = None
place_from at (r ∷ rows) f =
    if same_fp r.fp f then Some (record { at = at; len = r.len }) else place_from (at + r.len) rows f

-- the chunk under a fingerprint in the container of an id
abbrev pub span_at : List (ℕ × Table) → ℕ → Fp → Option ChunkSpan
span_at tables id f = option_and_then (λ t. place_from 0 t.rows f) (table_at tables id)

-- the places are those of the container
abbrev pub ArePlaces : List (ℕ × Table) → ℕ → List (Fp × ChunkSpan) → Type 0
ArePlaces tables id places = (f : Fp) → lookup (same_fp f) places ≡ span_at tables id f

-- so for each id that is known
abbrev pub AreKnownPlaces : List (ℕ × Table) → List (ℕ × List (Fp × ChunkSpan)) → Type 0
AreKnownPlaces tables known = (id : ℕ) → IfSome (lookup (nat_eq id) known) (ArePlaces tables id)

-- the spot of a row at a place, if there is one with the row's length
abbrev pub fitting_spot : Row → Option ChunkSpan → Option Spot
fitting_spot r None = None
fitting_spot r (Some p) =
    if nat_eq p.len r.len then Some (record { id = r.id; at = p.at; len = r.len }) else None
