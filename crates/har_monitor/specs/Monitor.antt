-- What a monitor has counted of the rows that it saw.
use Rattle.std.specs.Prelude.{◌≡◌, ◌≤◌, ℕ, Bool, ◌&&◌, List, map, length, sum_by, nat_eq, ◌==◌, Some, None, unwrap_or, if◌then◌else◌}
use Rattle.std.specs.List.{list_any, AllByRecursion, IsDistinct}
use Rattle.std.specs.Map.{lookup}
use Rattle.vault_types.specs.declared.Fp.{Fp}
use Rattle.vault_types.specs.declared.Row.{Row}
use Rattle.vault_types.specs.Lists.{has, distinct_by}
use Rattle.vault_types.specs.Names.{same_fp}
use Rattle.vault_types.specs.Sparse.{referenced}

-- what was counted: how many rows and bytes, the containers in the order of first sight, which
-- fingerprint each referred to, and for each container the bytes of these
pub record Counted : Type 0 where
  pub rows : ℕ
  pub total : ℕ
  pub ids : List ℕ
  pub pairs : List (Fp × ℕ)
  pub sums : List (ℕ × ℕ)

abbrev pub ids_of : List Row → List ℕ
ids_of rows = map (λ r. r.id) rows

-- whether a row has this fingerprint in this container
abbrev pub refers : List Row → Fp → ℕ → Bool
refers rows f c = list_any (λ r. same_fp r.fp f && (r.id == c)) rows

-- the counts are those of these rows, each of at most 65,536 bytes
pub record HasSeen (m : Counted) (seen : List Row) : Type 0 where
  pub lens : AllByRecursion (λ r. r.len ≤ 65536) seen
  pub rows : m.rows ≡ length seen
  pub total : m.total ≡ sum_by (λ r. r.len) seen
  pub ids : m.ids ≡ distinct_by nat_eq (ids_of seen)
  pub pairs : (f : Fp) (c : ℕ) → list_any (λ p. same_fp f p.0 && nat_eq c p.1) m.pairs ≡ refers seen f c
  pub sums : (c : ℕ)
      → lookup (nat_eq c) m.sums ≡ (if has c (ids_of seen) then Some (referenced seen c) else None)

-- the number that a list of pairs gives for a container
abbrev pub listed_length : List (ℕ × ℕ) → ℕ → ℕ
listed_length payloads c = unwrap_or (lookup (nat_eq c) payloads) 0

-- the list names each of these containers, and no other, once
pub record NamesEach (ids : List ℕ) (payloads : List (ℕ × ℕ)) : Type 0 where
  pub once : IsDistinct nat_eq (map (λ p. p.0) payloads)
  pub same : (c : ℕ) → has c (map (λ p. p.0) payloads) ≡ has c ids
