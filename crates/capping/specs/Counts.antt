-- How often each container is named by the chunks of a segment.
use Rattle.std.specs.Prelude.{◌≡◌, ℕ, Bool, ◌&&◌, ◌||◌, ◌==◌, nat_lt, List, map, nat_eq, Some, None, if◌then◌else◌}
use Rattle.std.specs.List.{IsDistinct}
use Rattle.std.specs.Map.{lookup}
use Rattle.vault_types.specs.Lists.{has}
use Rattle.vault_types.specs.Capping.{times}

-- the pairs have each of these ids once, with the number of times that it is there
pub record HasCounted (counts : List (ℕ × ℕ)) (ids : List ℕ) : Type 0 where
  pub once : IsDistinct nat_eq (map (λ p. p.0) counts)
  pub each : (c : ℕ) → lookup (nat_eq c) counts ≡ (if has c ids then Some (times ids c) else None)

-- one of two pairs goes first by its higher count, or else by its lower id
abbrev pub is_used_more : ℕ × ℕ → ℕ × ℕ → Bool
is_used_more p q = nat_lt q.1 p.1 || ((p.1 == q.1) && nat_lt p.0 q.0)
