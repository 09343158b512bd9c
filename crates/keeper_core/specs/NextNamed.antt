-- The named containers, one after the other.
use Rattle.std.specs.Prelude.{◌≡◌, ℕ, ◌<◌, ◌≤◌, true, List, Option, Some, None}
use Rattle.vault_types.specs.Lists.{has}

-- the least of the numbers above one, or that none is above it
abbrev pub IsNextAbove : List ℕ → ℕ → Option ℕ → Type 0
IsNextAbove ids above (Some n) =
    (has n ids ≡ true) × (above < n) × ((m : ℕ) → has m ids ≡ true → above < m → n ≤ m)
IsNextAbove ids above None = (m : ℕ) → has m ids ≡ true → m ≤ above
