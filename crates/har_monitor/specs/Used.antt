-- How much of each container a version refers to.
use Rattle.std.specs.Prelude.{◌≡◌, ℕ, ◌*◌, Bool, ◌&&◌, ◌||◌, ◌==◌, List, map, filter, nat_eq, nat_lt, max, Some, unwrap_or, if◌then◌else◌}
use Rattle.std.specs.Map.{lookup}
use Rattle.har_monitor.specs.declared.used.Used.{Used}

-- the sums with some bytes more of a container
abbrev pub IsAdded : List (ℕ × ℕ) → List (ℕ × ℕ) → ℕ → ℕ → Type 0
IsAdded old new id sum =
    (c : ℕ) → lookup (nat_eq c) new ≡ (if nat_eq id c then Some sum else lookup (nat_eq c) old)

-- a container with its counts
abbrev pub used_of : List (ℕ × ℕ) → ℕ × ℕ → Used
used_of sums p = record { id = p.0; referenced = unwrap_or (lookup (nat_eq p.0) sums) 0; payload = p.1 }

-- whether less than threshold hundredths of it are used
abbrev pub is_little_used : ℕ → Used → Bool
is_little_used threshold u = nat_lt (u.referenced * 100) (threshold * u.payload)

-- the containers of which little is used
abbrev pub little_used : List (ℕ × ℕ) → List (ℕ × ℕ) → ℕ → List Used
little_used sums payloads threshold = filter (is_little_used threshold) (map (used_of sums) payloads)

-- the one of which a smaller part is used goes first, and of two that are used alike the one with
-- the lower id
abbrev pub goes_first : Used → Used → Bool
goes_first a b =
    nat_lt (a.referenced * max 1 b.payload) (b.referenced * max 1 a.payload)
    || ((a.referenced * max 1 b.payload == b.referenced * max 1 a.payload) && nat_lt a.id b.id)
