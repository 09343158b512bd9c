-- The payloads that are present, and the spots that lie in them.
use Rattle.std.specs.Prelude.{◌≡◌, ℕ, suc, ◌+◌, ◌≤◌, ◌==◌, not, List, [], ◌∷◌, map, length, filter, if◌then◌else◌}
use Rattle.std.specs.List.{AllByRecursion}
use Rattle.vault_types.specs.declared.Spot.{Spot}
use Rattle.restore_assembler.specs.declared.payload.Payload.{Payload}

abbrev pub ids_of : List Payload → List ℕ
ids_of present = map (λ h. h.id) present

-- the bytes under an id (none where it is absent)
abbrev pub bytes_under : ℕ → List Payload → List ℕ
bytes_under id [] = []
bytes_under id (h ∷ present) = if id == h.id then h.bytes.items else bytes_under id present

abbrev pub without_payload : ℕ → List Payload → List Payload
without_payload id present = filter (λ h. not (id == h.id)) present

-- the spot ends within the bytes, if it lies in that container
abbrev pub Fits : ℕ → List ℕ → Spot → Type 0
Fits id bytes spot = spot.id ≡ id → spot.at + spot.len ≤ length bytes

-- the bytes are long enough for every spot in that container
abbrev pub Covers : ℕ → List ℕ → List Spot → Type 0
Covers id bytes spots = AllByRecursion (Fits id bytes) spots

-- each present payload is long enough for its spots
abbrev pub AreCovering : List Spot → List Payload → Type 0
AreCovering spots present = AllByRecursion (λ h. Covers h.id h.bytes.items spots) present

-- each present payload is the one that is known under its id
abbrev pub AreKnown : (ℕ → List ℕ) → List Payload → Type 0
AreKnown payload present = AllByRecursion (λ h. h.bytes.items ≡ payload h.id) present

-- how many spots at the front lie in that container
abbrev pub run_length : ℕ → List Spot → ℕ
run_length id [] = 0
run_length id (spot ∷ spots) = if spot.id == id then suc (run_length id spots) else 0

-- the container of the first spot
abbrev pub first_id : List Spot → ℕ
first_id [] = 0
first_id (spot ∷ spots) = spot.id
