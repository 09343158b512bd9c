-- How long the payload of a container has to be for the spots that lie in it.
use Rattle.std.specs.Prelude.{◌≡◌, ℕ, ◌+◌, max, ◌==◌, nat_eq, List, [], ◌∷◌, unwrap_or, if◌then◌else◌}
use Rattle.std.specs.HashMap.{HashMap, get}
use Rattle.vault_types.specs.declared.Spot.{Spot}

-- where a spot ends, if it lies in that container
abbrev pub end_in : ℕ → Spot → ℕ
end_in id spot = if spot.id == id then spot.at + spot.len else 0

-- where the last spot in that container ends
abbrev pub end_of : ℕ → List Spot → ℕ
end_of id [] = 0
end_of id (spot ∷ spots) = max (end_in id spot) (end_of id spots)

-- the map has the end of each container's last spot
abbrev pub HasEnds : {S : Type 0} → HashMap ℕ ℕ S → List Spot → Type 0
HasEnds ends spots = (id : ℕ) → unwrap_or (get nat_eq ends id) 0 ≡ end_of id spots
