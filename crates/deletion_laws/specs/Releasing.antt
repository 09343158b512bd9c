-- What a release takes from a core.
use Rattle.std.specs.Prelude.{◌≡◌, ◌⊎◌, ℕ, Bool, true, not, ◌&&◌, List, filter, Contains, ◌==◌}
use Rattle.vault_types.specs.declared.Name.{Name}
use Rattle.vault_types.specs.Lists.{has}
use Rattle.vault_types.specs.State.{named}
use Rattle.vault_types.specs.Shelf.{table_name, payload_name}
use Rattle.vault_types.specs.Events.{Core, Pin, pins_without}
use Rattle.deletion_laws.specs.Deleting.{pinned_ids}

-- the ids that the pins of this number list
abbrev pub released_ids : ℕ → List Pin → List ℕ
released_ids number pins = pinned_ids (filter (λ p. p.number == number) pins)

-- whether nothing needs the id any more: a pin of this number lists it, no version names it, and no
-- other pin lists it
abbrev pub is_released : Core → ℕ → ℕ → Bool
is_released K number id =
    has id (released_ids number K.pins)
    && (not (has id (named K.state)) && not (has id (pinned_ids (pins_without number K.pins))))

-- the name of the table or of the payload of such a container
pub record IsReleased (K : Core) (number : ℕ) (q : Name) : Type 0 where
  pub id : ℕ
  pub released : is_released K number id ≡ true
  pub is : (q ≡ table_name id) ⊎ (q ≡ payload_name id)

-- the strays are those from before and the names that the release leaves
pub record AreStraysReleased (K : Core) (number : ℕ) (strays : List Name) : Type 0 where
  pub only : (q : Name) → Contains strays q → Contains K.strays q ⊎ IsReleased K number q
  pub before : (q : Name) → Contains K.strays q → Contains strays q
  pub gone : (q : Name) → IsReleased K number q → Contains strays q
