-- The pins of versions, each with the ids of its containers.
use Rattle.std.specs.Prelude.{◌≡◌, ℕ, not, List, [], ◌∷◌, map, filter, flat_map, nat_eq, ◌==◌, if◌then◌else◌}
use Rattle.std.specs.List.{AllZip}
use Rattle.vault_types.specs.Lists.{has}
use Rattle.vault_types.specs.Tables.{id_of}
use Rattle.vault_types.specs.Events.{Pin}

-- a pin: its number, the version, and the ids of the containers that it lists
pub record Listed : Type 0 where
  pub number : ℕ
  pub version : ℕ
  pub ids : List ℕ

abbrev pub numbers : List Listed → List ℕ
numbers pins = map (λ p. p.number) pins

-- the ids that the pins list
abbrev pub listed_ids : List Listed → List ℕ
listed_ids pins = flat_map (λ p. p.ids) pins

-- the ids that the pin with this number lists
abbrev pub ids_at : List Listed → ℕ → List ℕ
ids_at [] number = []
ids_at (p ∷ pins) number = if nat_eq p.number number then p.ids else ids_at pins number

-- the pins but the one with this number
abbrev pub without_pin : ℕ → List Listed → List Listed
without_pin number pins = filter (λ p. not (p.number == number)) pins

-- the list is that of a pin with its containers
pub record IsListOf (p : Listed) (q : Pin) : Type 0 where
  pub number : q.number ≡ p.number
  pub version : q.version ≡ p.version
  pub ids : (c : ℕ) → has c (map id_of q.containers) ≡ has c p.ids

-- so for each, in order
abbrev pub AreListsOf : List Listed → List Pin → Type 0
AreListsOf listed pins = AllZip IsListOf listed pins
