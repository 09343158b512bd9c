-- What is printed and told of containers that are not good.
use Rattle.std.specs.Prelude.{ℕ, List, [], ◌∷◌, ◌++◌, flat_map, codes, decimal, Option, Some, None, option_map}
use Rattle.std.specs.Option.{option_map_or}
use Rattle.vault_types.specs.declared.Kind.TheVariants as kind
use Rattle.vault_types.specs.declared.Why.{Why}
use Rattle.vault_types.specs.declared.Why.TheVariants as why
use Rattle.vault_types.specs.declared.Fault.{Fault}
use Rattle.vault_types.specs.declared.Fault.TheVariants as fault
use Rattle.vault_types.specs.Texts.{damage_text}
use Rattle.payload_health.specs.declared.Bad.{Bad}
use Rattle.payload_health.specs.declared.Health.{Health}
use Rattle.payload_health.specs.declared.Health.TheVariants.{Good, Absent, Length, Sum, Chunk}

-- the word for what is wrong
abbrev pub health_word : Health → Option (List ℕ)
health_word Good = None
health_word Absent = Some (codes "absent")
health_word (Length want found) = Some (codes "length")
health_word (Sum want found) = Some (codes "sum")
health_word (Chunk row want found) = Some (codes "chunk " ++ decimal row)

abbrev pub damage_line : Bad → List ℕ
damage_line b = option_map_or (damage_text b.id) (health_word b.health) []

-- the lines of the containers that are not good
abbrev pub damage_lines : List Bad → List ℕ
damage_lines bad = flat_map damage_line bad

-- why a payload is damaged; a good one is not
abbrev pub why_of : Health → Option Why
why_of Good = None
why_of Absent = Some why.Absent
why_of (Length want found) = Some (why.Length want found)
why_of (Sum want found) = Some (why.Sum want found)
why_of (Chunk row want found) = Some (why.Chunk row want found)

-- the fault of the first of them
abbrev pub first_damage : List Bad → Option Fault
first_damage [] = None
first_damage (b ∷ bad) = option_map (fault.Damaged kind.Payload b.id) (why_of b.health)
