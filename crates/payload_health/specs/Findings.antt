-- What a check of containers finds.
use Rattle.std.specs.Prelude.{not, List, map, filter, length}
use Rattle.vault_types.specs.Tables.{Container}
use Rattle.payload_health.specs.declared.Bad.{Bad}
use Rattle.payload_health.specs.declared.Findings.{Findings}
use Rattle.payload_health.specs.Health.{health_of, is_good}

abbrev pub health_in : Container → Bad
health_in c = record { id = c.table.id; health = health_of c.table c.payload }

-- the containers that are not good, in the order of the list
abbrev pub bad_in : List Container → List Bad
bad_in cs = filter (λ b. not (is_good b.health)) (map health_in cs)

abbrev pub findings_in : List Container → Findings
findings_in cs = record { containers = length cs; damaged = bad_in cs }
