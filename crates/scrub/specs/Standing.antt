-- A check that runs in a thread, or was made at once.
use Rattle.std.specs.Prelude.{◌≡◌, ℕ}
use Rattle.vault_types.specs.Tables.{Container}
use Rattle.payload_health.specs.Health.{health_of}
use Rattle.scrub.specs.declared.checking.State.{State}
use Rattle.scrub.specs.declared.checking.State.TheVariants.{Running, Done}

-- what comes of it is the health of the container with this id
abbrev pub StandsFor : Container → ℕ → State → Type 0
StandsFor c id (Running handle) = (id ≡ c.table.id) × (handle.promise.0.value ≡ c)
StandsFor c id (Done health) = (id ≡ c.table.id) × (health ≡ health_of c.table c.payload)
