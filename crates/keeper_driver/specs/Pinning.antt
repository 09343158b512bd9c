-- What a holder of a pin knows of a keeper.
use Rattle.std.specs.Prelude.{◌≡◌, ℕ, List, Contains, None}
use Rattle.std.specs.List.{AllByRecursion}
use Rattle.vault_types.specs.declared.Spot.{Spot}
use Rattle.vault_types.specs.Events.{Core, Pin}
use Rattle.keeper_catalog.specs.View.{View, Keeps}
use Rattle.keeper_core.specs.Calls.{HasListed}

-- no job is open; a pin has the number, and lists the containers of these spots
pub record IsPinning (v : View) (number : ℕ) (spots : List Spot) : Type 0 where
  pub core : Core
  pub keeps : Keeps v core
  pub no_job : v.job ≡ None
  pub pin : Pin
  pub among : Contains core.pins pin
  pub has_number : pin.number ≡ number
  pub listed : AllByRecursion (HasListed core.pins number) spots
