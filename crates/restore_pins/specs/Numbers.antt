-- The numbers of pins.
use Rattle.std.specs.Prelude.{ℕ, ◌<◌, List, nat_eq}
use Rattle.std.specs.List.{AllByRecursion, IsDistinct}
use Rattle.restore_pins.specs.Pins.{Listed, numbers}

-- the numbers of the pins differ, and are below the next one
pub record ArePinNumbers (next : ℕ) (pins : List Listed) : Type 0 where
  pub below : AllByRecursion (λ n. n < next) (numbers pins)
  pub differ : IsDistinct nat_eq (numbers pins)
