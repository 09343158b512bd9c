use Rattle.std.proofs.Common.{◌≡◌, ℕ, take}
use Rattle.std.specs.Prelude.{nat_eq}
use Rattle.std.specs.HashSet.{contains}
use Rattle.vault_types.specs.Lists.{has}
use Rattle.restore_pins.proofs.pin.Pin.new.Given as goal

abbrev pub invariant-loop-id : goal.invariant-loop-id
invariant-loop-id l = (c : ℕ) → contains nat_eq l.set c ≡ has c (take l.id-index l.id-items)
