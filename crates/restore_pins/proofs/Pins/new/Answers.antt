use Rattle.std.proofs.Common.{sym, subst}
use Rattle.restore_pins.specs.Numbers.{ArePinNumbers}
use Rattle.restore_pins.proofs.Pinning.{numbered-none}
use Rattle.restore_pins.proofs.Pins.new.Goals as goal

pub invariant_of-result : goal.invariant_of-result
invariant_of-result c = subst (ArePinNumbers 0) (sym c.new.ensures.items) numbered-none
