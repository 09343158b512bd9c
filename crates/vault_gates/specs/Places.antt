-- What is seen of places with a gate.
use Rattle.std.specs.Prelude.{Bool, Result, Ok, Err, false}
use Rattle.vault_ports.specs.Places.{Placing}

-- the names and their bytes, for how many bytes a writer has room, and the counts of faults;
-- whether the first writer is still to be opened
pub record GatedPlacing : Type 0 where
  pub places : Placing
  pub gated : Bool

-- whether a gate is left after an opening: it goes with the first one that succeeds
abbrev pub unless_opened : {T E : Type 0} → Result T E → Bool → Bool
unless_opened (Ok x) gated = false
unless_opened (Err e) gated = gated
