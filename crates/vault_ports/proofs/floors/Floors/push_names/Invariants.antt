use Rattle.std.proofs.Common.{◌≡◌, ◌++◌, drop}
use Rattle.vault_ports.proofs.FloorLemmas.{floor_names}
use Rattle.vault_ports.proofs.floors.Floors.push_names.Given as goal

abbrev pub invariant-loop-i : goal.invariant-loop-i
invariant-loop-i l = l.names.items ++ floor_names l.i (drop l.i l.slot-items) ≡ l.fn.names.items ++ floor_names 0 l.slot-items
