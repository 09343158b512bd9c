use Rattle.std.proofs.Common.{arith}
use Rattle.vault_gates.proofs.Started.{all_started}
use Rattle.vault_gates.proofs.pieces.Pieces.new.Goals as goal

pub invariant_of-result : goal.invariant_of-result
invariant_of-result c = (omega arith, all_started c.args.list.items c.requires)
