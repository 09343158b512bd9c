use Rattle.vault_ports.proofs.FloorLemmas.{no_floors}
use Rattle.vault_ports.proofs.floors.Floors.new.Goals as goal

pub returns : goal.returns
returns c = no_floors 0 256
