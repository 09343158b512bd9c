use Rattle.restore_turns.proofs.Pinned.{planned_entry}
use Rattle.restore_turns.proofs.Turns.{entry_follows}
use Rattle.restore_turns.proofs.a_restore_goes_on_beside_calls.Goals as goal

pub returns-clause-begins : goal.returns-clause-begins
returns-clause-begins c = λ v u s n slots number ids bytes copier p. planned_entry v u s n slots number ids bytes copier p

pub returns-clause-beside : goal.returns-clause-beside
returns-clause-beside c = λ u v w number spots loads got met sent e follows later. entry_follows u v w number spots loads got met sent e follows later
