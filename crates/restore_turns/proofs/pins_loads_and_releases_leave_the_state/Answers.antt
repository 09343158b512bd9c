use Rattle.restore_turns.proofs.Leaves.{pin_leaves, load_leaves, release_leaves}
use Rattle.restore_turns.proofs.pins_loads_and_releases_leave_the_state.Goals as goal

pub returns-clause-pin : goal.returns-clause-pin
returns-clause-pin c = λ v u s n r core p. pin_leaves v u s n r core p

pub returns-clause-load : goal.returns-clause-load
returns-clause-load c = λ v u stays. load_leaves v u stays

pub returns-clause-release : goal.returns-clause-release
returns-clause-release c = λ v u number r. release_leaves v u number r
