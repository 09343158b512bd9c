use Rattle.std.proofs.Common.{◌≡◌, true, List, All, take}
use Rattle.vault_types.specs.Lists.{has}
use Rattle.vault_types.specs.Marks.{Mark, marked_ids}
use Rattle.set_markers.specs.SetMarkers.{AreMarkersOfSets}
use Rattle.keeper_core.proofs.pinning.first_unnamed.Given as goal

abbrev pub invariant-loop-row : goal.invariant-loop-row
invariant-loop-row l = (l.number ≡ l.row-index) × ((marks : List Mark) → AreMarkersOfSets l.markers marks → All (λ r. has r.id (marked_ids marks) ≡ true) (take l.row-index l.rows))
