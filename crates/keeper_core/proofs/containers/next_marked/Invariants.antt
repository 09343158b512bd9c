use Rattle.std.proofs.Common.{◌≡◌, ℕ, ◌-◌, ◌^◌, ◌<◌, ◌≤◌, true, List}
use Rattle.std.specs.Prelude.{IsSome}
use Rattle.vault_types.specs.Lists.{has}
use Rattle.vault_types.specs.Marks.{Mark, marked_ids}
use Rattle.set_markers.specs.SetMarkers.{AreMarkersOfSets}
use Rattle.keeper_catalog.specs.Catalog.{table_at}
use Rattle.keeper_core.proofs.containers.next_marked.Given as goal

-- no id with a mark has been passed
abbrev pub invariant-loop-id : goal.invariant-loop-id
invariant-loop-id l =
    (l.above ≤ l.passed) × ((marks : List Mark) → AreMarkersOfSets l.catalog.markers marks → ((m : ℕ) → has m (marked_ids marks) ≡ true → IsSome (table_at l.catalog.tables.entries m)) → (m : ℕ) → has m (marked_ids marks) ≡ true → l.above < m → l.passed < m)

abbrev pub decreases-loop-id : goal.decreases-loop-id
decreases-loop-id l = 2 ^ 64 - l.passed
