-- For callers: marks that say the same.
use Rattle.std.proofs.Common.{List, sym, ◌∙◌}
use Rattle.std.specs.List.Sorted.{IsPermutation}
use Rattle.vault_types.specs.Marks.{Mark}
use Rattle.marker_gc.proofs.Callers.{marker_of-moved, has-marked_ids-moved}
use Rattle.set_markers.specs.SetMarkers.{Marked, AreMarkersOfSets}

-- the order of marks says nothing
pub markers-moved : (m : Marked) (marks moved : List Mark) → IsPermutation marks moved → AreMarkersOfSets m marks → AreMarkersOfSets m moved
markers-moved m marks moved p h = record {
  each = λ s c. h.each s c ∙ sym (marker_of-moved marks moved p s c);
  once = h.once;
  ids = λ c. h.ids c ∙ sym (has-marked_ids-moved marks moved p c);
}
