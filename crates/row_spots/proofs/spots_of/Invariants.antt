use Rattle.std.proofs.Common.{◌≡◌, map, take}
use Rattle.std.specs.List.{AllByRecursion}
use Rattle.row_spots.specs.Spots.{spot_in, HasPlace}
use Rattle.row_spots.specs.Offsets.{AreKnownPlaces}
use Rattle.row_spots.proofs.spots_of.Given as goal

abbrev pub invariant-loop-row : goal.invariant-loop-row
invariant-loop-row l = record {
  spots : l.spots.items ≡ map (spot_in l.tables.entries) (take l.row-index l.rows);
  placed : AllByRecursion (HasPlace l.tables.entries) (take l.row-index l.rows);
  number : l.number ≡ l.row-index;
  known : AreKnownPlaces l.tables.entries l.known.entries;
}
