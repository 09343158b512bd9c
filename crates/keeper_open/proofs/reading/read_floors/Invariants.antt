use Rattle.std.proofs.Common.{◌≡◌, ◌≤◌, length}
use Rattle.vault_traits.specs.Shelf.{IsAsBefore}
use Rattle.keeper_open.specs.Reading.{AreFloors}
use Rattle.keeper_open.proofs.reading.read_floors.Given as goal

abbrev pub invariant-loop-number : goal.invariant-loop-number
invariant-loop-number g l =
    let s = g.S.Shelf in
    record {
      kept : IsAsBefore (s.told l.fn.shelf) (s.told l.shelf);
      gets : (s.told l.shelf).gets ≡ (s.told l.fn.shelf).gets;
      later : (s.told l.fn.shelf).faults ≤ (s.told l.shelf).faults;
      floors : AreFloors ((s.told l.fn.shelf).blobs) 0 l.floors.items;
      count : length l.floors.items ≡ l.number;
    }
