use Rattle.std.proofs.Common.{◌≡◌, ◌≤◌, List}
use Rattle.vault_traits.specs.Shelf.{IsAsBefore}
use Rattle.keeper_open.specs.Reading.{SetRead}
use Rattle.keeper_open.proofs.Gathering.{AreFirstSets}
use Rattle.keeper_open.proofs.reading.read_sets.Given as goal

abbrev pub invariant-loop-number : goal.invariant-loop-number
invariant-loop-number g l =
    let s = g.S.Shelf in
    record {
      kept : IsAsBefore (s.told l.fn.shelf) (s.told l.shelf);
      gets : (s.told l.shelf).gets ≡ (s.told l.fn.shelf).gets;
      later : (s.told l.fn.shelf).faults ≤ (s.told l.shelf).faults;
      read : (ds : List SetRead) × AreFirstSets ((s.told l.fn.shelf).blobs) l.sets.items l.number l.fn.notes l.notes ds;
    }
