use Rattle.std.proofs.Common.{◌≡◌, ◌≤◌, List, take}
use Rattle.vault_types.specs.declared.Table.{Table}
use Rattle.vault_traits.specs.Shelf.{IsAsBefore}
use Rattle.keeper_open.proofs.Gathering.{AreFirstTables}
use Rattle.keeper_open.proofs.reading.read_tables.Given as goal

abbrev pub invariant-loop-id : goal.invariant-loop-id
invariant-loop-id g l =
    let s = g.S.Shelf in
    record {
      kept : IsAsBefore (s.told l.fn.shelf) (s.told l.shelf);
      gets : (s.told l.shelf).gets ≡ (s.told l.fn.shelf).gets;
      later : (s.told l.fn.shelf).faults ≤ (s.told l.shelf).faults;
      read : (ts : List Table) × AreFirstTables ((s.told l.fn.shelf).blobs) (take l.id-index l.ids) l.tables.entries l.index l.fn.places.entries l.places.entries ts;
    }
