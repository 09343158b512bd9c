use Rattle.std.proofs.Common.{◌≡◌, ◌≤◌, List}
use Rattle.vault_types.specs.declared.Recipe.{Recipe}
use Rattle.vault_traits.specs.Shelf.{IsAsBefore}
use Rattle.keeper_open.proofs.Gathering.{AreVersions}
use Rattle.keeper_open.proofs.reading.read_set.Given as goal

abbrev pub invariant-loop-version : goal.invariant-loop-version
invariant-loop-version g l =
    let s = g.S.Shelf in
    record {
      kept : IsAsBefore (s.told l.fn.shelf) (s.told l.shelf);
      gets : (s.told l.shelf).gets ≡ (s.told l.fn.shelf).gets;
      later : (s.told l.fn.shelf).faults ≤ (s.told l.shelf).faults;
      read : (rs : List Recipe) × AreVersions ((s.told l.fn.shelf).blobs) l.set l.floor l.version l.next l.sparse l.fn.notes l.notes rs;
    }
