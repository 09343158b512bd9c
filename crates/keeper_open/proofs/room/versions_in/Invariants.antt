use Rattle.std.proofs.Common.{◌≡◌, ◌≤◌, ◌*◌, take}
use Rattle.keeper_catalog.specs.Catalog.{versions_in}
use Rattle.keeper_open.proofs.room.versions_in.Given as goal

abbrev pub invariant-loop-set : goal.invariant-loop-set
invariant-loop-set l = record {
  is : l.count ≡ versions_in (take l.set-index l.sets);
  high : l.count ≤ 4294967296 * l.set-index;
}
