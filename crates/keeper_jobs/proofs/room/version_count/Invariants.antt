use Rattle.std.proofs.Common.{◌≡◌, ◌≤◌, ◌*◌, take}
use Rattle.keeper_catalog.specs.Catalog.{versions_in}
use Rattle.keeper_jobs.proofs.room.version_count.Given as goal

abbrev pub invariant-loop-info : goal.invariant-loop-info
invariant-loop-info l = record {
  counted : l.count ≡ versions_in (take l.info-index l.sets);
  few : l.count ≤ 4294967296 * l.info-index;
}
