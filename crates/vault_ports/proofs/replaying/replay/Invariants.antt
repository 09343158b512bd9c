use Rattle.std.proofs.Common.{◌≡◌, drop}
use Rattle.vault_ports.specs.Record.{replayed}
use Rattle.vault_ports.proofs.replaying.replay.Given as goal

abbrev pub invariant-loop-entry : goal.invariant-loop-entry
invariant-loop-entry l = record {
  blobs : replayed l.shelf.blobs (drop l.entry-index l.entries) ≡ replayed l.fn.shelf.blobs l.entries;
  gets : l.shelf.gets ≡ l.fn.shelf.gets;
}
