use Rattle.std.proofs.Common.{◌≡◌, ◌++◌, drop, List}
use Rattle.vault_ports.specs.Record.{Write, carried_out, writes_of}
use Rattle.vault_ports.proofs.replaying.choose.Given as goal

abbrev pub invariant-loop-entry : goal.invariant-loop-entry
invariant-loop-entry l = record {
  blobs : (more : List Write) → carried_out l.fn.shelf.blobs (writes_of l.entries ++ more) l.taken ≡ carried_out l.shelf.blobs (writes_of (drop l.entry-index l.entries) ++ more) l.rest;
  gets : l.shelf.gets ≡ l.fn.shelf.gets;
}
