use Rattle.std.proofs.Common.{◌≤◌, ◌<◌, ℕ, get_or, take}
use Rattle.vault_ports.specs.declared.entries.Entry.{Entry}
use Rattle.vault_ports.specs.Record.{IsWrite, AreSettled}
use Rattle.vault_ports.proofs.replaying.settled_len.Given as goal

abbrev pub invariant-loop-i : goal.invariant-loop-i
invariant-loop-i l = record {
  within : l.settled ≤ l.i;
  writes : (k : ℕ) (d : Entry) → l.settled ≤ k → k < l.i → IsWrite (get_or l.entries k d);
  ends : AreSettled (take l.settled l.entries);
}
