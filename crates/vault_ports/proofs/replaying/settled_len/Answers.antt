use Rattle.std.proofs.Common.{ℕ, take, sym, subst, arith}
use Rattle.vault_ports.specs.Record.{AreSettled}
use Rattle.vault_ports.proofs.Chosen.{settled_here, writes_more}
use Rattle.vault_ports.proofs.replaying.settled_len.Goals as goal
use Rattle.vault_ports.proofs.replaying.settled_len.Goals.{in-Settle, in_default}

pub loop-i-preserved : goal.loop-i-preserved
loop-i-preserved c = elim c.match-entry.branch [
  | in-Settle w ↦ record {
    within = omega arith;
    writes = λ k d from below. absurd (omega (arith, w.settled-is));
    ends = subst (λ (n : ℕ). AreSettled (take n c.args.entries.now)) (sym w.settled-is) (settled_here c.args.entries.now c.loop-i.i c.index-entries-i.result c.loop-i-test.true c.index-entries-i.is w.in-Settle.is);
  }
  | in_default w ↦ record {
    within = omega (arith, c.loop-i.invariant.within);
    writes = writes_more c.args.entries.now c.loop-i.settled c.match-entry.settled c.loop-i.i c.index-entries-i.result w.settled-is c.loop-i-test.true c.index-entries-i.is w.in_default.not-Settle c.loop-i.invariant.writes;
    ends = subst (λ (n : ℕ). AreSettled (take n c.args.entries.now)) (sym w.settled-is) c.loop-i.invariant.ends;
  }
]
