use Rattle.std.proofs.Common.{◌≡◌, []}
use Rattle.piped_restore.specs.Running.{RunsAlone}
use Rattle.piped_restore.proofs.restoring.run_to_reply.Given as goal

abbrev pub invariant-loop : goal.invariant-loop
invariant-loop g l = record {
  alone : RunsAlone l.keeper l.running;
  unreplied : l.running.replied ≡ [];
  same : l.running ≡ record l.initial.running { got = l.running.got; met = l.running.met; sent = l.running.sent; replied = l.running.replied };
}
