use Rattle.std.proofs.Common.{◌≤◌, take, length}
use Rattle.vault_traits.specs.Told.{Takes}
use Rattle.scrub_model.specs.Words.{damage_lines}
use Rattle.scrub_runner.proofs.printing.print_each.Given as goal

abbrev pub invariant-loop-bad : goal.invariant-loop-bad
invariant-loop-bad g l =
    let s = g.O.Sink in
    record {
      within : l.bad-index ≤ length l.damaged;
      taken : Takes ((s.told l.fn.out).taken) ((s.told l.out).taken) (damage_lines (take l.bad-index l.damaged));
      later : (s.told l.fn.out).faults ≤ (s.told l.out).faults;
    }
