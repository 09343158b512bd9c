use Rattle.std.proofs.Common.{◌≤◌, take, length}
use Rattle.vault_traits.specs.Told.{Takes}
use Rattle.store_model.specs.World.{report_text}
use Rattle.report_printer.proofs.printing.print_all.Given as goal

abbrev pub invariant-loop-answer : goal.invariant-loop-answer
invariant-loop-answer g l =
    let s = g.O.Sink in
    record {
      within : l.answer-index ≤ length l.answers;
      taken : Takes ((s.told l.fn.out).taken) ((s.told l.out).taken) (report_text (take l.answer-index l.answers));
      later : (s.told l.fn.out).faults ≤ (s.told l.out).faults;
    }
