use Rattle.scrub_runner.proofs.Endings.{ends_unwritten, ends_written}
use Rattle.scrub_runner.proofs.ending.print_and_tell.Goals as goal

pub returns-in-Some : goal.returns-in-Some
returns-in-Some g c =
    ends_unwritten c.args.found.now c.args.answers.now c.requires (g.O.Sink.told c.args.out.now) (g.O.Sink.told c.print_findings.new.out) (g.R.Sink.told c.args.report.now) c.in-Some.fault c.in-Some.ensures

pub returns-in-None : goal.returns-in-None
returns-in-None g c =
    ends_written c.args.found.now c.args.answers.now c.requires (g.O.Sink.told c.args.out.now) (g.O.Sink.told c.print_findings.new.out) (g.R.Sink.told c.args.report.now) (g.R.Sink.told c.tell_first.new.report) c.tell_first.result c.in-None.ensures c.tell_first.ensures.is c.tell_first.ensures.told
