use Rattle.std.proofs.Common.{Ok, ap}
use Rattle.row_spots.proofs.Callers.{ruled_more}
use Rattle.blob_tests.proofs.spots.add_table.Goals as goal

pub returns-in-Some : goal.returns-in-Some
returns-in-Some c =
    ruled_more c.args.tables.now.entries c.insert.new.self.entries c.args.id c.in-Some.table (c.in_ok-table.ensures.found c.in-Some.table (ap Ok c.in-Some.is)).rules
    c.in_ok-insert-in-Some.ensures.updates.0 c.requires.rules
