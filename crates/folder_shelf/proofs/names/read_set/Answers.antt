use Rattle.std.proofs.Common.{rules, Some, None}
use Rattle.folder_shelf.proofs.Named.{at_length, set_absent, set_some}
use Rattle.folder_shelf.proofs.names.read_set.Goals as goal

pub returns-in_default-clause-found : goal.returns-in_default-clause-found
returns-in_default-clause-found c = set_absent c.args.text.now (at_length 2 c.args.text.now None c.requires c.in_default.ensures.found)

pub returns-else-set-eq0-clause-found : goal.returns-else-set-eq0-clause-found
returns-else-set-eq0-clause-found c = set_some c.args.text.now c.in-Some.set (search rules) (at_length 2 c.args.text.now (Some c.in-Some.set) c.requires c.in-Some.ensures.found)
