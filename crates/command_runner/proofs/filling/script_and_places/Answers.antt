use Rattle.std.proofs.Common.{refl}
use Rattle.command_runner.proofs.Fills.{are_generated}
use Rattle.command_runner.proofs.filling.script_and_places.Goals as goal

pub returns-clause-places : goal.returns-clause-places
returns-clause-places c = are_generated c.args.seed c.args.versions c.in_ok-places.places _ c.requires c.in_ok-places.ensures.value refl c.in_ok-places.ensures.bytes
