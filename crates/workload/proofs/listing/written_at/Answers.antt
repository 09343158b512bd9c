use Rattle.workload.proofs.Placing.{no_output, some_output}
use Rattle.workload.proofs.listing.written_at.Goals as goal

pub returns-in-Some-version : goal.returns-in-Some-version
returns-in-Some-version c = no_output c.args.places.now c.args.name.now c.in-Some.i c.index-places-i.result _ c.in-Some.ensures.1 c.in-Some-version.is

pub returns-in-None-version : goal.returns-in-None-version
returns-in-None-version c = some_output c.args.places.now c.args.name.now c.in-Some.i c.index-places-i.result c.index-places-i-in-None-version.result c.as_slice.result.now c.in-Some.ensures.1 c.in-None-version.is c.as_slice.ensures
